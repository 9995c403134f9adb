use Rattle.std.proofs.Common.{ℕ, ◌+◌, List, [], length, drop, vec_items, Some, sym, ap, ◌∙◌, append-nil, arith, true-eqb, false-eqb, Option}
use Rattle.std.proofs.lemmas.List.{at_drop_more, at_drop_all}
use Rattle.tokens.specs.Hex.{before}
use Rattle.tokens.proofs.Digits.{paired, then, then-before, odd, even}
use Rattle.tokens.proofs.hex.unhex.Goals as goal

pub returns-then-not-is_empty : goal.returns-then-not-is_empty
returns-then-not-is_empty c = record { value = odd c.args.word.now (omega (arith, false-eqb (length c.as_chunks.result.1.now) 0 c.if-not-is_empty.ensures)) }

pub returns-in_default : goal.returns-in_default
returns-in_default c =
    let pairs = c.as_chunks.result.0.now in
    let rest = paired (drop (c.loop-high.high-index + 1) pairs) in
    let whole = even c.args.word.now pairs c.as_chunks.ensures.front (omega (arith, true-eqb (length c.as_chunks.result.1.now) 0 c.if-not-is_empty.ensures)) in
    let step = at_drop_more paired pairs c.loop-high.high-index [] c.loop-high-test.true ∙ ap (λ (o : Option ℕ). before o rest) (sym c.octet.ensures ∙ c.in_default.is) in
    record { value = sym whole ∙ sym c.loop-high.invariant ∙ ap (then (vec_items c.loop-high.octets)) step }

pub loop-high-preserved : goal.loop-high-preserved
loop-high-preserved c =
    let pairs = c.as_chunks.result.0.now in
    let rest = paired (drop (c.loop-high.high-index + 1) pairs) in
    let octets = vec_items c.loop-high.octets in
    let step = at_drop_more paired pairs c.loop-high.high-index [] c.loop-high-test.true ∙ ap (λ (o : Option ℕ). before o rest) (sym c.octet.ensures ∙ c.in-Some.is) in
    ap (λ (xs : List ℕ). then xs rest) c.in_ok-push.ensures.items ∙ sym (then-before octets c.in-Some.octet rest) ∙ sym (ap (then octets) step) ∙ c.loop-high.invariant

pub returns : goal.returns
returns c =
    let pairs = c.as_chunks.result.0.now in
    let octets = vec_items c.loop-high.octets in
    let whole = even c.args.word.now pairs c.as_chunks.ensures.front (omega (arith, true-eqb (length c.as_chunks.result.1.now) 0 c.if-not-is_empty.ensures)) in
    let none = at_drop_all paired pairs c.loop-high.high-index c.loop-high-test.false in
    record { value = sym whole ∙ sym c.loop-high.invariant ∙ ap (then octets) none ∙ ap (λ (xs : List ℕ). Some xs) (append-nil octets) }
