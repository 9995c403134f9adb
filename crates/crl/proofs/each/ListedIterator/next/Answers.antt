use Rattle.std.proofs.Common.{◌≡◌, suc, ◌-◌, List, sym, ap, ◌∙◌, subst, arith}
use Rattle.std.specs.Iterator.{YieldsFirstBy}
use Rattle.items.specs.Parts.{piece_of}
use Rattle.entry.specs.Entries.{Line, line_of}
use Rattle.crl.specs.Listed.{so_many}
use Rattle.crl.proofs.Counted.{none-left, steps, goes}
use Rattle.crl.proofs.each.ListedIterator.next.Goals as goal

pub returns-then-self-eq0-clause-steps : goal.returns-then-self-eq0-clause-steps
returns-then-self-eq0-clause-steps c =
    let p = piece_of c.self.inside.run in
    let e = sym c.self.view_is ∙ ap (λ k. so_many k p) c.if-self-eq0.true ∙ none-left p in
    (e, e)

-- the step that was taken, from the entries that were to come
took : (c : goal.After-next_entry) → YieldsFirstBy line_of (λ (ls : List Line). ls) c.args.self.now c.next_entry.result (so_many (c.self.inside.count - 1) (piece_of c.next_entry.new.run))
took c =
    let n = c.self.inside.count - 1 in
    let p = piece_of c.self.inside.run in
    let q = piece_of c.next_entry.new.run in
    let m : suc n ≡ c.self.inside.count = omega (arith, c.if-self-eq0.false) in
    subst (λ s. YieldsFirstBy line_of (λ (ls : List Line). ls) s c.next_entry.result (so_many n q)) (ap (λ k. so_many k p) m ∙ c.self.view_is) (steps n p q c.next_entry.result c.next_entry.ensures.entry c.next_entry.ensures.rest)

pub returns-clause-steps : goal.returns-clause-steps
returns-clause-steps c = took c

pub returns-clause-goes : goal.returns-clause-goes
returns-clause-goes c = goes _ (λ _. tt) _ _ _ (took c)
