-- What the code of a reader shows of its text.
use Rattle.std.proofs.Common.{◌≡◌, ℕ, ◌+◌, true, eqb, List, get_or, None, Option, sym, ap, ◌∙◌}
use Rattle.std.proofs.lemmas.Bool.{cond-true, and_parts, eqb-true}
use Rattle.calendar.specs.declared.times.Time.{Time}
use Rattle.calendar.specs.Moments.{moment_of}
use Rattle.moment.specs.Forms.{fits, two_zeros, TwoDigits}
use Rattle.moment.specs.Texts.{time_in, read_as}
use Rattle.moment.proofs.Fitting.{digit_at}

-- two digits stand where the form has two zeros
pub two_at : (form xs : List ℕ) → true ≡ fits form xs
    → (k : ℕ) → get_or form k 0 ≡ 48 → get_or form (k + 1) 0 ≡ 48 → TwoDigits xs k
two_at form xs f k a b = (digit_at form xs k (sym f) a, digit_at form xs (k + 1) (sym f) b)

-- two digits stand where the form is known to have two zeros
pub digits_at : (form xs : List ℕ) → true ≡ fits form xs → (k : ℕ) → two_zeros form k ≡ true → TwoDigits xs k
digits_at form xs f k z =
    let p = and_parts (eqb (get_or form k 0) 48) (eqb (get_or form (k + 1) 0) 48) z in
    two_at form xs f k (eqb-true _ _ p.0) (eqb-true _ _ p.1)

pub read_some : (form : List ℕ) (s t : Time) (xs : List ℕ) (r : Option ℕ)
    → true ≡ fits form xs → s ≡ t → r ≡ moment_of s → r ≡ read_as form t xs
read_some form s t xs r f e h = h ∙ ap moment_of e ∙ sym (cond-true (fits form xs) (moment_of t) None (sym f))

pub same_time : (xs ys : List ℕ) (y z k j s r : ℕ) → xs ≡ ys → y ≡ z → k ≡ j → s ≡ r → time_in xs y k s ≡ time_in ys z j r
same_time xs ys y z k j s r a b e f =
    ap (λ x. time_in x y k s) a ∙ ap (λ x. time_in ys x k s) b ∙ ap (λ x. time_in ys z x s) e ∙ ap (time_in ys z j) f
