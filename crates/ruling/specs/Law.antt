-- The laws of answers, over any number of lists and any rulings.
use Rattle.std.specs.Prelude.{◌≡◌, ℕ, ◌<◌, true, false, ◌⊎◌, List, ◌++◌, Some, None, Option, ◌≢◌, slice_index_or}
use Rattle.ruling.specs.Cases.{Final, valid, revoked, Says, silent, waits, rules, Told, no_list, waiting, final, contradicted, row}
use Rattle.ruling.specs.Answers.{same, answered}
use Rattle.ruling.specs.Table.{Only}

-- what list i says, and nothing past the last list
abbrev pub ruling_at : List Says → ℕ → Says
ruling_at rs i = slice_index_or rs i silent

-- Below, f i is what list i says.
-- no list rules finally
abbrev pub NoFinal : (ℕ → Says) → Type 0
NoFinal f = (i : ℕ) (w : Final) → f i ≢ rules w

-- the first final ruling is v, by list n
abbrev pub First : (ℕ → Says) → ℕ → Final → Type 0
First f n v = (f n ≡ rules v) × ((i : ℕ) (w : Final) → i < n → f i ≢ rules w)

-- every final ruling is the same as v
abbrev pub AllSame : (ℕ → Says) → Final → Type 0
AllSame f v = (i : ℕ) (w : Final) → f i ≡ rules w → same v w ≡ true

-- the first final ruling v is by list n, and the first that differs from it, w, is by list m, which is later
pub record Clash (f : ℕ → Says) (n m : ℕ) : Type 0 where
  pub v : Final
  pub w : Final
  pub first : First f n v
  pub later : n < m
  pub other : f m ≡ rules w
  pub differ : same v w ≡ false
  pub between : (i : ℕ) (u : Final) → i < m → f i ≡ rules u → same v u ≡ true

-- the answer that the rulings give, in the order of the lists
abbrev pub Drawn : (ℕ → Says) → Told → Type 0
Drawn f no_list = (i : ℕ) → f i ≡ silent
Drawn f waiting = NoFinal f × ((i : ℕ) × (f i ≡ waits))
Drawn f (final v n) = First f n v × AllSame f v
Drawn f (contradicted n m) = Clash f n m

-- over any rulings, the answer is the one drawn from them, and no other is
abbrev pub DrawnAndNoOther : Type 0
DrawnAndNoOther = (rs : List Says) → Only (Drawn (ruling_at rs)) (answered rs)

-- each where the other is
abbrev pub Exactly : Type 0 → Type 0 → Type 0
Exactly P Q = (P → Q) × (Q → P)

-- valid with some list's number exactly when some list rules so and none rules finally otherwise
abbrev pub ValidExactly : Type 0
ValidExactly = (rs : List Says) →
    Exactly ((n : ℕ) × (answered rs ≡ final valid n))
    ((i : ℕ) × (ruling_at rs i ≡ rules valid) × AllSame (ruling_at rs) valid)

-- revoked with the date d exactly when some list rules so and none rules finally otherwise
abbrev pub RevokedExactly : Type 0
RevokedExactly = (rs : List Says) (d : ℕ) →
    Exactly ((r : Option ℕ) × (n : ℕ) × (answered rs ≡ final (revoked d r) n))
    ((r : Option ℕ) × (i : ℕ) × (ruling_at rs i ≡ rules (revoked d r)) × AllSame (ruling_at rs) (revoked d r))

-- the same answer in every value, or one further along the row
abbrev pub Further : Told → Told → Type 0
Further a b = (a ≡ b) ⊎ (row a < row b)

-- rulings added at the end give the same answer, or one further along the row
abbrev pub MoreListsLeadFurther : Type 0
MoreListsLeadFurther = (rs more : List Says) → Further (answered rs) (answered (rs ++ more))

-- no final becomes a different final
abbrev pub FinalsStay : Type 0
FinalsStay = (rs more : List Says) (v w : Final) (n m : ℕ) →
    answered rs ≡ final v n → answered (rs ++ more) ≡ final w m → (v ≡ w) × (n ≡ m)

-- the date of a final; a valid one has none
abbrev pub date_of : Final → Option ℕ
date_of valid = None
date_of (revoked d r) = Some d

-- finals differ in kind, as valid has no date, or in date, and never in the reason
abbrev pub FinalsDifferInKindOrDate : Type 0
FinalsDifferInKindOrDate = (v w : Final) → Exactly (same v w ≡ true) (date_of v ≡ date_of w)
