-- Forms: texts in which a 0 stands for any digit, and every other octet for itself.
use Rattle.std.specs.Prelude.{◌≡◌, ℕ, ◌+◌, ◌-◌, ◌*◌, ◌/◌, ◌%◌, Bool, true, false, cond, ◌&&◌, ◌||◌, List, [], ◌∷◌, codes, ◌==◌, nat_le, nat_lt, slice_index}
use Rattle.std.specs.List.{list_all}

-- YYMMDDHHMMSSZ
abbrev pub utc_form : List ℕ
utc_form = codes "000000000000Z"

-- YYYYMMDDHHMMSSZ
abbrev pub general_form : List ℕ
general_form = codes "00000000000000Z"

-- YYYY-MM-DDTHH:MM:SSZ
abbrev pub rfc3339_form : List ℕ
rfc3339_form = codes "0000-00-00T00:00:00Z"

-- the octet of a decimal digit
abbrev pub digit : ℕ → Bool
digit x = nat_le 48 x && nat_le x 57

-- whether x may stand where the form has f
abbrev pub fills : ℕ → ℕ → Bool
fills f x = cond (f == 48) (digit x) (x == f)

-- whether a text has the form: as long, and each octet may stand in its place
unfoldable pub fits : List ℕ → List ℕ → Bool
fits [] [] = true
fits [] (x ∷ xs) = false
fits (f ∷ fs) [] = false
fits (f ∷ fs) (x ∷ xs) = fills f x && fits fs xs

-- the form with the digits, in their order, for its zeros
unfoldable pub lay : List ℕ → List ℕ → List ℕ
lay [] ds = []
lay (f ∷ fs) [] = f ∷ lay fs []
lay (f ∷ fs) (d ∷ ds) = cond (f == 48) (d ∷ lay fs ds) (f ∷ lay fs (d ∷ ds))

-- the first digit of a number below a hundred
abbrev pub tens : ℕ → ℕ
tens n = 48 + n / 10

-- and the second
abbrev pub ones : ℕ → ℕ
ones n = 48 + n % 10

-- the number that two digits spell
abbrev pub pair : ℕ → ℕ → ℕ
pair a b = (a - 48) * 10 + (b - 48)

-- the number that the two digits of a text from k on spell
abbrev pub pair_at : List ℕ → ℕ → ℕ
pair_at xs k = pair (slice_index xs k) (slice_index xs (k + 1))

-- two digits stand in a text from k on
abbrev pub TwoDigits : List ℕ → ℕ → Type 0
TwoDigits xs k = (digit (slice_index xs k) ≡ true) × (digit (slice_index xs (k + 1)) ≡ true)

-- two zeros stand in a form from k on
abbrev pub two_zeros : List ℕ → ℕ → Bool
two_zeros form k = slice_index form k == 48 && slice_index form (k + 1) == 48

-- whether a form begins with four zeros, and has two for the month from k on, and for each later part `step` after the one before
abbrev pub has_places : List ℕ → ℕ → ℕ → Bool
has_places form k step =
    list_all (two_zeros form) (0 ∷ 2 ∷ k ∷ (k + step) ∷ (k + 2 * step) ∷ (k + 3 * step) ∷ (k + 4 * step) ∷ [])

-- whether a text comes before another, octet by octet
abbrev pub before : List ℕ → List ℕ → Bool
before [] [] = false
before [] (y ∷ ys) = true
before (x ∷ xs) [] = false
before (x ∷ xs) (y ∷ ys) = nat_lt x y || (x == y && before xs ys)
