-- One octet more in hex.
use Rattle.std.proofs.Common.{◌≡◌, ℕ, ◌+◌, ◌-◌, ◌^◌, ◌/◌, ◌%◌, ◌<◌, false, List, [], ◌∷◌, ◌++◌, length, get_or, take, sym, refl, ap, ◌∙◌}
use Rattle.std.specs.Fmt.{digits, padded_integral, format_spec}
use Rattle.std.proofs.lemmas.Fmt.{hex_byte}
use Rattle.std.proofs.lemmas.List.{take_more}
use Rattle.report.specs.Values.{hex_digit, hexed}

hexed-append : (xs : List ℕ) (b : ℕ) → hexed (xs ++ b ∷ []) ≡ hexed xs ++ (hex_digit (b / 16) ∷ hex_digit (b % 16) ∷ [])
unfolding hexed
hexed-append [] b = refl
hexed-append (x ∷ xs) b = ap (λ (l : List ℕ). hex_digit (x / 16) ∷ hex_digit (x % 16) ∷ l) (hexed-append xs b)

-- what `{:02x}` writes of the octet comes behind the others
pub hexed-more : (xs : List ℕ) (i : ℕ) → i < length xs → get_or xs i 0 < 256 → hexed (take i xs) ++ padded_integral (format_spec 32 0 4 2 (2 ^ 64 - 1)) false [] (digits 16 false (get_or xs i 0)) ≡ hexed (take (i + 1) xs)
hexed-more xs i h small =
    let b = get_or xs i 0 in
    ap (λ (l : List ℕ). hexed (take i xs) ++ l) (hex_byte false b small) ∙ sym (ap hexed (take_more xs i 0 h) ∙ hexed-append (take i xs) b)
