-- What is written as an item is that item. Assumes nothing.
use Rattle.std.proofs.Common.{◌≡◌, ℕ, ◌+◌, ◌/◌, ◌%◌, ◌<◌, cond, ltb, List, [], ◌∷◌, length, refl, ◌∙◌, arith, length-append}
use Rattle.std.proofs.lemmas.Bool.{cond_both, ltb-true, ltb-false}
use Rattle.grammar.specs.Items.{LengthIs}
use Rattle.grammar.specs.Items.LengthIs.{short, one, two}
use Rattle.encode.specs.Der.{der, length_octets, ItemsWritten}

pub length-der : (tag : ℕ) (xs : List ℕ) → length (der tag xs) ≡ 1 + length (length_octets (length xs)) + length xs
unfolding der
length-der tag xs = length-append (tag ∷ length_octets (length xs)) xs ∙ (let e : length (tag ∷ length_octets (length xs)) + length xs ≡ 1 + length (length_octets (length xs)) + length xs = omega arith in e)

-- the shortest length octets mean the length
pub length-is : (n : ℕ) → n < 65536 → LengthIs (length_octets n) n
length-is n h =
    cond_both (ltb n 128) (n ∷ []) (cond (ltb n 256) (129 ∷ n ∷ []) (130 ∷ n / 256 ∷ n % 256 ∷ [])) (λ xs. LengthIs xs n)
    (λ a. short (ltb-true n 128 a))
    (λ a. cond_both (ltb n 256) (129 ∷ n ∷ []) (130 ∷ n / 256 ∷ n % 256 ∷ []) (λ xs. LengthIs xs n)
    (λ b. one (ltb-false n 128 a))
    (λ b. two (omega arith) (ltb-false n 256 b)))

pub items-written : ItemsWritten
unfolding der
items-written tag p xs low neat h = record { len = length_octets (length xs); means = length-is (length xs) h; octets = refl; stands = refl; offset = refl; low = low; neat = neat }
