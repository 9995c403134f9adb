-- An item in DER: a tag, the shortest length, the content. Assumes nothing.
use Rattle.std.specs.Prelude.{◌≡◌, ℕ, ◌+◌, ◌/◌, ◌%◌, ◌<◌, true, false, cond, List, [], ◌∷◌, ◌++◌, length, ◌==◌, nat_lt}
use Rattle.items.specs.Headers.{shortest}
use Rattle.grammar.specs.Items.{Tagged}

-- the shortest of the three length forms; for lengths below 65,536
abbrev pub length_octets : ℕ → List ℕ
length_octets n = cond (nat_lt n 128) (n ∷ []) (cond (nat_lt n 256) (129 ∷ n ∷ []) (130 ∷ n / 256 ∷ n % 256 ∷ []))

-- the item with this tag and content
unfoldable pub der : ℕ → List ℕ → List ℕ
der tag content = (tag ∷ length_octets (length content)) ++ content

-- what is written as an item is the encoding of that item, wherever it is to stand
abbrev pub ItemsWritten : Type 0
ItemsWritten =
    (tag p : ℕ) (xs : List ℕ) → (tag % 32 == 31) ≡ false → shortest tag xs ≡ true → length xs < 65536
    → Tagged tag p (der tag xs) (record { octets = xs; offset = p + (1 + length (length_octets (length xs))) })
