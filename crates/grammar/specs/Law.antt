-- The law of items. Assumes nothing.
use Rattle.std.specs.Prelude.{◌≡◌, ℕ, ◌<◌, List, ◌++◌, length, drop, Ok, Result, slice_index}
use Rattle.refusals.specs.Refusals.{Flaw}
use Rattle.der.specs.Reads.{bind}
use Rattle.items.specs.Things.{Thing}
use Rattle.der.specs.Items.{item_at}
use Rattle.grammar.specs.Items.{IsItem}

-- the item read at an offset of the octets
unfoldable pub item_in : List ℕ → ℕ → Result Thing Flaw
item_in xs p = bind (item_at (record { rest = drop p xs; offset = p })) (λ i t. Ok i)

-- the item stands in the octets at the offset, whatever is before and after it
pub record Stands (xs : List ℕ) (p : ℕ) (i : Thing) : Type 0 where
  pub before : List ℕ
  pub item : List ℕ
  pub after : List ℕ
  pub octets : xs ≡ before ++ (item ++ after)
  pub at : p ≡ length before
  pub is : IsItem p item i

-- every one is an octet
abbrev pub Octets : List ℕ → Type 0
Octets xs = (k : ℕ) → k < length xs → slice_index xs k < 256

-- an item has one encoding: its tag and content fix its octets, wherever it stands
abbrev pub OneEncoding : Type 0
OneEncoding =
    (p q : ℕ) (v w : List ℕ) (i j : Thing) → Octets v → Octets w → IsItem p v i → IsItem q w j
    → i.tag ≡ j.tag → i.content.octets ≡ j.content.octets → v ≡ w
