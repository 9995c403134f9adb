-- Items by what they say. Assumes nothing.
use Rattle.std.specs.Prelude.{ℕ, cond, ◌||◌, ◌==◌}
use Rattle.items.specs.declared.item.Item.{Item}
use Rattle.items.specs.declared.item.Item.TheVariants.{Integer, Time, Name, Sequence, Other}
use Rattle.items.specs.declared.item.TimeForm.{TimeForm}
use Rattle.items.specs.declared.item.TimeForm.TheVariants.{Utc, Generalized}
use Rattle.items.specs.declared.item.Laid.{Laid}
use Rattle.items.specs.declared.item.Laid.TheVariants.{Name as LaidName, Any as LaidAny}
use Rattle.items.specs.Parts.{Piece, piece_of}

-- an item by its octets: tag, offset of the tag, content
pub record Thing : Type 0 where
  pub tag : ℕ
  pub offset : ℕ
  pub content : Piece

-- the tag of a form of time
abbrev pub time_tag : TimeForm → ℕ
time_tag Utc = 23
time_tag Generalized = 24

-- what an item says, whatever it is
abbrev pub thing_of : Item → Thing
thing_of (Integer p c) = record { tag = 2; offset = p; content = piece_of c }
thing_of (Time f p c) = record { tag = time_tag f; offset = p; content = piece_of c }
thing_of (Name p c) = record { tag = 48; offset = p; content = piece_of c }
thing_of (Sequence p c) = record { tag = 48; offset = p; content = piece_of c }
thing_of (Other t p c) = record { tag = t; offset = p; content = piece_of c }

-- the number of what an item is: integer, time, name, sequence, other
abbrev pub item_number : Item → ℕ
item_number (Integer p c) = 0
item_number (Time f p c) = 1
item_number (Name p c) = 2
item_number (Sequence p c) = 3
item_number (Other t p c) = 4

-- the number of a SEQUENCE, by what is laid down
abbrev pub sequence_number : Laid → ℕ
sequence_number LaidName = 2
sequence_number LaidAny = 3

-- the number that a tag gives an item, where this is laid down
abbrev pub number_of_tag : Laid → ℕ → ℕ
number_of_tag laid tag =
    cond (tag == 2) 0 (cond (tag == 23 || tag == 24) 1 (cond (tag == 48) (sequence_number laid) 4))
