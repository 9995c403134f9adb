-- Tag, length and content of the item in front. Assumes nothing.
use Rattle.std.specs.Prelude.{ℕ, ◌+◌, ◌*◌, ◌%◌, Bool, true, false, cond, ◌||◌, List, length, Some, None, Option, ◌==◌, nat_le, nat_lt, slice_index}
use Rattle.items.specs.declared.item.Head.{Head}

-- a header of so many octets for a content of n octets, where that fits into the octets there are
abbrev pub fitted : ℕ → ℕ → ℕ → Option Head
fitted start n total = cond (nat_le (start + n) total) (Some (record { start = start; len = n })) None

-- the length in the third and fourth octet
abbrev pub two : List ℕ → ℕ
two xs = slice_index xs 2 * 256 + slice_index xs 3

-- the header in front: a tag whose low five bits are not all ones, and the shortest length
abbrev pub head_of : List ℕ → Option Head
head_of xs =
    cond (nat_lt (length xs) 2 || slice_index xs 0 % 32 == 31) None
    (cond (nat_lt (slice_index xs 1) 128) (fitted 2 (slice_index xs 1) (length xs))
    (cond (slice_index xs 1 == 129) (cond (nat_lt (length xs) 3 || nat_lt (slice_index xs 2) 128) None (fitted 3 (slice_index xs 2) (length xs)))
    (cond (slice_index xs 1 == 130) (cond (nat_lt (length xs) 4 || nat_lt (two xs) 256) None (fitted 4 (two xs) (length xs)))
    None)))

-- the content of an INTEGER or ENUMERATED has no needless first octet; any other content is free
abbrev pub shortest : ℕ → List ℕ → Bool
shortest tag xs =
    cond (tag == 2 || tag == 10)
    (cond (length xs == 0) false
    (cond (length xs == 1) true
    (cond (slice_index xs 0 == 0) (nat_le 128 (slice_index xs 1))
    (cond (slice_index xs 0 == 255) (nat_lt (slice_index xs 1) 128) true))))
    true
