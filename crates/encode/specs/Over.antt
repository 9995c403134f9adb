-- What a memory holds after octets are written into it. Assumes nothing.
use Rattle.std.specs.Prelude.{◌≡◌, ℕ, ◌+◌, List, ◌++◌, length, take, drop}

-- s with xs written over it from `at` on
unfoldable pub over : ℕ → List ℕ → List ℕ → List ℕ
over at xs s = take at s ++ (xs ++ drop (at + length xs) s)

-- xs is written from `at` on over the memory s, which then is t, and `end` is the place after it
pub record Put (at : ℕ) (xs s t : List ℕ) (end : ℕ) : Type 0 where
  pub memory : t ≡ over at xs s
  pub end_is : end ≡ at + length xs
