-- SHA-256 of one block: FIPS 180-4, sections 5.2.1 and 6.2.2. A block is a list of 64 octets, a state a list of eight words.
use Rattle.std.specs.Prelude.{ℕ, zero, suc, ◌+◌, ◌-◌, ◌*◌, ◌^◌, List, [], ◌∷◌, ◌++◌, map, length, slice_index}
use Rattle.std.specs.Simd.Lanes.{zip2}
use Rattle.std.specs.List.{range_with_len}
use Rattle.compression.specs.Words.{plus, ch, maj, Σ0, Σ1, σ0, σ1}
use Rattle.compression.specs.Constants.{constants}

-- section 3.1, 2: the word of four octets, the most significant first
abbrev pub word_of : ℕ → ℕ → ℕ → ℕ → ℕ
word_of a b c d = a * 2 ^ 24 + b * 2 ^ 16 + c * 2 ^ 8 + d

-- section 5.2.1: M(t), the word t of a block
abbrev pub word_at : List ℕ → ℕ → ℕ
word_at block t =
    word_of (slice_index block (4 * t)) (slice_index block (4 * t + 1)) (slice_index block (4 * t + 2)) (slice_index block (4 * t + 3))

-- section 5.2.1: M(0) to M(n-1)
unfoldable pub words : ℕ → List ℕ → List ℕ
words n block = map (word_at block) (range_with_len 0 n)

-- step 1: W(t) = σ1(W(t-2)) + W(t-7) + σ0(W(t-15)) + W(t-16), from those four words
unfoldable pub next_of : ℕ → ℕ → ℕ → ℕ → ℕ
next_of w2 w7 w15 w16 = plus (plus (plus (σ1 w2) w7) (σ0 w15)) w16

-- step 1: W(t), which follows the words W(0) to W(t-1)
abbrev pub next_word : List ℕ → ℕ
next_word ws =
    next_of (slice_index ws (length ws - 2)) (slice_index ws (length ws - 7)) (slice_index ws (length ws - 15)) (slice_index ws (length ws - 16))

-- step 1: the words ws of the message schedule, and the n that follow
unfoldable pub schedule : ℕ → List ℕ → List ℕ
schedule zero ws = ws
schedule (suc n) ws = schedule n (ws ++ next_word ws ∷ [])

-- step 3: the working variables a to h after the round of the constant k and the word w
abbrev pub round_of : ℕ → ℕ → ℕ → ℕ → ℕ → ℕ → ℕ → ℕ → ℕ → ℕ → List ℕ
round_of k w a b c d e f g h =
    let t1 = plus (plus (plus (plus h (Σ1 e)) (ch e f g)) k) w in
    let t2 = plus (Σ0 a) (maj a b c) in
    plus t1 t2 ∷ a ∷ b ∷ c ∷ plus d t1 ∷ e ∷ f ∷ g ∷ []

-- step 3: that round, of the working variables as a list
unfoldable pub round : ℕ → ℕ → List ℕ → List ℕ
round k w v =
    round_of k w (slice_index v 0) (slice_index v 1) (slice_index v 2) (slice_index v 3) (slice_index v 4) (slice_index v 5) (slice_index v 6) (slice_index v 7)

-- step 3: a round for each constant and its word, in order
unfoldable pub rounds : List ℕ → List ℕ → List ℕ → List ℕ
rounds [] ws v = v
rounds (k ∷ ks) [] v = v
rounds (k ∷ ks) (w ∷ ws) v = rounds ks ws (round k w v)

-- steps 1 to 4: the state after a block, from the state h before it, which is what the working variables begin with and are added to
unfoldable pub compress : List ℕ → List ℕ → List ℕ
compress h block = zip2 plus h (rounds constants (schedule 48 (words 16 block)) h)
