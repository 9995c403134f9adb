-- Shapes put together, as ASN.1 puts types together. Assumes nothing.
-- A shape says of an offset, the octets that stand there and a value, that the octets are the value's encoding.
use Rattle.std.specs.Prelude.{◌≡◌, ℕ, ◌+◌, false, ◌⊎◌, List, [], ◌∷◌, ◌++◌, length, Ok, Result}
use Rattle.refusals.specs.Refusals.{Flaw}
use Rattle.der.specs.Reads.{Left, Got}
use Rattle.items.specs.Parts.{Piece}
use Rattle.der.specs.Items.{next_is}
use Rattle.grammar.specs.Items.{Tagged, Parsed}

-- one shape and then another, which may hang on the first value
abbrev pub Seq : {V W : Type 0} → (ℕ → List ℕ → V → Type 0) → (V → ℕ → List ℕ → W → Type 0) → ℕ → List ℕ → W → Type 0
Seq {V} {W} R Q p u v = (x : V) × ((w : List ℕ) × ((r : List ℕ) × (u ≡ w ++ r) × R p w x × Q x (p + length w) r v))

-- a shape whose value is made from another's
abbrev pub Made : {V W : Type 0} → (ℕ → List ℕ → V → Type 0) → (V → W) → ℕ → List ℕ → W → Type 0
Made {V} {W} R f p u v = (x : V) × R p u x × (v ≡ f x)

-- a shape under a condition
abbrev pub Where : {V : Type 0} → Type 0 → (ℕ → List ℕ → V → Type 0) → ℕ → List ℕ → V → Type 0
Where C R p u v = C × R p u v

-- an item with this tag, whose content means the value
abbrev pub InTag : {V : Type 0} → ℕ → (Piece → V → Type 0) → ℕ → List ℕ → V → Type 0
InTag t Q p u v = (c : Piece) × Tagged t p u c × Q c v

-- the same, where the value may tell of the item as it stands
abbrev pub InWhole : {V : Type 0} → ℕ → (Piece → Piece → V → Type 0) → ℕ → List ℕ → V → Type 0
InWhole t Q p u v = (c : Piece) × Tagged t p u c × Q (record { octets = u; offset = p }) c v

-- nothing, or the shape
abbrev pub Maybe : {V : Type 0} → V → (ℕ → List ℕ → V → Type 0) → ℕ → List ℕ → V → Type 0
Maybe d R p w v = ((w ≡ []) × (v ≡ d)) ⊎ R p w v

-- one element or more, one after the other
abbrev pub Elements : {V : Type 0} → (ℕ → List ℕ → V → Type 0) → ℕ → List ℕ → List V → Type 0
Elements R p u [] = ⊥
Elements R p u (v ∷ []) = R p u v
Elements R p u (v ∷ (x ∷ vs)) = (w : List ℕ) × ((r : List ℕ) × (u ≡ w ++ r) × R p w v × Elements R (p + length w) r (x ∷ vs))

-- what the elements make of a state, one after the other
abbrev pub Folds : {V T : Type 0} → (T → V → T → Type 0) → T → List V → T → Type 0
Folds A a [] z = a ≡ z
Folds {V} {T} A a (e ∷ es) z = (b : T) × A a e b × Folds A b es z

-- SEQUENCE OF one or more
abbrev pub SequenceOf : {V W : Type 0} → (ℕ → List ℕ → V → Type 0) → (Piece → List V → W) → ℕ → List ℕ → W → Type 0
SequenceOf {V} {W} R f = InTag 48 (λ c w. (es : List V) × Elements R c.offset c.octets es × (w ≡ f c es))

-- a reading that succeeds exactly on the shape; of the octets that it leaves, N is known
pub record ExactIf {V : Type 0} (N : List ℕ → Type 0) (m : Left → Result (Got V) Flaw) (R : ℕ → List ℕ → V → Type 0) : Type 0 where
  pub sound : (s : Left) (g : Got V) → m s ≡ Ok g → Parsed R s g
  pub full : (s : Left) (g : Got V) → N g.left.rest → Parsed R s g → m s ≡ Ok g

-- whatever is left
abbrev pub Always : List ℕ → Type 0
Always r = Unit {0}

-- nothing is left
abbrev pub Last : List ℕ → Type 0
Last r = length r ≡ 0

-- what is left does not begin with the tag
abbrev pub NotNext : ℕ → List ℕ → Type 0
NotNext t r = next_is t (record { rest = r; offset = 0 }) ≡ false
