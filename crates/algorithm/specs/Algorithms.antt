-- The three algorithms. Assumes nothing.
use Rattle.std.specs.Prelude.{ℕ, cond, List, [], ◌∷◌, Some, None, Ok, Err, Option}
use Rattle.std.specs.Str.{bytes_eq}
use Rattle.refusals.specs.Refusals.{flaw}
use Rattle.der.specs.Reads.{Reads, got, bind}
use Rattle.der.specs.Items.{raw_at}
use Rattle.der.specs.Reads.{or_fault}
use Rattle.algorithm.specs.declared.identifiers.Algorithm.{Algorithm}
use Rattle.algorithm.specs.declared.identifiers.Algorithm.TheVariants.{Sha1WithRsa, Sha256WithRsa, HmacWithSha256}

-- the code of an algorithm
abbrev pub algorithm_code : Algorithm → ℕ
algorithm_code Sha1WithRsa = 1
algorithm_code Sha256WithRsa = 2
algorithm_code HmacWithSha256 = 3

-- its AlgorithmIdentifier: a SEQUENCE of the OBJECT IDENTIFIER and NULL
abbrev pub algorithm_octets : Algorithm → List ℕ
algorithm_octets Sha1WithRsa = 48 ∷ 13 ∷ 6 ∷ 9 ∷ 42 ∷ 134 ∷ 72 ∷ 134 ∷ 247 ∷ 13 ∷ 1 ∷ 1 ∷ 5 ∷ 5 ∷ 0 ∷ []
algorithm_octets Sha256WithRsa = 48 ∷ 13 ∷ 6 ∷ 9 ∷ 42 ∷ 134 ∷ 72 ∷ 134 ∷ 247 ∷ 13 ∷ 1 ∷ 1 ∷ 11 ∷ 5 ∷ 0 ∷ []
algorithm_octets HmacWithSha256 = 48 ∷ 12 ∷ 6 ∷ 8 ∷ 42 ∷ 134 ∷ 72 ∷ 134 ∷ 247 ∷ 13 ∷ 2 ∷ 9 ∷ 5 ∷ 0 ∷ []

-- the algorithm that these octets are
unfoldable pub algorithm_in : List ℕ → Option Algorithm
algorithm_in xs =
    cond (bytes_eq xs (algorithm_octets Sha1WithRsa)) (Some Sha1WithRsa)
    (cond (bytes_eq xs (algorithm_octets Sha256WithRsa)) (Some Sha256WithRsa)
    (cond (bytes_eq xs (algorithm_octets HmacWithSha256)) (Some HmacWithSha256) None))

-- an item that is an algorithm
unfoldable pub algorithm_at : Reads Algorithm
algorithm_at s = bind (raw_at s) (λ i t. or_fault (algorithm_in i.octets) (flaw 6 s.offset) t)

-- an item that is this algorithm
unfoldable pub again_at : Algorithm → Reads (Unit {0})
again_at a s = bind (raw_at s) (λ i t. cond (bytes_eq i.octets (algorithm_octets a)) (Ok (got tt t)) (Err (flaw 6 s.offset)))
