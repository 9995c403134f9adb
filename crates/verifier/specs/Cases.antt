-- What a verifier is asked. Assumes nothing.
use Rattle.std.specs.Prelude.{Bool, List, ℕ}

-- a case: the number of the issuer, the code of the algorithm, thisUpdate, the octets of the whole signed block, and
-- the signature after its first content octet
pub record Case : Type 0 where
  pub issuer : ℕ
  pub code : ℕ
  pub this_update : ℕ
  pub block : List ℕ
  pub signature : List ℕ

-- a yes or no to each case
abbrev pub Meaning : Type 0
Meaning = Case → Bool
