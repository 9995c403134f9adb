-- The status table: which ruling a list's facts and entries make due on a question.
use Rattle.std.specs.Prelude.{◌≡◌, ℕ, ◌+◌, ◌<◌, ◌≤◌, ◌⊎◌, List, [], length, Some, None, Option, ◌≢◌, slice_index_or}
use Rattle.ruling.specs.declared.cases.Facts.{Facts}
use Rattle.ruling.specs.Cases.{Asked, Entry, Says, silent, waits, rules, valid, revoked}

-- the list covers the certificate: same issuer, the list later than notBefore, and either
-- expiredCertsOnCRL stands and is at most notAfter, or it is absent and thisUpdate is at most notAfter
pub record Covers (f : Facts) (q : Asked) : Type 0 where
  pub issuer : f.issuer ≡ q.issuer
  pub begun : q.moments.not_before < f.this_update
  pub kept : ((e : ℕ) × (f.expired ≡ Some e) × (e ≤ q.moments.not_after)) ⊎ ((f.expired ≡ None) × (f.this_update ≤ q.moments.not_after))

-- entry k of the list
abbrev pub entry_at : List Entry → ℕ → Entry
entry_at es k = slice_index_or es k (record { serial = []; date = 0; reason = None })

-- no entry is of the serial
abbrev pub Unlisted : List Entry → List ℕ → Type 0
Unlisted es s = (k : ℕ) → k < length es → (entry_at es k).serial ≢ s

-- some entry of the serial has this date and reason, none of the serial is dated earlier, and none before it has that date
pub record Earliest (es : List Entry) (s : List ℕ) (d : ℕ) (r : Option ℕ) : Type 0 where
  pub place : ℕ
  pub within : place < length es
  pub entry : entry_at es place ≡ record { serial = s; date = d; reason = r }
  pub least : (k : ℕ) → k < length es → (entry_at es k).serial ≡ s → d ≤ (entry_at es k).date
  pub front : (k : ℕ) → k < place → (entry_at es k).serial ≡ s → d < (entry_at es k).date

-- the table: a list that does not cover is silent; one that covers goes by the serial's earliest date d, if it lists the serial,
-- and else by its own thisUpdate and the caution period c
abbrev pub Rules : Facts → List Entry → Asked → ℕ → Says → Type 0
Rules f es q c silent = Covers f q → ⊥
Rules f es q c waits =
    Covers f q × Unlisted es q.serial × (f.this_update < q.moments.control_time + c)
Rules f es q c (rules valid) =
    Covers f q
    × (((d : ℕ) × (r : Option ℕ) × Earliest es q.serial d r × (q.moments.control_time < d))
    ⊎ (Unlisted es q.serial × (q.moments.control_time + c ≤ f.this_update)))
Rules f es q c (rules (revoked d r)) =
    Covers f q × Earliest es q.serial d r × (d ≤ q.moments.control_time)

-- this one is in the relation, and no other
abbrev pub Only : {V : Type 0} → (V → Type 0) → V → Type 0
Only {V} P v = P v × ((w : V) → P w → w ≡ v)
