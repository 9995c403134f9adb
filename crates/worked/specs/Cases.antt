-- The worked cases: ten rulings and three moments. Assumes nothing.
use Rattle.std.specs.Prelude.{◌≡◌, ℕ, List, [], ◌∷◌, map, Some, None, codes, Option}
use Rattle.moment.specs.Texts.{utc_read}
use Rattle.ruling.specs.Cases.{Asked, Entry, Says, Told, valid, revoked, no_list, waiting, final, contradicted}
use Rattle.ruling.specs.Rule.{ruled_by}
use Rattle.ruling.specs.Answers.{answered}

-- a list: its thisUpdate, its expiredCertsOnCRL if it has one, and the date of its entry of the serial if it has one
pub record Listing : Type 0 where
  pub update : ℕ
  pub expired : Option ℕ
  pub date : Option ℕ

-- a list by its values
abbrev pub listing : ℕ → Option ℕ → Option ℕ → Listing
listing u e d = record { update = u; expired = e; date = d }

-- the entries of the serial 7: one of that date, or none
abbrev pub entries_of : Option ℕ → List Entry
entries_of (Some d) = record { serial = 7 ∷ []; date = d; reason = None } ∷ []
entries_of None = []

-- the question about serial 7 of issuer 0 at t; the certificate begins at 100 and ends at 1000
abbrev pub asked_at : ℕ → Asked
asked_at t =
    record {
      issuer = 0;
      serial = 7 ∷ [];
      moments = record { not_before = 100; not_after = 1000; control_time = t };
    }

-- what a list of issuer 0 rules at t, with the caution period 10
abbrev pub ruled_at : ℕ → Listing → Says
ruled_at t l =
    ruled_by (record { issuer = 0; this_update = l.update; expired = l.expired }) (entries_of l.date) (asked_at t) 10

-- the answer over such lists at t
abbrev pub answered_at : ℕ → List Listing → Told
answered_at t ls = answered (map (ruled_at t) ls)

-- a worked case: the answer over lists at a moment, or what a UTCTime reads as
pub data Case : Type 0 where
  asks : List Listing → ℕ → Told → Case
  reads : List ℕ → Option ℕ → Case

-- the ten worked rulings and the three worked moments
abbrev pub cases : List Case
cases =
    asks (listing 100 None None ∷ []) 150 no_list
    ∷ asks (listing 101 None None ∷ []) 92 waiting
    ∷ asks (listing 1000 None (Some 500) ∷ []) 500 (final (revoked 500 None) 0)
    ∷ asks (listing 1001 (Some 1000) None ∷ []) 100 (final valid 0)
    ∷ asks (listing 1001 (Some 1001) None ∷ []) 100 no_list
    ∷ asks (listing 200 None None ∷ listing 300 None (Some 150) ∷ []) 149 (final valid 0)
    ∷ asks (listing 101 None None ∷ []) 91 (final valid 0)
    ∷ asks (listing 1000 None (Some 500) ∷ []) 499 (final valid 0)
    ∷ asks (listing 1001 None None ∷ []) 100 no_list
    ∷ asks (listing 200 None None ∷ listing 300 None (Some 150) ∷ []) 150 (contradicted 0 1)
    ∷ reads (codes "500101000000Z") (Some 0)
    ∷ reads (codes "491231235959Z") (Some 3155759999)
    ∷ reads (codes "010229000000Z") None
    ∷ []

-- the answers that are due, in the order of the cases
abbrev pub due_answers : List Case → List Told
due_answers [] = []
due_answers (asks ls t a ∷ cs) = a ∷ due_answers cs
due_answers (reads xs m ∷ cs) = due_answers cs

-- and the moments
abbrev pub due_moments : List Case → List (Option ℕ)
due_moments [] = []
due_moments (asks ls t a ∷ cs) = due_moments cs
due_moments (reads xs m ∷ cs) = m ∷ due_moments cs

-- what is asked or read is what is due
abbrev pub Holds : Case → Type 0
Holds (asks ls t a) = answered_at t ls ≡ a
Holds (reads xs m) = utc_read xs ≡ m

-- that of each of the cases
abbrev pub Each : List Case → Type 0
Each [] = Unit {0}
Each (c ∷ cs) = Holds c × Each cs

-- each worked case holds
abbrev pub AllWorked : Type 0
AllWorked = Each cases
