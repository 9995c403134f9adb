-- How one list rules on a question. Assumes nothing.
use Rattle.std.specs.Prelude.{ℕ, ◌+◌, Bool, cond, ◌&&◌, List, [], ◌∷◌, Some, None, Option, ◌==◌, nat_le, nat_lt}
use Rattle.std.specs.Str.{bytes_eq}
use Rattle.ruling.specs.declared.cases.Facts.{Facts}
use Rattle.ruling.specs.declared.cases.Moments.{Moments}
use Rattle.ruling.specs.Cases.{Asked, Entry, Dated, Says, silent, waits, rules, valid, revoked}

-- the list still speaks of a certificate that ends at n: expiredCertsOnCRL decides where it stands, else thisUpdate
abbrev pub keeps : Option ℕ → ℕ → ℕ → Bool
keeps (Some e) u n = nat_le e n
keeps None u n = nat_le u n

-- the list covers a certificate by that issuer with those moments
abbrev pub covers_by : Facts → ℕ → Moments → Bool
covers_by f i m =
    (f.issuer == i)
    && (nat_lt m.not_before f.this_update && keeps f.expired f.this_update m.not_after)

-- the earlier of what was found and a later entry; of the same date, what was found
abbrev pub earlier_of : Option Dated → Entry → Option Dated
earlier_of None e = Some (record { date = e.date; reason = e.reason })
earlier_of (Some d) e = cond (nat_le d.date e.date) (Some d) (Some (record { date = e.date; reason = e.reason }))

-- the earliest among what was found and the entries of that serial
unfoldable pub earliest_in : List ℕ → List Entry → Option Dated → Option Dated
earliest_in s [] found = found
earliest_in s (e ∷ es) found = earliest_in s es (cond (bytes_eq e.serial s) (earlier_of found e) found)

-- what a list that covers rules at t, by the serial's earliest revocation in it, with the caution period c and thisUpdate u
abbrev pub judged : Option Dated → ℕ → ℕ → ℕ → Says
judged (Some d) t c u = cond (nat_lt t d.date) (rules valid) (rules (revoked d.date d.reason))
judged None t c u = cond (nat_le (t + c) u) (rules valid) waits

-- what the list rules
abbrev pub ruled_by : Facts → List Entry → Asked → ℕ → Says
ruled_by f es q c =
    cond (covers_by f q.issuer q.moments)
    (judged (earliest_in q.serial es None) q.moments.control_time c f.this_update) silent
