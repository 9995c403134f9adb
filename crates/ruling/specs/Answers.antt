-- How the rulings of the lists, in their order, make an answer. Assumes nothing.
use Rattle.std.specs.Prelude.{ℕ, ◌+◌, Bool, true, false, cond, List, [], ◌∷◌, ◌==◌}
use Rattle.ruling.specs.Cases.{Final, valid, revoked, Says, silent, waits, rules, Told, no_list, waiting, final, contradicted}

-- two finals are the same unless they differ in kind or date
abbrev pub same : Final → Final → Bool
same valid valid = true
same valid (revoked d r) = false
same (revoked d r) valid = false
same (revoked d r) (revoked e t) = d == e

-- the answer once list k, which says so, is heard after those before it
abbrev pub moved : ℕ → Says → Told → Told
moved k silent a = a
moved k waits no_list = waiting
moved k waits waiting = waiting
moved k waits (final v n) = final v n
moved k waits (contradicted n m) = contradicted n m
moved k (rules w) no_list = final w k
moved k (rules w) waiting = final w k
moved k (rules w) (final v n) = cond (same v w) (final v n) (contradicted n k)
moved k (rules w) (contradicted n m) = contradicted n m

-- the answer from a on, the first of the rulings being that of list k
unfoldable pub heard : ℕ → List Says → Told → Told
heard k [] a = a
heard k (r ∷ rs) a = heard (k + 1) rs (moved k r a)

-- the answer to these rulings, from list 0 on
abbrev pub answered : List Says → Told
answered rs = heard 0 rs no_list
