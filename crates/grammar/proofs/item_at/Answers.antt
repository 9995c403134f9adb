use Rattle.grammar.proofs.Standings.{lawful, one-encoding}
use Rattle.grammar.proofs.item_at.Goals as goal

pub returns : goal.returns
returns c = record { read = c.read_at.ensures; law = lawful _ _ _ c.read_at.ensures; once = one-encoding }
