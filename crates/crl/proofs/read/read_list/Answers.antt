use Rattle.crl.proofs.Apart.{lists-apart}
use Rattle.crl.proofs.Laws.{lawful, entries-stand}
use Rattle.crl.proofs.read.read_list.Goals as goal

pub returns : goal.returns
returns c = record { read = c.read_by_meaning.ensures; law = lawful _ _ c.read_by_meaning.ensures; apart = lists-apart; entries = entries-stand }
