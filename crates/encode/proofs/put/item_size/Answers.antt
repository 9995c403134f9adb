use Rattle.std.proofs.Common.{length, ap, arith}
use Rattle.encode.specs.Der.{length_octets}
use Rattle.encode.proofs.Ders.{length-der}
use Rattle.encode.proofs.put.item_size.Goals as goal

pub returns-clause-whole : goal.returns-clause-whole
returns-clause-whole c = λ tag xs e. omega (arith, c.head_size.ensures, length-der tag xs, ap (λ n. length (length_octets n)) e)
