use Rattle.extension.specs.Extensions.{extension_of, before_tells}
use Rattle.writable.proofs.Built.{extension-reads}
use Rattle.writable.proofs.extensions.ExtensionWritableBefore.put.Goals as goal

pub returns-clause-back : goal.returns-clause-back
returns-clause-back g c = extension-reads g.P.Place.stands before_tells (extension_of c.args.self.now) c.requires.short
