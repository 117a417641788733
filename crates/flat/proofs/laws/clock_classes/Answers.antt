use Rattle.flat.proofs.Joins.{clock_classes}
use Rattle.flat.proofs.laws.clock_classes.Goals as goal

pub returns : goal.returns
returns g c = clock_classes (g.S.ClassSystem.meaning c.args.system.now)
