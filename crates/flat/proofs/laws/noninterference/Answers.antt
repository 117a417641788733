use Rattle.flat.proofs.NoSecret.{noninterference}
use Rattle.flat.proofs.laws.noninterference.Goals as goal

pub returns : goal.returns
returns g c = noninterference (g.met.S.ClassSystem.lawful c.args.system.now) (g.R.Reckoning.meaning c.args.reckoning.now)
