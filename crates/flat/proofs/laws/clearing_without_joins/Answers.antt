use Rattle.flat.proofs.Leasts.{clearing_without_joins}
use Rattle.flat.proofs.laws.clearing_without_joins.Goals as goal

pub returns : goal.returns
returns g c = clearing_without_joins (g.met.S.ClassSystem.lawful c.args.system.now)
