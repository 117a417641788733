use Rattle.std.proofs.Common.{arith}
use Rattle.std.proofs.lemmas.Bool.Decides.{nat_tests}
use Rattle.std.proofs.lemmas.Grind.{common_steps}
use Rattle.checks.proofs.Places.{nodes_of}
use Rattle.checks.proofs.place.is_main.Goals as goal

pub returns : goal.returns
returns c =
    let e = nodes_of c.args.block.now in
    let t = c.checked_add.ensures in
    let u = c.eq.ensures in
    grind (arith, common_steps, nat_tests)
