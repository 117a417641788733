use Rattle.std.proofs.Common.{◌∙◌, rules}
use Rattle.std.proofs.lemmas.Iterator.{YieldsList-from_slice}
use Rattle.std.proofs.lemmas.Iterator.Search.{all_from_yields_List}
use Rattle.classes.proofs.Joins.{test_joined}
use Rattle.classes.proofs.bounds.all_at_or_below.Goals as goal

pub returns : goal.returns
returns g c =
    let laws = g.met.S.ClassSystem.lawful c.args.system.now in
    let m = g.S.ClassSystem.meaning c.args.system.now in
    let xs = c.args.classes.now in
    let e = all_from_yields_List (λ x. m.below x c.args.bound) _ _ c.all.result c.all.ensures.ran (YieldsList-from_slice xs cc) (λ x b q k. search rules) in
    record { each = e; join = e ∙ test_joined laws xs c.args.bound }
