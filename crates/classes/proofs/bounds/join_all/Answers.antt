use Rattle.std.proofs.Common.{◌≡◌, ◌∙◌, T, fold, arith, sym, subst}
use Rattle.std.proofs.lemmas.Grind.{common_steps}
use Rattle.classes.specs.Classes.{UpperBound}
use Rattle.classes.proofs.Joins.{fold_joined, above, least}
use Rattle.classes.proofs.bounds.join_all.Goals as goal

pub returns : goal.returns
returns g c =
    let laws = g.met.S.ClassSystem.lawful c.args.system.now in
    let m = g.S.ClassSystem.meaning c.args.system.now in
    let xs = c.args.classes.now in
    let f : c.fold.result ≡ fold m.join m.bottom xs = grind (arith, common_steps) in
    let e = f ∙ fold_joined laws xs in
    record {
      joined = e;
      above = subst (UpperBound m xs) (sym e) (above laws xs _ (laws.reflexive _));
      least = λ z h. subst (λ r. T (m.below r z)) (sym e) (least laws xs z h);
    }
