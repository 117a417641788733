use Rattle.std.proofs.Common.{◌∙◌, rules, w32}
use Rattle.std.proofs.lemmas.Int.{to_z-of_z}
use Rattle.numbers.proofs.Quotients.{scaled_held}
use Rattle.numbers.proofs.hundredths.scale.Goals as goal

pub returns : goal.returns
returns c =
    to_z-of_z w32 c.map_or.result (search rules)
    ∙ scaled_held _ _ _ _ _ _ c.ranges.a c.ranges.b c.ranges.by c.from.ensures c.from-2.ensures c.from-3.ensures c.checked_div.result _ c.checked_div.ensures c.map_or.ensures
