use Rattle.std.proofs.Common.{◌∙◌, rules}
use Rattle.bits.proofs.Fields.{field_of}
use Rattle.bits.proofs.reading.field.Goals as goal

pub returns : goal.returns
returns c = field_of _ _ _ _ (c.then.ensures.variant ∙ c.hold_field.ensures) c.then.ensures.some (λ v p. search rules)
