use Rattle.std.proofs.Common.{take, drop, length, ◌-◌, vec_items, ap, ◌∙◌}
use Rattle.std.specs.Bool.{then_some}
use Rattle.std.specs.Option.{option_map}
use Rattle.script.specs.Hex.{unhex}
use Rattle.script.proofs.Hexes.{ahead, ahead_more, ahead_stops, ahead_ends}
use Rattle.script.proofs.hex.bytes_of_hex.Goals as goal

pub returns-in_default-byte_of_digits : goal.returns-in_default-byte_of_digits
returns-in_default-byte_of_digits c =
    ahead_stops _ c.loop-digits.digits.now c.in-len2-up.len_at_least c.in_default-byte_of_digits.ensures ∙ c.loop-digits.invariant

pub loop-digits-preserved : goal.loop-digits-preserved
loop-digits-preserved c =
    let ds = c.loop-digits.digits.now in
    ap (λ xs. ahead xs (unhex (take (length ds - 2) (drop 2 ds)))) c.in_ok-push.ensures.items
    ∙ ahead_more _ ds c.in-Some.byte c.in-len2-up.len_at_least c.in-Some.ensures
    ∙ c.loop-digits.invariant

pub returns : goal.returns
returns c =
    ap (option_map vec_items) c.then_some.ensures
    ∙ ap (λ b. option_map vec_items (then_some b c.loop-digits.bytes)) c.is_empty.ensures
    ∙ ahead_ends vec_items c.loop-digits.bytes c.loop-digits.digits.now c.in_default.len_below
    ∙ c.loop-digits.invariant
