use Rattle.std.proofs.Common.{ap, ◌∙◌, rules, tests}
use Rattle.std.proofs.lemmas.Iterator.Consumers.{YieldsList-from_first}
use Rattle.std.proofs.lemmas.Iterator.Search.{any_from_yields_List}
use Rattle.rules.specs.Every.{has}
use Rattle.rules.specs.Names.{chain}
use Rattle.rules.specs.Views.{chain_left, row_defines}
use Rattle.order.proofs.waiting.clock_waits.Goals as goal

pub returns : goal.returns
returns c =
    let flows = c.clock_chain.ensures ∙ ap (chain c.args.clocks.now 7) c.from.ensures in
    any_from_yields_List (λ y. has y (row_defines c.args.on.now)) _ _ _ c.any.ensures.ran (YieldsList-from_first (λ x. x) chain_left _ flows) (λ x b q k. search (rules, tests))
