use Rattle.std.proofs.Common.{ltb, ap, ◌∙◌, rules, tests}
use Rattle.std.proofs.lemmas.Iterator.Consumers.{YieldsList-from_first}
use Rattle.std.proofs.lemmas.Iterator.Search.{all_from_yields_List}
use Rattle.rules.specs.Names.{chain}
use Rattle.rules.specs.Views.{chain_left}
use Rattle.checks.proofs.clocks.by_inputs.Goals as goal

pub returns : goal.returns
returns c =
    let flows = c.clock_chain.ensures ∙ ap (chain c.args.clocks.now 7) c.from.ensures in
    all_from_yields_List (λ x. ltb x c.args.inputs) _ _ _ c.all.ensures.ran (YieldsList-from_first (λ x. x) chain_left _ flows) (λ x b q k. search (rules, tests))
