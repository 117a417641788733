use Rattle.rules.specs.Views.{node_of}
use Rattle.examine.proofs.Deciding.{cycle_decided}
use Rattle.examine.proofs.asking.node_holds.Goals as goal

pub returns-in-Cycles : goal.returns-in-Cycles
returns-in-Cycles c =
    let at = c.args.at.now in
    cycle_decided at.block.view at.number (node_of at.node) c.args.check _ _ c.requires.inside c.requires.node c.in-Cycles.is c.has_no_cycle.ensures
