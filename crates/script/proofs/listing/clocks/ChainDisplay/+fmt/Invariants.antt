use Rattle.script.proofs.listing.clocks.ChainDisplay.+fmt.Given as goal

abbrev pub decreases-fmt : goal.decreases-fmt
decreases-fmt g l = l.self.now.clock
