use Rattle.interval.specs.Metered.{network_of, figures_of}
use Rattle.assets.specs.Estimates.{Worked, FedFrom}
use Rattle.assets.proofs.assets.Assets.of.Given as goal

abbrev pub invariant-loop-number : goal.invariant-loop-number
invariant-loop-number l = Worked (network_of l.metered) (figures_of l.metered) l.number l.found × FedFrom l.metered l.number l.sides
