use Rattle.std.proofs.Common.{◌≡◌, ap, ◌∙◌, arith}
use Rattle.std.proofs.lemmas.Option.{unwrap_or-slice_get}
use Rattle.std.specs.Option.{unwrap_or}
use Rattle.units.specs.FixedLists.{listed}
use Rattle.sharing.specs.Fillings.{weight_at}
use Rattle.sharing.proofs.Weighed.{weight_few}
use Rattle.sharing.proofs.weights.Weights.fraction.Goals as goal

pub returns-clause-parts : goal.returns-clause-parts
returns-clause-parts c = c.unwrap_or.ensures ∙ ap (λ o. unwrap_or o 0) c.get.ensures ∙ unwrap_or-slice_get _ c.args.k 0

pub invariant_of-result : goal.invariant_of-result
invariant_of-result c =
    let weights = c.args.self.now in
    let parts : c.unwrap_or.result ≡ weight_at (listed weights.parts) c.args.k = c.unwrap_or.ensures ∙ ap (λ o. unwrap_or o 0) c.get.ensures ∙ unwrap_or-slice_get _ c.args.k 0 in
    record { at_most_all = omega (arith, weight_few (listed weights.parts) c.args.k, weights.sound); few = weights.bound }
