use Rattle.std.proofs.Common.{length, ap, ◌∙◌, w64}
use Rattle.std.proofs.lemmas.Int.{to_z-of_z}
use Rattle.units.specs.FixedLists.{listed}
use Rattle.sharing.specs.Fillings.{weight_at}
use Rattle.sharing.specs.Rules.{within_limit}
use Rattle.sharing.specs.WeightedLaws.{weighted_lawful}
use Rattle.sharing.proofs.Shared.{given_shared}
use Rattle.sharing.proofs.weighted.WeightedSharingRule.give.Goals as goal

pub returns : goal.returns
returns g c =
    let parts = listed c.args.self.now.weights.parts in
    let share = g.M.Method.share in
    let shared = c.of.ensures ∙ ap within_limit (to_z-of_z w64 c.args.amount c.ranges.amount) in
    let keeps = weighted_lawful share g.met.M.Method.lawful c.args.self.now in
    c.give.ensures ∙ given_shared (length parts) (weight_at parts) (share (length parts) (weight_at parts)) keeps c.args.amount c.of.result.cents c.args.row.now shared
