use Rattle.std.proofs.Common.{◌≡◌, length}
use Rattle.units.specs.FixedLists.{listed}
use Rattle.units.specs.Rows.{over}
use Rattle.sharing.specs.Fillings.{weight_at}
use Rattle.sharing.specs.Weighted.{nearest_share}
use Rattle.sharing.proofs.nearest.NearestCentsMethod.give.Given as goal

abbrev pub invariant-loop-k : goal.invariant-loop-k
invariant-loop-k l =
    let parts = listed l.weights.parts in
    l.share-items ≡ over l.k (λ k. nearest_share (length parts) (weight_at parts) k l.amount.cents) l.initial.share-items
