use Rattle.std.proofs.Common.{◌≡◌, ◌≤◌, length, nat_abs}
use Rattle.units.specs.FixedLists.{listed}
use Rattle.units.specs.Rows.{over}
use Rattle.units.specs.Sums.{sum}
use Rattle.sharing.specs.Fillings.{weight_at}
use Rattle.sharing.specs.Rules.{limit}
use Rattle.sharing.specs.Weighted.{upto, running_share}
use Rattle.sharing.proofs.running.RunningChargesMethod.give.Given as goal

abbrev pub invariant-loop-k : goal.invariant-loop-k
invariant-loop-k l =
    let parts = listed l.weights.parts in
    record {
      written : l.share-items ≡ over l.k (λ k. running_share (length parts) (weight_at parts) k l.amount.cents) l.initial.share-items;
      past : l.weight ≡ sum l.k (weight_at parts);
      paid_is : l.paid ≡ upto (length parts) (weight_at parts) l.amount.cents l.k;
      few : nat_abs l.paid ≤ limit;
    }
