use Rattle.std.proofs.Common.{◌≡◌}
use Rattle.std.specs.NonZero.{non_zero_u32_get}
use Rattle.units.specs.Rows.{over}
use Rattle.sharing.specs.Weighted.{running_share}
use Rattle.sharing.proofs.equal.calls.EqualSharingRule.give.Given as goal

abbrev pub invariant-loop-k : goal.invariant-loop-k
invariant-loop-k l = l.share-items ≡ over l.k (λ k. running_share (non_zero_u32_get l.self.owners) (λ _. 1) k l.shared.cents) l.initial.share-items
