-- How large the figures of what is metered can be.
use Rattle.std.proofs.Common.{ℕ, ◌≤◌, length, map, pos, nat_abs, arith}
use borrow.Author.Differences.{ints}
use Rattle.interval.specs.Figures.{price, flow, sent_at, taken_at}
use Rattle.interval.specs.Metered.{network_of, figures_of}
use Rattle.interval.specs.Views.{sent_of, taken_of}
use Rattle.interval.specs.declared.metered.Metered.{Metered}
use Rattle.interval.proofs.Filled.{every_take}
use Rattle.interval.proofs.Whole.{sent_upto, taken_upto}

module _ (m : Metered) where
  pub prices_small : (r : ℕ) → nat_abs (price (figures_of m) r) ≤ 2000000
  prices_small = every_take (λ z. nat_abs z ≤ 2000000) (pos 0) m.grid.now.grid.region_count m.interval.now.prices (omega arith)
      (λ r. omega (arith, ints, (m.interval.now.price_range r).0, (m.interval.now.price_range r).1))

  pub flows_small : (l : ℕ) → nat_abs (flow (figures_of m) l) ≤ 200000
  flows_small = every_take (λ z. nat_abs z ≤ 200000) (pos 0) (length (network_of m).links) m.interval.now.flows (omega arith)
      (λ l. omega (arith, ints, (m.interval.now.flow_range l).0, (m.interval.now.flow_range l).1))

  pub sent_small : (p : ℕ) → sent_at (figures_of m) p ≤ 200000
  sent_small = every_take (λ e. e ≤ 200000) 0 (length (network_of m).points) (map sent_of m.interval.now.readings) (omega arith) (sent_upto m.interval.now.readings)

  pub taken_small : (p : ℕ) → taken_at (figures_of m) p ≤ 200000
  taken_small = every_take (λ e. e ≤ 200000) 0 (length (network_of m).points) (map taken_of m.interval.now.readings) (omega arith) (taken_upto m.interval.now.readings)
