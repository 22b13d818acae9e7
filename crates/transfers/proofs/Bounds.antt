-- How large the figures of an interval can be, where the register's references hold.
use Rattle.std.proofs.Common.{ℕ, ◌-◌, ◌*◌, ◌≤◌, Bool, true, false, cond, eqb, ℤ, pos, ◌*ℤ◌, nat_abs, mul-le-mul, arith}
use lib.Signed.{lt_z}
use borrow.Author.Differences.{ints}
use Rattle.units.proofs.Ring.{nat_abs-*ℤ}
use Rattle.units.proofs.Totals.{when_size}
use Rattle.register.specs.Contents.{Network}
use Rattle.grid.specs.References.{Holds, link_at}
use Rattle.grid.proofs.Places.{link_part}
use Rattle.losses.specs.Books.{Losses, Bounded}
use Rattle.interval.specs.Figures.{Figures, price, flow}
use Rattle.interval.specs.Metered.{figures_of}
use Rattle.interval.specs.declared.metered.Metered.{Metered}
use Rattle.interval.proofs.Small.{prices_small, flows_small}
use Rattle.transfers.specs.Links.{exporting_part, entry, exit, importer, exporter, link_residue, link_export}

pub record Ranged (fig : Figures) (loss : Losses) : Type 0 where
  pub prices : (r : ℕ) → nat_abs (price fig r) ≤ 2000000
  pub flows : (l : ℕ) → nat_abs (flow fig l) ≤ 200000
  pub lost : (l : ℕ) → loss l (flow fig l) ≤ 200000

pub ranged : (m : Metered) (loss : Losses) → Bounded loss → Ranged (figures_of m) loss
ranged m loss b = record {
  prices = prices_small m;
  flows = flows_small m;
  lost = λ l. omega (arith, b.at_most l (flow (figures_of m) l), flows_small m l);
}

-- ---- links

module _ (net : Network) (fig : Figures) (loss : Losses) (h : Holds net) (l : ℕ) where
  pub part_high : exporting_part net fig loss l ≤ 10000
  part_high = either (lt_z (pos 0) (flow fig l))
    where
      either : (b : Bool) → cond b (link_at net l).part1 (10000 - (link_at net l).part1) ≤ 10000
      either true = link_part net h l
      either false = omega arith

module _ (net : Network) (fig : Figures) (loss : Losses) (h : Holds net) (r : Ranged fig loss) (l : ℕ) where
  pub entry_size : nat_abs (entry net fig loss l) ≤ 4000000000
  entry_size = omega (arith, r.flows l, mul-le-mul (part_high net fig loss h l) (r.lost l))

  pub exit_size : nat_abs (exit net fig loss l) ≤ 4000000000
  exit_size =
      let rest : 10000 - exporting_part net fig loss l ≤ 10000 = omega arith in
      omega (arith, ints, r.flows l, mul-le-mul rest (r.lost l))

  pub link_export_size : (k : ℕ) → nat_abs (link_export net fig loss k l) ≤ 8000000000
  link_export_size k =
      omega (arith, ints, entry_size, exit_size, when_size (eqb (exporter net fig loss l) k) (entry net fig loss l), when_size (eqb (importer net fig loss l) k) (exit net fig loss l))

  -- in grains
  pub price_size : (k : ℕ) (z : ℤ) (n : ℕ) → nat_abs z ≤ n → nat_abs (price fig k *ℤ z) ≤ 2000000 * n
  price_size k z n small = rw (nat_abs-*ℤ (price fig k) z) (mul-le-mul (r.prices k) small)

  pub link_residue_size : nat_abs (link_residue net fig loss l) ≤ 16000000000000000
  link_residue_size =
      omega (arith, ints, price_size (importer net fig loss l) (exit net fig loss l) 4000000000 exit_size, price_size (exporter net fig loss l) (entry net fig loss l) 4000000000 entry_size)
