-- A step of the loops over links that keep eight sums.
use Rattle.std.proofs.Common.{◌≡◌, ℕ, ◌+◌, ◌*◌, ◌^◌, ◌<◌, ◌≤◌, Bool, true, false, cond, eqb, List, get_or, ℤ, pos, ◌-ℤ◌, ◌*ℤ◌, neg_ℤ, nat_abs, Some, None, sym, ap, ◌∙◌, ap₂, arith}
use lib.IntN.{*ℤ_comm}
use lib.Signed.{lt_z}
use borrow.Author.Differences.{ints}
use Rattle.units.specs.Sums.{total, when}
use Rattle.transfers.specs.Sums.{added, Eight}
use Rattle.transfers.proofs.Added.{get_or-added, length-added, added_step, added_fits}
use Rattle.units.proofs.Totals.{when_neg, when_size, total_more, total_bound}
use Rattle.register.specs.Contents.{Network}
use Rattle.grid.specs.References.{Holds, corridor_at, link_at}
use Rattle.grid.proofs.Places.{grid_holds, corridor_low1, corridor_low2, link_low}
use Rattle.losses.specs.Books.{Losses, Bounded}
use Rattle.interval.specs.Figures.{Figures, flow, price}
use Rattle.interval.specs.declared.metered.Metered.{Metered}
use Rattle.transfers.specs.Links.{exporter, importer, entry, exit, link_export, link_residue}
use Rattle.interval.specs.Metered.{network_of, figures_of}
use Rattle.transfers.specs.Carries.{Carries}
use Rattle.transfers.specs.declared.links.Carried.{Carried}
use Rattle.transfers.proofs.Bounds.{ranged, entry_size, exit_size, link_export_size}

module _ (net : Network) (fig : Figures) (loss : Losses) (h : Holds net) (l : ℕ) where
  pub exporter_low : exporter net fig loss l < 8
  exporter_low = either (lt_z (pos 0) (flow fig l))
    where
      c : ℕ
      c = (link_at net l).corridor

      either : (b : Bool) → cond b (corridor_at net c).region1 (corridor_at net c).region2 < 8
      either true = corridor_low1 net h c
      either false = corridor_low2 net h c

  pub importer_low : importer net fig loss l < 8
  importer_low = either (lt_z (pos 0) (flow fig l))
    where
      c : ℕ
      c = (link_at net l).corridor

      either : (b : Bool) → cond b (corridor_at net c).region2 (corridor_at net c).region1 < 8
      either true = corridor_low2 net h c
      either false = corridor_low1 net h c

-- all that the code says of a link, from what it computes
pub carries : (m : Metered) (loss : Losses) (b : Bounded loss) (l : ℕ) (c : Carried)
    → c.exporter ≡ exporter (network_of m) (figures_of m) loss l → c.importer ≡ importer (network_of m) (figures_of m) loss l
    → c.entry ≡ entry (network_of m) (figures_of m) loss l → c.exit ≡ exit (network_of m) (figures_of m) loss l
    → Carries (network_of m) (figures_of m) loss l c
carries m loss b l c exporter_is importer_is entry_is exit_is = record {
  exporter_is = exporter_is;
  importer_is = importer_is;
  entry_is = entry_is;
  exit_is = exit_is;
  exporter_low = omega (arith, exporter_low (network_of m) (figures_of m) loss (grid_holds m.grid.now) l);
  importer_low = omega (arith, importer_low (network_of m) (figures_of m) loss (grid_holds m.grid.now) l);
  entry_small = omega (arith, ap nat_abs entry_is, entry_size (network_of m) (figures_of m) loss (grid_holds m.grid.now) (ranged m loss b) l);
  exit_small = omega (arith, ap nat_abs exit_is, exit_size (network_of m) (figures_of m) loss (grid_holds m.grid.now) (ranged m loss b) l);
}

-- the value of an answer that is there
pub answered : {A : Type 0} (t : Bool) (x c : A) → Some c ≡ cond t (Some x) None → c ≡ x
answered true x c e = cc
answered false x c e = cc

-- ---- net exports

module _ (m : Metered) (loss : Losses) (b : Bounded loss) (l : ℕ) (c : Carried) (is : Carries (network_of m) (figures_of m) loss l c)
    (xs : List ℤ) (so_far : Eight (λ k. total l (link_export (network_of m) (figures_of m) loss k)) xs) (few : l ≤ 8) where
  pub export_so_far : (k : ℕ) → k < 8 → nat_abs (get_or xs k (pos 0)) ≤ 64000000000
  export_so_far k p =
      let bound = total_bound l (link_export (network_of m) (figures_of m) loss k) 8000000000 (λ i _. link_export_size (network_of m) (figures_of m) loss (grid_holds m.grid.now) (ranged m loss b) i k) in
      omega (arith, ap nat_abs (so_far.1 k p), bound)

  pub import_so_far : nat_abs (get_or (added xs c.exporter c.entry) c.importer (pos 0)) ≤ 68000000000
  import_so_far =
      omega (arith, ints, export_so_far c.importer is.importer_low, get_or-added xs c.exporter c.entry c.importer (omega (arith, so_far.0)), when_size (eqb c.exporter c.importer) c.entry)

  pub export_step : Eight (λ k. total (l + 1) (link_export (network_of m) (figures_of m) loss k)) (added (added xs c.exporter c.entry) c.importer (neg_ℤ c.exit))
  export_step = (
    length-added (added xs c.exporter c.entry) c.importer (neg_ℤ c.exit) ∙ length-added xs c.exporter c.entry ∙ so_far.0,
    λ k p.
        get_or-added (added xs c.exporter c.entry) c.importer (neg_ℤ c.exit) k (omega (arith, so_far.0, length-added xs c.exporter c.entry))
        ∙ omega (arith, ints, get_or-added xs c.exporter c.entry k (omega (arith, so_far.0)), so_far.1 k p, when_neg (eqb c.importer k) c.exit, total_more l (link_export (network_of m) (figures_of m) loss k), sent k, came k),
  )
    where
      sent : (k : ℕ) → when (eqb c.exporter k) c.entry ≡ when (eqb (exporter (network_of m) (figures_of m) loss l) k) (entry (network_of m) (figures_of m) loss l)
      sent k = λ i. when (eqb (is.exporter_is i) k) (is.entry_is i)

      came : (k : ℕ) → when (eqb c.importer k) c.exit ≡ when (eqb (importer (network_of m) (figures_of m) loss l) k) (exit (network_of m) (figures_of m) loss l)
      came k = λ i. when (eqb (is.importer_is i) k) (is.exit_is i)

-- ---- corridors

-- a link's residue, from what its two ends are worth
pub residue_is : (m : Metered) (loss : Losses) (l : ℕ) (c : Carried) → Carries (network_of m) (figures_of m) loss l c → (x y u v : ℤ)
    → u ≡ c.exit → v ≡ c.entry → x ≡ u *ℤ price (figures_of m) c.importer → y ≡ v *ℤ price (figures_of m) c.exporter → x -ℤ y ≡ link_residue (network_of m) (figures_of m) loss l
residue_is m loss l c is x y u v u_is v_is x_is y_is =
    ap₂ (λ s t. s -ℤ t)
    (x_is ∙ *ℤ_comm u (price (figures_of m) c.importer) ∙ (λ i. price (figures_of m) (is.importer_is i) *ℤ (u_is ∙ is.exit_is) i))
    (y_is ∙ *ℤ_comm v (price (figures_of m) c.exporter) ∙ (λ i. price (figures_of m) (is.exporter_is i) *ℤ (v_is ∙ is.entry_is) i))

-- a turn that adds a value of link l at its corridor
module _ (net : Network) (h : Holds net) (v : ℕ → ℤ) (l : ℕ) (few : l ≤ 8) (p : ℕ) (at : p ≡ (link_at net l).corridor) (z : ℤ) (z_is : z ≡ v l) (xs : List ℤ)
    (so_far : Eight (λ c. total l (λ i. when (eqb (link_at net i).corridor c) (v i))) xs) where
  pub corridor_low : p < 8
  corridor_low = omega (arith, at, link_low net h l)

  here : (c : ℕ) → when (eqb (link_at net l).corridor c) (v l) ≡ when (eqb p c) z
  here c = λ i. when (eqb (sym at i) c) (sym z_is i)

  pub corridor_step : Eight (λ c. total (l + 1) (λ i. when (eqb (link_at net i).corridor c) (v i))) (added xs p z)
  corridor_step = added_step (λ c i. when (eqb (link_at net i).corridor c) (v i)) l p z xs so_far corridor_low here

  pub corridor_fits : (b : ℕ) → ((i : ℕ) → nat_abs (v i) ≤ b) → 8 * b + b < 2 ^ 63 → nat_abs (get_or xs p (pos 0)) + nat_abs z < 2 ^ 63
  corridor_fits b small fits =
      added_fits (λ c i. when (eqb (link_at net i).corridor c) (v i)) l p z xs so_far corridor_low here 8 b few
      (λ i _. omega (arith, small i, when_size (eqb (link_at net i).corridor p) (v i)))
      fits
