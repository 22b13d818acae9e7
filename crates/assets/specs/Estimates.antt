-- What code finds of one asset after the other. Only proofs of code read this page.
use Rattle.std.specs.Prelude.{◌≡◌, ℕ, ◌+◌, ◌-◌, ◌*ℤ◌, ◌<◌, ◌≤◌, ◌&&◌, List, length, map, ℤ, pos, nat_le, nat_lt, slice_index_or, unsigned_abs}
use Rattle.units.specs.Sums.{when}
use Rattle.units.specs.declared.refusal.Refusal.{Refusal}
use Rattle.units.specs.declared.refusal.Refusal.TheVariants.{FlowTooLarge}
use Rattle.register.specs.Contents.{Network}
use Rattle.grid.specs.References.{dna_at}
use Rattle.interval.specs.Figures.{Figures, price}
use Rattle.interval.specs.Metered.{network_of, figures_of}
use Rattle.interval.specs.declared.metered.Metered.{Metered}
use Rattle.assets.specs.Assets.{senders, takers, flow_with, loss_with, worked_flows, dna_loss, dna_residue}
use Rattle.assets.specs.Sides.{Fed}
use Rattle.assets.specs.declared.sides.Sides.{Sides}
use Rattle.assets.specs.Views.{flow_of, loss_of, residue_of}
use Rattle.assets.specs.declared.estimate.Estimate.{Estimate}

abbrev pub flows_in : List Estimate → ℕ → ℤ
flows_in found d = slice_index_or (map flow_of found) d (pos 0)

-- ---- asset d, where `upstream` are the flows of the assets
module _ (net : Network) (fig : Figures) (upstream : ℕ → ℤ) (d : ℕ) where
  pub record Estimates (e : Estimate) : Type 0 where
    pub flow_is : e.flow ≡ flow_with net fig upstream d
    pub flow_small : unsigned_abs e.flow ≤ 200000
    pub loss_is : e.loss ≡ loss_with net fig upstream d
    pub residue_is : e.residue ≡ loss_with net fig upstream d *ℤ price fig (dna_at net d).region

  pub record TooLarge (refusal : Refusal) : Type 0 where
    pub refusal_is : refusal ≡ FlowTooLarge d
    pub large : 200000 < unsigned_abs (flow_with net fig upstream d)

-- ---- the assets from `first` on

abbrev pub flows_from : Network → Figures → ℕ → ℕ → ℤ
flows_from net fig first = worked_flows net fig (length net.dnas - first)

-- the flows of the assets above asset d, where only those are worked
abbrev pub upstream_of : Metered → ℕ → ℕ → ℤ
upstream_of m d = flows_from (network_of m) (figures_of m) (d + 1)

-- what feeds each asset, where the assets from `first` on are worked
abbrev pub FedFrom : Metered → ℕ → List Sides → Type 0
FedFrom m first =
    let upstream = flows_from (network_of m) (figures_of m) first in
    Fed (senders (network_of m) (figures_of m) upstream) (takers (network_of m) (figures_of m) upstream)

abbrev pub found_from : Network → ℕ → (ℕ → ℤ) → ℕ → ℤ
found_from net first f d = when (nat_le first d && nat_lt d (length net.dnas)) (f d)

pub record Worked (net : Network) (fig : Figures) (first : ℕ) (found : List Estimate) : Type 0 where
  pub slots : length found ≡ 8
  pub flows : (d : ℕ) → flows_in found d ≡ flows_from net fig first d
  pub small : (d : ℕ) → unsigned_abs (flows_in found d) ≤ 200000
  pub losses : (d : ℕ) → slice_index_or (map loss_of found) d (pos 0) ≡ found_from net first (dna_loss net fig) d
  pub residues : (d : ℕ) → slice_index_or (map residue_of found) d (pos 0) ≡ found_from net first (dna_residue net fig) d
