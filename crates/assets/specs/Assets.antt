-- Designated network assets: the loss that each is estimated to have, and the flow at its downstream boundary.
use Rattle.std.specs.Prelude.{ℕ, zero, suc, ◌-◌, ◌*◌, ◌/◌, true, false, cond, List, length, ℤ, pos, negsuc, ◌+ℤ◌, ◌-ℤ◌, ◌*ℤ◌, neg_ℤ, Some, None, Option, ◌==◌, int_lt, nat_le, nat_lt, unsigned_abs}
use Rattle.units.specs.Sums.{total, when, tabulate}
use Rattle.units.specs.Refusals.{Answer, done, turned_down, refused}
use Rattle.units.specs.declared.refusal.Layer.TheVariants.{Network as InNetwork}
use Rattle.units.specs.Floor.{floor}
use Rattle.register.specs.Contents.{Network}
use Rattle.register.specs.Fields.{factor}
use Rattle.grid.specs.References.{point_at, dna_at, point_feeds, dna_feeds}
use Rattle.interval.specs.Figures.{Figures, price, sent_at, taken_at}

abbrev pub above_0 : ℤ → ℕ
above_0 (pos n) = n
above_0 (negsuc n) = 0

abbrev pub below_0 : ℤ → ℕ
below_0 (pos n) = 0
below_0 (negsuc n) = suc n

-- ---- what an energy counts in a sum, by its own factor

abbrev pub energy : ℕ → ℕ → ℤ
energy e own = pos e

abbrev pub at_own : ℕ → ℕ → ℤ
at_own e own = pos (e * own)

-- at what the boundary's factor is above the own one
abbrev pub at_difference : ℕ → ℕ → ℕ → ℤ
at_difference boundary e own = pos e *ℤ (pos boundary -ℤ pos own)

-- ---- an asset's two sides, each as the sum of a weight over its energies with their own factors

abbrev pub Side : Type 0
Side = (ℕ → ℕ → ℤ) → ℤ

module _ (senders takers : Side) where
  -- the senders' energy beyond the takers'
  abbrev pub surplus : ℤ
  surplus = senders energy -ℤ takers energy

  -- the side with more energy
  abbrev pub larger : Side
  larger = cond (int_lt (pos 0) surplus) senders takers

  abbrev pub gross : ℕ
  gross = unsigned_abs (larger energy)

  module _ (boundary : ℕ) where
    -- in node units, rounded down
    abbrev pub loss_at : ℤ
    loss_at = cond (unsigned_abs surplus == 0) (pos 0) (floor (surplus *ℤ larger (at_difference boundary)) gross)

    -- in kWh, rounded down
    abbrev pub size_at : ℕ
    size_at = unsigned_abs surplus * unsigned_abs (larger at_own) / (gross * boundary)

    -- the flow at the boundary has the sign of the surplus
    abbrev pub flow_at : ℤ
    flow_at = cond (int_lt (pos 0) surplus) (pos size_at) (neg_ℤ (pos size_at))

-- what feeds asset d: its points, and the assets directly upstream
abbrev pub side : Network → (ℕ → ℕ) → (ℕ → ℕ) → ℕ → Side
side net at_point at_asset d weight =
    total (length net.points) (λ i. when (point_feeds net d i) (weight (at_point i) (factor (point_at net i))))
    +ℤ total (length net.dnas) (λ m. when (dna_feeds net d m) (weight (at_asset m) (dna_at net m).boundary))

module _ (net : Network) (fig : Figures) where
  -- of asset d, where `upstream` are the flows of the assets
  module _ (upstream : ℕ → ℤ) (d : ℕ) where
    abbrev pub senders : Side
    senders = side net (sent_at fig) (λ m. above_0 (upstream m)) d

    abbrev pub takers : Side
    takers = side net (taken_at fig) (λ m. below_0 (upstream m)) d

    abbrev pub loss_with : ℤ
    loss_with = loss_at senders takers (dna_at net d).boundary

    abbrev pub flow_with : ℤ
    flow_with = flow_at senders takers (dna_at net d).boundary

  -- the flows of the `worked` assets with the highest numbers, where the others are not worked yet
  abbrev pub worked_flows : ℕ → ℕ → ℤ
  worked_flows zero = λ m. pos 0
  worked_flows (suc worked) =
      let d = length net.dnas - suc worked in
      let upstream = worked_flows worked in
      λ m. cond (m == d) (flow_with upstream d) (upstream m)

  abbrev pub dna_flow : ℕ → ℤ
  dna_flow = worked_flows (length net.dnas)

  abbrev pub dna_loss : ℕ → ℤ
  dna_loss = loss_with dna_flow

  -- in grains
  abbrev pub dna_residue : ℕ → ℤ
  dna_residue d = dna_loss d *ℤ price fig (dna_at net d).region

  -- of the n assets with the lowest numbers, the highest whose flow is above 200,000 in size
  abbrev pub flow_too_large : ℕ → Option ℕ
  flow_too_large zero = None
  flow_too_large (suc n) = elim (nat_le (unsigned_abs (dna_flow n)) 200000) [ true ↦ flow_too_large n | false ↦ Some n ]

-- a value of asset d, and 0 beyond the last asset
abbrev pub of_dna : Network → (ℕ → ℤ) → ℕ → ℤ
of_dna net f d = when (nat_lt d (length net.dnas)) (f d)

-- the eight values of each kind
pub record Found : Type 0 where
  pub flows : List ℤ
  pub losses : List ℤ
  pub residues : List ℤ

-- what is answered of the assets, or the refusal of the one worked first of those whose flow is too large
abbrev pub estimates : Network → Figures → Answer Found
estimates net fig = elim (flow_too_large net fig (length net.dnas)) [
  | Some d ↦ turned_down (refused 9 InNetwork d)
  | None ↦ done (record {
    flows = tabulate 8 (of_dna net (dna_flow net fig));
    losses = tabulate 8 (of_dna net (dna_loss net fig));
    residues = tabulate 8 (of_dna net (dna_residue net fig));
  })
]
