-- How an asset's estimated loss and its flow relate to the published formulas.
use Rattle.std.specs.Prelude.{◌≡◌, ℕ, ◌+◌, ◌*◌, ◌<◌, ◌≤◌, ℤ, pos, ◌+ℤ◌, ◌*ℤ◌, ◌≤ℤ◌, ◌<ℤ◌, ◌≢◌, unsigned_abs}
use Rattle.register.specs.Contents.{Network}
use Rattle.grid.specs.References.{dna_at}
use Rattle.interval.specs.Figures.{Figures}
use Rattle.assets.specs.Assets.{Side, at_own, at_difference, surplus, larger, gross, senders, takers, dna_flow, dna_loss}

-- a loss and a flow as they follow from an asset's two sides and its boundary's factor
pub record Estimated (sent taken : Side) (boundary : ℕ) (loss flow : ℤ) : Type 0 where
  -- as much sent as taken: no loss and no flow
  pub even : surplus sent taken ≡ pos 0 → (loss ≡ pos 0) × (flow ≡ pos 0)
  -- otherwise G × loss ≤ N × S < G × loss + G
  pub loss_low : (surplus sent taken ≢ pos 0) → (pos (gross sent taken) *ℤ loss) ≤ℤ (surplus sent taken *ℤ larger sent taken (at_difference boundary))
  pub loss_high : (surplus sent taken ≢ pos 0) → (surplus sent taken *ℤ larger sent taken (at_difference boundary)) <ℤ (pos (gross sent taken) *ℤ loss +ℤ pos (gross sent taken))
  -- and G × boundary × size ≤ |N| × T < G × boundary × size + G × boundary, with the sign of N
  pub size_low : (surplus sent taken ≢ pos 0) → gross sent taken * boundary * unsigned_abs flow ≤ unsigned_abs (surplus sent taken) * unsigned_abs (larger sent taken at_own)
  pub size_high : (surplus sent taken ≢ pos 0) → unsigned_abs (surplus sent taken) * unsigned_abs (larger sent taken at_own) < gross sent taken * boundary * unsigned_abs flow + gross sent taken * boundary
  pub outward : pos 0 <ℤ surplus sent taken → pos 0 ≤ℤ flow
  pub inward : surplus sent taken <ℤ pos 0 → flow ≤ℤ pos 0

-- of asset d, where each asset directly upstream has its own flow
abbrev pub AssetEstimated : Network → Figures → ℕ → Type 0
AssetEstimated net fig d =
    Estimated (senders net fig (dna_flow net fig) d) (takers net fig (dna_flow net fig) d) (dna_at net d).boundary (dna_loss net fig d) (dna_flow net fig d)
