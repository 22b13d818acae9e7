-- Load receipts, generator payments, and what an interval credits to each of the 48 pots.
use Rattle.std.specs.Prelude.{ℕ, ◌-◌, ◌*◌, ◌/◌, ◌%◌, true, false, ◌&&◌, List, length, ℤ, pos, ◌+ℤ◌, ◌-ℤ◌, ◌*ℤ◌, Some, None, ◌==◌, nat_lt}
use Rattle.units.specs.Sums.{total, when, tabulate}
use Rattle.units.specs.Refusals.{Answer, done, turned_down, refused}
use Rattle.units.specs.declared.refusal.Layer.TheVariants.{Network as InNetwork}
use Rattle.register.specs.Contents.{Network}
use Rattle.register.specs.Fields.{factor}
use Rattle.grid.specs.References.{point_at, dna_at}
use Rattle.losses.specs.Books.{Losses}
use Rattle.interval.specs.Figures.{Figures, price, sent_at, taken_at}
use Rattle.transfers.specs.Links.{net_export, corridor_residue, direction, recovered}
use Rattle.assets.specs.Assets.{dna_residue, flow_too_large, of_dna}

-- ---- all in grains
module _ (net : Network) (fig : Figures) where
  -- of point i
  abbrev pub receipt : ℕ → ℤ
  receipt i = pos (taken_at fig i * factor (point_at net i)) *ℤ price fig (point_at net i).region

  abbrev pub payment : ℕ → ℤ
  payment i = pos (sent_at fig i * factor (point_at net i)) *ℤ price fig (point_at net i).region

  -- of all points
  abbrev pub receipts : ℤ
  receipts = total (length net.points) receipt

  abbrev pub payments : ℤ
  payments = total (length net.points) payment

  -- receipts less payments at a region's points
  abbrev pub region_points : ℕ → ℤ
  region_points r = total (length net.points) (λ i. when ((point_at net i).region == r) (receipt i -ℤ payment i))

  -- the residues of a region's assets
  abbrev pub region_assets : ℕ → ℤ
  region_assets r = total (length net.dnas) (λ d. when ((dna_at net d).region == r) (dna_residue net fig d))

module _ (net : Network) (fig : Figures) (loss : Losses) where
  abbrev pub region_residue : ℕ → ℤ
  region_residue r = region_points net fig r +ℤ (net_export net fig loss r *ℤ price fig r)

  -- a region's residue less that of its assets
  abbrev pub region_pot : ℕ → ℤ
  region_pot r = region_residue r -ℤ region_assets net fig r

  -- a corridor's residue goes to the pot of its direction and sign
  abbrev pub corridor_pot : ℕ → ℕ → ℕ → ℤ
  corridor_pot c d s =
      when (nat_lt c (length net.corridors) && (direction net fig loss c == d && recovered net fig loss c == s)) (corridor_residue net fig loss c)

  -- pot r for region r, 8 + n for asset n, 16 + 4c + 2d + s for corridor c in direction d with sign s
  abbrev pub credit : ℕ → ℤ
  credit k = elim (nat_lt k 8) [
    | true ↦ region_pot k
    | false ↦ elim (nat_lt k 16) [
      | true ↦ of_dna net (dna_residue net fig) (k - 8)
      | false ↦ corridor_pot ((k - 16) / 4) ((k - 16) % 4 / 2) ((k - 16) % 2)
    ]
  ]

  -- what an interval is answered: its 48 credits and 8 net exports, or the refusal of the asset that is worked first
  -- of those whose flow is too large
  abbrev pub settled : Answer (List ℤ × List ℤ)
  settled = elim (flow_too_large net fig (length net.dnas)) [
    | Some d ↦ turned_down (refused 9 InNetwork d)
    | None ↦ done (tabulate 48 credit, tabulate 8 (net_export net fig loss))
  ]
