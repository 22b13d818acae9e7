-- Worked figures, each computed from the definitions.
use Rattle.std.specs.Prelude.{◌≡◌, List, [], ◌∷◌, ℕ, ℤ, pos, negsuc}
use Rattle.units.specs.Sums.{tabulate}
use Rattle.units.specs.Amounts.{in_grains}
use Rattle.units.specs.Refusals.{done, turned_down, refused}
use Rattle.units.specs.declared.refusal.Layer.TheVariants.{Words}
use Rattle.register.specs.Contents.{Network}
use Rattle.register.specs.declared.entry.Point.{Point}
use Rattle.losses.specs.Books.{Losses, segmented, lossless}
use Rattle.interval.specs.Figures.{Figures}
use Rattle.interval.specs.Words.{read}
use Rattle.transfers.specs.Ends.{exporting, entering, leaving}
use Rattle.transfers.specs.Links.{net_export, corridor_residue, direction, recovered}
use Rattle.sharing.specs.Rules.{Rule}
use Rattle.sharing.specs.Weighted.{equal}
use Rattle.sharing.specs.Derogated.{derogated}

-- ---- two regions and one link, at one tenth of the operator's published example

-- a point of region 0 or 1 outside every asset, whose distribution factor is 1
abbrev point : ℕ → ℕ → Point
point region marginal = record { region = region; dna = 0; marginal = marginal; distribution = 10000 }

abbrev pub two_regions : Network
two_regions = record {
  regions = 2;
  corridors = record { region1 = 0; region2 = 1 } ∷ [];
  links = record { corridor = 0; part1 = 6000 } ∷ [];
  points = point 0 9500 ∷ point 0 10400 ∷ point 1 9000 ∷ point 1 10500 ∷ [];
  dnas = [];
}

-- up to 6,000 kWh at 1,000 ten-thousandths, then at 2,500, both ways
abbrev pub two_segments : Losses
two_segments = segmented (λ link direction. record { upper = 6000; slope = 1000 } ∷ record { upper = 200000; slope = 2500 } ∷ [])

abbrev pub interval_words : ℕ → List ℕ
interval_words closing = 0x10000000 ∷ 0x200005DC ∷ 0x210003E8 ∷ 0x30FFE250 ∷ 0x40007530 ∷ 0x501088B8 ∷ 0x4020C350 ∷ 0x50309C40 ∷ closing ∷ []

pub record Reading : Type 0 where
  pub used : read two_regions (interval_words 0x60000008) ≡ done 9
  pub miscounted : read two_regions (interval_words 0x60000009) ≡ turned_down (refused 5 Words 8)

abbrev pub imported : Figures
imported = record { number = 0; prices = pos 1500 ∷ pos 1000 ∷ []; flows = negsuc 7599 ∷ []; sent = 30000 ∷ 0 ∷ 50000 ∷ 0 ∷ []; taken = 0 ∷ 35000 ∷ 0 ∷ 40000 ∷ [] }

-- 7,600 kWh from region 1 to region 0, of which 1,000 are lost, 4,000 ten-thousandths of them to region 1
pub record OneLink : Type 0 where
  pub entry : entering (exporting (negsuc 7599) 6000) 7600 1000 ≡ pos 80000000
  pub exit : leaving (exporting (negsuc 7599) 6000) 7600 1000 ≡ pos 70000000
  pub residue : corridor_residue two_regions imported two_segments 0 ≡ in_grains (pos 2500)
  pub backward : direction two_regions imported two_segments 0 ≡ 1
  pub importer : net_export two_regions imported two_segments 0 ≡ negsuc 69999999
  pub exporter : net_export two_regions imported two_segments 1 ≡ pos 80000000

-- ---- two links in one corridor: one sum, and not one for each link's direction

abbrev pub two_links : Network
two_links = record {
  regions = 2;
  corridors = record { region1 = 0; region2 = 1 } ∷ [];
  links = record { corridor = 0; part1 = 5000 } ∷ record { corridor = 0; part1 = 5000 } ∷ [];
  points = [];
  dnas = [];
}

abbrev pub opposed : Figures
opposed = record { number = 0; prices = pos 2000 ∷ pos 3000 ∷ []; flows = pos 5000 ∷ negsuc 1999 ∷ []; sent = []; taken = [] }

pub record OneCorridor : Type 0 where
  pub residue : corridor_residue two_links opposed lossless 0 ≡ in_grains (pos 3000)
  pub forward : direction two_links opposed lossless 0 ≡ 0
  pub credited : recovered two_links opposed lossless 0 ≡ 0

-- ---- losses

pub record SegmentLosses : Type 0 where
  pub first : two_segments 0 (pos 6001) ≡ 600
  pub second : two_segments 0 (pos 6004) ≡ 601
  pub back : two_segments 0 (negsuc 7599) ≡ 1000

-- ---- shares

abbrev pub shares : Rule → ℤ → List ℤ
shares rule a = tabulate rule.owners (λ k. rule.share k a)

pub record Shares : Type 0 where
  pub thirds : shares (equal 3) (pos 100) ≡ pos 33 ∷ pos 33 ∷ pos 34 ∷ []
  pub owed_thirds : shares (equal 3) (negsuc 99) ≡ negsuc 33 ∷ negsuc 32 ∷ negsuc 32 ∷ []
  pub derogation : shares (derogated 2500 (equal 2)) (pos 101) ≡ pos 25 ∷ pos 38 ∷ pos 38 ∷ []

pub record WorkedFigures : Type 0 where
  pub reading : Reading
  pub one_link : OneLink
  pub one_corridor : OneCorridor
  pub losses : SegmentLosses
  pub shares : Shares
