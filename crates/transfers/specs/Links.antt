-- What enters and leaves each link in an interval, and the residue between regions.
use Rattle.std.specs.Prelude.{ℕ, Bool, cond, length, ℤ, pos, ◌-ℤ◌, ◌*ℤ◌, ◌==◌, int_lt, unsigned_abs}
use Rattle.transfers.specs.Signs.{sign, number as sign_number}
use Rattle.transfers.specs.Ends.{exporting, entering, leaving}
use Rattle.units.specs.Sums.{total, when}
use Rattle.register.specs.Contents.{Network}
use Rattle.grid.specs.References.{corridor_at, link_at}
use Rattle.losses.specs.Books.{Losses, direction as direction_of}
use Rattle.losses.specs.Directions.{number as direction_number}
use Rattle.interval.specs.Figures.{Figures, price, flow}

-- 0 from region 1, 1 from region 2
abbrev pub way : ℤ → ℕ
way flows = direction_number (direction_of flows)

-- 1 where a residue is to be recovered
abbrev pub owed : ℤ → ℕ
owed residue = sign_number (sign residue)

-- the metered flows of a corridor's links together
abbrev pub corridor_flow : Network → Figures → ℕ → ℤ
corridor_flow net fig c = total (length net.links) (λ l. when ((link_at net l).corridor == c) (flow fig l))

module _ (net : Network) (fig : Figures) (loss : Losses) where
  -- the flow is from region 1 to region 2
  abbrev pub forward : ℕ → Bool
  forward l = int_lt (pos 0) (flow fig l)

  -- the region where energy enters the link, and the one where it leaves
  abbrev pub exporter : ℕ → ℕ
  exporter l = let c = corridor_at net (link_at net l).corridor in cond (forward l) c.region1 c.region2

  abbrev pub importer : ℕ → ℕ
  importer l = let c = corridor_at net (link_at net l).corridor in cond (forward l) c.region2 c.region1

  -- the ten-thousandths of the loss that the exporter bears
  abbrev pub exporting_part : ℕ → ℕ
  exporting_part l = exporting (flow fig l) (link_at net l).part1

  -- what the book means at the metered flow, in kWh
  abbrev pub lost : ℕ → ℕ
  lost l = loss l (flow fig l)

  -- what enters the link and what leaves it, in node units
  abbrev pub entry : ℕ → ℤ
  entry l = entering (exporting_part l) (unsigned_abs (flow fig l)) (lost l)

  abbrev pub exit : ℕ → ℤ
  exit l = leaving (exporting_part l) (unsigned_abs (flow fig l)) (lost l)

  -- what leaves at the importer's price, less what enters at the exporter's, in grains
  abbrev pub link_residue : ℕ → ℤ
  link_residue l = (price fig (importer l) *ℤ exit l) -ℤ (price fig (exporter l) *ℤ entry l)

  -- a region's entries less its exits over one link
  abbrev pub link_export : ℕ → ℕ → ℤ
  link_export r l = when (exporter l == r) (entry l) -ℤ when (importer l == r) (exit l)

  -- the same over all links
  abbrev pub net_export : ℕ → ℤ
  net_export r = total (length net.links) (link_export r)

  -- one sum over the corridor's links, whatever their directions
  abbrev pub corridor_residue : ℕ → ℤ
  corridor_residue c = total (length net.links) (λ l. when ((link_at net l).corridor == c) (link_residue l))

  -- the direction of a corridor: that of its metered flows together
  abbrev pub direction : ℕ → ℕ
  direction c = way (corridor_flow net fig c)

  -- the sign of a corridor: that of its residue
  abbrev pub recovered : ℕ → ℕ
  recovered c = owed (corridor_residue c)
