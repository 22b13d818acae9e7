-- What every interval keeps, on every register whose references hold.
use Rattle.std.specs.Prelude.{◌≡◌, ℕ, ◌*◌, ◌<◌, ◌≤◌, length, pos, ◌-ℤ◌, ◌≤ℤ◌}
use Rattle.units.specs.Sums.{total}
use Rattle.register.specs.Contents.{Network}
use Rattle.losses.specs.Books.{Losses, Bounded}
use Rattle.interval.specs.Figures.{Figures}
use Rattle.transfers.specs.Links.{exit, lost, net_export}
use Rattle.residue.specs.Credits.{credit, receipts, payments}

-- no more assets than a register holds
abbrev pub FewAssets : Network → Type 0
FewAssets net = length net.dnas ≤ 8

pub record Conserved (net : Network) (fig : Figures) (loss : Losses) : Type 0 where
  -- all credits to all pots add up to load receipts less generator payments
  pub credits : total 48 (credit net fig loss) ≡ receipts net fig -ℤ payments net fig
  -- all net exports together are what the book means for the metered flows, in node units
  pub exports : total 8 (net_export net fig loss) ≡ total (length net.links) (λ l. pos (10000 * lost net fig loss l))
  -- nothing leaves a link the wrong way
  pub exits : Bounded loss → (l : ℕ) → l < length net.links → pos 0 ≤ℤ exit net fig loss l
