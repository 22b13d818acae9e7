-- What code says of one link, and of the sums over the first links.
use Rattle.std.specs.Prelude.{◌≡◌, ℕ, ◌<◌, ◌≤◌, ◌==◌, unsigned_abs}
use Rattle.units.specs.Sums.{total, when}
use Rattle.register.specs.Contents.{Network}
use Rattle.grid.specs.References.{link_at}
use Rattle.losses.specs.Books.{Losses}
use Rattle.interval.specs.Figures.{Figures, flow}
use Rattle.transfers.specs.Links.{exporter, importer, entry, exit, link_export, link_residue}
use Rattle.transfers.specs.Sums.{Eight}
use Rattle.transfers.specs.declared.links.Carried.{Carried}
use Rattle.transfers.specs.declared.links.Interchange.{Interchange}

-- what link l carries
abbrev pub carried : Network → Figures → Losses → ℕ → Carried
carried net fig loss l = record {
  exporter = exporter net fig loss l;
  importer = importer net fig loss l;
  entry = entry net fig loss l;
  exit = exit net fig loss l;
}

pub record Carries (net : Network) (fig : Figures) (loss : Losses) (l : ℕ) (c : Carried) : Type 0 where
  pub exporter_is : c.exporter ≡ exporter net fig loss l
  pub importer_is : c.importer ≡ importer net fig loss l
  pub entry_is : c.entry ≡ entry net fig loss l
  pub exit_is : c.exit ≡ exit net fig loss l
  pub exporter_low : c.exporter < 8
  pub importer_low : c.importer < 8
  pub entry_small : unsigned_abs c.entry ≤ 4000000000
  pub exit_small : unsigned_abs c.exit ≤ 4000000000

-- the sums over the first n links
pub record SumsOf (net : Network) (fig : Figures) (loss : Losses) (n : ℕ) (s : Interchange) : Type 0 where
  pub exports : Eight (λ r. total n (link_export net fig loss r)) s.exports
  pub residues : Eight (λ c. total n (λ l. when ((link_at net l).corridor == c) (link_residue net fig loss l))) s.residues
  pub flows : Eight (λ c. total n (λ l. when ((link_at net l).corridor == c) (flow fig l))) s.flows
