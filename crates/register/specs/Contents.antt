-- What a register holds, roll by roll, and its entries as lists.
use Rattle.std.specs.Prelude.{ℕ, List}
use Rattle.register.specs.Rolls.{Held, held, size}
use Rattle.register.specs.declared.entry.Region.{Region}
use Rattle.register.specs.declared.entry.Corridor.{Corridor}
use Rattle.register.specs.declared.entry.Link.{Link}
use Rattle.register.specs.declared.entry.Point.{Point}
use Rattle.register.specs.declared.entry.Dna.{Dna}
use Rattle.register.specs.declared.register.Register.{Register}

pub record Contents : Type 0 where
  pub regions : Held Region
  pub corridors : Held Corridor
  pub links : Held Link
  pub points : Held Point
  pub dnas : Held Dna

abbrev pub contents : Register → Contents
contents r = record {
  regions = held r.regions;
  corridors = held r.corridors;
  links = held r.links;
  points = held r.points;
  dnas = held r.dnas;
}

-- the entries alone; of the regions only their number matters
pub record Network : Type 0 where
  pub regions : ℕ
  pub corridors : List Corridor
  pub links : List Link
  pub points : List Point
  pub dnas : List Dna

abbrev pub network : Register → Network
network r = record {
  regions = size (held r.regions);
  corridors = (held r.corridors).entries;
  links = (held r.links).entries;
  points = (held r.points).entries;
  dnas = (held r.dnas).entries;
}
