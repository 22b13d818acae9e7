-- The register's contents as a grid holds them.
use Rattle.units.specs.FixedLists.{listed}
use Rattle.register.specs.Contents.{Network}
use Rattle.grid.specs.declared.grid.Grid.{Grid}

abbrev pub of_grid : Grid → Network
of_grid g = record {
  regions = g.region_count;
  corridors = listed g.corridors;
  links = listed g.links;
  points = listed g.points;
  dnas = listed g.dnas;
}
