-- An interval's figures as its code holds them.
use Rattle.std.specs.Prelude.{ℕ, length, map, take}
use Rattle.units.specs.FixedLists.{listed}
use Rattle.grid.specs.declared.grid.Grid.{Grid}
use Rattle.interval.specs.Figures.{Figures}
use Rattle.interval.specs.declared.interval.Interval.{Interval}
use Rattle.interval.specs.declared.interval.Reading.{Reading}

abbrev pub sent_of : Reading → ℕ
sent_of r = r.sent

abbrev pub taken_of : Reading → ℕ
taken_of r = r.taken

-- the figures of the regions, links and points that are entered
abbrev pub of_interval : Grid → Interval → Figures
of_interval g t = record {
  number = t.number;
  prices = take g.region_count t.prices;
  flows = take (length (listed g.links)) t.flows;
  sent = take (length (listed g.points)) (map sent_of t.readings);
  taken = take (length (listed g.points)) (map taken_of t.readings);
}
