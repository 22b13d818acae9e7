-- The segments that a book may be filled with, and what a filling leaves.
use Rattle.std.specs.Prelude.{ℕ, ◌+◌, ◌*◌, Bool, true, cond, ◌&&◌, ◌||◌, List, [], ◌∷◌, ◌++◌, length, Some, None, Option, nat_le, nat_lt, slice_index_or, slice_set}
use Rattle.std.specs.Option.{option_map_or}
use Rattle.units.specs.Refusals.{unless}
use Rattle.losses.specs.declared.curve.Segment.{Segment}
use Rattle.losses.specs.declared.direction.Direction.{Direction}
use Rattle.losses.specs.Directions.{number, numbered}

-- the segment with an upper end and a slope
abbrev pub segment : ℕ → ℕ → Segment
segment upper slope = record { upper = upper; slope = slope }

-- a segment that may follow an upper end `low`
abbrev pub may_follow : ℕ → Segment → Bool
may_follow low s = (nat_lt low s.upper && nat_le s.upper 200000) && nat_le s.slope 10000

-- each segment may follow the one before, and the first of them `low`
abbrev pub rising : ℕ → List Segment → Bool
rising low [] = true
rising low (s ∷ more) = may_follow low s && rising s.upper more

-- the last upper end, or `low` where there is no segment
abbrev pub last_end : ℕ → List Segment → ℕ
last_end low [] = low
last_end low (s ∷ more) = last_end s.upper more

-- the first unfit parameter of a segment that is added to others: 2 the upper end, 3 the slope; 4 where there are 8 already
abbrev pub unfit_segment : List Segment → ℕ → ℕ → Option ℕ
unfit_segment segments upper slope =
    cond (nat_le upper (last_end 0 segments) || nat_lt 200000 upper) (Some 2) (cond (nat_lt 10000 slope) (Some 3) (cond (nat_le 8 (length segments)) (Some 4) None))

-- the segments of a book: of link 0 from region 1, of link 0 from region 2, of link 1 from region 1, and so on
abbrev pub Table : Type 0
Table = List (List Segment)

-- where a table has the segments of a link in a direction
abbrev pub index : ℕ → Direction → ℕ
index link direction = 2 * link + number direction

-- the segments of a link in a direction
abbrev pub segments_at : Table → ℕ → Direction → List Segment
segments_at table link direction = slice_index_or table (index link direction) []

-- the first unfit parameter of a filling: 0 the link, 1 the direction's number, and from 2 on as of a segment
abbrev pub unfit : Table → ℕ → ℕ → ℕ → ℕ → Option ℕ
unfit table link n upper slope =
    cond (nat_lt 7 link) (Some 0) (option_map_or (λ direction. unfit_segment (segments_at table link direction) upper slope) (numbered n) (Some 1))

-- the segments with one more for a link in a direction
abbrev pub one_more : Table → ℕ → ℕ → ℕ → Direction → Table
one_more table link upper slope direction = slice_set table (index link direction) (segments_at table link direction ++ (segment upper slope ∷ []))

-- the segments after a filling: one more for the link in the direction, unless it is refused
abbrev pub filled : Table → ℕ → ℕ → ℕ → ℕ → Table
filled table link n upper slope =
    unless (unfit table link n upper slope) (option_map_or (one_more table link upper slope) (numbered n) table) table
