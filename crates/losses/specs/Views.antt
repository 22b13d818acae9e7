-- What the types of the code hold.
use Rattle.std.specs.Prelude.{List, map}
use Rattle.losses.specs.declared.curve.Curve.{Curve}
use Rattle.losses.specs.declared.segments.Segments.{Segments}
use Rattle.losses.specs.declared.split.Split.{Split}
use Rattle.losses.specs.declared.curve.Segment.{Segment}
use Rattle.losses.specs.Books.{Losses, split}
use Rattle.losses.specs.Fillings.{Table}
use Rattle.units.specs.FixedLists.{listed}

-- the segments of a curve
abbrev pub segments : Curve → List Segment
segments c = listed c.segments

-- the segments of a book, curve by curve
abbrev pub table : Segments → Table
table book = map segments book.curves

-- the losses of a split book, by what its two books mean
abbrev pub split_losses : {A B : Type 0} → (A → Losses) → (B → Losses) → Split A B → Losses
split_losses first second book = split book.below (first book.first) (second book.second)
