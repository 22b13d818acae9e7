-- What a chosen loss book means.
use Rattle.losses.specs.Books.{Losses, lossless, segmented}
use Rattle.losses.specs.Fillings.{segments_at}
use Rattle.losses.specs.Views.{table}
use Rattle.chosen.specs.declared.book.AnyBook.{AnyBook}
use Rattle.chosen.specs.declared.book.AnyBook.TheVariants.{Lossless, Segments}

abbrev pub losses_of : AnyBook → Losses
losses_of (Lossless book) = lossless
losses_of (Segments book) = segmented (segments_at (table book))
