-- What holds of the links of what is metered, with the losses that their book means.
use Rattle.register.specs.Contents.{Network}
use Rattle.losses.specs.Books.{Losses}
use Rattle.interval.specs.Figures.{Figures}
use Rattle.interval.specs.Metered.{network_of, figures_of}
use Rattle.transfers.specs.declared.links.Links.{Links}

abbrev pub of_links {ℓ} : {B : Type 0} {X : Type ℓ} → (B → Losses) → (Network → Figures → Losses → X) → Links B → X
of_links meaning f links = f (network_of links.metered) (figures_of links.metered) (meaning links.book.now)
