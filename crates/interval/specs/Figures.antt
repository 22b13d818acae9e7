-- The figures of one interval.
use Rattle.std.specs.Prelude.{ℕ, List, ℤ, pos, slice_index, slice_index_or}

-- its number in the month, a price for each region, a flow for each link, and what each point sent out and took in
pub record Figures : Type 0 where
  pub number : ℕ
  pub prices : List ℤ
  pub flows : List ℤ
  pub sent : List ℕ
  pub taken : List ℕ

abbrev pub price : Figures → ℕ → ℤ
price figs r = slice_index_or figs.prices r (pos 0)

abbrev pub flow : Figures → ℕ → ℤ
flow figs l = slice_index_or figs.flows l (pos 0)

abbrev pub sent_at : Figures → ℕ → ℕ
sent_at figs p = slice_index figs.sent p

abbrev pub taken_at : Figures → ℕ → ℕ
taken_at figs p = slice_index figs.taken p
