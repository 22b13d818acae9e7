-- The words of given figures, as a sender writes them.
use Rattle.std.specs.Prelude.{◌≡◌, ℕ, suc, ◌+◌, ◌-◌, ◌*◌, ◌/◌, ◌%◌, ◌^◌, ◌<◌, ◌≤◌, cond, ◌⊎◌, List, [], ◌∷◌, ◌++◌, map, length, take, ℤ, pos, negsuc, ◌==◌, slice_index}
use Rattle.units.specs.Sums.{tabulate}
use Rattle.register.specs.Contents.{Network}
use Rattle.interval.specs.Ranges.{number_limit, lowest_price, highest_price, lowest_flow, highest_flow, highest_energy, Between, Upto}
use Rattle.interval.specs.Figures.{Figures, price, flow, sent_at, taken_at}
use Rattle.interval.specs.Words.{opening_kind, price_kind, flow_kind, sent_kind, closing_kind}

-- a word of kind k with n in its low 28 bits
abbrev pub of_kind : ℕ → ℕ → ℕ
of_kind k n = k * 2 ^ 28 + n

-- a price or a flow in 24 bits, two's complement
abbrev pub in_24_bits : ℤ → ℕ
in_24_bits (pos n) = n
in_24_bits (negsuc n) = 2 ^ 24 - suc n

-- the word of kind k for region or link i, with its price or flow z
abbrev pub figure_word : ℕ → ℕ → ℤ → ℕ
figure_word k i z = of_kind k (i * 2 ^ 24 + in_24_bits z)

-- Meter 2p measures what point p sends out, meter 2p + 1 what it takes in.
abbrev pub metered : Figures → ℕ → ℕ
metered figs m = cond (m % 2 == 0) (sent_at figs (m / 2)) (taken_at figs (m / 2))

-- the reading of a meter
abbrev pub reading_word : Figures → ℕ → ℕ
reading_word figs m = of_kind (sent_kind + m % 2) (m / 2 * 2 ^ 20 + metered figs m)

-- the words of the figures where these meters are read: all but the closing one, and all
abbrev pub words_before : Figures → List ℕ → List ℕ
words_before figs meters =
    of_kind opening_kind figs.number
    ∷ (tabulate (length figs.prices) (λ r. figure_word price_kind r (price figs r))
    ++ (tabulate (length figs.flows) (λ l. figure_word flow_kind l (flow figs l))
    ++ map (reading_word figs) meters))

abbrev pub words_of : Figures → List ℕ → List ℕ
words_of figs meters =
    words_before figs meters ++ (of_kind closing_kind (length (words_before figs meters)) ∷ [])

-- the meters are in rising order, and each that measured something is among them
pub record Covers (figs : Figures) (meters : List ℕ) : Type 0 where
  pub rising : (i j : ℕ) → i < j → j < length meters → slice_index meters i < slice_index meters j
  pub entered : (i : ℕ) → i < length meters → slice_index meters i < 2 * length figs.sent
  pub whole : (m : ℕ) → m < 2 * length figs.sent
      → (metered figs m ≡ 0) ⊎ ((i : ℕ) × (i < length meters) × (slice_index meters i ≡ m))

-- the figures are of the network's regions, links and points, and in range
pub record InRange (net : Network) (figs : Figures) : Type 0 where
  pub number : figs.number < number_limit
  pub regions : length figs.prices ≡ net.regions
  pub links : length figs.flows ≡ length net.links
  pub senders : length figs.sent ≡ length net.points
  pub takers : length figs.taken ≡ length net.points
  pub price_range : Between lowest_price highest_price figs.prices
  pub flow_range : Between lowest_flow highest_flow figs.flows
  pub sent_range : Upto highest_energy figs.sent
  pub taken_range : Upto highest_energy figs.taken

-- ws are the words of these figures; a reading of 0 may stand there or be left out
abbrev pub Spells : Network → List ℕ → Figures → Type 0
Spells net ws figs = InRange net figs × ((meters : List ℕ) × Covers figs meters × (ws ≡ words_of figs meters))

-- no words at the front of ws are those of figures in range
abbrev pub Unspelled : Network → List ℕ → Type 0
Unspelled net ws = (n : ℕ) (figs : Figures) → n ≤ length ws → Spells net (take n ws) figs → ⊥
