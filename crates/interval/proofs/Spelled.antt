-- The words of figures are read, and say these figures.
use Rattle.std.proofs.Common.{◌≡◌, ℕ, zero, suc, ◌+◌, ◌-◌, ◌*◌, ◌/◌, ◌%◌, ◌^◌, ◌<◌, ◌≤◌, Bool, true, false, ◌&&◌, ◌||◌, T, eqb, ltb, leb, List, length, get_or, take, ℤ, pos, negsuc, ◌≤ℤ◌, None, Option, sym, refl, ap, ◌∙◌, subst, inr, ⊎_elim, add-one, arith}
use lib.Signed.{le_z}
use Rattle.std.proofs.lemmas.List.{get_or-take, get_or_default, length-take-le}
use Rattle.std.proofs.lemmas.Int.{ints}
use Rattle.std.proofs.lemmas.Bool.{false≢true, both_ways, cases_eq, cases_lt, and_from, or_left, or_right, eq-eqb, ne_eqb, lt-ltb, le-leb, cond-true, cond-false, cond_both}
use Rattle.units.specs.Sums.{tabulate}
use Rattle.units.specs.Refusals.{Refused, done, turned_down}
use Rattle.units.proofs.Tabulate.{tabulate_is, length-tabulate, get_or-tabulate}
use Rattle.register.specs.Contents.{Network}
use Rattle.interval.specs.Ranges.{lowest_price, highest_price, lowest_flow, highest_flow, highest_energy}
use Rattle.interval.specs.Figures.{Figures, price, flow, sent_at, taken_at}
use Rattle.interval.specs.Words.{read, fault, closes, figures, word, require, present, from_to, figure, kind, count, ordinal, signed, point, energy, rank, reads, reading_of, readings_from, least_rank, opening_kind, price_kind, flow_kind, sent_kind, taken_kind, closing_kind}
use Rattle.interval.specs.Spelling.{of_kind, in_24_bits, figure_word, metered, reading_word, words_of, Covers, InRange, Unspelled}
use Rattle.interval.specs.Laws.{Enterable, SpelledIsRead, AllAreSpelled}
use Rattle.interval.specs.Steps.{Reached}
use Rattle.interval.proofs.Order.{fault_first, fault_price, fault_flow, fault_late, least_none, least_more, open_before, closes_after, reached_none, reached_more, ended}
use Rattle.interval.proofs.Whole.{readings_take}
use Rattle.interval.proofs.Parts.{kind_of, count_of, ordinal_of, signed_of, point_of, energy_of, in_24_bits_lt, signed_in_24_bits}
use Rattle.interval.proofs.Pieces.{Laid, by_part, laid_from}
use Rattle.interval.proofs.Accepted.{last_reading, parts}

-- ---- tests that pass

pass : (b : Bool) (r : Refused) (rest : Option Refused) → b ≡ true → rest ≡ None → require b r rest ≡ None
pass true r rest e h = h
pass false r rest e h = absurd (false≢true e)

passes : (b : Bool) → T b → b ≡ true
passes true t = refl
passes false t = absurd t

-- ---- the words of a figure and of a reading

module _ (k i : ℕ) (z : ℤ) (few : i < 16) (low : negsuc 8388607 ≤ℤ z) (high : z ≤ℤ pos 8388607) where
  figure_low : i * 2 ^ 24 + in_24_bits z < 2 ^ 28
  figure_low = omega (arith, in_24_bits_lt z low high)

  figure_kind : kind (figure_word k i z) ≡ k
  figure_kind = kind_of k (i * 2 ^ 24 + in_24_bits z) figure_low

  figure_ordinal : ordinal (figure_word k i z) ≡ i
  figure_ordinal = ordinal_of k (i * 2 ^ 24 + in_24_bits z) figure_low ∙ omega (arith, in_24_bits_lt z low high)

  figure_signed : signed (figure_word k i z) ≡ z
  figure_signed = signed_of k (i * 2 ^ 24 + in_24_bits z) figure_low ∙ signed_in_24_bits i z low high

  figure_unrefused : (ws : List ℕ) (j : ℕ) (least most : ℤ) → j < length ws → least ≤ℤ z → z ≤ℤ most → word ws j ≡ figure_word k i z
      → present ws j (figure k i (from_to least most) j (word ws j)) ≡ None
  figure_unrefused ws j least most lt a b e =
      let s : signed (word ws j) ≡ z = ap signed e ∙ figure_signed in
      pass (ltb j (length ws)) _ _ (lt-ltb j (length ws) lt)
      (pass (eqb (kind (word ws j)) k) _ _ (eq-eqb (kind (word ws j)) k (ap kind e ∙ figure_kind))
      (pass (eqb (ordinal (word ws j)) i) _ _ (eq-eqb (ordinal (word ws j)) i (ap ordinal e ∙ figure_ordinal))
      (pass (from_to least most (signed (word ws j))) _ _
      (subst (λ y. from_to least most y ≡ true) (sym s) (and_from (le_z least z) (le_z z most) (passes (le_z least z) a.le) (passes (le_z z most) b.le))) refl)))

module _ (figs : Figures) (m : ℕ) (few : m < 256) (small : metered figs m ≤ highest_energy) where
  reading_low : m / 2 * 2 ^ 20 + metered figs m < 2 ^ 28
  reading_low = omega arith

  reading_kind : kind (reading_word figs m) ≡ sent_kind + m % 2
  reading_kind = kind_of (sent_kind + m % 2) (m / 2 * 2 ^ 20 + metered figs m) reading_low

  reading_point : point (reading_word figs m) ≡ m / 2
  reading_point = point_of (sent_kind + m % 2) (m / 2 * 2 ^ 20 + metered figs m) reading_low ∙ omega arith

  reading_energy : energy (reading_word figs m) ≡ metered figs m
  reading_energy = energy_of (sent_kind + m % 2) (m / 2 * 2 ^ 20 + metered figs m) reading_low ∙ omega arith

module _ (net : Network) (ws : List ℕ) (n : ℕ) (figs : Figures) (meters : List ℕ) (few : Enterable net) (range : InRange net figs) (covers : Covers figs meters) (laid : Laid ws n figs meters) where
  from : ℕ
  from = readings_from net

  -- ---- places by the network's counts

  starts : 1 + length figs.prices + length figs.flows ≡ from
  unfolding from
  starts = omega (arith, range.regions, range.links)

  size : n ≡ from + length meters + 1
  size = omega (arith, laid.size, starts)

  flow_at : (l : ℕ) → l < length net.links → word ws (1 + net.regions + l) ≡ figure_word flow_kind l (flow figs l)
  flow_at l k = ap (λ a. word ws (1 + a + l)) (sym range.regions) ∙ laid.in_flows l (omega (arith, range.links))

  meter : ℕ → ℕ
  meter k = get_or meters k 0

  reading_at : (k : ℕ) → k < length meters → word ws (from + k) ≡ reading_word figs (meter k)
  unfolding meter
  reading_at k l = ap (λ a. word ws (a + k)) (sym starts) ∙ laid.in_readings k l

  last_at : word ws (from + length meters) ≡ of_kind closing_kind (from + length meters)
  last_at = subst (λ a. word ws (a + length meters) ≡ of_kind closing_kind (a + length meters)) starts laid.last

  -- ---- meters

  meter_lt : (k : ℕ) → k < length meters → meter k < 2 * length net.points
  unfolding meter
  meter_lt k l = omega (arith, covers.entered k l, range.senders)

  meter_few : (k : ℕ) → k < length meters → meter k < 256
  meter_few k l = omega (arith, meter_lt k l, few.points)

  -- a rising list has no more places than numbers
  meter_ge : (k : ℕ) → k < length meters → k ≤ meter k
  unfolding meter
  meter_ge zero l = omega arith
  meter_ge (suc k) l = omega (arith, meter_ge k (omega arith), covers.rising k (suc k) (omega arith) l)

  meters_few : length meters ≤ 256
  meters_few =
      ⊎_elim
      (λ (l : 0 < length meters). omega (arith, meter_ge (length meters - 1) (omega arith), meter_few (length meters - 1) (omega arith)))
      (λ (l : length meters ≤ 0). omega arith)
      (cases_lt 0 (length meters))

  metered_small : (m : ℕ) → metered figs m ≤ highest_energy
  metered_small m =
      cond_both (eqb (m % 2) 0) (sent_at figs (m / 2)) (taken_at figs (m / 2)) (λ x. x ≤ highest_energy) (λ _. range.sent_range (m / 2)) (λ _. range.taken_range (m / 2))

  module _ (k : ℕ) (l : k < length meters) where
    kind_at : kind (word ws (from + k)) ≡ sent_kind + meter k % 2
    kind_at = ap kind (reading_at k l) ∙ reading_kind figs (meter k) (meter_few k l) (metered_small (meter k))

    point_at : point (word ws (from + k)) ≡ meter k / 2
    point_at = ap point (reading_at k l) ∙ reading_point figs (meter k) (meter_few k l) (metered_small (meter k))

    energy_at : energy (word ws (from + k)) ≡ metered figs (meter k)
    energy_at = ap energy (reading_at k l) ∙ reading_energy figs (meter k) (meter_few k l) (metered_small (meter k))

    rank_at : rank (word ws (from + k)) ≡ meter k + 4
    rank_at = omega (arith, kind_at, point_at)

  least_at : (k : ℕ) → k < length meters → least_rank net ws (from + k) ≤ rank (word ws (from + k))
  unfolding from meter
  least_at zero l =
      let same : from + 0 ≡ from = omega arith in
      let none = ap (least_rank net ws) same ∙ least_none net ws in
      omega (arith, none)
  least_at (suc k) l =
      let same : from + suc k ≡ from + k + 1 = omega arith in
      let more = ap (least_rank net ws) same ∙ least_more net ws (from + k) (omega arith) in
      omega (arith, more, rank_at k (omega arith), rank_at (suc k) l, covers.rising k (suc k) (omega arith) l)

  -- ---- no word is refused, and none before the last closes

  Open : ℕ → Type 0
  Open j = (fault net ws j ≡ None) × (j + 1 < n → closes net ws j ≡ false)

  within : (j : ℕ) → j < n → j < length ws
  within j l = omega (arith, laid.inside)

  open_first : Open 0
  unfolding Open from
  open_first =
      let lt : 0 < n = omega (arith, size) in
      let kinds = ap kind laid.first ∙ kind_of opening_kind figs.number range.number in (
        fault_first net ws ∙ pass (ltb 0 (length ws)) _ _ (lt-ltb 0 (length ws) (within 0 lt)) (pass (eqb (kind (word ws 0)) opening_kind) _ _ (eq-eqb (kind (word ws 0)) opening_kind kinds) refl),
        λ _. open_before net ws 0 (omega arith),
      )

  open_price : (r : ℕ) → r < net.regions → Open (1 + r)
  unfolding Open from
  open_price r l =
      let low = (range.price_range r).0 in
      let high = (range.price_range r).1 in (
        fault_price net ws r l
            ∙ figure_unrefused price_kind r (price figs r) (omega (arith, few.regions)) (omega (arith, ints)) (omega (arith, ints))
            ws (1 + r) lowest_price highest_price (within (1 + r) (omega (arith, size))) low high (laid.in_prices r (omega (arith, range.regions))),
        λ _. open_before net ws (1 + r) (omega arith),
      )

  open_flow : (l : ℕ) → l < length net.links → Open (1 + net.regions + l)
  unfolding Open from
  open_flow l k =
      let low = (range.flow_range l).0 in
      let high = (range.flow_range l).1 in (
        fault_flow net ws l k
            ∙ figure_unrefused flow_kind l (flow figs l) (omega (arith, few.links)) (omega (arith, ints)) (omega (arith, ints))
            ws (1 + net.regions + l) lowest_flow highest_flow (within (1 + net.regions + l) (omega (arith, size))) low high (flow_at l k),
        λ _. open_before net ws (1 + net.regions + l) (omega arith),
      )

  not_closing : (k : ℕ) → k < length meters → eqb (kind (word ws (from + k))) closing_kind ≡ false
  not_closing k l = ne_eqb (kind (word ws (from + k))) closing_kind (λ e. omega (arith, kind_at k l))

  open_reading : (k : ℕ) → k < length meters → Open (from + k)
  unfolding Open from
  open_reading k l =
      let w = word ws (from + k) in
      let kinds : (eqb (kind w) sent_kind || eqb (kind w) taken_kind) ≡ true =
      ⊎_elim
      (λ (e : meter k % 2 ≡ 0). or_left (eqb (kind w) sent_kind) _ (eq-eqb (kind w) sent_kind (omega (arith, kind_at k l))))
      (λ (e : meter k % 2 ≡ 0 → ⊥). or_right (eqb (kind w) sent_kind) (eqb (kind w) taken_kind) (eq-eqb (kind w) taken_kind (omega (arith, kind_at k l))))
      (cases_eq (meter k % 2) 0) in (
        fault_late net ws (from + k) (omega arith)
            ∙ pass (ltb (from + k) (length ws)) _ _ (lt-ltb (from + k) (length ws) (within (from + k) (omega (arith, size))))
            (cond-false (eqb (kind w) closing_kind) _ _ (not_closing k l)
            ∙ pass (eqb (kind w) sent_kind || eqb (kind w) taken_kind) _ _ kinds
            (pass (leb (least_rank net ws (from + k)) (rank w)) _ _ (le-leb (least_rank net ws (from + k)) (rank w) (least_at k l))
            (pass (ltb (point w) (length net.points) && leb (energy w) highest_energy) _ _
            (and_from _ _ (lt-ltb (point w) (length net.points) (omega (arith, point_at k l, meter_lt k l)))
            (le-leb (energy w) highest_energy (omega (arith, energy_at k l, metered_small (meter k))))) refl))),
        λ _. closes_after net ws (from + k) (omega arith) ∙ not_closing k l,
      )

  last_low : from + length meters < 2 ^ 28
  unfolding from
  last_low = omega (arith, few.regions, few.links, meters_few)

  closing_at : eqb (kind (word ws (from + length meters))) closing_kind ≡ true
  closing_at = eq-eqb (kind (word ws (from + length meters))) closing_kind (ap kind last_at ∙ kind_of closing_kind (from + length meters) last_low)

  open_last : Open (from + length meters)
  unfolding Open from
  open_last =
      let j = from + length meters in
      let w = word ws j in (
        fault_late net ws j (omega arith)
            ∙ pass (ltb j (length ws)) _ _ (lt-ltb j (length ws) (within j (omega (arith, size))))
            (cond-true (eqb (kind w) closing_kind) _ _ closing_at
            ∙ pass (eqb (count w) j) _ _ (eq-eqb (count w) j (ap count last_at ∙ count_of closing_kind j last_low)) refl),
        λ l. absurd (omega (arith, size)),
      )

  open_each : (j : ℕ) → j < n → Open j
  unfolding from
  open_each j l =
      by_part Open net.regions (length net.links) (length meters) open_first open_price open_flow open_reading open_last j (omega (arith, size))

  reach : (j : ℕ) → j < n → Reached net ws j
  unfolding Open
  reach zero l = reached_none net ws
  reach (suc j) l =
      let o = open_each j (omega arith) in
      subst (Reached net ws) (add-one j) (reached_more net ws j (reach j (omega arith)) (within j (omega arith)) o.0 (o.1 (omega arith)))

  pub is_read : read net ws ≡ done n
  unfolding Open from
  is_read =
      let j = from + length meters in
      ended net ws j (reach j (omega (arith, size))) open_last.0 (closes_after net ws j (omega arith) ∙ closing_at) ∙ ap done (sym size)

  -- ---- what the words say

  metered_read : (m : ℕ) → m < 2 * length net.points → metered figs m ≡ reading_of net ws n (sent_kind + m % 2) (m / 2)
  unfolding from meter
  metered_read m few' =
      ⊎_elim
      (λ (h : (i : ℕ) × (i < n) × (reads net ws (sent_kind + m % 2) (m / 2) i ≡ true) × (reading_of net ws n (sent_kind + m % 2) (m / 2) ≡ energy (word ws i))).
      let own = parts net ws n (sent_kind + m % 2) (m / 2) h.0 h.2 in
      let at : from + (h.0 - from) ≡ h.0 = omega (arith, own.0) in
      let l : h.0 - from < length meters =
      ⊎_elim
      (λ (e : h.0 ≡ from + length meters).
      let six = ap kind last_at ∙ kind_of closing_kind (from + length meters) last_low in
      let here = ap (λ j. kind (word ws j)) e in
      absurd (omega (arith, own.1, six, here)))
      (λ (ne : h.0 ≡ from + length meters → ⊥). omega (arith, size, own.0, h.1))
      (cases_eq h.0 (from + length meters)) in
      let here = ap (λ j. word ws j) at in
      let k = ap kind here in
      let p = ap point here in
      let v = ap energy here in
      let same : meter (h.0 - from) ≡ m = omega (arith, kind_at (h.0 - from) l, point_at (h.0 - from) l, own.1, own.2, k, p) in
      ap (metered figs) (sym same) ∙ sym (energy_at (h.0 - from) l) ∙ v ∙ sym h.3)
      (λ (h : (reading_of net ws n (sent_kind + m % 2) (m / 2) ≡ 0) × ((i : ℕ) → i < n → reads net ws (sent_kind + m % 2) (m / 2) i ≡ false)).
      ⊎_elim
      (λ (z : metered figs m ≡ 0). z ∙ sym h.0)
      (λ (at : (i : ℕ) × (i < length meters) × (get_or meters i 0 ≡ m)).
      let w = word ws (from + at.0) in
      let k = kind_at at.0 at.1 ∙ ap (λ x. sent_kind + x % 2) at.2 in
      let p = point_at at.0 at.1 ∙ ap (λ x. x / 2) at.2 in
      let t = and_from _ _ (le-leb (readings_from net) (from + at.0) (omega arith)) (and_from _ _ (eq-eqb (kind w) (sent_kind + m % 2) k) (eq-eqb (point w) (m / 2) p)) in
      absurd (both_ways (reads net ws (sent_kind + m % 2) (m / 2) (from + at.0)) (h.1 (from + at.0) (omega (arith, size, at.1))) t))
      (covers.whole m (omega (arith, range.senders))))
      (last_reading net ws n n (sent_kind + m % 2) (m / 2))

  front : (j : ℕ) → j < n → word (take n ws) j ≡ word ws j
  front j l = get_or-take n ws j 0 l

  reading : (k p : ℕ) → reading_of net ws n k p ≡ reading_of net (take n ws) (length (take n ws)) k p
  reading k p = sym (ap (λ m. reading_of net (take n ws) m k p) (length-take-le n ws laid.inside) ∙ readings_take net ws n n k p (omega arith))

  sent_is : (p : ℕ) → p < length net.points → sent_at figs p ≡ reading_of net (take n ws) (length (take n ws)) sent_kind p
  sent_is p l =
      let even : 2 * p % 2 ≡ 0 = omega arith in
      let half : 2 * p / 2 ≡ p = omega arith in
      ap (sent_at figs) (sym half) ∙ sym (cond-true (eqb (2 * p % 2) 0) (sent_at figs (2 * p / 2)) (taken_at figs (2 * p / 2)) (eq-eqb (2 * p % 2) 0 even))
      ∙ metered_read (2 * p) (omega arith) ∙ ap (λ k. reading_of net ws n (sent_kind + k) (2 * p / 2)) even ∙ ap (reading_of net ws n sent_kind) half ∙ reading sent_kind p

  taken_is : (p : ℕ) → p < length net.points → taken_at figs p ≡ reading_of net (take n ws) (length (take n ws)) taken_kind p
  taken_is p l =
      let odd : (2 * p + 1) % 2 ≡ 1 = omega arith in
      let half : (2 * p + 1) / 2 ≡ p = omega arith in
      ap (taken_at figs) (sym half)
      ∙ sym (cond-false (eqb ((2 * p + 1) % 2) 0) (sent_at figs ((2 * p + 1) / 2)) (taken_at figs ((2 * p + 1) / 2)) (ne_eqb ((2 * p + 1) % 2) 0 (λ e. omega arith)))
      ∙ metered_read (2 * p + 1) (omega arith) ∙ ap (λ k. reading_of net ws n (sent_kind + k) ((2 * p + 1) / 2)) odd ∙ ap (reading_of net ws n taken_kind) half ∙ reading taken_kind p

  price_is : (r : ℕ) → r < net.regions → price figs r ≡ signed (word (take n ws) (1 + r))
  unfolding from
  price_is r l =
      let low = (range.price_range r).0 in
      let high = (range.price_range r).1 in
      sym (ap signed (front (1 + r) (omega (arith, size)) ∙ laid.in_prices r (omega (arith, range.regions)))
      ∙ figure_signed price_kind r (price figs r) (omega (arith, few.regions)) (omega (arith, ints)) (omega (arith, ints)))

  flow_is : (l : ℕ) → l < length net.links → flow figs l ≡ signed (word (take n ws) (1 + net.regions + l))
  unfolding from
  flow_is l k =
      let low = (range.flow_range l).0 in
      let high = (range.flow_range l).1 in
      sym (ap signed (front (1 + net.regions + l) (omega (arith, size)) ∙ flow_at l k)
      ∙ figure_signed flow_kind l (flow figs l) (omega (arith, few.links)) (omega (arith, ints)) (omega (arith, ints)))

  pub says_figures : figs ≡ figures net (take n ws)
  unfolding figures
  says_figures =
      let number : figs.number ≡ count (word (take n ws) 0) =
      sym (ap count (front 0 (omega (arith, size)) ∙ laid.first) ∙ count_of opening_kind figs.number range.number) in
      let a = tabulate_is net.regions (λ r. signed (word (take n ws) (1 + r))) figs.prices range.regions
      (λ k d l. get_or_default figs.prices k d (pos 0) (omega (arith, range.regions)) ∙ price_is k l) in
      let b = tabulate_is (length net.links) (λ l. signed (word (take n ws) (1 + net.regions + l))) figs.flows range.links
      (λ k d l. get_or_default figs.flows k d (pos 0) (omega (arith, range.links)) ∙ flow_is k l) in
      let s = tabulate_is (length net.points) (reading_of net (take n ws) (length (take n ws)) sent_kind) figs.sent range.senders
      (λ k d l. get_or_default figs.sent k d 0 (omega (arith, range.senders)) ∙ sent_is k l) in
      let t = tabulate_is (length net.points) (reading_of net (take n ws) (length (take n ws)) taken_kind) figs.taken range.takers
      (λ k d l. get_or_default figs.taken k d 0 (omega (arith, range.takers)) ∙ taken_is k l) in
      λ i. record { number = number i; prices = a i; flows = b i; sent = s i; taken = t i }

pub spelled_is_read : SpelledIsRead
spelled_is_read net few ws n figs inside (range, (meters, covers, same)) =
    let laid = laid_from ws n figs meters inside same in
    (is_read net ws n figs meters few range covers laid, says_figures net ws n figs meters few range covers laid)

-- words that are refused begin with the words of no figures
pub refused_unspelled : (net : Network) → Enterable net → (ws : List ℕ) (r : Refused) → read net ws ≡ turned_down r → Unspelled net ws
refused_unspelled net few ws r e n figs inside spells =
    let d = (spelled_is_read net few ws n figs inside spells).0 in
    let z : ◌≡◌ {A = ℕ} 0 1 = cc in
    omega arith

-- every meter may be read
pub all_are_spelled : AllAreSpelled
all_are_spelled net figs range =
    let all = 2 * length figs.sent in
    let meters = tabulate all (λ m. m) in
    let count : length meters ≡ all = length-tabulate all (λ m. m) in
    let at : (k : ℕ) → k < all → get_or meters k 0 ≡ k = λ k l. get_or-tabulate all (λ m. m) k 0 l in
    let covers : Covers figs meters = record {
      rising = λ i j lt l. omega (arith, at i (omega arith), at j (omega arith));
      entered = λ i l. omega (arith, at i (omega arith));
      whole = λ m l. inr (m, omega arith, at m l);
    } in
    (words_of figs meters, (range, (meters, covers, refl)))
