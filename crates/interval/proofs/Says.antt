-- Words that are read are the words of the figures that they say.
use Rattle.std.proofs.Common.{◌≡◌, ℕ, ◌+◌, ◌-◌, ◌*◌, ◌/◌, ◌%◌, ◌<◌, ◌≤◌, true, false, T, eqb, ltb, List, length, get_or, take, ℤ, pos, ◌≤ℤ◌, None, sym, ap, ◌∙◌, subst, inl, inr, ⊎_elim, arith}
use lib.Signed.{le_z, le_z_yes}
use Rattle.std.proofs.lemmas.List.{get_or-take, length-take-le}
use Rattle.std.proofs.lemmas.Bool.{cases_eq, cases_lt, and_from, and_parts, eqb-true, eq-eqb, ne_eqb, le-leb, cond-true, cond-false}
use Rattle.units.specs.Sums.{tabulate}
use Rattle.units.specs.Refusals.{done}
use Rattle.units.proofs.Tabulate.{length-tabulate, get_or-tabulate, get_or-tabulate_past}
use Rattle.register.specs.Contents.{Network}
use Rattle.interval.specs.Ranges.{lowest_price, highest_price, lowest_flow, highest_flow, highest_energy, Between, Upto}
use Rattle.interval.specs.Figures.{Figures, price, flow, sent_at, taken_at}
use Rattle.interval.specs.Words.{read, figures, word, present, from_to, figure, kind, count, ordinal, signed, point, energy, rank, reads, reading_of, readings_from, least_rank, opening_kind, price_kind, flow_kind, sent_kind, taken_kind, closing_kind}
use Rattle.interval.specs.Spelling.{of_kind, figure_word, metered, reading_word, Covers, InRange, Spells}
use Rattle.interval.proofs.Order.{required, fault_first, fault_price, fault_flow, fault_late}
use Rattle.interval.proofs.Metering.{IsReading}
use Rattle.interval.proofs.Whole.{readings_take}
use Rattle.interval.proofs.Parts.{in_24_bits_signed}
use Rattle.interval.proofs.Pieces.{Laid, laid_to}
use Rattle.interval.proofs.Accepted.{each, some, inside, last_word, is, rising, parts, reads_before, last_reading, found}

-- ---- lists made place by place, in range

between_tabulate : (low high : ℤ) (n : ℕ) (f : ℕ → ℤ) → low ≤ℤ pos 0 → pos 0 ≤ℤ high → ((k : ℕ) → k < n → (low ≤ℤ f k) × (f k ≤ℤ high))
    → Between low high (tabulate n f)
between_tabulate low high n f a b h k =
    ⊎_elim
    (λ (l : k < n). subst (λ z. (low ≤ℤ z) × (z ≤ℤ high)) (sym (get_or-tabulate n f k (pos 0) l)) (h k l))
    (λ (l : n ≤ k). subst (λ z. (low ≤ℤ z) × (z ≤ℤ high)) (sym (get_or-tabulate_past n f k (pos 0) l)) (a, b))
    (cases_lt k n)

upto_tabulate : (high n : ℕ) (f : ℕ → ℕ) → ((k : ℕ) → f k ≤ high) → Upto high (tabulate n f)
upto_tabulate high n f h k =
    ⊎_elim
    (λ (l : k < n). omega (arith, get_or-tabulate n f k 0 l, h k))
    (λ (l : n ≤ k). omega (arith, get_or-tabulate_past n f k 0 l))
    (cases_lt k n)

-- ---- a figure that passes

record IsFigure (k i : ℕ) (low high : ℤ) (w : ℕ) : Type 0 where
  pub word_is : w ≡ figure_word k i (signed w)
  pub range : (low ≤ℤ signed w) × (signed w ≤ℤ high)

le_from : (a b : ℤ) → le_z a b ≡ true → a ≤ℤ b
le_from a b e = le_z_yes (subst T (sym e) tt)

figure_passed : (ws : List ℕ) (k i : ℕ) (low high : ℤ) (j : ℕ) → present ws j (figure k i (from_to low high) j (word ws j)) ≡ None
    → IsFigure k i low high (word ws j)
figure_passed ws k i low high j h =
    let w = word ws j in
    let here = required (ltb j (length ws)) _ _ h in
    let kinds = required (eqb (kind w) k) _ _ here.1 in
    let order = required (eqb (ordinal w) i) _ _ kinds.1 in
    let range = and_parts (le_z low (signed w)) (le_z (signed w) high) (required (from_to low high (signed w)) _ _ order.1).0 in
    let a : kind w ≡ k = eqb-true (kind w) k kinds.0 in
    let b : ordinal w ≡ i = eqb-true (ordinal w) i order.0 in
    let d = in_24_bits_signed w in
    record { word_is = omega (arith, a, b, d); range = (le_from low (signed w) range.0, le_from (signed w) high range.1) }

module _ (net : Network) (ws : List ℕ) (n : ℕ) (whole : read net ws ≡ done n) where
  figs : Figures
  figs = figures net (take n ws)

  from : ℕ
  from = readings_from net

  regions : length figs.prices ≡ net.regions
  unfolding figs figures
  regions = length-tabulate net.regions _

  links : length figs.flows ≡ length net.links
  unfolding figs figures
  links = length-tabulate (length net.links) _

  senders : length figs.sent ≡ length net.points
  unfolding figs figures
  senders = length-tabulate (length net.points) _

  takers : length figs.taken ≡ length net.points
  unfolding figs figures
  takers = length-tabulate (length net.points) _

  fits : n ≤ length ws
  fits = let s = some net ws n whole in omega (arith, inside net ws n whole (n - 1) (omega arith))

  front : (j : ℕ) → j < n → word (take n ws) j ≡ word ws j
  front j l = get_or-take n ws j 0 l

  -- ---- what the figures are

  is_price : (r : ℕ) → r < net.regions → IsFigure price_kind r lowest_price highest_price (word ws (1 + r))
  is_price r l =
      let past = (last_word net ws n whole).0 in
      figure_passed ws price_kind r lowest_price highest_price (1 + r) (sym (fault_price net ws r l) ∙ (each net ws n whole (1 + r) (omega arith)).unrefused)

  is_flow : (l : ℕ) → l < length net.links → IsFigure flow_kind l lowest_flow highest_flow (word ws (1 + net.regions + l))
  is_flow l k =
      let past = (last_word net ws n whole).0 in
      figure_passed ws flow_kind l lowest_flow highest_flow (1 + net.regions + l)
      (sym (fault_flow net ws l k) ∙ (each net ws n whole (1 + net.regions + l) (omega arith)).unrefused)

  said_price : (r : ℕ) → r < net.regions → price figs r ≡ signed (word ws (1 + r))
  unfolding figs figures
  said_price r l =
      let past = (last_word net ws n whole).0 in
      get_or-tabulate net.regions (λ r. signed (word (take n ws) (1 + r))) r (pos 0) l ∙ ap signed (front (1 + r) (omega arith))

  said_flow : (l : ℕ) → l < length net.links → flow figs l ≡ signed (word ws (1 + net.regions + l))
  unfolding figs figures
  said_flow l k =
      let past = (last_word net ws n whole).0 in
      get_or-tabulate (length net.links) (λ l. signed (word (take n ws) (1 + net.regions + l))) l (pos 0) k ∙ ap signed (front (1 + net.regions + l) (omega arith))

  reading : (k p : ℕ) → reading_of net (take n ws) (length (take n ws)) k p ≡ reading_of net ws n k p
  reading k p = ap (λ m. reading_of net (take n ws) m k p) (length-take-le n ws fits) ∙ readings_take net ws n n k p (omega arith)

  said_sent : (p : ℕ) → p < length net.points → sent_at figs p ≡ reading_of net ws n sent_kind p
  unfolding figs figures
  said_sent p l = get_or-tabulate (length net.points) _ p 0 l ∙ reading sent_kind p

  said_taken : (p : ℕ) → p < length net.points → taken_at figs p ≡ reading_of net ws n taken_kind p
  unfolding figs figures
  said_taken p l = get_or-tabulate (length net.points) _ p 0 l ∙ reading taken_kind p

  said_metered : (m : ℕ) → m < 2 * length net.points → metered figs m ≡ reading_of net ws n (sent_kind + m % 2) (m / 2)
  said_metered m l =
      ⊎_elim
      (λ (e : m % 2 ≡ 0).
      cond-true (eqb (m % 2) 0) (sent_at figs (m / 2)) (taken_at figs (m / 2)) (eq-eqb (m % 2) 0 e) ∙ said_sent (m / 2) (omega arith)
      ∙ ap (λ k. reading_of net ws n k (m / 2)) (omega arith))
      (λ (ne : m % 2 ≡ 0 → ⊥).
      cond-false (eqb (m % 2) 0) (sent_at figs (m / 2)) (taken_at figs (m / 2)) (ne_eqb (m % 2) 0 ne) ∙ said_taken (m / 2) (omega arith)
      ∙ ap (λ k. reading_of net ws n k (m / 2)) (omega arith))
      (cases_eq (m % 2) 0)

  -- ---- in range

  reading_range : (k p : ℕ) → k < 6 → reading_of net ws n k p ≤ highest_energy
  reading_range k p small =
      ⊎_elim
      (λ (h : (i : ℕ) × (i < n) × (reads net ws k p i ≡ true) × (reading_of net ws n k p ≡ energy (word ws i))).
      omega (arith, h.3, (is net ws n whole h.0 (parts net ws n k p h.0 h.2).0 (reads_before net ws n whole k p h.0 small h.1 h.2)).in_range))
      (λ (h : (reading_of net ws n k p ≡ 0) × ((i : ℕ) → i < n → reads net ws k p i ≡ false)). omega (arith, h.0))
      (last_reading net ws n n k p)

  in_range : InRange net figs
  unfolding figs figures
  in_range =
      let past = (last_word net ws n whole).0 in
      record {
        number = omega arith;
        regions = regions;
        links = links;
        senders = senders;
        takers = takers;
        price_range = between_tabulate lowest_price highest_price net.regions _ (le_z_yes tt) (le_z_yes tt)
            (λ r l. subst (λ w. (lowest_price ≤ℤ signed w) × (signed w ≤ℤ highest_price)) (sym (front (1 + r) (omega arith))) (is_price r l).range);
        flow_range = between_tabulate lowest_flow highest_flow (length net.links) _ (le_z_yes tt) (le_z_yes tt)
            (λ l k. subst (λ w. (lowest_flow ≤ℤ signed w) × (signed w ≤ℤ highest_flow)) (sym (front (1 + net.regions + l) (omega arith))) (is_flow l k).range);
        sent_range = upto_tabulate highest_energy (length net.points) _ (λ p. omega (arith, reading sent_kind p, reading_range sent_kind p (omega arith)));
        taken_range = upto_tabulate highest_energy (length net.points) _ (λ p. omega (arith, reading taken_kind p, reading_range taken_kind p (omega arith)));
      }

  -- ---- the meters that are read

  meter : ℕ → ℕ
  meter k = rank (word ws (from + k)) - 4

  readings : ℕ
  readings = n - 1 - from

  meters : List ℕ
  meters = tabulate readings meter

  meters_length : length meters ≡ readings
  unfolding meters
  meters_length = length-tabulate readings meter

  meter_at : (k : ℕ) → k < readings → get_or meters k 0 ≡ meter k
  unfolding meters
  meter_at k l = get_or-tabulate readings meter k 0 l

  is_reading : (k : ℕ) → k < readings → IsReading (length net.points) (least_rank net ws (from + k)) (word ws (from + k))
  unfolding from readings
  is_reading k l = is net ws n whole (from + k) (omega arith) (omega arith)

  -- the kind and the point of the meter of a word
  meter_parts : (k : ℕ) → k < readings → (sent_kind + meter k % 2 ≡ kind (word ws (from + k))) × (meter k / 2 ≡ point (word ws (from + k)))
  unfolding meter
  meter_parts k l =
      ⊎_elim
      (λ (e : kind (word ws (from + k)) ≡ sent_kind). (omega arith, omega arith))
      (λ (e : kind (word ws (from + k)) ≡ taken_kind). (omega arith, omega arith))
      (is_reading k l).of_kind

  meter_lt : (k : ℕ) → k < readings → meter k < 2 * length net.points
  meter_lt k l = let m = meter_parts k l in let p = (is_reading k l).at_point in omega arith

  reads_own : (k : ℕ) → k < readings → reads net ws (sent_kind + meter k % 2) (meter k / 2) (from + k) ≡ true
  unfolding from
  reads_own k l =
      let m = meter_parts k l in
      and_from _ _ (le-leb (readings_from net) (from + k) (omega arith))
      (and_from _ _ (eq-eqb (kind (word ws (from + k))) _ (sym m.0)) (eq-eqb (point (word ws (from + k))) _ (sym m.1)))

  -- a reading is the word of its meter
  reading_is : (k : ℕ) → k < readings → word ws (from + k) ≡ reading_word figs (meter k)
  unfolding from readings
  reading_is k l =
      let m = meter_parts k l in
      let e = said_metered (meter k) (meter_lt k l) ∙ found net ws n whole (sent_kind + meter k % 2) (meter k / 2) (from + k) (omega arith) (omega arith) (reads_own k l) in
      omega (arith, m.0, m.1, e)

  covers : Covers figs meters
  unfolding from readings meter
  covers = record {
    rising = λ i j lt l.
        let count = meters_length in
        let up = rising net ws n whole (from + i) (from + j) (omega arith) (omega arith) (omega arith) in
        let low = (meter_parts i (omega arith)).0 in
        omega (arith, meter_at i (omega arith), meter_at j (omega arith));
    entered = λ i l. let count = meters_length in omega (arith, senders, meter_at i (omega arith), meter_lt i (omega arith));
    whole = λ m l.
        let count = meters_length in
        let few : m < 2 * length net.points = omega (arith, senders) in
        ⊎_elim
        (λ (h : (i : ℕ) × (i < n) × (reads net ws (sent_kind + m % 2) (m / 2) i ≡ true) × (reading_of net ws n (sent_kind + m % 2) (m / 2) ≡ energy (word ws i))).
        let own = parts net ws n (sent_kind + m % 2) (m / 2) h.0 h.2 in
        let more = reads_before net ws n whole (sent_kind + m % 2) (m / 2) h.0 (omega arith) h.1 h.2 in
        let same : from + (h.0 - from) ≡ h.0 = omega (arith, own.0) in
        let at = ap (λ j. rank (word ws j)) same in
        inr (h.0 - from, omega (arith, own.0), meter_at (h.0 - from) (omega (arith, own.0)) ∙ omega (arith, at, own.1, own.2)))
        (λ (h : (reading_of net ws n (sent_kind + m % 2) (m / 2) ≡ 0) × ((i : ℕ) → i < n → reads net ws (sent_kind + m % 2) (m / 2) i ≡ false)).
        inl (said_metered m few ∙ h.0))
        (last_reading net ws n n (sent_kind + m % 2) (m / 2));
  }

  -- ---- the words

  first : word ws 0 ≡ of_kind opening_kind figs.number
  unfolding figs figures
  first =
      let pass = sym (fault_first net ws) ∙ (each net ws n whole 0 (some net ws n whole)).unrefused in
      let kinds = eqb-true (kind (word ws 0)) opening_kind (required (eqb (kind (word ws 0)) opening_kind) _ _ (required (ltb 0 (length ws)) _ _ pass).1).0 in
      let same = ap count (front 0 (some net ws n whole)) in
      omega (arith, kinds, same)

  last : word ws (n - 1) ≡ of_kind closing_kind (n - 1)
  last =
      let end = last_word net ws n whole in
      let w = word ws (n - 1) in
      let pass = sym (fault_late net ws (n - 1) (omega (arith, end.0))) ∙ (each net ws n whole (n - 1) (omega (arith, end.0))).unrefused in
      let closed = sym (cond-true (eqb (kind w) closing_kind) _ _ end.1) ∙ (required (ltb (n - 1) (length ws)) _ _ pass).1 in
      let counted = eqb-true (count w) (n - 1) (required (eqb (count w) (n - 1)) _ _ closed).0 in
      let kinds = eqb-true (kind w) closing_kind end.1 in
      omega (arith, counted, kinds)

  laid : Laid ws n figs meters
  unfolding from readings
  laid =
      let past = (last_word net ws n whole).0 in
      let a = regions in
      let b = links in
      let d = meters_length in
      let start : 1 + length figs.prices + length figs.flows ≡ from = omega arith in
      let end : 1 + length figs.prices + length figs.flows + length meters ≡ n - 1 = omega arith in
      record {
        inside = fits;
        size = omega arith;
        first = first;
        in_prices = λ r l. let k : r < net.regions = omega arith in (is_price r k).word_is ∙ ap (figure_word price_kind r) (sym (said_price r k));
        in_flows = λ l k.
            let m : l < length net.links = omega arith in
            ap (λ i. word ws (1 + i + l)) a ∙ (is_flow l m).word_is ∙ ap (figure_word flow_kind l) (sym (said_flow l m));
        in_readings = λ k l.
            let m : k < readings = omega arith in
            ap (λ i. word ws (i + k)) start ∙ reading_is k m ∙ ap (reading_word figs) (sym (meter_at k m));
        last = subst (λ j. word ws j ≡ of_kind closing_kind j) (sym end) last;
      }

  pub says : (n ≤ length ws) × Spells net (take n ws) (figures net (take n ws))
  unfolding figs
  says = (fits, (in_range, (meters, covers, laid_to ws n figs meters laid)))
