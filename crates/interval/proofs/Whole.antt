-- What the parts of an interval say together.
use Rattle.std.proofs.Common.{◌≡◌, ℕ, zero, suc, ◌+◌, ◌<◌, ◌≤◌, List, [], ◌∷◌, ◌++◌, length, get_or, map, take, ℤ, pos, ◌≤ℤ◌, None, sym, refl, ap, ◌∙◌, subst, arith, take-suc}
use lib.Signed.{le_z_yes}
use Rattle.std.proofs.Math.ListN.{get_or-map}
use Rattle.std.proofs.lemmas.List.{get_or-take, length-take-le, length-map}
use Rattle.units.specs.Sums.{tabulate}
use Rattle.register.specs.Contents.{Network}
use Rattle.interval.specs.Words.{word, price_kind, flow_kind, signed, count, opening, present, reading_of, readings_from, figures}
use Rattle.grid.specs.Views.{of_grid}
use Rattle.units.proofs.FixedLists.{listed_few}
use Rattle.interval.specs.Ranges.{lowest_price, highest_price, lowest_flow, highest_flow, highest_energy, Between, Upto}
use Rattle.interval.specs.Figures.{Figures}
use Rattle.interval.specs.Views.{sent_of, taken_of}
use Rattle.interval.specs.declared.interval.Reading.{Reading}
use Rattle.interval.specs.Laws.{IntervalsInRange}
use Rattle.interval.specs.Steps.{Figured, Reached, ReadReadings}
use Rattle.interval.proofs.Filled.{every_take}
use Rattle.interval.proofs.Order.{fault_first, open_before, reached_none, reached_more}

-- a list that has f's value at each place is f's list
pub listed : {A : Type 0} (d : A) (f : ℕ → A) (xs : List A) (n : ℕ) → n ≤ length xs → ((k : ℕ) → k < n → get_or xs k d ≡ f k) → take n xs ≡ tabulate n f
listed d f xs zero h same = refl
listed d f xs (suc n) h same =
    let e = listed d f xs n (omega arith) (λ k l. same k (omega arith)) in
    let v = same n (omega arith) in
    take-suc xs n d (omega arith) ∙ ap (λ ys. ys ++ (get_or xs n d ∷ [])) e ∙ ap (λ y. tabulate n f ++ (y ∷ [])) v

module _ (net : Network) (ws : List ℕ) where
  pub reached_first : 0 < length ws → present ws 0 (opening 0 (word ws 0)) ≡ None → Reached net ws 1
  reached_first lt e = reached_more net ws 0 (reached_none net ws) lt (fault_first net ws ∙ e) (open_before net ws 0 (omega arith))

  -- the words beyond the first m say nothing of them
  pub readings_take : (m n k p : ℕ) → n ≤ m → reading_of net (take m ws) n k p ≡ reading_of net ws n k p
  unfolding reading_of
  readings_take m zero k p h = refl
  readings_take m (suc n) k p h =
      let e : word (take m ws) n ≡ word ws n = get_or-take m ws n 0 (omega arith) in
      let r = readings_take m n k p (omega arith) in
      rw (e, r)

  module _ (used : ℕ) (fits : used ≤ length ws) where
    -- a list of figures from `start` on
    front : (start n k : ℕ) (low high : ℤ) (xs : List ℤ) → Figured ws start n k low high 8 xs → n ≤ 8 → start + n ≤ used
        → take n xs ≡ tabulate n (λ i. signed (word (take used ws) (start + i)))
    front start n k low high xs h few within =
        let room : length xs ≡ 8 = h.room in
        listed (pos 0) (λ i. signed (word (take used ws) (start + i))) xs n (omega arith)
        (λ i l. h.said i l ∙ ap signed (sym (get_or-take used ws (start + i) 0 (omega arith))))

    -- a list of readings
    metered : (k points : ℕ) (xs : List ℕ) → ((p : ℕ) → get_or xs p 0 ≡ reading_of net ws used k p) → length xs ≡ 128 → points ≤ 128
        → take points xs ≡ tabulate points (reading_of net (take used ws) (length (take used ws)) k)
    metered k points xs said room few =
        let e : length (take used ws) ≡ used = length-take-le used ws fits in
        listed 0 (reading_of net (take used ws) (length (take used ws)) k) xs points (omega arith)
        (λ p l. said p ∙ sym (ap (λ n. reading_of net (take used ws) n k p) e ∙ readings_take used used k p (omega arith)))

    pub figures_are : (number links points : ℕ) (prices flows : List ℤ) (sent taken : List ℕ) (low high low' high' : ℤ)
        → length net.links ≡ links → length net.points ≡ points → net.regions ≤ 8 → links ≤ 8 → points ≤ 128
        → readings_from net < used
        → number ≡ count (word ws 0)
        → Figured ws 1 net.regions price_kind low high 8 prices
        → Figured ws (1 + net.regions) links flow_kind low' high' 8 flows
        → ReadReadings net ws used sent taken
        → ◌≡◌ {A = Figures} (record { number = number; prices = take net.regions prices; flows = take links flows; sent = take points sent; taken = take points taken })
        (figures net (take used ws))
    unfolding figures
    figures_are number links points prices flows sent taken low high low' high' el ep r8 l8 p128 past en hp hf hr =
        let first : word (take used ws) 0 ≡ word ws 0 = get_or-take used ws 0 0 (omega arith) in
        let a : number ≡ count (word (take used ws) 0) = en ∙ ap count (sym first) in
        let b = front 1 net.regions price_kind low high prices hp r8 (omega arith) in
        let d = front (1 + net.regions) links flow_kind low' high' flows hf l8 (omega arith) in
        let s = metered 4 points sent hr.sent_said hr.sent_room p128 in
        let t = metered 5 points taken hr.taken_said hr.taken_room p128 in
        rw (a, b, d, s, t, el, ep)

between_take : (low high : ℤ) (n : ℕ) (xs : List ℤ) → low ≤ℤ pos 0 → pos 0 ≤ℤ high → Between low high xs → Between low high (take n xs)
between_take low high n xs a b h = every_take (λ z. (low ≤ℤ z) × (z ≤ℤ high)) (pos 0) n xs (a, b) h

upto_take : (high n : ℕ) (xs : List ℕ) → Upto high xs → Upto high (take n xs)
upto_take high n xs h = every_take (λ x. x ≤ high) 0 n xs (omega arith) h

-- the energies of readings are in range
abbrev none : Reading
none = record { sent = 0; taken = 0; sent_range = omega arith; taken_range = omega arith }

pub sent_upto : (xs : List Reading) → Upto highest_energy (map sent_of xs)
sent_upto xs k = subst (λ n. n ≤ highest_energy) (sym (get_or-map sent_of xs k none)) (get_or xs k none).sent_range

pub taken_upto : (xs : List Reading) → Upto highest_energy (map taken_of xs)
taken_upto xs k = subst (λ n. n ≤ highest_energy) (sym (get_or-map taken_of xs k none)) (get_or xs k none).taken_range

pub intervals_in_range : IntervalsInRange
intervals_in_range g t = record {
  number = t.number_range;
  regions = length-take-le g.region_count t.prices (omega arith);
  links = length-take-le (length (of_grid g).links) t.flows (omega (arith, listed_few g.links));
  senders = length-take-le (length (of_grid g).points) (map sent_of t.readings) (omega (arith, listed_few g.points, length-map t.readings sent_of, t.reading_slots));
  takers = length-take-le (length (of_grid g).points) (map taken_of t.readings) (omega (arith, listed_few g.points, length-map t.readings taken_of, t.reading_slots));
  price_range = between_take lowest_price highest_price g.region_count t.prices (le_z_yes tt) (le_z_yes tt) t.price_range;
  flow_range = between_take lowest_flow highest_flow (length (of_grid g).links) t.flows (le_z_yes tt) (le_z_yes tt) t.flow_range;
  sent_range = upto_take highest_energy (length (of_grid g).points) (map sent_of t.readings) (sent_upto t.readings);
  taken_range = upto_take highest_energy (length (of_grid g).points) (map taken_of t.readings) (taken_upto t.readings);
}
