-- A list of words that is an opening word, three runs of words and a closing word: the word at each place.
use Rattle.std.proofs.Common.{◌≡◌, ℕ, suc, ◌+◌, ◌-◌, ◌<◌, ◌≤◌, List, [], ◌∷◌, ◌++◌, map, length, get_or, take, sym, refl, ap, ◌∙◌, subst, ⊎_elim, one-add, arith}
use Rattle.std.proofs.lemmas.List.{append_assoc, length-append, length-map, length-take-le, get_or_append_left, get_or-append-add, get_or-map, get_or-take, get_or_push, ext_get_or}
use Rattle.std.proofs.lemmas.Bool.{cases_lt}
use Rattle.units.specs.Sums.{tabulate}
use Rattle.units.proofs.Tabulate.{length-tabulate, get_or-tabulate}
use Rattle.interval.specs.Figures.{Figures, price, flow}
use Rattle.interval.specs.Words.{word, opening_kind, price_kind, flow_kind, closing_kind}
use Rattle.interval.specs.Spelling.{of_kind, figure_word, reading_word, words_before, words_of}

-- what holds in each part holds of each place
pub by_part : (P : ℕ → Type 0) (a b c : ℕ) → P 0 → ((k : ℕ) → k < a → P (1 + k)) → ((k : ℕ) → k < b → P (1 + a + k))
    → ((k : ℕ) → k < c → P (1 + a + b + k)) → P (1 + a + b + c) → (j : ℕ) → j < 1 + a + b + c + 1 → P j
by_part P a b c first second third fourth last j l =
    ⊎_elim (λ h. let e : 0 ≡ j = omega arith in subst P e first)
    (λ from_a. ⊎_elim (λ h. let e : 1 + (j - 1) ≡ j = omega arith in subst P e (second (j - 1) (omega arith)))
    (λ from_b. ⊎_elim (λ h. let e : 1 + a + (j - 1 - a) ≡ j = omega arith in subst P e (third (j - 1 - a) (omega arith)))
    (λ from_c. ⊎_elim (λ h. let e : 1 + a + b + (j - 1 - a - b) ≡ j = omega arith in subst P e (fourth (j - 1 - a - b) (omega arith)))
    (λ rest. let e : 1 + a + b + c ≡ j = omega arith in subst P e last)
    (cases_lt j (1 + a + b + c))) (cases_lt j (1 + a + b))) (cases_lt j (1 + a))) (cases_lt j 1)

-- an opening word, runs of a, b and c words, and a closing word
module _ (o : ℕ) (xs ys zs : List ℕ) (e a b c : ℕ) (la : length xs ≡ a) (lb : length ys ≡ b) (lc : length zs ≡ c) where
  row : List ℕ
  row = o ∷ (xs ++ (ys ++ (zs ++ (e ∷ []))))

  row_length : length row ≡ 1 + a + b + c + 1
  unfolding row
  row_length = simp length-append (omega arith)

  at_first : word row 0 ≡ o
  unfolding row
  at_first = refl

  in_xs : (k : ℕ) → k < a → word row (1 + k) ≡ word xs k
  unfolding row
  in_xs k l = rw one-add (get_or_append_left xs _ 0 k (omega arith))

  past_xs : (k : ℕ) → word row (1 + a + k) ≡ word (ys ++ (zs ++ (e ∷ []))) k
  unfolding row
  past_xs k =
      let at : 1 + a + k ≡ suc (length xs + k) = omega arith in
      ap (word row) at ∙ get_or-append-add xs _ k 0

  in_ys : (k : ℕ) → k < b → word row (1 + a + k) ≡ word ys k
  in_ys k l = past_xs k ∙ get_or_append_left ys _ 0 k (omega arith)

  past_ys : (k : ℕ) → word row (1 + a + b + k) ≡ word (zs ++ (e ∷ [])) k
  past_ys k =
      let at : 1 + a + b + k ≡ 1 + a + (length ys + k) = omega arith in
      ap (word row) at ∙ past_xs (length ys + k) ∙ get_or-append-add ys _ k 0

  in_zs : (k : ℕ) → k < c → word row (1 + a + b + k) ≡ word zs k
  in_zs k l = past_ys k ∙ get_or_append_left zs _ 0 k (omega arith)

  at_end : word row (1 + a + b + c) ≡ e
  at_end = past_ys c ∙ get_or_push zs e 0 c lc

-- the first n words of ws are those of the figures, where these meters are read
pub record Laid (ws : List ℕ) (n : ℕ) (figs : Figures) (meters : List ℕ) : Type 0 where
  pub inside : n ≤ length ws
  pub size : n ≡ 1 + length figs.prices + length figs.flows + length meters + 1
  pub first : word ws 0 ≡ of_kind opening_kind figs.number
  pub in_prices : (r : ℕ) → r < length figs.prices → word ws (1 + r) ≡ figure_word price_kind r (price figs r)
  pub in_flows : (l : ℕ) → l < length figs.flows → word ws (1 + length figs.prices + l) ≡ figure_word flow_kind l (flow figs l)
  pub in_readings : (k : ℕ) → k < length meters → word ws (1 + length figs.prices + length figs.flows + k) ≡ reading_word figs (get_or meters k 0)
  pub last : word ws (1 + length figs.prices + length figs.flows + length meters)
      ≡ of_kind closing_kind (1 + length figs.prices + length figs.flows + length meters)

module _ (figs : Figures) (meters : List ℕ) where
  price_words : List ℕ
  price_words = tabulate (length figs.prices) (λ r. figure_word price_kind r (price figs r))

  flow_words : List ℕ
  flow_words = tabulate (length figs.flows) (λ l. figure_word flow_kind l (flow figs l))

  before : ℕ
  before = 1 + length figs.prices + length figs.flows + length meters

  prices_length : length price_words ≡ length figs.prices
  unfolding price_words
  prices_length = length-tabulate (length figs.prices) _

  flows_length : length flow_words ≡ length figs.flows
  unfolding flow_words
  flows_length = length-tabulate (length figs.flows) _

  readings_length : length (map (reading_word figs) meters) ≡ length meters
  readings_length = length-map meters (reading_word figs)

  before_length : length (words_before figs meters) ≡ before
  unfolding before price_words flow_words
  before_length = simp length-append (omega (arith, prices_length, flows_length, readings_length))

  spelled : List ℕ
  spelled = row (of_kind opening_kind figs.number) price_words flow_words (map (reading_word figs) meters) (of_kind closing_kind before) _ _ _ prices_length flows_length readings_length

  words_row : words_of figs meters ≡ spelled
  unfolding spelled row price_words flow_words
  words_row =
      let rs = map (reading_word figs) meters in
      let ends = of_kind closing_kind before ∷ [] in
      ap (λ n. words_before figs meters ++ (of_kind closing_kind n ∷ [])) before_length
      ∙ ap (λ ws. of_kind opening_kind figs.number ∷ ws)
      (append_assoc price_words (flow_words ++ rs) ends ∙ ap (λ ws. price_words ++ ws) (append_assoc flow_words rs ends))

  spelled_length : length spelled ≡ before + 1
  unfolding spelled before
  spelled_length = row_length _ price_words flow_words _ _ _ _ _ prices_length flows_length readings_length

  spelled_laid : Laid spelled (before + 1) figs meters
  unfolding spelled before price_words flow_words
  spelled_laid =
      let o = of_kind opening_kind figs.number in
      let rs = map (reading_word figs) meters in
      let e = of_kind closing_kind before in
      record {
        inside = omega (arith, spelled_length);
        size = refl;
        first = at_first o price_words flow_words rs e _ _ _ prices_length flows_length readings_length;
        in_prices = λ r l. in_xs o price_words flow_words rs e _ _ _ prices_length flows_length readings_length r l ∙ get_or-tabulate _ _ r 0 l;
        in_flows = λ k l. in_ys o price_words flow_words rs e _ _ _ prices_length flows_length readings_length k l ∙ get_or-tabulate _ _ k 0 l;
        in_readings = λ k l. in_zs o price_words flow_words rs e _ _ _ prices_length flows_length readings_length k l ∙ get_or-map (reading_word figs) meters k 0 0 l;
        last = at_end o price_words flow_words rs e _ _ _ prices_length flows_length readings_length;
      }

module _ (ws : List ℕ) (n : ℕ) (figs : Figures) (meters : List ℕ) where
  -- from the list to each place
  pub laid_from : n ≤ length ws → take n ws ≡ words_of figs meters → Laid ws n figs meters
  unfolding before
  laid_from inside same =
      let s = spelled_laid figs meters in
      let e : take n ws ≡ spelled figs meters = same ∙ words_row figs meters in
      let size : n ≡ before figs meters + 1 = sym (length-take-le n ws inside) ∙ ap length e ∙ spelled_length figs meters in
      let w : (j : ℕ) → j < n → word ws j ≡ word (spelled figs meters) j = λ j l. sym (get_or-take n ws j 0 l) ∙ ap (λ xs. word xs j) e in
      record {
        inside = inside;
        size = size;
        first = w 0 (omega arith) ∙ s.first;
        in_prices = λ r l. w (1 + r) (omega arith) ∙ s.in_prices r l;
        in_flows = λ l k. w (1 + length figs.prices + l) (omega arith) ∙ s.in_flows l k;
        in_readings = λ k l. w (1 + length figs.prices + length figs.flows + k) (omega arith) ∙ s.in_readings k l;
        last = w (1 + length figs.prices + length figs.flows + length meters) (omega arith) ∙ s.last;
      }

  -- and back
  pub laid_to : Laid ws n figs meters → take n ws ≡ words_of figs meters
  unfolding before
  laid_to h =
      let s = spelled_laid figs meters in
      let same : (j : ℕ) → j < 1 + length figs.prices + length figs.flows + length meters + 1 → word ws j ≡ word (spelled figs meters) j =
      by_part (λ j. word ws j ≡ word (spelled figs meters) j) (length figs.prices) (length figs.flows) (length meters)
      (h.first ∙ sym s.first) (λ k l. h.in_prices k l ∙ sym (s.in_prices k l)) (λ k l. h.in_flows k l ∙ sym (s.in_flows k l))
      (λ k l. h.in_readings k l ∙ sym (s.in_readings k l)) (h.last ∙ sym s.last) in
      let len : length (take n ws) ≡ n = length-take-le n ws h.inside in
      ext_get_or 0 (take n ws) (spelled figs meters) (len ∙ h.size ∙ sym (spelled_length figs meters))
      (λ j l. get_or-take n ws j 0 (omega arith) ∙ same j (omega (arith, h.size)))
      ∙ sym (words_row figs meters)
