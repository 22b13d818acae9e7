-- The readings of the words so far, and one word more.
use Rattle.std.proofs.Common.{◌≡◌, ℕ, zero, suc, ◌+◌, ◌<◌, ◌≤◌, true, false, cond, ◌&&◌, ◌||◌, eqb, ltb, leb, ◌⊎◌, List, length, get_or, set, take, drop, replicate, None, sym, refl, ◌∙◌, subst, inl, inr, ⊎_elim, add-one, arith}
use Rattle.std.proofs.lemmas.List.{length-set, length-replicate, get_or-set_same, get_or-set_other, get_or-take, get_or-drop}
use Rattle.std.proofs.lemmas.Bool.{cases_eq, eq-eqb, ne_eqb, le-leb, lt-leb, and_from, and_left, and_right, and_parts, or_cases, cond-true, cond-false, eqb-true, ltb-true, leb-true}
use Rattle.register.specs.Contents.{Network}
use Rattle.interval.specs.Ranges.{highest_energy}
use Rattle.interval.specs.Words.{word, kind, sent_kind, taken_kind, closing_kind, point, energy, rank, reads, reading_of, late, present, readings_from}
use Rattle.interval.specs.Steps.{ReadReadings}
use Rattle.interval.proofs.Order.{required}
use Rattle.interval.proofs.Filled.{upto_set, blank}

module _ (net : Network) (ws : List ℕ) where
  here : (j k p : ℕ) → reads net ws k p j ≡ true → reading_of net ws (j + 1) k p ≡ energy (word ws j)
  unfolding reading_of
  here j k p t = rw add-one (cond-true (reads net ws k p j) (energy (word ws j)) (reading_of net ws j k p) t)

  before : (j k p : ℕ) → reads net ws k p j ≡ false → reading_of net ws (j + 1) k p ≡ reading_of net ws j k p
  unfolding reading_of
  before j k p t = rw add-one (cond-false (reads net ws k p j) (energy (word ws j)) (reading_of net ws j k p) t)

  -- no word before the readings counts
  pub readings_none : (n k p : ℕ) → n ≤ readings_from net → reading_of net ws n k p ≡ 0
  unfolding reading_of
  readings_none zero k p h = refl
  readings_none (suc n) k p h = cond-false (reads net ws k p n) _ _ (and_left _ _ (lt-leb (readings_from net) n (omega arith))) ∙ readings_none n k p (omega arith)

  module _ (j k : ℕ) (xs : List ℕ) (said : (p : ℕ) → get_or xs p 0 ≡ reading_of net ws j k p) where
    -- a word of another kind
    other : eqb (kind (word ws j)) k ≡ false → (p : ℕ) → get_or xs p 0 ≡ reading_of net ws (j + 1) k p
    other t p = said p ∙ sym (before j k p (and_right (leb (readings_from net) j) _ (and_left _ _ t)))

    -- a word of this kind
    same : eqb (kind (word ws j)) k ≡ true → readings_from net ≤ j → point (word ws j) < length xs
        → (p : ℕ) → get_or (set xs (point (word ws j)) (energy (word ws j))) p 0 ≡ reading_of net ws (j + 1) k p
    same t from lt p =
        let w = word ws j in
        ⊎_elim
        (λ (e : point w ≡ p).
        subst (λ q. get_or (set xs (point w) (energy w)) q 0 ≡ energy w) e (get_or-set_same xs (point w) (energy w) 0 lt)
        ∙ sym (here j k p (and_from _ _ (le-leb (readings_from net) j from) (and_from _ _ t (eq-eqb (point w) p e)))))
        (λ (ne : point w ≡ p → ⊥).
        get_or-set_other xs (point w) p (energy w) 0 (λ e. ne (sym e)) ∙ said p
        ∙ sym (before j k p (and_right (leb (readings_from net) j) _ (and_right (eqb (kind w) k) _ (ne_eqb (point w) p ne)))))
        (cases_eq (point w) p)

-- a word of those from index `from` on
pub word_from : (ws : List ℕ) (from n i : ℕ) → i < n → get_or (take n (drop from ws)) i 0 ≡ word ws (from + i)
word_from ws from n i h = get_or-take n (drop from ws) i 0 h ∙ get_or-drop from ws i 0

-- what a word that passes after the figures, and does not close, is
pub record IsReading (points least w : ℕ) : Type 0 where
  pub of_kind : (kind w ≡ sent_kind) ⊎ (kind w ≡ taken_kind)
  pub at_point : point w < points
  pub in_range : energy w ≤ highest_energy
  pub rising : least ≤ rank w

-- a word that is not refused after the figures, and does not close
pub reading_passed : (ws : List ℕ) (points least j : ℕ) → present ws j (late points least j (word ws j)) ≡ None
    → eqb (kind (word ws j)) closing_kind ≡ false → IsReading points least (word ws j)
reading_passed ws points least j h t =
    let w = word ws j in
    let here = required (ltb j (length ws)) _ _ h in
    let unclosed = sym (cond-false (eqb (kind w) closing_kind) _ _ t) ∙ here.1 in
    let kinds = required (eqb (kind w) sent_kind || eqb (kind w) taken_kind) _ _ unclosed in
    let rises = required (leb least (rank w)) _ _ kinds.1 in
    let fits = and_parts _ _ (required (ltb (point w) points && leb (energy w) highest_energy) _ _ rises.1).0 in
    record {
      of_kind = ⊎_elim (λ e. inl (eqb-true (kind w) sent_kind e)) (λ e. inr (eqb-true (kind w) taken_kind e)) (or_cases (eqb (kind w) sent_kind) (eqb (kind w) taken_kind) kinds.0);
      at_point = ltb-true (point w) points fits.0;
      in_range = leb-true (energy w) highest_energy fits.1;
      rising = leb-true least (rank w) rises.0;
    }

module _ (net : Network) (ws : List ℕ) where
  pub readings_start : ReadReadings net ws (readings_from net) (replicate 128 0) (replicate 128 0)
  readings_start = record {
    sent_room = length-replicate {A = ℕ} 128 0;
    taken_room = length-replicate {A = ℕ} 128 0;
    sent_ranged = λ k. omega (arith, blank {A = ℕ} 0 128 k);
    taken_ranged = λ k. omega (arith, blank {A = ℕ} 0 128 k);
    sent_said = λ p. blank {A = ℕ} 0 128 p ∙ sym (readings_none net ws (readings_from net) sent_kind p (omega arith));
    taken_said = λ p. blank {A = ℕ} 0 128 p ∙ sym (readings_none net ws (readings_from net) taken_kind p (omega arith));
  }

  module _ (j : ℕ) (sent taken : List ℕ) (h : ReadReadings net ws j sent taken) where
    -- a word of kind 6
    pub readings_end : eqb (kind (word ws j)) closing_kind ≡ true → ReadReadings net ws (j + 1) sent taken
    readings_end t =
        let six = eqb-true (kind (word ws j)) closing_kind t in
        record {
          sent_room = h.sent_room;
          taken_room = h.taken_room;
          sent_ranged = h.sent_ranged;
          taken_ranged = h.taken_ranged;
          sent_said = other net ws j sent_kind sent h.sent_said (ne_eqb (kind (word ws j)) sent_kind (λ e. omega arith));
          taken_said = other net ws j taken_kind taken h.taken_said (ne_eqb (kind (word ws j)) taken_kind (λ e. omega arith));
        }

    module _ (points least : ℕ) (few : points ≤ 128) (from : readings_from net ≤ j) (r : IsReading points least (word ws j)) where
      sent_more : kind (word ws j) ≡ sent_kind → ReadReadings net ws (j + 1) (set sent (point (word ws j)) (energy (word ws j))) taken
      sent_more k = record {
        sent_room = length-set sent _ _ ∙ h.sent_room;
        taken_room = h.taken_room;
        sent_ranged = upto_set highest_energy sent (point (word ws j)) (energy (word ws j)) r.in_range h.sent_ranged;
        taken_ranged = h.taken_ranged;
        sent_said = same net ws j sent_kind sent h.sent_said (eq-eqb (kind (word ws j)) sent_kind k) from (omega (arith, h.sent_room, r.at_point));
        taken_said = other net ws j taken_kind taken h.taken_said (ne_eqb (kind (word ws j)) taken_kind (λ e. omega arith));
      }

      taken_more : kind (word ws j) ≡ taken_kind → ReadReadings net ws (j + 1) sent (set taken (point (word ws j)) (energy (word ws j)))
      taken_more k = record {
        sent_room = h.sent_room;
        taken_room = length-set taken _ _ ∙ h.taken_room;
        sent_ranged = h.sent_ranged;
        taken_ranged = upto_set highest_energy taken (point (word ws j)) (energy (word ws j)) r.in_range h.taken_ranged;
        sent_said = other net ws j sent_kind sent h.sent_said (ne_eqb (kind (word ws j)) sent_kind (λ e. omega arith));
        taken_said = same net ws j taken_kind taken h.taken_said (eq-eqb (kind (word ws j)) taken_kind k) from (omega (arith, h.taken_room, r.at_point));
      }

      -- a reading, stored by its kind
      pub readings_more : ReadReadings net ws (j + 1)
          (cond (eqb (kind (word ws j)) sent_kind) (set sent (point (word ws j)) (energy (word ws j))) sent)
          (cond (eqb (kind (word ws j)) sent_kind) taken (set taken (point (word ws j)) (energy (word ws j))))
      readings_more =
          ⊎_elim
          (λ (k : kind (word ws j) ≡ sent_kind). let t = eq-eqb (kind (word ws j)) sent_kind k in rw t (sent_more k))
          (λ (k : kind (word ws j) ≡ taken_kind). let t = ne_eqb (kind (word ws j)) sent_kind (λ e. omega arith) in rw t (taken_more k))
          r.of_kind
