-- The refusal of a word in each part of an interval, and one word more.
use Rattle.std.proofs.Common.{◌≡◌, ℕ, suc, ◌+◌, ◌-◌, ◌<◌, ◌≤◌, Bool, true, false, eqb, ltb, leb, List, length, Some, None, Option, sym, refl, ap, ◌∙◌, add-one, arith}
use Rattle.std.proofs.lemmas.Bool.{ne_eqb, le-leb, lt-leb, lt-ltb, le-ltb, cond-true, cond-false, and_left}
use Rattle.units.specs.declared.refusal.Layer.TheVariants.{Words}
use Rattle.units.specs.Refusals.{Refused, refused, done, turned_down}
use Rattle.register.specs.Contents.{Network}
use Rattle.interval.specs.Ranges.{lowest_price, highest_price, lowest_flow, highest_flow}
use Rattle.interval.specs.Words.{fault, closes, read, read_on, word, require, present, from_to, opening, figure, closing, reading, late, kind, price_kind, flow_kind, closing_kind, rank, readings_from, least_rank}
use Rattle.interval.specs.Steps.{Reached}

-- a test that did not refuse
pub required : (b : Bool) (r : Refused) (rest : Option Refused) → require b r rest ≡ None → (b ≡ true) × (rest ≡ None)
required true r rest e = (refl, e)
required false r rest e = let z : ◌≡◌ {A = ℕ} 0 1 = cc in absurd (omega arith)

module _ (net : Network) (ws : List ℕ) where
  pub fault_first : fault net ws 0 ≡ present ws 0 (opening 0 (word ws 0))
  unfolding fault
  fault_first = refl

  pub fault_price : (r : ℕ) → r < net.regions → fault net ws (1 + r) ≡ present ws (1 + r) (figure price_kind r (from_to lowest_price highest_price) (1 + r) (word ws (1 + r)))
  unfolding fault
  fault_price r h =
      let a : eqb (1 + r) 0 ≡ false = ne_eqb (1 + r) 0 (λ e. omega arith) in
      let b : leb (1 + r) net.regions ≡ true = le-leb (1 + r) net.regions (omega arith) in
      let d : 1 + r - 1 ≡ r = omega arith in
      rw (a, b, d)

  pub fault_flow : (l : ℕ) → l < length net.links
      → fault net ws (1 + net.regions + l) ≡ present ws (1 + net.regions + l) (figure flow_kind l (from_to lowest_flow highest_flow) (1 + net.regions + l) (word ws (1 + net.regions + l)))
  unfolding fault
  fault_flow l h =
      let j = 1 + net.regions + l in
      let a : eqb j 0 ≡ false = ne_eqb j 0 (λ e. omega arith) in
      let b : leb j net.regions ≡ false = lt-leb j net.regions (omega arith) in
      let t : ltb j (readings_from net) ≡ true = lt-ltb j (readings_from net) (omega arith) in
      let d : j - 1 - net.regions ≡ l = omega arith in
      rw (a, b, t, d)

  pub fault_late : (j : ℕ) → readings_from net ≤ j
      → fault net ws j ≡ present ws j (late (length net.points) (least_rank net ws j) j (word ws j))
  unfolding fault
  fault_late j h =
      let a : eqb j 0 ≡ false = ne_eqb j 0 (λ e. omega arith) in
      let b : leb j net.regions ≡ false = lt-leb j net.regions (omega arith) in
      let t : ltb j (readings_from net) ≡ false = le-ltb j (readings_from net) (omega arith) in
      rw (a, b, t)

  -- the same, of the count of points and the least rank that the code holds
  pub fault_after : (j points least : ℕ) → readings_from net ≤ j → length net.points ≡ points → least ≡ least_rank net ws j
      → fault net ws j ≡ present ws j (late points least j (word ws j))
  fault_after j points least h p q = rw (← p, q) (fault_late j h)

  -- a word that is there, after the figures: one that closes, and one that does not
  late_is : (j points least : ℕ) → j < length ws → present ws j (late points least j (word ws j)) ≡ late points least j (word ws j)
  late_is j points least lt = let a : ltb j (length ws) ≡ true = lt-ltb j (length ws) lt in rw a

  pub late_closing : (j points least : ℕ) → j < length ws → eqb (kind (word ws j)) closing_kind ≡ true
      → present ws j (late points least j (word ws j)) ≡ closing j (word ws j)
  late_closing j points least lt e = late_is j points least lt ∙ cond-true (eqb (kind (word ws j)) closing_kind) _ _ e

  pub late_reading : (j points least : ℕ) → j < length ws → eqb (kind (word ws j)) closing_kind ≡ false
      → present ws j (late points least j (word ws j)) ≡ reading points least j (word ws j)
  late_reading j points least lt e = late_is j points least lt ∙ cond-false (eqb (kind (word ws j)) closing_kind) _ _ e

  -- there is no word j
  pub fault_missing : (j : ℕ) → length ws ≤ j → fault net ws j ≡ Some (refused 1 Words (length ws))
  unfolding fault
  fault_missing j h = let a : ltb j (length ws) ≡ false = le-ltb j (length ws) h in rw a

  pub least_none : least_rank net ws (readings_from net) ≡ 0
  least_none = cond-true (leb (readings_from net) (readings_from net)) _ _ (le-leb (readings_from net) (readings_from net) (omega arith))

  pub least_more : (j : ℕ) → readings_from net ≤ j → least_rank net ws (j + 1) ≡ rank (word ws j) + 1
  least_more j h =
      let f : leb (j + 1) (readings_from net) ≡ false = lt-leb (j + 1) (readings_from net) (omega arith) in
      let e : j + 1 - 1 ≡ j = omega arith in
      cond-false (leb (j + 1) (readings_from net)) 0 (suc (rank (word ws (j + 1 - 1)))) f ∙ ap (λ i. suc (rank (word ws i))) e ∙ sym (add-one (rank (word ws j)))

  pub open_before : (j : ℕ) → j < readings_from net → closes net ws j ≡ false
  unfolding closes
  open_before j h = and_left _ _ (lt-leb (readings_from net) j h)

  pub closes_after : (j : ℕ) → readings_from net ≤ j → closes net ws j ≡ eqb (kind (word ws j)) closing_kind
  unfolding closes
  closes_after j h = let a : leb (readings_from net) j ≡ true = le-leb (readings_from net) j h in rw a

  on_fault : (n j : ℕ) (r : Refused) → fault net ws j ≡ Some r → read_on net ws (suc n) j ≡ turned_down r
  unfolding read_on
  on_fault n j r e = rw e

  on_end : (n j : ℕ) → fault net ws j ≡ None → closes net ws j ≡ true → read_on net ws (suc n) j ≡ done (suc j)
  unfolding read_on
  on_end n j e t = rw (e, t)

  on_pass : (n j : ℕ) → fault net ws j ≡ None → closes net ws j ≡ false → read_on net ws (suc n) j ≡ read_on net ws n (suc j)
  unfolding read_on
  on_pass n j e t = rw (e, t)

  left_over : (j : ℕ) → j ≤ length ws → suc (length ws) - j ≡ suc (length ws - j)
  left_over j h = omega arith

  at_j : (j : ℕ) → Reached net ws j → read net ws ≡ read_on net ws (suc (length ws - j)) j
  at_j j h = h.same ∙ ap (λ n. read_on net ws n j) (left_over j h.inside)

  pub reached_none : Reached net ws 0
  unfolding read
  reached_none = record { inside = omega arith; same = ap (λ n. read_on net ws n 0) (omega arith) }

  pub stopped : (j : ℕ) (r : Refused) → Reached net ws j → fault net ws j ≡ Some r → read net ws ≡ turned_down r
  stopped j r h e = at_j j h ∙ on_fault (length ws - j) j r e

  pub ended : (j : ℕ) → Reached net ws j → fault net ws j ≡ None → closes net ws j ≡ true → read net ws ≡ done (j + 1)
  ended j h e t = at_j j h ∙ on_end (length ws - j) j e t ∙ ap done (omega arith)

  pub reached_more : (j : ℕ) → Reached net ws j → j < length ws → fault net ws j ≡ None → closes net ws j ≡ false → Reached net ws (j + 1)
  reached_more j h lt e t =
      let a : length ws - j ≡ suc (length ws) - (j + 1) = omega arith in
      let b : suc j ≡ j + 1 = omega arith in
      record {
        inside = omega arith;
        same = at_j j h ∙ on_pass (length ws - j) j e t ∙ ap (λ n. read_on net ws n (suc j)) a ∙ ap (read_on net ws (suc (length ws) - (j + 1))) b;
      }
