-- The larger side, and what is estimated from it.
use Rattle.std.proofs.Common.{◌≡◌, ℕ, zero, suc, ◌+◌, ◌-◌, ◌*◌, ◌/◌, ◌<◌, ◌≤◌, Bool, true, false, cond, ℤ, pos, ◌-ℤ◌, ◌*ℤ◌, neg_ℤ, nat_abs, ◌≤ℤ◌, ◌<ℤ◌, refl, ap, ◌∙◌, ⊎_elim, mod-lt, mul-pos, div-add-mod', zero-mul, arith}
use native.Mathlib.Nat.{zero-div}
use lib.IntN.{*ℤ_comm}
use lib.Signed.{lt_z}
use borrow.Author.Differences.{ints}
use Rattle.std.proofs.lemmas.Bool.{eq-eqb, ne_eqb, lt-ltb, cond-true, cond-false, cases_lt}
use Rattle.units.specs.Floor.{floor}
use Rattle.units.proofs.Floors.{floor_le, floor_next}
use Rattle.assets.specs.Assets.{Side, energy, at_own, at_difference, surplus, larger, gross, loss_at, size_at, flow_at}
use Rattle.assets.specs.Laws.{Estimated}

not_above : (n : ℕ) → lt_z (pos 0) (neg_ℤ (pos n)) ≡ false
not_above zero = refl
not_above (suc n) = refl

module _ (s t : Side) (sent taken : ℕ) (S : s energy ≡ pos sent) (T : t energy ≡ pos taken) where
  surplus_is : surplus s t ≡ pos sent -ℤ pos taken
  surplus_is = λ i. S i -ℤ T i

  out : taken < sent → lt_z (pos 0) (surplus s t) ≡ true
  out l =
      let is : surplus s t ≡ pos (sent - taken) = surplus_is ∙ omega (arith, ints) in
      ap (lt_z (pos 0)) is ∙ lt-ltb 0 (sent - taken) (omega arith)

  inward : sent ≤ taken → lt_z (pos 0) (surplus s t) ≡ false
  inward l =
      let is : surplus s t ≡ neg_ℤ (pos (taken - sent)) = surplus_is ∙ omega (arith, ints) in
      ap (lt_z (pos 0)) is ∙ not_above (taken - sent)

  pub sent_more : taken < sent → larger s t ≡ s
  sent_more l = cond-true _ _ _ (out l)

  pub taken_more : sent ≤ taken → larger s t ≡ t
  taken_more l = cond-false _ _ _ (inward l)

  within : nat_abs (surplus s t) ≤ gross s t
  within = ⊎_elim
      (λ l. let g = ap (λ x. nat_abs (x energy)) (sent_more l) ∙ ap nat_abs S in omega (arith, ints, surplus_is))
      (λ l. let g = ap (λ x. nat_abs (x energy)) (taken_more l) ∙ ap nat_abs T in omega (arith, ints, surplus_is))
      (cases_lt taken sent)

  -- ---- the estimates

  module _ (b : ℕ) where
    -- without a surplus, whatever the division would give
    pub no_loss : nat_abs (surplus s t) ≡ 0 → loss_at s t b ≡ pos 0
    no_loss e = cond-true _ _ _ (eq-eqb _ _ e)

    pub loss_floor : (nat_abs (surplus s t) ≡ 0 → ⊥) → loss_at s t b ≡ floor (surplus s t *ℤ larger s t (at_difference b)) (gross s t)
    loss_floor e = cond-false _ _ _ (ne_eqb _ _ e)

    no_size : nat_abs (surplus s t) ≡ 0 → size_at s t b ≡ 0
    no_size e =
        ap (λ n. n * nat_abs (larger s t at_own) / (gross s t * b)) e
        ∙ ap (λ n. n / (gross s t * b)) (zero-mul (nat_abs (larger s t at_own))) ∙ zero-div (gross s t * b)

    flow_size : nat_abs (flow_at s t b) ≡ size_at s t b
    flow_size = either (lt_z (pos 0) (surplus s t)) (size_at s t b)
      where
        either : (c : Bool) (n : ℕ) → nat_abs (cond c (pos n) (neg_ℤ (pos n))) ≡ n
        either true n = refl
        either false n = omega (arith, ints)

    zero_size : (z : ℤ) → nat_abs z ≡ 0 → z ≡ pos 0
    zero_size z e = omega (arith, ints)

    pub estimated : 0 < b → Estimated s t b (loss_at s t b) (flow_at s t b)
    estimated used = record {
      even = λ e. (no_loss (ap nat_abs e), zero_size (flow_at s t b) (flow_size ∙ no_size (ap nat_abs e)));
      loss_low = λ some. omega (arith, ints, floor_le (gross s t) (big some) product, *ℤ_comm (floor product (gross s t)) (pos (gross s t)), ap (λ z. pos (gross s t) *ℤ z) (loss_floor (odd some)));
      loss_high = λ some. omega (arith, ints, floor_next (gross s t) (big some) product, *ℤ_comm (floor product (gross s t)) (pos (gross s t)), ap (λ z. pos (gross s t) *ℤ z) (loss_floor (odd some)));
      size_low = λ some. (size_parts (gross s t * b) (nat_abs (surplus s t) * nat_abs (larger s t at_own)) (nat_abs (flow_at s t b)) (mul-pos (big some) used) flow_size).0;
      size_high = λ some. (size_parts (gross s t * b) (nat_abs (surplus s t) * nat_abs (larger s t at_own)) (nat_abs (flow_at s t b)) (mul-pos (big some) used) flow_size).1;
      outward = λ l. up_flow (size_at s t b) l;
      inward = λ l. down_flow (size_at s t b) l;
    }
      where
        product : ℤ
        product = surplus s t *ℤ larger s t (at_difference b)

        odd : (surplus s t ≡ pos 0 → ⊥) → nat_abs (surplus s t) ≡ 0 → ⊥
        odd some e = some (zero_size (surplus s t) e)

        big : (surplus s t ≡ pos 0 → ⊥) → 0 < gross s t
        big some = let none : nat_abs (surplus s t) ≡ 0 → ⊥ = odd some in omega (arith, within)

        size_parts : (d n q : ℕ) → 0 < d → q ≡ n / d → (d * q ≤ n) × (n < d * q + d)
        size_parts d n q p e = rw e (omega (arith, div-add-mod' n d), omega (arith, div-add-mod' n d, mod-lt n p))

        up_flow : (n : ℕ) → pos 0 <ℤ surplus s t → pos 0 ≤ℤ cond (lt_z (pos 0) (surplus s t)) (pos n) (neg_ℤ (pos n))
        up_flow n l = rw (out (omega (arith, ints, surplus_is))) (omega (arith, ints))

        down_flow : (n : ℕ) → surplus s t <ℤ pos 0 → cond (lt_z (pos 0) (surplus s t)) (pos n) (neg_ℤ (pos n)) ≤ℤ pos 0
        down_flow n l = rw (inward (omega (arith, ints, surplus_is))) (omega (arith, ints))
