-- Nearest cents keep the laws: as many owners get an odd cent as there are odd cents, and each of them has a rest.
use Rattle.std.specs.Prelude.{◌≡◌, ℕ, zero, suc, ◌-◌, ◌*◌, ◌<◌, ◌≤◌, Bool, true, false, cond, ℤ, pos, ◌+ℤ◌, ◌-ℤ◌, ◌*ℤ◌, ◌≢◌, nat_lt, unsigned_abs, refl}
use Rattle.std.proofs.Common.{ap, ◌∙◌, ⊎_elim, le_of_mul-le-mul_right, arith}
use Rattle.std.proofs.lemmas.Int.{ints}
use Rattle.std.proofs.lemmas.Bool.{ltb-true, lt-ltb, cases_lt, cond_both}
use Rattle.units.specs.Sums.{total, sum, tally}
use Rattle.units.proofs.Ring.{spread, pos-nat_abs}
use Rattle.units.proofs.Totals.{total_ext, total_add, total_pos, sum_mono, sum_scale}
use Rattle.units.proofs.Firsts.{tally-sum}
use Rattle.units.proofs.Floors.{floor_rest, rest_lt}
use Rattle.sharing.specs.Rules.{Lawful}
use Rattle.sharing.specs.Weighted.{nearest, down, remainder, odd_cents, sooner}
use Rattle.sharing.specs.Within.{lawful}
use Rattle.sharing.specs.WeightedLaws.{some_owner}
use Rattle.sharing.specs.Parts.{odd_cents_some, odd_cents_are}
use Rattle.sharing.specs.Ranks.{one, tally_mono, rank, Order, ranks_below}

module _ (c : ℕ → ℕ) where
  sooner_out : (j k : ℕ) → sooner c j k ≡ true → (c k ≤ c j) × (c k ≡ c j → j < k)
  sooner_out j k h = (grind arith, λ e. grind arith)

  sooner_in : (j k : ℕ) → c k ≤ c j → (c k ≡ c j → j < k) → sooner c j k ≡ true
  sooner_in j k h g = grind arith

  sooner_itself : (k : ℕ) → sooner c k k ≡ false
  sooner_itself k = grind arith

  sooner_through : (i j k : ℕ) → sooner c i j ≡ true → sooner c j k ≡ true → sooner c i k ≡ true
  sooner_through i j k g h =
      let p = sooner_out i j g in
      let q = sooner_out j k h in
      sooner_in i k (omega arith) (λ e. omega (arith, p.1 (omega arith), q.1 (omega arith)))

  sooner_either : (j k : ℕ) → (j ≢ k) → sooner c j k ≡ false → sooner c k j ≡ true
  sooner_either j k d h = grind arith

  sooner_order : Order (sooner c)
  sooner_order = record { itself = sooner_itself; through = sooner_through; either = sooner_either }

-- a number below d is at most d, and is 0 where it is not above 0
below_one : (r d : ℕ) → r < d → r ≤ one (nat_lt 0 r) * d
below_one zero d l = omega arith
below_one (suc r) d l = omega (arith, ap (λ t. one t * d) (lt-ltb 0 (suc r) (omega arith)))

one_pos : (t : Bool) → cond t (pos 1) (pos 0) ≡ pos (one t)
one_pos true = refl
one_pos false = refl

module _ (n : ℕ) (w : ℕ → ℕ) (some : 1 ≤ n) (part : 1 ≤ sum n w) (a : ℤ) where
  abbrev d : ℕ
  d = sum n w

  abbrev below : ℕ → ℤ
  below = down n w a

  abbrev left : ℕ → ℕ
  left = remainder n w a

  abbrev odd : ℕ
  odd = odd_cents n w a

  abbrev gets : ℕ → Bool
  gets k = nat_lt (rank (sooner left) n k) odd

  abbrev some_left : ℕ → Bool
  some_left k = nat_lt 0 (left k)

  pub odd_is : a -ℤ total n below ≡ pos odd
  odd_is = pos-nat_abs (a -ℤ total n below) (odd_cents_some n w d some part refl a)

  pub odd_rests : (odd ≤ n - 1) × (odd * d ≡ sum n left)
  odd_rests = odd_cents_are n w d some part refl a odd odd_is

  adds_up : total n (λ k. below k +ℤ cond (gets k) (pos 1) (pos 0)) ≡ a
  adds_up =
      let cents = total_ext n (λ k. cond (gets k) (pos 1) (pos 0)) (λ k. pos (one (gets k))) (λ k _. one_pos (gets k)) ∙ total_pos n (λ k. one (gets k)) in
      omega (arith, ints, total_add n below (λ k. cond (gets k) (pos 1) (pos 0)), tally-sum n gets, ranks_below (sooner left) (sooner_order left) n odd (omega (arith, odd_rests)), odd_is)

  -- the owners with a rest are no fewer than the odd cents, and come before those without
  covered : odd ≤ tally n some_left
  covered = le_of_mul-le-mul_right (omega (arith, odd_rests.1, ap (λ m. m * d) (tally-sum n some_left), sum_scale n (λ j. one (some_left j)) d, sum_mono n left (λ j. one (some_left j) * d) (λ j _. below_one (left j) d (rest_lt d part (a *ℤ pos (w j)))))) part

  gets_rest : (k : ℕ) → gets k ≡ true → 0 < left k
  gets_rest k g = ⊎_elim
      (λ l. l)
      (λ l.
      let first = tally_mono n some_left (λ j. sooner left j k) (λ j h. let more = ltb-true 0 (left j) h in sooner_in left j k (omega arith) (λ e. absurd (omega arith))) in
      absurd (omega (arith, covered, ltb-true (rank (sooner left) n k) odd g)))
      (cases_lt 0 (left k))

  near : (k : ℕ) → unsigned_abs (((below k +ℤ cond (gets k) (pos 1) (pos 0)) *ℤ pos d) -ℤ (a *ℤ pos (w k))) < 1 * d
  near k =
      let exact = floor_rest d part (a *ℤ pos (w k)) in
      let few = rest_lt d part (a *ℤ pos (w k)) in
      cond_both (gets k) (pos 1) (pos 0) (λ z. unsigned_abs (((below k +ℤ z) *ℤ pos d) -ℤ (a *ℤ pos (w k))) < 1 * d)
      (λ g. simp spread (omega (arith, ints, gets_rest k g)))
      (λ g. simp spread (omega (arith, ints)))

pub nearest_lawful : (n : ℕ) (w : ℕ → ℕ) → 1 ≤ sum n w → Lawful (nearest n w)
nearest_lawful n w part = let some : 1 ≤ n = some_owner n w part in lawful n w (sum n w) 1 _ (record {
  some_owner = some;
  some_part = part;
  whole = refl;
  adds_up = λ a _. adds_up n w some part a;
  near = λ a _ k _. near n w some part a k;
  slack_low = omega arith;
  slack_high = some;
})
