-- A derogation over a lawful rule keeps the laws: the first share is off by less than 1, and so is the rest that the rule below shares.
use Rattle.std.specs.Prelude.{◌≡◌, ℕ, zero, suc, ◌+◌, ◌-◌, ◌*◌, ◌<◌, ◌≤◌, ℤ, pos, ◌+ℤ◌, ◌-ℤ◌, ◌*ℤ◌, unsigned_abs}
use Rattle.std.proofs.Common.{sym, ap, ◌∙◌, add-mul, mul-le-mul, mul-lt-mul_of_pos_right, le_of_lt, arith, lit<}
use Rattle.std.proofs.lemmas.Int.{ints}
use Rattle.units.specs.Sums.{total, sum}
use Rattle.units.proofs.Ring.{*ℤ_assoc, *ℤ_distrib_left, *ℤ_distrib_right, *ℤ_distrib_right_sub, *ℤ_left_comm}
use Rattle.units.proofs.Totals.{total_first, sum_first, sum_scale_left, sum_place}
use Rattle.units.proofs.Floors.{floor_rest, rest_lt, floor_part}
use Rattle.sharing.specs.Rules.{Rule, Lawful, limit, part_rest}
use Rattle.sharing.specs.Derogated.{at_most_all, first_share, derogated, derogated_share, derogated_numerator}
use Rattle.sharing.specs.Within.{lawful}

-- 10000 s less y, where x and y make up 10000 a, and x is 10000 f and r
linear : (s a b f x y : ℤ) (r : ℕ) → b ≡ a -ℤ f → x +ℤ y ≡ pos 10000 *ℤ a → x ≡ pos 10000 *ℤ f +ℤ pos r → pos 10000 *ℤ s -ℤ y ≡ pos 10000 *ℤ (s -ℤ b) +ℤ pos r
linear s a b f x y r e h k = omega (arith, ints)

-- the first share f lacks r ten-thousandths of a cent; m times as many parts lack m times that
module _ (f a : ℤ) (m q r : ℕ) (lacks : a *ℤ pos q ≡ f *ℤ pos 10000 +ℤ pos r) where
  first_lacks : a *ℤ pos (q * m) ≡ pos 10000 *ℤ (f *ℤ pos m) +ℤ pos (r * m)
  first_lacks =
      sym (*ℤ_assoc a (pos q) (pos m)) ∙ ap (λ z. z *ℤ pos m) lacks ∙ *ℤ_distrib_right (f *ℤ pos 10000) (pos r) (pos m)
      ∙ ap (λ z. z +ℤ pos (r * m)) (*ℤ_assoc f (pos 10000) (pos m) ∙ *ℤ_left_comm f (pos 10000) (pos m))

  -- a share s of the other t ten-thousandths is off as in the rule below, and for what the first share lacks
  rest_off : (s : ℤ) (d t : ℕ) → q + t ≡ 10000 → (s *ℤ pos (10000 * d)) -ℤ (a *ℤ pos (t * m)) ≡ pos 10000 *ℤ ((s *ℤ pos d) -ℤ ((a -ℤ f) *ℤ pos m)) +ℤ pos (r * m)
  rest_off s d t all =
      let both = sym (*ℤ_distrib_left a (pos (q * m)) (pos (t * m))) ∙ ap (λ x. a *ℤ pos x) (sym (add-mul q t m) ∙ ap (λ x. x * m) all) ∙ *ℤ_left_comm a (pos 10000) (pos m) in
      rw (*ℤ_left_comm s (pos 10000) (pos d)) (linear (s *ℤ pos d) (a *ℤ pos m) ((a -ℤ f) *ℤ pos m) (f *ℤ pos m) (a *ℤ pos (q * m)) (a *ℤ pos (t * m)) (r * m) (*ℤ_distrib_right_sub a f (pos m)) both first_lacks)

module _ (p : ℕ) (below : Rule) (keeps : Lawful below) where
  abbrev q : ℕ
  q = at_most_all p

  abbrev first : ℤ → ℤ
  first = first_share p

  all : q + (10000 - q) ≡ 10000
  all = omega arith

  whole : sum (suc below.owners) (derogated_numerator p below) ≡ 10000 * below.denominator
  whole =
      let parts = sum_first below.owners (derogated_numerator p below) ∙ ap (λ x. q * below.denominator + x) (sum_scale_left below.owners (10000 - q) below.numerator ∙ ap (λ x. (10000 - q) * x) keeps.whole) in
      parts ∙ sym (add-mul q (10000 - q) below.denominator) ∙ ap (λ x. x * below.denominator) all

  pub shareable_left : (a : ℤ) → unsigned_abs a ≤ limit → unsigned_abs (a -ℤ first a) ≤ limit
  shareable_left a h = omega (arith, floor_part 10000 (lit< tt) a q (omega arith))

  adds_up : (a : ℤ) → unsigned_abs a ≤ limit → total (suc below.owners) (λ k. derogated_share p below k a) ≡ a
  adds_up a h = omega (arith, ints, total_first below.owners (λ k. derogated_share p below k a), keeps.adds_up (a -ℤ first a) (shareable_left a h))

  near : (a : ℤ) → unsigned_abs a ≤ limit → (k : ℕ) → k < suc below.owners → unsigned_abs ((derogated_share p below k a *ℤ pos (10000 * below.denominator)) -ℤ (a *ℤ pos (derogated_numerator p below k))) < suc below.slack * (10000 * below.denominator)
  near a h zero l =
      let lacks = first_lacks (first a) a below.denominator q (part_rest a q 10000) (floor_rest 10000 (lit< tt) (a *ℤ pos q)) in
      let few = mul-lt-mul_of_pos_right (rest_lt 10000 (lit< tt) (a *ℤ pos q)) keeps.some_part in
      omega (arith, ints, *ℤ_left_comm (first a) (pos 10000) (pos below.denominator))
  near a h (suc k) l =
      let part : below.numerator k ≤ below.denominator = omega (arith, sum_place below.owners k below.numerator (omega arith), keeps.whole) in
      let few = mul-le-mul (le_of_lt (rest_lt 10000 (lit< tt) (a *ℤ pos q))) part in
      let moved = rest_off (first a) a (below.numerator k) q (part_rest a q 10000) (floor_rest 10000 (lit< tt) (a *ℤ pos q)) (below.share k (a -ℤ first a)) below.denominator (10000 - q) all in
      omega (arith, ints, keeps.near (a -ℤ first a) (shareable_left a h) k (omega arith))

  pub derogated_lawful : Lawful (derogated p below)
  derogated_lawful = lawful _ _ _ _ _ (record {
    some_owner = omega arith;
    some_part = omega (arith, keeps.some_part);
    whole = whole;
    adds_up = adds_up;
    near = near;
    slack_low = omega arith;
    slack_high = omega (arith, keeps.slack_high);
  })
