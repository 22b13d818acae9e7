-- The parts of an amount by weights, each rounded down: the odd cents that this leaves are what the rests come to.
use Rattle.std.specs.Prelude.{◌≡◌, ℕ, ◌-◌, ◌*◌, ◌<◌, ◌≤◌, ℤ, pos, ◌+ℤ◌, ◌-ℤ◌, ◌*ℤ◌, ◌≤ℤ◌, unsigned_abs}
use Rattle.std.proofs.Common.{ap, ◌∙◌, lt_of_mul-lt-mul_right, arith, lit<, to_z, of_z}
use Rattle.std.proofs.Math.IntN.{zero-*ℤ}
use Rattle.std.specs.Int.{w64}
use Rattle.std.proofs.lemmas.Int.{ints}
use Rattle.units.specs.Sums.{total, sum}
use Rattle.units.specs.Floor.{floor}
use Rattle.units.proofs.Fits.{small_back, product_size, product_back}
use Rattle.units.proofs.Ring.{*ℤ_distrib_right_sub, *ℤ_cancel_le}
use Rattle.units.proofs.Totals.{total_ext, total_add, total_scale, total_scale_left, total_pos, sum_mono_lt, sum_const}
use Rattle.units.proofs.Floors.{floor_rest, rest_lt, floor_zero, floor_bound}
use Rattle.sharing.specs.Rules.{limit, part_down, part_rest}

-- of 0 every part is 0
pub part_zero : (n d : ℕ) → part_down (pos 0) n d ≡ pos 0
part_zero n d = ap (λ z. floor z d) (zero-*ℤ (pos n)) ∙ floor_zero d

-- a part is no larger than the amount
pub part_size : (a : ℤ) (n d b : ℕ) → 0 < d → unsigned_abs a ≤ b → n ≤ d → unsigned_abs (part_down a n d) ≤ b
part_size a n d b p small l = floor_bound d p (a *ℤ pos n) b (product_size a (pos n) b d small l)

-- the product of an amount and a weight, as the code computes it
module _ (a : ℤ) (n : ℕ) (b : ℤ) (cast : b ≡ pos n) (small : unsigned_abs a ≤ limit) (few : n ≤ 1000000) where
  a_back : to_z w64 (of_z w64 a) ≡ a
  a_back = small_back a (omega arith)

  n_back : to_z w64 (of_z w64 b) ≡ pos n
  n_back = ap (λ z. to_z w64 (of_z w64 z)) cast ∙ small_back (pos n) (omega arith)

  pub times_back : to_z w64 (of_z w64 (to_z w64 (of_z w64 a) *ℤ to_z w64 (of_z w64 b))) ≡ a *ℤ pos n
  times_back = product_back _ _ a (pos n) limit 1000000 a_back n_back small few (lit< tt)

module _ (n : ℕ) (w : ℕ → ℕ) (d : ℕ) (some : 1 ≤ n) (part : 1 ≤ d) (whole : sum n w ≡ d) (a : ℤ) where
  abbrev down : ℕ → ℤ
  down k = part_down a (w k) d

  abbrev left : ℕ → ℕ
  left k = part_rest a (w k) d

  parts_add_up : total n (λ k. a *ℤ pos (w k)) ≡ a *ℤ pos d
  parts_add_up = total_scale_left n a (λ k. pos (w k)) ∙ ap (λ z. a *ℤ z) (total_pos n w ∙ ap pos whole)

  rests_are : (a -ℤ total n down) *ℤ pos d ≡ pos (sum n left)
  rests_are =
      let exact = total_ext n (λ k. a *ℤ pos (w k)) (λ k. down k *ℤ pos d +ℤ pos (left k)) (λ k _. floor_rest d part (a *ℤ pos (w k))) in
      let rests = total_add n (λ k. down k *ℤ pos d) (λ k. pos (left k)) in
      omega (arith, ints, parts_add_up, total_scale n down (pos d), total_pos n left, *ℤ_distrib_right_sub a (total n down) (pos d))

  pub rests_few : sum n left < n * d
  rests_few = omega (arith, sum_const n d, sum_mono_lt n 0 left (λ _. d) some (rest_lt d part (a *ℤ pos (w 0))) (λ k _. omega (arith, rest_lt d part (a *ℤ pos (w k)))))

  -- rounding down takes no cent too many
  pub odd_cents_some : pos 0 ≤ℤ (a -ℤ total n down)
  odd_cents_some = *ℤ_cancel_le (pos 0) (a -ℤ total n down) d part (omega (arith, ints, rests_are))

  -- c odd cents make up the rests, and are fewer than the owners
  pub odd_cents_are : (c : ℕ) → a -ℤ total n down ≡ pos c → (c ≤ n - 1) × (c * d ≡ sum n left)
  odd_cents_are c e =
      let rests : c * d ≡ sum n left = omega (arith, ints, ap (λ z. z *ℤ pos d) e, rests_are) in
      (omega (arith, lt_of_mul-lt-mul_right d {m = c} {n = n} (omega (arith, rests_few))), rests)
