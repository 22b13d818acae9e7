-- How large the sides of an asset can be, and the sum of differences over a side.
use Rattle.std.proofs.Common.{◌≡◌, ℕ, ◌+◌, ◌-◌, ◌*◌, ◌<◌, ◌≤◌, Bool, true, false, cond, length, pos, ◌+ℤ◌, ◌-ℤ◌, ◌*ℤ◌, refl, ap, ◌∙◌, ap₂, arith}
use borrow.Author.Differences.{ints}
use Rattle.units.specs.Sums.{total, sum, tally, when}
use Rattle.units.proofs.Ring.{*ℤ_distrib_right, sums, spread}
use Rattle.units.proofs.Firsts.{tally-sum}
use Rattle.units.proofs.Totals.{total_ext, total_pos, total_sub, total_scale, when_sub, when_scale, sum_mono, sum_scale, sum_split}
use Rattle.register.specs.Contents.{Network}
use Rattle.register.specs.Fields.{factor}
use Rattle.grid.specs.References.{Holds, point_at, dna_at, point_feeds, dna_feeds}
use Rattle.grid.proofs.References.{dna_entry}
use Rattle.assets.specs.Sides.{Apart}
use Rattle.assets.specs.Assets.{energy, side}

-- ---- a sum over the places that pass a test, in natural numbers

module _ (n : ℕ) (test : ℕ → Bool) where
  abbrev pub counted : (ℕ → ℕ) → ℕ
  counted f = sum n (λ i. cond (test i) (f i) 0)

  pub total_counted : (f : ℕ → ℕ) → total n (λ i. when (test i) (pos (f i))) ≡ pos (counted f)
  total_counted f = total_ext n (λ i. when (test i) (pos (f i))) (λ i. pos (cond (test i) (f i) 0)) (λ i _. one (test i) (f i)) ∙ total_pos n (λ i. cond (test i) (f i) 0)
    where
      one : (b : Bool) (k : ℕ) → when b (pos k) ≡ pos (cond b k 0)
      one true k = refl
      one false k = refl

  -- at most a bound for each place that passes
  pub counted_tally : (f : ℕ → ℕ) (b : ℕ) → ((i : ℕ) → f i ≤ b) → counted f ≤ tally n test * b
  counted_tally f b h =
      omega (arith, sum_mono n (λ i. cond (test i) (f i) 0) (λ i. cond (test i) 1 0 * b) (λ i _. one (test i) i), sum_scale n (λ i. cond (test i) 1 0) b, ap (λ k. k * b) (tally-sum n test))
    where
      one : (t : Bool) (i : ℕ) → cond t (f i) 0 ≤ cond t 1 0 * b
      one true i = omega (arith, h i)
      one false i = omega arith

-- no fewer of more places
pub counted_more : (test : ℕ → Bool) (f : ℕ → ℕ) (m n : ℕ) → m ≤ n → counted m test f ≤ counted n test f
counted_more test f m n l =
    let all : n ≡ m + (n - m) = omega arith in
    let split = sum_split m (n - m) (λ i. cond (test i) (f i) 0) in
    omega (arith, ap (λ k. counted k test f) all, split)

-- ---- a side

pub side_energy : (net : Network) (at_point at_asset : ℕ → ℕ) (d : ℕ)
    → side net at_point at_asset d energy ≡ pos (counted (length net.points) (point_feeds net d) at_point + counted (length net.dnas) (dna_feeds net d) at_asset)
side_energy net at_point at_asset d =
    ap₂ (λ x y. x +ℤ y) (total_counted (length net.points) (point_feeds net d) at_point) (total_counted (length net.dnas) (dna_feeds net d) at_asset)

-- the side of an asset that is entered, as far as it is summed
module _ (net : Network) (h : Holds net) (at_point : ℕ → ℕ) (points : (i : ℕ) → at_point i ≤ 200000) (d : ℕ) (low : d < length net.dnas) where
  pub points_room : (n : ℕ) → n ≤ length net.points → counted n (point_feeds net d) at_point ≤ 3200000
  points_room n l = omega (
    arith,
    counted_more (point_feeds net d) at_point n (length net.points) l,
    counted_tally (length net.points) (point_feeds net d) at_point 200000 points,
    (dna_entry net h d low).few_feed,
  )

  pub assets_room : (at_asset : ℕ → ℕ) → ((m : ℕ) → at_asset m ≤ 200000) → (n : ℕ) → n ≤ length net.dnas
      → counted (length net.points) (point_feeds net d) at_point + counted n (dna_feeds net d) at_asset ≤ 3200000
  assets_room at_asset assets n l = omega (
    arith,
    counted_tally (length net.points) (point_feeds net d) at_point 200000 points,
    counted_more (dna_feeds net d) at_asset n (length net.dnas) l,
    counted_tally (length net.dnas) (dna_feeds net d) at_asset 200000 assets,
    (dna_entry net h d low).few_feed,
  )

-- ---- the sum of differences is the boundary's factor times the energy, less the energy at its own factors

pub side_apart : (net : Network) (at_point at_asset : ℕ → ℕ) (d : ℕ) → Apart (side net at_point at_asset d)
side_apart net at_point at_asset d b =
    ap₂ (λ x y. x +ℤ y)
    (difference (length net.points) (point_feeds net d) at_point (λ i. factor (point_at net i)))
    (difference (length net.dnas) (dna_feeds net d) at_asset (λ m. (dna_at net m).boundary))
    ∙ omega (arith, sums, *ℤ_distrib_right (total (length net.points) (λ i. when (point_feeds net d i) (pos (at_point i)))) (total (length net.dnas) (λ m. when (dna_feeds net d m) (pos (at_asset m)))) (pos b))
  where
    apart : (e f : ℕ) → pos e *ℤ (pos b -ℤ pos f) ≡ pos e *ℤ pos b -ℤ pos (e * f)
    apart e f = simp spread (omega (arith, ints))

    difference : (n : ℕ) (test : ℕ → Bool) (e f : ℕ → ℕ)
        → total n (λ i. when (test i) (pos (e i) *ℤ (pos b -ℤ pos (f i)))) ≡ total n (λ i. when (test i) (pos (e i))) *ℤ pos b -ℤ total n (λ i. when (test i) (pos (e i * f i)))
    difference n test e f =
        total_ext n (λ i. when (test i) (pos (e i) *ℤ (pos b -ℤ pos (f i)))) (λ i. when (test i) (pos (e i)) *ℤ pos b -ℤ when (test i) (pos (e i * f i)))
        (λ i _. ap (when (test i)) (apart (e i) (f i)) ∙ when_sub (test i) (pos (e i) *ℤ pos b) (pos (e i * f i)) ∙ ap (λ x. x -ℤ when (test i) (pos (e i * f i))) (when_scale (test i) (pos (e i)) (pos b)))
        ∙ total_sub n (λ i. when (test i) (pos (e i)) *ℤ pos b) (λ i. when (test i) (pos (e i * f i)))
        ∙ ap (λ x. x -ℤ total n (λ i. when (test i) (pos (e i * f i)))) (total_scale n (λ i. when (test i) (pos (e i))) (pos b))
