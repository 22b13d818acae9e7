-- What is read of what is metered, and how large it is.
use Rattle.std.proofs.Common.{◌≡◌, ℕ, ◌<◌, ◌≤◌, length, get_or, map, ℤ, pos, negsuc, nat_abs, sym, ap, ◌∙◌, arith}
use Rattle.std.proofs.lemmas.List.{get_or-map, get_or-take}
use Rattle.interval.specs.Figures.{sent_at, taken_at}
use Rattle.interval.specs.Metered.{network_of, figures_of}
use Rattle.interval.specs.Views.{sent_of, taken_of}
use Rattle.interval.specs.declared.interval.Reading.{Reading}
use Rattle.interval.specs.declared.metered.Metered.{Metered}
use Rattle.assets.specs.Assets.{above_0, below_0}

module _ (m : Metered) (i : ℕ) (low : i < length (network_of m).points) (slot : i < length m.interval.now.readings) (r : Reading) (is : (d : Reading) → r ≡ get_or m.interval.now.readings i d) where
  pub sent_read : r.sent ≡ sent_at (figures_of m) i
  sent_read =
      ap sent_of (is r) ∙ sym (get_or-map sent_of m.interval.now.readings i r 0 slot)
      ∙ sym (get_or-take (length (network_of m).points) (map sent_of m.interval.now.readings) i 0 low)

  pub taken_read : r.taken ≡ taken_at (figures_of m) i
  taken_read =
      ap taken_of (is r) ∙ sym (get_or-map taken_of m.interval.now.readings i r 0 slot)
      ∙ sym (get_or-take (length (network_of m).points) (map taken_of m.interval.now.readings) i 0 low)

-- ---- flows that are small

above_size : (z : ℤ) → above_0 z ≤ nat_abs z
above_size (pos n) = omega arith
above_size (negsuc n) = omega arith

below_size : (z : ℤ) → below_0 z ≤ nat_abs z
below_size (pos n) = omega arith
below_size (negsuc n) = omega arith

module _ (flows : ℕ → ℤ) (small : (k : ℕ) → nat_abs (flows k) ≤ 200000) (k : ℕ) where
  pub above_small : above_0 (flows k) ≤ 200000
  above_small = omega (arith, above_size (flows k), small k)

  pub below_small : below_0 (flows k) ≤ 200000
  below_small = omega (arith, below_size (flows k), small k)
