-- The table of a book of segments: its bounds, what it says of a flow, and what a filling leaves.
use Rattle.std.specs.Prelude.{◌≡◌, ℕ, zero, suc, ◌/◌, ◌<◌, ◌≤◌, true, List, [], ◌∷◌, ◌++◌, map, length, set, ℤ, Some, None, Option, nat_lt, slice_index_or, slice_set, unsigned_abs, refl}
use Rattle.std.proofs.Common.{sym, ap, ◌∙◌, arith}
use Rattle.std.proofs.lemmas.List.{get_or-map, map-set, set-get_or}
use Rattle.std.proofs.lemmas.Bool.{le-ltb, cond_both, cond-false}
use Rattle.units.specs.Refusals.{unless}
use Rattle.losses.specs.declared.curve.Curve.{Curve}
use Rattle.losses.specs.declared.direction.Direction.{Direction}
use Rattle.losses.specs.Directions.{numbered}
use Rattle.losses.specs.Books.{Bounded, covered, along, direction, segmented}
use Rattle.losses.specs.Fillings.{segment, rising, index, segments_at, unfit_segment, filled}
use Rattle.losses.specs.Views.{segments}
use Rattle.losses.specs.Rising.{along_le}

-- also past the end of the table
segments_rising : (curves : List Curve) (i : ℕ) → rising 0 (slice_index_or (map segments curves) i []) ≡ true
segments_rising [] i = refl
segments_rising (c ∷ curves) zero = c.sound
segments_rising (c ∷ curves) (suc i) = segments_rising curves i

pub segmented_bounded : (curves : List Curve) → Bounded (segmented (segments_at (map segments curves)))
segmented_bounded curves = record { at_most = few; elsewhere = λ link flow h. cond-false (covered link flow) _ 0 h }
  where
    few : (link : ℕ) (flow : ℤ) → segmented (segments_at (map segments curves)) link flow ≤ unsigned_abs flow
    few link flow =
        let i = index link (direction flow) in
        cond_both (covered link flow) (along 0 (slice_index_or (map segments curves) i []) (unsigned_abs flow) / 10000) 0 (λ x. x ≤ unsigned_abs flow)
        (λ _. omega (arith, along_le 0 (slice_index_or (map segments curves) i []) (unsigned_abs flow) (segments_rising curves i)))
        (λ _. omega arith)

-- what a filling of the curve at i leaves, which the code reads with any default
module _ (curves : List Curve) (i : ℕ) (default : Curve) (l : i < length curves) where
  here : segments (slice_index_or curves i default) ≡ slice_index_or (map segments curves) i []
  here = sym (get_or-map segments curves i default [] l)

  pub filled_here : (link n u s : ℕ) (way : Direction) (new : Curve) → link < 8 → numbered n ≡ Some way → i ≡ index link way
      → let old = segments (slice_index_or curves i default) in segments new ≡ unless (unfit_segment old u s) (old ++ (segment u s ∷ [])) old
      → map segments (slice_set curves i new) ≡ filled (map segments curves) link n u s
  filled_here link n u s way new few named at e =
      map-set segments curves i new
      ∙ ap (set (map segments curves) i) (e ∙ (λ t. unless (unfit_segment (here t) u s) (here t ++ (segment u s ∷ [])) (here t)))
      ∙ go (unfit_segment (slice_index_or (map segments curves) i []) u s)
      ∙ rw (at, named, cond-false (nat_lt 7 link) _ _ (le-ltb 7 link (omega arith))) refl
    where
      go : (o : Option ℕ) → let old = slice_index_or (map segments curves) i [] in slice_set (map segments curves) i (unless o (old ++ (segment u s ∷ [])) old) ≡ unless o (slice_set (map segments curves) i (old ++ (segment u s ∷ []))) (map segments curves)
      go None = refl
      go (Some p) = set-get_or (map segments curves) i []
