-- What a loss book means, the bounds that every book keeps, and what each book says.
use Rattle.std.specs.Prelude.{◌≡◌, ℕ, ◌+◌, ◌-◌, ◌*◌, ◌/◌, ◌≤◌, min, Bool, false, cond, ◌&&◌, List, [], ◌∷◌, ℤ, pos, negsuc, nat_le, nat_lt, unsigned_abs}
use Rattle.losses.specs.declared.curve.Segment.{Segment}
use Rattle.losses.specs.declared.direction.Direction.{Direction}
use Rattle.losses.specs.declared.direction.Direction.TheVariants.{FromRegion1, FromRegion2}

-- the loss in whole kWh of a link at a flow in kWh, which is above 0 from region 1 and below 0 from region 2
abbrev pub Losses : Type 0
Losses = ℕ → ℤ → ℕ

-- links 0 to 7, and flows from -200,000 to 200,000 kWh
abbrev pub covered : ℕ → ℤ → Bool
covered link flow = nat_le link 7 && nat_le (unsigned_abs flow) 200000

-- a loss is at most the size of the flow, and 0 at a link or a flow that is not covered
pub record Bounded (loss : Losses) : Type 0 where
  pub at_most : (link : ℕ) (flow : ℤ) → loss link flow ≤ unsigned_abs flow
  pub elsewhere : (link : ℕ) (flow : ℤ) → covered link flow ≡ false → loss link flow ≡ 0

-- no link loses anything
abbrev pub lossless : Losses
lossless link flow = 0

-- slope times length, summed over the segments from `low` up to the size of the flow; the last slope goes on
abbrev pub along : ℕ → List Segment → ℕ → ℕ
along low [] size = 0
along low (s ∷ []) size = s.slope * (size - low)
along low (s ∷ t ∷ more) size = s.slope * (min size s.upper - low) + along s.upper (t ∷ more) size

-- the side that a flow comes from
abbrev pub direction : ℤ → Direction
direction (pos n) = FromRegion1
direction (negsuc n) = FromRegion2

-- the losses by the segments of each link in each direction, rounded down
abbrev pub segmented : (ℕ → Direction → List Segment) → Losses
segmented segments link flow = cond (covered link flow) (along 0 (segments link (direction flow)) (unsigned_abs flow) / 10000) 0

-- the losses by one book for the links below n, and by another for the others
abbrev pub split : ℕ → Losses → Losses → Losses
split n first second link flow = cond (nat_lt link n) (first link flow) (second link flow)
