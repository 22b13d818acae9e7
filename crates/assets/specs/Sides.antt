-- What code has added up of the energies that feed an asset. Only proofs of code read this page.
use Rattle.std.specs.Prelude.{◌≡◌, ℕ, ◌+◌, ◌*◌, ◌<◌, Bool, cond, List, length, slice_index_or, ℤ, pos, ◌+ℤ◌, ◌-ℤ◌, ◌*ℤ◌, nat_lt}
use Rattle.units.specs.Sums.{total, when}
use Rattle.register.specs.Contents.{Network}
use Rattle.register.specs.Fields.{factor}
use Rattle.grid.specs.References.{point_at, point_feeds}
use Rattle.assets.specs.Assets.{Side, energy, at_own, at_difference}
use Rattle.assets.specs.declared.feed.Feed.{Feed}
use Rattle.assets.specs.declared.sides.Sides.{Sides}

abbrev pub surplus_of : Sides → ℤ
surplus_of x = pos x.senders.energy -ℤ pos x.takers.energy

abbrev pub larger_of : Sides → Feed
larger_of x = cond (nat_lt x.takers.energy x.senders.energy) x.senders x.takers

-- one more energy at its own factor
pub record Added (x : Feed) (e own : ℕ) (x' : Feed) : Type 0 where
  pub energy_more : x'.energy ≡ x.energy + e
  pub own_more : x'.at_own ≡ x.at_own + e * own

-- a side's energy, and the same at the own factors
pub record Feeds (side : Side) (x : Feed) : Type 0 where
  pub energy_is : side energy ≡ pos x.energy
  pub own_is : side at_own ≡ pos x.at_own

-- a side at a boundary's factor less the same at the own factors
abbrev pub Apart : Side → Type 0
Apart side = (boundary : ℕ) → side (at_difference boundary) ≡ (side energy *ℤ pos boundary) -ℤ side at_own

pub record Feeding (sent taken : Side) (x : Sides) : Type 0 where
  pub senders_are : Feeds sent x.senders
  pub takers_are : Feeds taken x.takers
  pub senders_apart : Apart sent
  pub takers_apart : Apart taken

-- a side with the first n of some energies at their own factors, where each counts that passes the test
abbrev pub and_more : Side → (ℕ → Bool) → (ℕ → ℕ) → (ℕ → ℕ) → ℕ → Side
and_more side test e own n weight = side weight +ℤ total n (λ i. when (test i) (weight (e i) (own i)))

-- the first n points of asset d
abbrev pub from_points : Network → (ℕ → ℕ) → ℕ → ℕ → Side
from_points net at_point d = and_more (λ weight. pos 0) (point_feeds net d) at_point (λ i. factor (point_at net i))

-- both sides as they are added up
abbrev pub Both : Side → Side → Sides → Type 0
Both sent taken x = Feeds sent x.senders × Feeds taken x.takers

-- what feeds each of eight assets
pub record Fed (sent taken : ℕ → Side) (xs : List Sides) : Type 0 where
  pub slots : length xs ≡ 8
  pub each : (d : ℕ) → d < 8 → (none : Sides) → Both (sent d) (taken d) (slice_index_or xs d none)
