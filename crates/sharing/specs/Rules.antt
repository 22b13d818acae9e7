-- What a sharing rule means, and the laws that every rule keeps.
use Rattle.std.specs.Prelude.{◌≡◌, ℕ, ◌*◌, ◌<◌, ◌≤◌, Bool, cond, ◌&&◌, List, ℤ, pos, ◌-ℤ◌, ◌*ℤ◌, nat_le, nat_lt, unsigned_abs}
use Rattle.units.specs.Floor.{floor, rest}
use Rattle.units.specs.Rows.{over}
use Rattle.units.specs.Sums.{total, sum}

-- the largest amount that a rule shares, in cents, either way
abbrev pub limit : ℕ
limit = 1000000000000

abbrev pub shareable : ℤ → Bool
shareable a = nat_le (unsigned_abs a) limit

-- an amount that a rule shares, or 0
abbrev pub within_limit : ℤ → ℤ
within_limit a = cond (shareable a) a (pos 0)

-- n of d parts of an amount, rounded down to whole cents, and what that leaves, in parts of d
abbrev pub part_down : ℤ → ℕ → ℕ → ℤ
part_down a n d = floor (a *ℤ pos n) d

abbrev pub part_rest : ℤ → ℕ → ℕ → ℕ
part_rest a n d = rest (a *ℤ pos n) d

pub record Rule : Type 0 where
  pub owners : ℕ
  -- the exact part of a place is its numerator over the denominator
  pub numerator : ℕ → ℕ
  pub denominator : ℕ
  -- a share differs from the exact part by less than so many cents
  pub slack : ℕ
  -- the cents that a place gets of an amount
  pub share : ℕ → ℤ → ℤ

-- by how much a share differs from its exact part, in parts of the denominator
abbrev pub off : Rule → ℕ → ℤ → ℤ
off r k a = (r.share k a *ℤ pos r.denominator) -ℤ (a *ℤ pos (r.numerator k))

-- the laws: numerators make up the denominator, shares make up the amount, and each share is within the slack of its exact part
pub record Lawful (r : Rule) : Type 0 where
  pub some_owner : 1 ≤ r.owners
  pub some_part : 1 ≤ r.denominator
  pub whole : sum r.owners r.numerator ≡ r.denominator
  pub adds_up : (a : ℤ) → unsigned_abs a ≤ limit → total r.owners (λ k. r.share k a) ≡ a
  pub near : (a : ℤ) → unsigned_abs a ≤ limit → (k : ℕ) → k < r.owners → unsigned_abs (off r k a) < r.slack * r.denominator
  pub slack_low : 1 ≤ r.slack
  pub slack_high : r.slack ≤ r.owners
  -- other places and amounts get 0
  pub no_place : (a : ℤ) (k : ℕ) → r.owners ≤ k → r.share k a ≡ pos 0
  pub no_amount : (a : ℤ) (k : ℕ) → limit < unsigned_abs a → r.share k a ≡ pos 0

-- a share at the places and amounts that a rule has, and 0 at others
abbrev pub within : ℕ → (ℕ → ℤ → ℤ) → ℕ → ℤ → ℤ
within owners share k a = cond (nat_lt k owners && shareable a) (share k a) (pos 0)

-- a row after a rule has given: each owner's share at its place as far as the row goes, the other places as they were
abbrev pub given : Rule → ℤ → List ℤ → List ℤ
given r a row = over r.owners (λ k. r.share k a) row
