-- The ranges of an entry's fields, the asset that a field names, and a point's factor.
use Rattle.std.specs.Prelude.{ℕ, zero, suc, ◌+◌, ◌*◌, ◌/◌, Bool, cond, not, ◌&&◌, List, [], ◌∷◌, is_some, Some, None, Option, ◌==◌, nat_le}
use Rattle.register.specs.declared.entry.Region.{Region}
use Rattle.register.specs.declared.entry.Corridor.{Corridor}
use Rattle.register.specs.declared.entry.Link.{Link}
use Rattle.register.specs.declared.entry.Point.{Point}
use Rattle.register.specs.declared.entry.Dna.{Dna}

-- low ≤ n ≤ high
abbrev pub between : ℕ → ℕ → ℕ → Bool
between low high n = nat_le low n && nat_le n high

-- the place of the first field that is out of range, where the fields before place n are in range
abbrev pub first_out : ℕ → List Bool → Option ℕ
first_out n [] = None
first_out n (fits ∷ more) = cond fits (first_out (suc n) more) (Some n)

-- every field is in range
abbrev pub in_range : Option ℕ → Bool
in_range unfit = not (is_some unfit)

-- ---- the first field of an entry that is out of range

abbrev pub region_unfit : Region → Option ℕ
region_unfit r = first_out 0 (not (r.code == 0) ∷ [])

abbrev pub corridor_unfit : Corridor → Option ℕ
corridor_unfit c = first_out 0 (nat_le c.region1 7 ∷ nat_le c.region2 7 ∷ [])

abbrev pub link_unfit : Link → Option ℕ
link_unfit l = first_out 0 (nat_le l.corridor 7 ∷ nat_le l.part1 10000 ∷ [])

abbrev pub point_unfit : Point → Option ℕ
point_unfit p = first_out 0 (nat_le p.region 7 ∷ nat_le p.dna 8 ∷ between 5000 15000 p.marginal ∷ between 8000 12000 p.distribution ∷ [])

abbrev pub dna_unfit : Dna → Option ℕ
dna_unfit d = first_out 0 (nat_le d.region 7 ∷ nat_le d.downstream 8 ∷ between 5000 15000 d.boundary ∷ [])

-- the asset that a field names: the field is the asset's number plus one, or 0 for none
abbrev pub numbered : ℕ → Option ℕ
numbered zero = None
numbered (suc n) = Some n

-- a point's factor: the product of its two factors in ten-thousandths, to the nearest whole, halves up
abbrev pub factor : Point → ℕ
factor p = (p.marginal * p.distribution + 5000) / 10000
