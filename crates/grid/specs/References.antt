-- When the references of a register's entries hold.
use Rattle.std.specs.Prelude.{◌≡◌, ℕ, ◌+◌, ◌*◌, Bool, true, not, ◌&&◌, length, Some, None, Option, ◌==◌, nat_le, nat_lt, slice_index_or}
use Rattle.units.specs.Refusals.{Answer, done, turned_down, refused}
use Rattle.units.specs.declared.refusal.Layer.TheVariants.{Register}
use Rattle.register.specs.Contents.{Network}
use Rattle.register.specs.Fields.{in_range, corridor_unfit, link_unfit, point_unfit, dna_unfit, numbered}
use Rattle.units.specs.Sums.{tally, every, first_failure}
use Rattle.register.specs.declared.entry.Corridor.{Corridor}
use Rattle.register.specs.declared.entry.Link.{Link}
use Rattle.register.specs.declared.entry.Point.{Point}
use Rattle.register.specs.declared.entry.Dna.{Dna}

-- ---- the entries of zeros
abbrev pub no_corridor : Corridor
no_corridor = record { region1 = 0; region2 = 0 }

abbrev pub no_link : Link
no_link = record { corridor = 0; part1 = 0 }

abbrev pub no_point : Point
no_point = record { region = 0; dna = 0; marginal = 0; distribution = 0 }

abbrev pub no_dna : Dna
no_dna = record { region = 0; downstream = 0; boundary = 0 }

-- ---- the entry of a number, or zeros beyond the last
abbrev pub corridor_at : Network → ℕ → Corridor
corridor_at net i = slice_index_or net.corridors i no_corridor

abbrev pub link_at : Network → ℕ → Link
link_at net i = slice_index_or net.links i no_link

abbrev pub point_at : Network → ℕ → Point
point_at net i = slice_index_or net.points i no_point

abbrev pub dna_at : Network → ℕ → Dna
dna_at net i = slice_index_or net.dnas i no_dna

-- two entered regions, the first lower
abbrev pub paired : ℕ → Corridor → Bool
paired regions c = in_range (corridor_unfit c) && (nat_lt c.region1 c.region2 && nat_lt c.region2 regions)

-- the fields are in range, and one of them is the number of one of the `end` entries of another roll
abbrev pub refers : Option ℕ → ℕ → ℕ → Bool
refers unfit number end = in_range unfit && nat_lt number end

abbrev pub same_pair : Corridor → Corridor → Bool
same_pair b c = b.region1 == c.region1 && b.region2 == c.region2

abbrev pub other_pair : Network → ℕ → ℕ → Bool
other_pair net i j = not (same_pair (corridor_at net j) (corridor_at net i))

-- no earlier corridor has the pair of corridor i
abbrev pub fresh_pair : Network → ℕ → Bool
fresh_pair net i = every i (other_pair net i)

-- an asset that is named is below asset `end` and of the region
abbrev pub names_asset : Network → ℕ → ℕ → Option ℕ → Bool
names_asset net end region None = true
names_asset net end region (Some d) = nat_lt d end && (dna_at net d).region == region

-- point i is a point of asset n
abbrev pub point_feeds : Network → ℕ → ℕ → Bool
point_feeds net n i = (point_at net i).dna == n + 1

-- asset i is directly upstream of asset n
abbrev pub dna_feeds : Network → ℕ → ℕ → Bool
dna_feeds net n i = (dna_at net i).downstream == n + 1

-- how many points and assets feed asset n
abbrev pub fed_by : Network → ℕ → ℕ
fed_by net n = tally (length net.points) (point_feeds net n) + tally (length net.dnas) (dna_feeds net n)

-- ---- the references of entry i
abbrev pub corridor_holds : Network → ℕ → Bool
corridor_holds net i = paired net.regions (corridor_at net i) && fresh_pair net i

abbrev pub link_holds : Network → ℕ → Bool
link_holds net i = let l = link_at net i in refers (link_unfit l) l.corridor (length net.corridors)

abbrev pub point_holds : Network → ℕ → Bool
point_holds net i =
    let p = point_at net i in
    refers (point_unfit p) p.region net.regions && names_asset net (length net.dnas) p.region (numbered p.dna)

abbrev pub dna_holds : Network → ℕ → Bool
dna_holds net i =
    let d = dna_at net i in
    refers (dna_unfit d) d.region net.regions
    && (names_asset net i d.region (numbered d.downstream) && nat_le (fed_by net i) 16)

-- an entry of a roll as 256 × roll + entry, or where there is none, what comes after
abbrev pub place_in : ℕ → Option ℕ → Option ℕ → Option ℕ
place_in roll (Some k) rest = Some (256 * roll + k)
place_in roll None rest = rest

-- the first entry whose reference fails, as 256 × roll + entry
abbrev pub broken : Network → Option ℕ
broken net =
    place_in 1 (first_failure (length net.corridors) (corridor_holds net))
    (place_in 2 (first_failure (length net.links) (link_holds net))
    (place_in 3 (first_failure (length net.points) (point_holds net))
    (place_in 4 (first_failure (length net.dnas) (dna_holds net)) None)))

abbrev pub Holds : Network → Type 0
Holds net = broken net ≡ None

-- the answer to a call that gives `a`, unless a reference fails
abbrev pub unless_broken : {A : Type 0} → Network → A → Answer A
unless_broken {A = A} net a = by_place (broken net)
  where
    by_place : Option ℕ → Answer A
    by_place None = done a
    by_place (Some place) = turned_down (refused 8 Register place)
