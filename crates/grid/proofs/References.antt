-- What a register whose references hold says of each of its entries.
use Rattle.std.proofs.Common.{◌≡◌, ℕ, suc, ◌<◌, ◌≤◌, true, false, length, is_some, Some, None, Option, refl, arith}
use Rattle.std.proofs.lemmas.Bool.Decides.{nat_tests}
use Rattle.units.specs.Sums.{first_failure}
use Rattle.units.proofs.Firsts.{first_failure_none}
use Rattle.register.specs.Contents.{Network}
use Rattle.grid.specs.References.{Holds, place_in, broken, corridor_at, link_at, point_at, dna_at, corridor_holds, link_holds, point_holds, dna_holds, fed_by}

-- ---- every test, from the register as a whole

-- as a ghost field says it
pub none_broken : (net : Network) → is_some (broken net) ≡ false → Holds net
none_broken net = none (broken net)
  where
    none : (o : Option ℕ) → is_some o ≡ false → o ≡ None
    none (Some k) e = absurd (cc)
    none None e = refl

none_in : (roll : ℕ) (o rest : Option ℕ) → place_in roll o rest ≡ None → (o ≡ None) × (rest ≡ None)
none_in roll (Some k) rest e = absurd (cc)
none_in roll None rest e = (refl, e)

module _ (net : Network) where
  pub record Tests : Type 0 where
    pub corridors : (i : ℕ) → i < length net.corridors → corridor_holds net i ≡ true
    pub links : (i : ℕ) → i < length net.links → link_holds net i ≡ true
    pub points : (i : ℕ) → i < length net.points → point_holds net i ≡ true
    pub dnas : (i : ℕ) → i < length net.dnas → dna_holds net i ≡ true

  pub tests_hold : Holds net → Tests
  tests_hold h =
      let from_links = none_in 1 (first_failure (length net.corridors) (corridor_holds net)) _ h in
      let from_points = none_in 2 (first_failure (length net.links) (link_holds net)) _ from_links.1 in
      let from_dnas = none_in 3 (first_failure (length net.points) (point_holds net)) _ from_points.1 in
      let from_none = none_in 4 (first_failure (length net.dnas) (dna_holds net)) _ from_dnas.1 in
      record {
        corridors = first_failure_none (length net.corridors) (corridor_holds net) from_links.0;
        links = first_failure_none (length net.links) (link_holds net) from_points.0;
        points = first_failure_none (length net.points) (point_holds net) from_dnas.0;
        dnas = first_failure_none (length net.dnas) (dna_holds net) from_none.0;
      }

-- ---- what each test says

module _ (net : Network) (i : ℕ) where
  pub record CorridorFits : Type 0 where
    pub rising : (corridor_at net i).region1 < (corridor_at net i).region2
    pub low1 : (corridor_at net i).region1 < 8
    pub low2 : (corridor_at net i).region2 < 8
    pub entered1 : (corridor_at net i).region1 < net.regions
    pub entered2 : (corridor_at net i).region2 < net.regions

  pub corridor_fits : corridor_holds net i ≡ true → CorridorFits
  corridor_fits h = grind (arith, nat_tests)

  pub record LinkFits : Type 0 where
    pub entered : (link_at net i).corridor < length net.corridors
    pub low : (link_at net i).corridor < 8
    pub part : (link_at net i).part1 ≤ 10000

  pub link_fits : link_holds net i ≡ true → LinkFits
  link_fits h = grind (arith, nat_tests)

  pub record PointFits : Type 0 where
    pub entered : (point_at net i).region < net.regions
    pub low : (point_at net i).region < 8
    pub marginal_low : 5000 ≤ (point_at net i).marginal
    pub marginal_high : (point_at net i).marginal ≤ 15000
    pub distribution_low : 8000 ≤ (point_at net i).distribution
    pub distribution_high : (point_at net i).distribution ≤ 12000
    pub asset : (n : ℕ) → (point_at net i).dna ≡ suc n → (n < length net.dnas) × ((dna_at net n).region ≡ (point_at net i).region)

  pub point_fits : point_holds net i ≡ true → PointFits
  point_fits h = grind (arith, nat_tests)

  pub record DnaFits : Type 0 where
    pub entered : (dna_at net i).region < net.regions
    pub low : (dna_at net i).region < 8
    pub boundary_low : 5000 ≤ (dna_at net i).boundary
    pub boundary_high : (dna_at net i).boundary ≤ 15000
    pub downstream : (n : ℕ) → (dna_at net i).downstream ≡ suc n → (n < i) × ((dna_at net n).region ≡ (dna_at net i).region)
    pub few_feed : fed_by net i ≤ 16

  pub dna_fits : dna_holds net i ≡ true → DnaFits
  dna_fits h = grind (arith, nat_tests)

-- ---- the same, from the register as a whole

module _ (net : Network) (h : Holds net) (i : ℕ) where
  pub corridor_entry : i < length net.corridors → CorridorFits net i
  corridor_entry l = corridor_fits net i ((tests_hold net h).corridors i l)

  pub link_entry : i < length net.links → LinkFits net i
  link_entry l = link_fits net i ((tests_hold net h).links i l)

  pub point_entry : i < length net.points → PointFits net i
  point_entry l = point_fits net i ((tests_hold net h).points i l)

  pub dna_entry : i < length net.dnas → DnaFits net i
  dna_entry l = dna_fits net i ((tests_hold net h).dnas i l)
