-- Bounds that hold at every place of a grid, entered or not.
use Rattle.std.proofs.Common.{ℕ, ◌<◌, ◌≤◌, List, length, get_or, ⊎_elim, mul-le-mul, arith}
use Rattle.std.proofs.lemmas.List.{get_or_past}
use Rattle.std.proofs.lemmas.Bool.{cases_lt}
use Rattle.register.specs.Contents.{Network}
use Rattle.grid.specs.References.{Holds, no_corridor, no_link, no_point, no_dna, corridor_at, link_at, point_at, dna_at}
use Rattle.register.specs.Fields.{factor}
use Rattle.grid.specs.Views.{of_grid}
use Rattle.grid.specs.declared.checked.Checked.{Checked}
use Rattle.grid.proofs.References.{none_broken, corridor_entry, link_entry, point_entry, dna_entry}

pub grid_holds : (g : Checked) → Holds (of_grid g.grid)
grid_holds g = none_broken (of_grid g.grid) g.whole

-- ---- bounds at every place

at_every : {A : Type 0} (P : A → Type 0) (xs : List A) (d : A) (i : ℕ) → P d → (i < length xs → P (get_or xs i d)) → P (get_or xs i d)
at_every P xs d i none some = ⊎_elim some (λ past. rw (get_or_past xs i d past) none) (cases_lt i (length xs))

module _ (net : Network) (h : Holds net) (i : ℕ) where
  pub corridor_low1 : (corridor_at net i).region1 < 8
  corridor_low1 = at_every (λ c. c.region1 < 8) net.corridors no_corridor i (omega arith) (λ l. (corridor_entry net h i l).low1)

  pub corridor_low2 : (corridor_at net i).region2 < 8
  corridor_low2 = at_every (λ c. c.region2 < 8) net.corridors no_corridor i (omega arith) (λ l. (corridor_entry net h i l).low2)

  pub link_low : (link_at net i).corridor < 8
  link_low = at_every (λ l. l.corridor < 8) net.links no_link i (omega arith) (λ l. (link_entry net h i l).low)

  pub link_part : (link_at net i).part1 ≤ 10000
  link_part = at_every (λ l. l.part1 ≤ 10000) net.links no_link i (omega arith) (λ l. (link_entry net h i l).part)

  pub point_low : (point_at net i).region < 8
  point_low = at_every (λ p. p.region < 8) net.points no_point i (omega arith) (λ l. (point_entry net h i l).low)

  pub point_marginal : (point_at net i).marginal ≤ 15000
  point_marginal = at_every (λ p. p.marginal ≤ 15000) net.points no_point i (omega arith) (λ l. (point_entry net h i l).marginal_high)

  pub point_distribution : (point_at net i).distribution ≤ 12000
  point_distribution = at_every (λ p. p.distribution ≤ 12000) net.points no_point i (omega arith) (λ l. (point_entry net h i l).distribution_high)

  pub factor_high : factor (point_at net i) ≤ 18000
  factor_high = omega (arith, mul-le-mul point_marginal point_distribution)

  pub dna_low : (dna_at net i).region < 8
  dna_low = at_every (λ d. d.region < 8) net.dnas no_dna i (omega arith) (λ l. (dna_entry net h i l).low)

  pub dna_boundary : (dna_at net i).boundary ≤ 15000
  dna_boundary = at_every (λ d. d.boundary ≤ 15000) net.dnas no_dna i (omega arith) (λ l. (dna_entry net h i l).boundary_high)
