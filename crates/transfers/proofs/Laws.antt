-- What enters the links and does not leave them is lost, and all net exports together are what is lost.
use Rattle.std.proofs.Common.{◌≡◌, ℕ, ◌*◌, ◌<◌, eqb, length, ℤ, pos, ◌-ℤ◌, ◌*ℤ◌, nat_abs, ◌≤ℤ◌, sym, ◌∙◌, ap₂}
use Rattle.units.specs.Sums.{total, when}
use Rattle.units.proofs.Ring.{*ℤ_distrib_right_sub, *ℤ_one_right}
use Rattle.units.proofs.Totals.{when_scale, total_ext, total_sub, total_scale, total_swap, total_pick}
use Rattle.register.specs.Contents.{Network}
use Rattle.grid.specs.References.{Holds}
use Rattle.losses.specs.Books.{Losses, Bounded}
use Rattle.interval.specs.Figures.{Figures, flow}
use Rattle.transfers.specs.Links.{exporter, importer, exporting_part, lost, entry, exit, link_export, net_export}
use Rattle.transfers.proofs.Ends.{ends_differ, leaving_outward}
use Rattle.transfers.proofs.Bounds.{part_high}
use Rattle.transfers.proofs.LinkSums.{exporter_low, importer_low}

-- two values at one place each of 8, where each place has a worth
placed : (x y : ℤ) (i j : ℕ) (worth : ℕ → ℤ) → i < 8 → j < 8 → total 8 (λ r. (when (eqb i r) x -ℤ when (eqb j r) y) *ℤ worth r) ≡ x *ℤ worth i -ℤ y *ℤ worth j
placed x y i j worth p q =
    total_ext 8 _ _ apart
    ∙ total_sub 8 (λ r. when (eqb i r) (x *ℤ worth r)) (λ r. when (eqb j r) (y *ℤ worth r))
    ∙ ap₂ (λ a b. a -ℤ b) (total_pick 8 i (λ r. x *ℤ worth r) p) (total_pick 8 j (λ r. y *ℤ worth r) q)
  where
    apart : (r : ℕ) → r < 8 → (when (eqb i r) x -ℤ when (eqb j r) y) *ℤ worth r ≡ when (eqb i r) (x *ℤ worth r) -ℤ when (eqb j r) (y *ℤ worth r)
    apart r _ = simp when_scale (*ℤ_distrib_right_sub (when (eqb i r) x) (when (eqb j r) y) (worth r))

module _ (net : Network) (fig : Figures) (loss : Losses) where
  -- no book takes more out of a link than flows
  pub exit_outward : Bounded loss → (l : ℕ) → pos 0 ≤ℤ exit net fig loss l
  exit_outward b l = leaving_outward (exporting_part net fig loss l) (nat_abs (flow fig l)) (lost net fig loss l) (b.at_most l (flow fig l))

  -- what enters a link and does not leave it is lost
  pub lost_in_link : Holds net → (l : ℕ) → entry net fig loss l -ℤ exit net fig loss l ≡ pos (10000 * lost net fig loss l)
  lost_in_link h l = ends_differ (exporting_part net fig loss l) (nat_abs (flow fig l)) (lost net fig loss l) (part_high net fig loss h l)

  module _ (h : Holds net) where
    -- ---- net exports

    -- with a worth for each region
    pub exports_with : (worth : ℕ → ℤ)
        → total 8 (λ r. net_export net fig loss r *ℤ worth r) ≡ total (length net.links) (λ l. entry net fig loss l *ℤ worth (exporter net fig loss l) -ℤ exit net fig loss l *ℤ worth (importer net fig loss l))
    exports_with worth = total_ext 8 _ _ by_region ∙ total_swap 8 (length net.links) worth_at ∙ total_ext (length net.links) _ _ by_link
      where
        worth_at : ℕ → ℕ → ℤ
        worth_at r l = link_export net fig loss r l *ℤ worth r

        by_region : (r : ℕ) → r < 8 → net_export net fig loss r *ℤ worth r ≡ total (length net.links) (worth_at r)
        by_region r _ = sym (total_scale (length net.links) (link_export net fig loss r) (worth r))

        by_link : (l : ℕ) → l < length net.links
            → total 8 (λ r. worth_at r l) ≡ entry net fig loss l *ℤ worth (exporter net fig loss l) -ℤ exit net fig loss l *ℤ worth (importer net fig loss l)
        by_link l p = placed (entry net fig loss l) (exit net fig loss l) (exporter net fig loss l) (importer net fig loss l) worth (exporter_low net fig loss h l) (importer_low net fig loss h l)

    -- all net exports together are what the links lose
    pub exports_are_losses : total 8 (net_export net fig loss) ≡ total (length net.links) (λ l. pos (10000 * loss l (flow fig l)))
    exports_are_losses = total_ext 8 _ _ once ∙ exports_with (λ _. pos 1) ∙ total_ext (length net.links) _ _ by_link
      where
        once : (r : ℕ) → r < 8 → net_export net fig loss r ≡ net_export net fig loss r *ℤ pos 1
        once r _ = sym (*ℤ_one_right (net_export net fig loss r))

        by_link : (l : ℕ) → l < length net.links → entry net fig loss l *ℤ pos 1 -ℤ exit net fig loss l *ℤ pos 1 ≡ pos (10000 * lost net fig loss l)
        by_link l p = simp *ℤ_one_right (lost_in_link h l)
