-- A tally as a sum, and what `first_failure` finds.
use Rattle.std.proofs.Common.{◌≡◌, ℕ, zero, suc, ◌+◌, ◌<◌, Bool, true, false, cond, Some, None, Option, refl, ap, ◌∙◌, subst, ⊎_elim, arith}
use Rattle.std.proofs.lemmas.Bool.{both_ways, cases_eq, cases_order}
use Rattle.units.specs.Laws.{Finds}
use Rattle.units.specs.Sums.{sum, tally, first_failure}

-- ---- tally

pub tally-sum : (n : ℕ) (test : ℕ → Bool) → tally n test ≡ sum n (λ i. cond (test i) 1 0)
tally-sum zero test = refl
tally-sum (suc n) test = ap (λ (k : ℕ). k + cond (test n) 1 0) (tally-sum n test)

-- ---- first_failure

pub first_failure_finds : (n : ℕ) (test : ℕ → Bool) → Finds n test (first_failure n test)
first_failure_finds zero test = λ k l. absurd (omega arith)
first_failure_finds (suc n) test = step (first_failure n test) (test n) refl (first_failure_finds n test)
  where
    step : (o : Option ℕ) (t : Bool) → test n ≡ t → Finds n test o → Finds (suc n) test (elim o [ Some k ↦ Some k | None ↦ cond t None (Some n) ])
    step (Some k) t e h = (omega arith, h.1, h.2)
    step None true e h = λ k l. ⊎_elim (λ q. ap test q ∙ e) (λ q. h k (omega arith)) (cases_eq k n)
    step None false e h = (omega arith, e, h)

-- only one answer does so
pub first_failure_is : (n : ℕ) (test : ℕ → Bool) (o : Option ℕ) → Finds n test o → first_failure n test ≡ o
first_failure_is n test o h = same (first_failure n test) o (first_failure_finds n test) h
  where
    same : (a b : Option ℕ) → Finds n test a → Finds n test b → a ≡ b
    same None None g h = refl
    same None (Some k) g h = absurd (both_ways (test k) h.1 (g k h.0))
    same (Some j) None g h = absurd (both_ways (test j) g.1 (h j g.0))
    same (Some j) (Some k) g h = ⊎_elim (λ e. ap Some e) (⊎_elim (λ l. absurd (both_ways (test j) g.1 (h.2 j l))) (λ l. absurd (both_ways (test k) h.1 (g.2 k l)))) (cases_order j k)

pub first_failure_none : (n : ℕ) (test : ℕ → Bool) → first_failure n test ≡ None → (k : ℕ) → k < n → test k ≡ true
first_failure_none n test e = subst (Finds n test) e (first_failure_finds n test)
