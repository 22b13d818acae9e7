-- Words that are read: each passes, and readings rise, so that each meter is read at most once.
use Rattle.std.proofs.Common.{◌≡◌, ℕ, zero, suc, ◌+◌, ◌-◌, ◌<◌, ◌≤◌, Bool, true, false, eqb, ltb, leb, ◌⊎◌, List, length, Some, None, Option, sym, refl, ap, ◌∙◌, subst, inl, inr, ⊎_elim, arith}
use Rattle.std.proofs.lemmas.Bool.{cases_eq, cases_lt, cases_Bool, cond-true, cond-false, both_ways, and_parts, leb-true, eqb-true, ltb-true}
use Rattle.units.specs.Refusals.{Refused, Answer, done}
use Rattle.register.specs.Contents.{Network}
use Rattle.interval.specs.Words.{read, read_on, fault, closes, answer_at, word, kind, point, energy, rank, reads, reading_of, readings_from, least_rank}
use Rattle.interval.proofs.Order.{required, fault_late, closes_after, least_more}
use Rattle.interval.proofs.Metering.{reading_passed, IsReading}

-- an answer with a count: no refusal, and the word closes or the rest has the same answer
settled : (o : Option Refused) (b : Bool) (rest : Answer ℕ) (j n : ℕ) → answer_at j o b rest ≡ done n
    → (o ≡ None) × (((b ≡ true) × (n ≡ suc j)) ⊎ ((b ≡ false) × (rest ≡ done n)))
settled (Some r) b rest j n e = let z : ◌≡◌ {A = ℕ} 0 1 = cc in absurd (omega arith)
settled None true rest j n e = (refl, inl (refl, cc))
settled None false rest j n e = (refl, inr (refl, e))

module _ (net : Network) (ws : List ℕ) (n : ℕ) where
  past : (left j : ℕ) → read_on net ws left j ≡ done n → j < n
  unfolding read_on
  past zero j e = let z : ◌≡◌ {A = ℕ} 0 1 = cc in absurd (omega arith)
  past (suc left) j e =
      let s = settled (fault net ws j) (closes net ws j) (read_on net ws left (suc j)) j n e in
      ⊎_elim
      (λ (h : (closes net ws j ≡ true) × (n ≡ suc j)). omega (arith, h.1))
      (λ (h : (closes net ws j ≡ false) × (read_on net ws left (suc j) ≡ done n)). omega (arith, past left (suc j) h.1))
      s.1

  -- word i passes, and closes exactly if it is the last
  pub record Passed (i : ℕ) : Type 0 where
    pub unrefused : fault net ws i ≡ None
    pub at_end : i + 1 ≡ n → closes net ws i ≡ true
    pub before : i + 1 < n → closes net ws i ≡ false

  passed : (left j : ℕ) → read_on net ws left j ≡ done n → (i : ℕ) → j ≤ i → i < n → Passed i
  unfolding read_on
  passed zero j e i a b = let z : ◌≡◌ {A = ℕ} 0 1 = cc in absurd (omega arith)
  passed (suc left) j e i a b =
      let s = settled (fault net ws j) (closes net ws j) (read_on net ws left (suc j)) j n e in
      ⊎_elim
      (λ (h : (closes net ws j ≡ true) × (n ≡ suc j)).
      let last : j ≡ i = omega (arith, h.1) in
      subst Passed last (record { unrefused = s.0; at_end = λ _. h.0; before = λ l. absurd (omega (arith, h.1)) }))
      (λ (h : (closes net ws j ≡ false) × (read_on net ws left (suc j) ≡ done n)).
      ⊎_elim
      (λ (same : j ≡ i). subst Passed same (record { unrefused = s.0; at_end = λ q. absurd (omega (arith, past left (suc j) h.1)); before = λ _. h.0 }))
      (λ (ne : j ≡ i → ⊥). passed left (suc j) h.1 i (omega arith) b)
      (cases_eq j i))
      s.1

  -- the last of the first m words that reads for point p and kind k, if there is one
  pub last_reading : (m k p : ℕ) → ((i : ℕ) × (i < m) × (reads net ws k p i ≡ true) × (reading_of net ws m k p ≡ energy (word ws i)))
      ⊎ ((reading_of net ws m k p ≡ 0) × ((i : ℕ) → i < m → reads net ws k p i ≡ false))
  unfolding reading_of
  last_reading zero k p = inr (refl, λ i l. absurd (omega arith))
  last_reading (suc m) k p =
      ⊎_elim
      (λ (t : reads net ws k p m ≡ true). inl (m, omega arith, t, cond-true (reads net ws k p m) (energy (word ws m)) (reading_of net ws m k p) t))
      (λ (t : reads net ws k p m ≡ false).
      let e = cond-false (reads net ws k p m) (energy (word ws m)) (reading_of net ws m k p) t in
      ⊎_elim
      (λ (h : (i : ℕ) × (i < m) × (reads net ws k p i ≡ true) × (reading_of net ws m k p ≡ energy (word ws i))). inl (h.0, omega (arith, h.1), h.2, e ∙ h.3))
      (λ (h : (reading_of net ws m k p ≡ 0) × ((i : ℕ) → i < m → reads net ws k p i ≡ false)).
      inr (e ∙ h.0, λ i l. ⊎_elim (λ (same : i ≡ m). ap (reads net ws k p) same ∙ t) (λ (ne : i ≡ m → ⊥). h.1 i (omega arith)) (cases_eq i m)))
      (last_reading m k p))
      (cases_Bool (reads net ws k p m))

  pub parts : (k p i : ℕ) → reads net ws k p i ≡ true → (readings_from net ≤ i) × (kind (word ws i) ≡ k) × (point (word ws i) ≡ p)
  parts k p i t =
      let a = and_parts _ _ t in
      let b = and_parts _ _ a.1 in
      (leb-true (readings_from net) i a.0, eqb-true (kind (word ws i)) k b.0, eqb-true (point (word ws i)) p b.1)

  module _ (whole : read net ws ≡ done n) where
    pub each : (i : ℕ) → i < n → Passed i
    unfolding read
    each i b = passed (suc (length ws)) 0 whole i (omega arith) b

    pub some : 0 < n
    unfolding read
    some = past (suc (length ws)) 0 whole

    pub inside : (i : ℕ) → i < n → i < length ws
    unfolding fault
    inside i b = ltb-true i (length ws) (required (ltb i (length ws)) _ _ (each i b).unrefused).0

    -- the closing word comes after the figures
    pub last_word : (readings_from net < n) × (eqb (kind (word ws (n - 1))) 6 ≡ true)
    unfolding closes
    last_word =
        let h = some in
        let a = and_parts (leb (readings_from net) (n - 1)) _ ((each (n - 1) (omega arith)).at_end (omega arith)) in
        let b = leb-true (readings_from net) (n - 1) a.0 in
        (omega arith, a.1)

    -- a word that is neither a figure nor the last is a reading
    pub is : (i : ℕ) → readings_from net ≤ i → i + 1 < n → IsReading (length net.points) (least_rank net ws i) (word ws i)
    is i from b =
        let e = each i (omega arith) in
        reading_passed ws (length net.points) (least_rank net ws i) i (sym (fault_late net ws i from) ∙ e.unrefused)
        (sym (closes_after net ws i from) ∙ e.before b)

    -- ranks rise, over a distance of d and one
    rises : (i d : ℕ) → readings_from net ≤ i → i + d + 2 < n → rank (word ws i) < rank (word ws (i + d + 1))
    rises i zero from b =
        let m = least_more net ws i from in
        let r = (is (i + 1) (omega arith) (omega arith)).rising in
        let same : i + 0 + 1 ≡ i + 1 = omega arith in
        rw same (omega (arith, m, r))
    rises i (suc d) from b =
        let h = rises i d from (omega arith) in
        let m = least_more net ws (i + d + 1) (omega arith) in
        let r = (is (i + d + 1 + 1) (omega arith) (omega arith)).rising in
        let same : i + suc d + 1 ≡ i + d + 1 + 1 = omega arith in
        rw same (omega (arith, h, m, r))

    pub rising : (i j : ℕ) → readings_from net ≤ i → i < j → j + 1 < n → rank (word ws i) < rank (word ws j)
    rising i j from lt b =
        let same : i + (j - i - 1) + 1 ≡ j = omega arith in
        rw same at (rises i (j - i - 1) from (omega arith))

    -- a word that reads is not the last
    pub reads_before : (k p i : ℕ) → k < 6 → i < n → reads net ws k p i ≡ true → i + 1 < n
    reads_before k p i small b t =
        let a = (parts k p i t).1 in
        ⊎_elim
        (λ (more : i + 1 < n). more)
        (λ (end : n ≤ i + 1).
        let same : n - 1 ≡ i = omega arith in
        let six = eqb-true (kind (word ws (n - 1))) 6 last_word.1 in
        let here = ap (λ j. kind (word ws j)) same in
        absurd (omega (arith, a, six, here)))
        (cases_lt (i + 1) n)

    -- two words do not read for one point and kind
    never : (k p i j : ℕ) → k < 6 → i < j → j < n → reads net ws k p i ≡ true → reads net ws k p j ≡ true → ⊥
    never k p i j small lt b s t =
        let a = parts k p i s in
        let d = parts k p j t in
        let ki : kind (word ws i) ≡ k = a.1 in
        let kj : kind (word ws j) ≡ k = d.1 in
        let pi : point (word ws i) ≡ p = a.2 in
        let pj : point (word ws j) ≡ p = d.2 in
        omega (arith, rising i j a.0 lt (reads_before k p j small b t), ki, kj, pi, pj)

    -- what a word reads is the reading of its point and kind
    pub found : (k p i : ℕ) → k < 6 → i < n → reads net ws k p i ≡ true → reading_of net ws n k p ≡ energy (word ws i)
    found k p i small b t =
        ⊎_elim
        (λ (h : (j : ℕ) × (j < n) × (reads net ws k p j ≡ true) × (reading_of net ws n k p ≡ energy (word ws j))).
        ⊎_elim
        (λ (lt : i < h.0). absurd (never k p i h.0 small lt h.1 t h.2))
        (λ (ge : h.0 ≤ i).
        ⊎_elim
        (λ (lt : h.0 < i). absurd (never k p h.0 i small lt b h.2 t))
        (λ (le : i ≤ h.0). let same : h.0 ≡ i = omega arith in h.3 ∙ ap (λ j. energy (word ws j)) same)
        (cases_lt h.0 i))
        (cases_lt i h.0))
        (λ (h : (reading_of net ws n k p ≡ 0) × ((j : ℕ) → j < n → reads net ws k p j ≡ false)). absurd (both_ways (reads net ws k p i) (h.1 i b) t))
        (last_reading n k p)
