-- A rule whose shares are 0 outside its places and amounts: what its share function has to keep.
use Rattle.std.specs.Prelude.{◌≡◌, ℕ, ◌*◌, ◌<◌, ◌≤◌, ◌&&◌, ℤ, pos, ◌-ℤ◌, ◌*ℤ◌, nat_lt, unsigned_abs}
use Rattle.std.proofs.Common.{sym, ◌∙◌, subst}
use Rattle.std.proofs.lemmas.Bool.{lt-ltb, le-ltb, le-leb, lt-leb, and_from, and_left, and_right, cond-true, cond-false}
use Rattle.units.specs.Sums.{total, sum}
use Rattle.units.proofs.Totals.{total_ext}
use Rattle.sharing.specs.Rules.{Rule, Lawful, limit, shareable, within}

module _ (n : ℕ) (share : ℕ → ℤ → ℤ) (a : ℤ) (k : ℕ) where
  pub within_is : unsigned_abs a ≤ limit → k < n → within n share k a ≡ share k a
  within_is h l = cond-true (nat_lt k n && shareable a) (share k a) (pos 0) (and_from (nat_lt k n) (shareable a) (lt-ltb k n l) (le-leb (unsigned_abs a) limit h))

  pub within_no_place : n ≤ k → within n share k a ≡ pos 0
  within_no_place l = cond-false (nat_lt k n && shareable a) (share k a) (pos 0) (and_left (nat_lt k n) (shareable a) (le-ltb k n l))

  pub within_no_amount : limit < unsigned_abs a → within n share k a ≡ pos 0
  within_no_amount h = cond-false (nat_lt k n && shareable a) (share k a) (pos 0) (and_right (nat_lt k n) (shareable a) (lt-leb (unsigned_abs a) limit h))

-- such a rule
abbrev pub rule : ℕ → (ℕ → ℕ) → ℕ → ℕ → (ℕ → ℤ → ℤ) → Rule
rule n numerator d slack share = record { owners = n; numerator = numerator; denominator = d; slack = slack; share = within n share }

-- what its share function has to keep, at the amounts that it shares
pub record Shares (n : ℕ) (numerator : ℕ → ℕ) (d slack : ℕ) (share : ℕ → ℤ → ℤ) : Type 0 where
  pub some_owner : 1 ≤ n
  pub some_part : 1 ≤ d
  pub whole : sum n numerator ≡ d
  pub adds_up : (a : ℤ) → unsigned_abs a ≤ limit → total n (λ k. share k a) ≡ a
  pub near : (a : ℤ) → unsigned_abs a ≤ limit → (k : ℕ) → k < n → unsigned_abs ((share k a *ℤ pos d) -ℤ (a *ℤ pos (numerator k))) < slack * d
  pub slack_low : 1 ≤ slack
  pub slack_high : slack ≤ n

pub lawful : (n : ℕ) (numerator : ℕ → ℕ) (d slack : ℕ) (share : ℕ → ℤ → ℤ) → Shares n numerator d slack share → Lawful (rule n numerator d slack share)
lawful n numerator d slack share s = record {
  some_owner = s.some_owner;
  some_part = s.some_part;
  whole = s.whole;
  adds_up = λ a h. total_ext n (λ k. within n share k a) (λ k. share k a) (λ k l. within_is n share a k h l) ∙ s.adds_up a h;
  near = λ a h k l. subst (λ z. unsigned_abs ((z *ℤ pos d) -ℤ (a *ℤ pos (numerator k))) < slack * d) (sym (within_is n share a k h l)) (s.near a h k l);
  slack_low = s.slack_low;
  slack_high = s.slack_high;
  no_place = λ a k l. within_no_place n share a k l;
  no_amount = λ a k h. within_no_amount n share a k h;
}
