use Rattle.std.proofs.Common.{◌≡◌, ℕ, ◌+◌, ◌/◌, ◌%◌, ◌^◌, ◌<◌, ◌≤◌, Bool, true, false, cond, ℤ, pos, negsuc, ◌+ℤ◌, nat_abs, Some, None, sym, refl, ap, ◌∙◌, subst, arith, lit<, w64, SFits, to_z, of_z, rules}
use borrow.Author.Differences.{ints}
use mir.Syntax.{w128}
use Rattle.std.proofs.lemmas.Int.{to_z-of_z}
use Rattle.std.proofs.lemmas.Bool.{lt-ltb, ltb-true}
use Rattle.units.specs.Amounts.{whole_cents, row, fits_64}
use Rattle.units.proofs.Ring.{nat_abs-+ℤ}
use Rattle.units.proofs.Floors.{floor_rest_unique}
use Rattle.units.proofs.amount.Amount.plus.Goals as goal

-- sums of 128 bits of what is far smaller
plain : (z x : ℤ) → z ≡ to_z w64 (of_z w64 x) → SFits w64 x → to_z w128 (of_z w128 z) ≡ x
plain z x e f = omega (arith, ints)

added : (a b x y : ℤ) → a ≡ x → b ≡ y → nat_abs x < 2 ^ 65 → nat_abs y < 2 ^ 65 → to_z w128 (of_z w128 (a +ℤ b)) ≡ x +ℤ y
added a b x y p q f g = omega (arith, ints)

size : (x : ℤ) → SFits w64 x → nat_abs x ≤ 2 ^ 63
size x f = omega (arith, ints)

module _ (x y r s t : ℤ) (k : ℕ) (f : SFits w64 x) (g : SFits w64 y) (p : r ≡ to_z w64 (of_z w64 x)) (q : s ≡ to_z w64 (of_z w64 y)) (e : t ≡ pos k) (small : k < 3) where
  cents_are : to_z w128 (of_z w128 (to_z w128 (of_z w128 r) +ℤ to_z w128 (of_z w128 s))) ≡ x +ℤ y
  cents_are = added _ _ x y (plain r x p f) (plain s y q g) (omega (arith, size x f)) (omega (arith, size y g))

  carry_is : to_z w128 (of_z w128 t) ≡ pos k
  carry_is = omega (arith, ints)

  carried : to_z w128 (of_z w128 (to_z w128 (of_z w128 (to_z w128 (of_z w128 r) +ℤ to_z w128 (of_z w128 s))) +ℤ to_z w128 (of_z w128 t))) ≡ x +ℤ y +ℤ pos k
  carried = added _ _ (x +ℤ y) (pos k) cents_are carry_is (omega (arith, nat_abs-+ℤ x y, size x f, size y g)) (omega arith)

-- cents and grains with the carry, and both amounts in grains
with_carry : (x y : ℤ) (g h : ℕ) → row (x +ℤ y +ℤ pos ((g + h) / 10000000)) ((g + h) % 10000000) ≡ row x g +ℤ row y h
with_carry x y g h = omega (arith, ints)

cents_with_carry : (x y : ℤ) (g h : ℕ) → x +ℤ y +ℤ pos ((g + h) / 10000000) ≡ whole_cents (row x g +ℤ row y h)
cents_with_carry x y g h = (floor_rest_unique 10000000 (lit< tt) _ _ ((g + h) % 10000000) (sym (with_carry x y g h)) (omega arith)).0

pub overflow_add-cents-2 : goal.overflow_add-cents-2
overflow_add-cents-2 c =
    let f : SFits w64 c.args.self.cents = search rules in
    let g : SFits w64 c.args.other.cents = search rules in
    omega (arith, ints)

not_true_false : (t : Bool) → (t ≡ true → ⊥) → t ≡ false
not_true_false true h = absurd (h refl)
not_true_false false h = refl

-- the number fits, or not, as a test
fits_yes : (z : ℤ) → SFits w64 z → fits_64 z ≡ true
fits_yes (pos n) f = lt-ltb n (2 ^ 63) f.sfits
fits_yes (negsuc n) f = lt-ltb n (2 ^ 63) f.sfits

fits_no : (z : ℤ) → (SFits w64 z → ⊥) → fits_64 z ≡ false
fits_no (pos n) h = not_true_false (fits_64 (pos n)) (λ e. h (record { sfits = ltb-true n (2 ^ 63) e }))
fits_no (negsuc n) h = not_true_false (fits_64 (negsuc n)) (λ e. h (record { sfits = ltb-true n (2 ^ 63) e }))

pub returns : goal.returns
returns c =
    let f : SFits w64 c.args.self.cents = search rules in
    let g : SFits w64 c.args.other.cents = search rules in
    let e = c.in-Ok.ensures in
    let fits : SFits w64 c.in-Ok.cents = omega (arith, ints) in
    let sum = carried _ _ _ _ _ _ f g c.from.ensures c.from-2.ensures c.from-3.ensures (omega arith) in
    let cents = to_z-of_z w64 c.in-Ok.cents fits ∙ e.1 ∙ sum in
    let all = ap (λ z. row z ((c.args.self.grains + c.args.other.grains) % 10000000)) cents ∙ with_carry c.args.self.cents c.args.other.cents c.args.self.grains c.args.other.grains in
    let whole = sym (to_z-of_z w64 c.in-Ok.cents fits) ∙ cents ∙ cents_with_carry c.args.self.cents c.args.other.cents c.args.self.grains c.args.other.grains in
    ap Some all ∙ sym (ap (λ t. cond t (Some (row c.args.self.cents c.args.self.grains +ℤ row c.args.other.cents c.args.other.grains)) None) (fits_yes _ (subst (SFits w64) whole fits)))

pub returns-in_default : goal.returns-in_default
returns-in_default c =
    let f : SFits w64 c.args.self.cents = search rules in
    let g : SFits w64 c.args.other.cents = search rules in
    let sum = carried _ _ _ _ _ _ f g c.from.ensures c.from-2.ensures c.from-3.ensures (omega arith) in
    let whole = sum ∙ cents_with_carry c.args.self.cents c.args.other.cents c.args.self.grains c.args.other.grains in
    sym (ap (λ t. cond t (Some (row c.args.self.cents c.args.self.grains +ℤ row c.args.other.cents c.args.other.grains)) None) (fits_no _ (λ fits. c.in_default.ensures (subst (SFits w64) (sym whole) fits))))
