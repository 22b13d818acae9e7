-- A word's kind is known by its number.
use Rattle.std.proofs.Common.{◌≡◌, ℕ, zero, suc, ◌<◌, false, eqb, Some, refl, arith}
use Rattle.std.proofs.lemmas.Bool.{ne_eqb}
use Rattle.std.specs.Option.{option_eq}
use Rattle.interval.specs.Kinds.{number, named}
use Rattle.interval.specs.declared.kind.Kind.{Kind}
use Rattle.interval.specs.declared.kind.Kind.TheVariants.{Opening, Price, Flow, Sent, Taken, Closing}
use Rattle.interval.specs.contracts.kind.KindPartialEq.TheImpl.{eq-value}

each : (P : Kind → Type 0) → P Opening → P Price → P Flow → P Sent → P Taken → P Closing → (k : Kind) → P k
each P a b d e f g Opening = a
each P a b d e f g Price = b
each P a b d e f g Flow = d
each P a b d e f g Sent = e
each P a b d e f g Taken = f
each P a b d e f g Closing = g

abbrev pub Same : ℕ → Kind → Type 0
Same n k = option_eq eq-value.it (named n) (Some k) ≡ eqb n (number k)

-- no kind has a number above 6
beyond : (n : ℕ) → 6 < n → (k : Kind) → Same n k
beyond n h =
    let a : eqb n 1 ≡ false = ne_eqb n 1 (λ e. omega arith) in
    let b : eqb n 2 ≡ false = ne_eqb n 2 (λ e. omega arith) in
    let d : eqb n 3 ≡ false = ne_eqb n 3 (λ e. omega arith) in
    let e : eqb n 4 ≡ false = ne_eqb n 4 (λ e. omega arith) in
    let f : eqb n 5 ≡ false = ne_eqb n 5 (λ e. omega arith) in
    let g : eqb n 6 ≡ false = ne_eqb n 6 (λ e. omega arith) in
    each (Same n) (rw (a, b, d, e, f, g)) (rw (a, b, d, e, f, g)) (rw (a, b, d, e, f, g)) (rw (a, b, d, e, f, g)) (rw (a, b, d, e, f, g)) (rw (a, b, d, e, f, g))

pub same : (n : ℕ) (k : Kind) → Same n k
same zero = each _ refl refl refl refl refl refl
same (suc zero) = each _ refl refl refl refl refl refl
same (suc (suc zero)) = each _ refl refl refl refl refl refl
same (suc (suc (suc zero))) = each _ refl refl refl refl refl refl
same (suc (suc (suc (suc zero)))) = each _ refl refl refl refl refl refl
same (suc (suc (suc (suc (suc zero))))) = each _ refl refl refl refl refl refl
same (suc (suc (suc (suc (suc (suc zero)))))) = each _ refl refl refl refl refl refl
same (suc (suc (suc (suc (suc (suc (suc n))))))) = beyond (suc (suc (suc (suc (suc (suc (suc n))))))) (omega arith)
