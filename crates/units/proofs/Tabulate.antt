-- Laws of `tabulate`, the list f 0, f 1, .., f (n - 1).
use Rattle.std.proofs.Common.{◌≡◌, ℕ, zero, suc, ◌+◌, ◌<◌, ◌≤◌, cond, eqb, List, [], ◌∷◌, ◌++◌, map, length, get_or, set, sym, refl, ap, ◌∙◌, ⊎_elim, add-one, arith, length-set}
use Rattle.std.proofs.lemmas.List.{get_or_default, length_push, get_or_push, get_or_append_left, get_or_past, get_or-set_same, get_or-set_other, same_lists, map_push}
use Rattle.std.proofs.lemmas.Bool.{cases_eq, eq-eqb, ne_eqb}
use Rattle.units.specs.Sums.{tabulate}

module _ {A : Type 0} where
  pub length-tabulate : (n : ℕ) (f : ℕ → A) → length (tabulate n f) ≡ n
  length-tabulate zero f = refl
  length-tabulate (suc n) f = omega (arith, length_push (tabulate n f) (f n), length-tabulate n f)

  pub get_or-tabulate : (n : ℕ) (f : ℕ → A) (k : ℕ) (d : A) → k < n → get_or (tabulate n f) k d ≡ f k
  get_or-tabulate zero f k d l = absurd (omega arith)
  get_or-tabulate (suc n) f k d l = ⊎_elim
      (λ e. get_or_push (tabulate n f) (f n) d k (length-tabulate n f ∙ sym e) ∙ ap f (sym e))
      (λ e. get_or_append_left (tabulate n f) (f n ∷ []) d k (omega (arith, length-tabulate n f)) ∙ get_or-tabulate n f k d (omega arith))
      (cases_eq k n)

  pub get_or-tabulate_past : (n : ℕ) (f : ℕ → A) (k : ℕ) (d : A) → n ≤ k → get_or (tabulate n f) k d ≡ d
  get_or-tabulate_past n f k d l = get_or_past (tabulate n f) k d (omega (arith, length-tabulate n f))

  pub tabulate_ext : (n : ℕ) (f g : ℕ → A) → ((k : ℕ) → k < n → f k ≡ g k) → tabulate n f ≡ tabulate n g
  tabulate_ext zero f g h = refl
  tabulate_ext (suc n) f g h = λ i. tabulate_ext n f g (λ k l. h k (omega arith)) i ++ (h n (omega arith) i ∷ [])

  -- a list of length n whose elements are f's
  pub tabulate_is : (n : ℕ) (f : ℕ → A) (xs : List A) → length xs ≡ n → ((k : ℕ) (d : A) → k < n → get_or xs k d ≡ f k) → xs ≡ tabulate n f
  tabulate_is n f xs e h = same_lists xs (tabulate n f) (e ∙ sym (length-tabulate n f)) (λ k d l. h k d (omega arith) ∙ sym (get_or-tabulate n f k d (omega arith)))

  pub tabulate-get_or : (n : ℕ) (xs : List A) (d : A) → length xs ≡ n → tabulate n (λ k. get_or xs k d) ≡ xs
  tabulate-get_or n xs d e = sym (tabulate_is n (λ k. get_or xs k d) xs e (λ k c l. get_or_default xs k c d (omega arith)))

  -- one more place, as a loop's step counts it
  pub tabulate_more : (n : ℕ) (f : ℕ → A) → tabulate (n + 1) f ≡ tabulate n f ++ (f n ∷ [])
  tabulate_more n f = ap (λ m. tabulate m f) (add-one n)

  pub set-tabulate : (n : ℕ) (f : ℕ → A) (i : ℕ) (a : A) → i < n → set (tabulate n f) i a ≡ tabulate n (λ k. cond (eqb i k) a (f k))
  set-tabulate n f i a l = tabulate_is n (λ k. cond (eqb i k) a (f k)) (set (tabulate n f) i a) (length-set (tabulate n f) i a ∙ length-tabulate n f) at
    where
      at : (k : ℕ) (d : A) → k < n → get_or (set (tabulate n f) i a) k d ≡ cond (eqb i k) a (f k)
      at k d p = ⊎_elim
          (λ e. rw (← e) (get_or-set_same (tabulate n f) i a d (omega (arith, length-tabulate n f)) ∙ ap (λ t. cond t a (f i)) (sym (eq-eqb i i refl))))
          (λ e. get_or-set_other (tabulate n f) i k a d (λ q. e (sym q)) ∙ get_or-tabulate n f k d p ∙ ap (λ t. cond t a (f k)) (sym (ne_eqb i k e)))
          (cases_eq i k)

pub map-tabulate : {A B : Type 0} (g : A → B) (n : ℕ) (f : ℕ → A) → map g (tabulate n f) ≡ tabulate n (λ k. g (f k))
map-tabulate g zero f = refl
map-tabulate g (suc n) f = map_push g (tabulate n f) (f n) ∙ ap (λ xs. xs ++ (g (f n) ∷ [])) (map-tabulate g n f)
