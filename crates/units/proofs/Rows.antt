-- Rows that are written place by place.
use Rattle.std.proofs.Common.{◌≡◌, ℕ, zero, suc, ◌+◌, ◌-◌, ◌<◌, ◌≤◌, min, List, [], ◌∷◌, ◌++◌, length, get_or, take, drop, set, sym, refl, ap, ◌∙◌, ⊎_elim, append-nil, arith, length-append, length-drop}
use Rattle.std.proofs.lemmas.List.{append_assoc, get_or_append_left, get_or-append_right, get_or-drop, drop_more, drop_all, set_at, take_at, drop_at, length-take-le, drop-drop}
use Rattle.std.proofs.lemmas.Bool.{cases_lt}
use Rattle.units.specs.Sums.{tabulate}
use Rattle.units.specs.Rows.{over, over_from}
use Rattle.units.proofs.Tabulate.{length-tabulate, get_or-tabulate, tabulate_ext, tabulate_more}

module _ {A : Type 0} where
  pub over_length : (n : ℕ) (f : ℕ → A) (row : List A) → length (over n f row) ≡ length row
  over_length n f row = omega (arith, length-append (tabulate (min n (length row)) f) (drop n row), length-tabulate (min n (length row)) f, length-drop n row)

  -- what stands at a place
  module _ (n : ℕ) (f : ℕ → A) (row : List A) (k : ℕ) (d : A) where
    pub over_below : k < n → k < length row → get_or (over n f row) k d ≡ f k
    over_below l m =
        let below : k < min n (length row) = omega arith in
        get_or_append_left (tabulate (min n (length row)) f) (drop n row) d k (omega (arith, length-tabulate (min n (length row)) f))
        ∙ get_or-tabulate (min n (length row)) f k d below

    pub over_above : n ≤ k → k < length row → get_or (over n f row) k d ≡ get_or row k d
    over_above l m =
        let whole : min n (length row) ≡ n = omega arith in
        get_or-append_right (tabulate (min n (length row)) f) (drop n row) n k d (length-tabulate (min n (length row)) f ∙ whole) l
        ∙ get_or-drop n row (k - n) d
        ∙ ap (λ j. get_or row j d) (omega arith)

  -- a loop that writes f k at each place k: its step, and its end
  module _ (f : ℕ → A) (row : List A) where
    pub over_more : (i : ℕ) (x : A) → i < length row → x ≡ f i → set (over i f row) i x ≡ over (i + 1) f row
    over_more i x l e =
        let now : min i (length row) ≡ i = omega arith in
        let then : min (i + 1) (length row) ≡ i + 1 = omega arith in
        (λ t. set (tabulate (now t) f ++ drop_more row i x l t) i x)
        ∙ set_at (tabulate i f) (get_or row i x) (drop (i + 1) row) x i (length-tabulate i f)
        ∙ (λ t. tabulate i f ++ (e t ∷ drop (i + 1) row))
        ∙ sym (append_assoc (tabulate i f) (f i ∷ []) (drop (i + 1) row))
        ∙ ap (λ xs. xs ++ drop (i + 1) row) (sym (tabulate_more i f))
        ∙ ap (λ m. tabulate m f ++ drop (i + 1) row) (sym then)

    -- a loop that stops at the row's end, where that comes first
    pub over_stop : (n m : ℕ) → m ≡ min (length row) n → over m f row ≡ over n f row
    over_stop n m e = ⊎_elim
        (λ short.
        let here : min m (length row) ≡ min n (length row) = omega arith in
        let past = drop_all m row (omega arith) ∙ sym (drop_all n row (omega arith)) in
        (λ t. tabulate (here t) f ++ past t))
        (λ long. let same : m ≡ n = omega arith in ap (λ j. over j f row) same)
        (cases_lt (length row) n)

    pub over_all : (n : ℕ) → length row ≡ n → over n f row ≡ tabulate n f
    over_all n e =
        let all : min n (length row) ≡ n = omega arith in
        (λ t. tabulate (all t) f ++ drop_all n row (omega arith) t) ∙ append-nil (tabulate n f)

  -- the step of a loop that has come to the places `now`
  pub over_write : (f : ℕ → A) (row now : List A) (i : ℕ) (x : A) → now ≡ over i f row → i < length row → x ≡ f i → set now i x ≡ over (i + 1) f row
  over_write f row now i x so_far l e = ap (λ xs. set xs i x) so_far ∙ over_more f row i x l e

  -- the end of such a loop over row[..c], which has now come to be the places `now`
  pub over_front : (f : ℕ → A) (row now : List A) (n c k : ℕ) → now ≡ over k f (take c row) → k ≡ c → c ≡ min (length row) n → now ++ drop c row ≡ over n f row
  over_front f row now n c k so_far e all =
      let whole : min c (length row) ≡ c = omega arith in
      ap (λ xs. xs ++ drop c row) (so_far ∙ ap (λ j. over j f (take c row)) e ∙ over_all f (take c row) c (length-take-le c row (omega arith)))
      ∙ ap (λ m. tabulate m f ++ drop c row) (sym whole)
      ∙ over_stop f row n c all

  pub over_ext : (n : ℕ) (f g : ℕ → A) (row : List A) → ((k : ℕ) → k < n → f k ≡ g k) → over n f row ≡ over n g row
  over_ext n f g row h = ap (λ xs. xs ++ drop n row) (tabulate_ext (min n (length row)) f g (λ k l. h k (omega arith)))

  tabulate_first : (n : ℕ) (f : ℕ → A) → tabulate (suc n) f ≡ f 0 ∷ tabulate n (λ k. f (suc k))
  tabulate_first zero f = refl
  tabulate_first (suc n) f = ap (λ xs. xs ++ (f (suc n) ∷ [])) (tabulate_first n f)

  -- the first place, and the others
  pub over_first : (n : ℕ) (f : ℕ → A) (x : A) (xs : List A) → over (suc n) f (x ∷ xs) ≡ f 0 ∷ over n (λ k. f (suc k)) xs
  over_first n f x xs =
      let more : min (suc n) (suc (length xs)) ≡ suc (min n (length xs)) = omega arith in
      ap (λ m. tabulate m f ++ drop n xs) more ∙ ap (λ ys. ys ++ drop n xs) (tabulate_first (min n (length xs)) f)

  -- ---- from a place on, in a row that has room

  module _ (at n : ℕ) (f : ℕ → A) (row : List A) (fits : at + n ≤ length row) where
    front_length : length (take at row) ≡ at
    front_length = length-take-le at row (omega arith)

    room : n ≤ length (drop at row)
    room = omega (arith, length-drop at row)

    pub from_length : length (over_from at n f row) ≡ length row
    from_length = omega (arith, length-append (take at row) (over n f (drop at row)), over_length n f (drop at row), front_length, length-drop at row)

    pub from_front : take at (over_from at n f row) ≡ take at row
    from_front = take_at (take at row) (over n f (drop at row)) at front_length

    pub from_part : drop at (over_from at n f row) ≡ over n f (drop at row)
    from_part = drop_at (take at row) (over n f (drop at row)) at front_length

    pub from_back : drop (at + n) (over_from at n f row) ≡ drop (at + n) row
    from_back =
        let whole : min n (length (drop at row)) ≡ n = omega (arith, room) in
        sym (drop-drop n at (over_from at n f row))
        ∙ ap (drop n) from_part
        ∙ drop_at (tabulate (min n (length (drop at row))) f) (drop n (drop at row)) n (length-tabulate (min n (length (drop at row))) f ∙ whole)
        ∙ drop-drop n at row

    pub from_place : (j : ℕ) (d : A) → j < n → get_or (over_from at n f row) (at + j) d ≡ f j
    from_place j d l =
        sym (get_or-drop at (over_from at n f row) j d)
        ∙ ap (λ xs. get_or xs j d) from_part
        ∙ over_below n f (drop at row) j d l (omega (arith, room))
