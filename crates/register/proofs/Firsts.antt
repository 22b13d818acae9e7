-- The first field out of range is the first test that fails.
use Rattle.std.proofs.Common.{◌≡◌, ℕ, suc, Bool, true, false, not, List, [], ◌∷◌, refl, ap, ◌∙◌, add-one}
use Rattle.std.specs.List.{position, position_from}
use Rattle.std.proofs.lemmas.Iterator.Adapters.{position_from-zero}
use Rattle.register.specs.Fields.{first_out}

first_out_from : (n : ℕ) (fits : List Bool) → position_from not n fits ≡ first_out n fits
first_out_from n [] = refl
first_out_from n (true ∷ more) = ap (λ k. position_from not k more) (add-one n) ∙ first_out_from (suc n) more
first_out_from n (false ∷ more) = refl

pub first_out_is : (fits : List Bool) → position not fits ≡ first_out 0 fits
first_out_is fits = position_from-zero not fits ∙ first_out_from 0 fits
