-- What enters a link and does not leave it is lost, and nothing leaves it the wrong way.
use Rattle.std.proofs.Common.{◌≡◌, ℕ, ◌+◌, ◌-◌, ◌*◌, ◌≤◌, pos, ◌-ℤ◌, ◌≤ℤ◌, sym, ap, ◌∙◌, add-mul, mul-le-mul, arith}
use borrow.Author.Differences.{ints}
use Rattle.transfers.specs.Ends.{entering, leaving}

-- the two parts of a loss make up the whole
pub loss_parts : (part loss : ℕ) → part ≤ 10000 → part * loss + (10000 - part) * loss ≡ 10000 * loss
loss_parts part loss l = let whole : part + (10000 - part) ≡ 10000 = omega arith in sym (add-mul part (10000 - part) loss) ∙ ap (λ n. n * loss) whole

pub rest_small : (part : ℕ) → 10000 - part ≤ 10000
rest_small part = omega arith

module _ (part size loss : ℕ) where
  pub ends_differ : part ≤ 10000 → entering part size loss -ℤ leaving part size loss ≡ pos (10000 * loss)
  ends_differ l = omega (arith, ints, loss_parts part loss l)

  pub leaving_outward : loss ≤ size → pos 0 ≤ℤ leaving part size loss
  leaving_outward l = omega (arith, ints, mul-le-mul (rest_small part) l)
