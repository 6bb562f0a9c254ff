-- The digits of cells.
use Rattle.std.proofs.Common.{◌≡◌, ℕ, ◌+◌, List, [], ◌∷◌, get_or, sum_by, sym, refl, ap, ◌∙◌}
use Rattle.std.proofs.lemmas.List.Sums.{sum_by-cons}
use Rattle.meanings.specs.Sum.{digit_sum}

-- the digits added, as the code adds them
pub digit_sum_is : (g cs : List ℕ) → digit_sum g cs ≡ sum_by (λ c. get_or g c 0) cs
digit_sum_is g [] = refl
digit_sum_is g (c ∷ cs) = ap (λ n. get_or g c 0 + n) (digit_sum_is g cs) ∙ sym (sum_by-cons (λ c. get_or g c 0) c cs)
