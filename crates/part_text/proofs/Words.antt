-- Words, read one by one.
use Rattle.std.proofs.Common.{◌≡◌, ℕ, ◌+◌, ◌<◌, List, [], map, get_or, sym, subst, Bor, below_more}
use lib.ListN.{get_or-map}
use Rattle.sum_text.specs.Reading.{Number}

-- nothing
abbrev pub no_word : Bor (List ℕ)
no_word = record { ref_ptr = (0, 0); now = [] }

-- a cell more
pub more_cells : (refs : List (Bor (List ℕ))) (i cell : ℕ) (body body' : List ℕ) →
    ((k : ℕ) → k < i → Number 8 (get_or (map (λ x. x.now) refs) k []) (get_or body k 0)) → Number 8 (get_or refs i no_word).now cell →
    ((k : ℕ) → k < i → get_or body' k 0 ≡ get_or body k 0) → get_or body' i 0 ≡ cell →
    (k : ℕ) → k < i + 1 → Number 8 (get_or (map (λ x. x.now) refs) k []) (get_or body' k 0)
more_cells refs i cell body body' old new same last =
    let at : ℕ → ℕ → Type 0 = λ k n. Number 8 (get_or (map (λ x. x.now) refs) k []) n in
    let word : List ℕ → Type 0 = λ w. Number 8 w cell in
    below_more _ _ (λ k l. subst (at k) (sym (same k l)) (old k l)) (subst (at i) (sym last) (subst word (sym (get_or-map (λ x. x.now) refs i no_word)) new))
