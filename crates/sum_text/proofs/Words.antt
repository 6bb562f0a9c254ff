-- Words, read one by one.
use Rattle.std.proofs.Common.{◌≡◌, ℕ, ◌+◌, ◌<◌, List, [], map, get_or, sym, refl, subst, Bor, below_more}
use lib.ListN.{get_or-map}
use Rattle.sum_text.specs.Reading.{Item}

-- nothing
abbrev pub no_word : Bor (List ℕ)
no_word = record { ref_ptr = (0, 0); now = [] }

pub word_at : (refs : List (Bor (List ℕ))) (k : ℕ) → get_or (map (λ x. x.now) refs) k [] ≡ (get_or refs k no_word).now
word_at refs k = get_or-map (λ x. x.now) refs k no_word

moved : (u w : List ℕ) (v v' k k' : ℕ) → u ≡ w → v ≡ v' → k ≡ k' → Item u v k → Item w v' k'
moved u w v v' k k' eu ev ek h =
    let at : List ℕ → Type 0 = λ l. Item l v k in
    let at_variable : ℕ → Type 0 = λ n. Item w n k in
    let at_weight : ℕ → Type 0 = λ n. Item w v' n in
    subst at_weight ek (subst at_variable ev (subst at eu h))

-- an item more
pub more_items : (refs : List (Bor (List ℕ))) (i variable weight : ℕ) (vs ks vs' ks' : List ℕ) →
    ((k : ℕ) → k < i → Item (get_or (map (λ x. x.now) refs) k []) (get_or vs k 0) (get_or ks k 0)) → Item (get_or refs i no_word).now variable weight →
    ((k : ℕ) → k < i → get_or vs' k 0 ≡ get_or vs k 0) → get_or vs' i 0 ≡ variable → ((k : ℕ) → k < i → get_or ks' k 0 ≡ get_or ks k 0) → get_or ks' i 0 ≡ weight →
    (k : ℕ) → k < i + 1 → Item (get_or (map (λ x. x.now) refs) k []) (get_or vs' k 0) (get_or ks' k 0)
more_items refs i variable weight vs ks vs' ks' old new same_vs last_v same_ks last_k =
    below_more _ _
    (λ k l. moved _ _ _ _ _ _ refl (sym (same_vs k l)) (sym (same_ks k l)) (old k l))
    (moved (get_or refs i no_word).now (get_or (map (λ x. x.now) refs) i []) variable (get_or vs' i 0) weight (get_or ks' i 0) (sym (word_at refs i)) (sym last_v) (sym last_k) new)
