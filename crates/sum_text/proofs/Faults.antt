-- Words that are wrong, and the fault that says which is the first.
use Rattle.std.proofs.Common.{◌≡◌, ℕ, zero, suc, ◌-◌, ◌<◌, ◌≤◌, Bool, true, false, cond, eqb, List, [], ◌∷◌, map, length, get_or, take, drop, IsErrAnd, Some, None, Ok, Err, Option, Result, Vec, sym, refl, ap, ◌∙◌, subst, inl, inr, arith, Bor}
use Rattle.std.specs.Option.{ok_or}
use Rattle.std.specs.Str.Parse.{AllDigits, without_leading_plus}
use Rattle.std.specs.declared.alloc.Global.{Global}
use Rattle.std.proofs.lemmas.List.{get_or_default}
use Rattle.std.proofs.lemmas.Str.Parse.{digit_at}
use Rattle.std.proofs.lemmas.Str.Pattern.{IsSplitOnceResult, split_after}
use Rattle.std.proofs.lemmas.Bool.{eqb-true}
use Rattle.formulas.proofs.Lists.{rest_is}
use Rattle.sum_text.specs.declared.fault.SumTextFault.{SumTextFault}
use Rattle.sum_text.specs.declared.fault.SumTextFault.TheVariants as fault
use Rattle.sum_text.specs.declared.sum.OwnedSum.{OwnedSum}
use Rattle.sum_text.specs.Reading.{IsMethod, IsNumber, Item, ItemRead, ItemsRead, Number, SumRead, Wrong}
use Rattle.sum_text.proofs.Words.{no_word, word_at}

-- a digit is no colon
no_colon : (ds : List ℕ) → AllDigits 10 ds → (i : ℕ) → i < length ds → get_or ds i 0 ≡ 58 → ⊥
no_colon ds d i l e = let digit = digit_at ds i d l in omega (arith, digit.1)

-- nor is the plus before them
plain : (bs : List ℕ) → AllDigits 10 (without_leading_plus bs) → (i : ℕ) → i < length bs → get_or bs i 0 ≡ 58 → ⊥
plain [] d i l e = absurd (omega arith)
plain (c ∷ cs) d i l e = go (eqb c 43) refl d i l e
  where
    go : (b : Bool) → eqb c 43 ≡ b → AllDigits 10 (drop (cond b 1 0) (c ∷ cs)) → (i : ℕ) → i < length (c ∷ cs) → get_or (c ∷ cs) i 0 ≡ 58 → ⊥
    go true is d zero l e = omega (arith, eqb-true c 43 is)
    go true is d (suc i) l e = no_colon cs d i (omega arith) e
    go false is d i l e = no_colon (c ∷ cs) d i l e

-- without a colon there is no item
pub no_parts : (w : List ℕ) (r : Option (Bor (List ℕ) × Bor (List ℕ))) → IsSplitOnceResult 58 w r → r ≡ None → (variable weight : ℕ) → Item w variable weight → ⊥
no_parts w r h e variable weight (front, back, is, one, two) =
    let at : Option (Bor (List ℕ) × Bor (List ℕ)) → Type 0 = IsSplitOnceResult 58 w in
    split_after 58 w front back None (subst at e h) (omega arith) is (plain front one.0.0.1)

-- an item's parts are the text before the first colon, and the text behind it
pub parts : (w : List ℕ) (r : Option (Bor (List ℕ) × Bor (List ℕ))) (before behind : Bor (List ℕ)) → IsSplitOnceResult 58 w r → r ≡ Some (before, behind) →
    (variable weight : ℕ) → Item w variable weight → Number 32 before.now variable × Number 8 behind.now weight
parts w r before behind h e variable weight (front, back, is, one, two) =
    let at : Option (Bor (List ℕ) × Bor (List ℕ)) → Type 0 = IsSplitOnceResult 58 w in
    let same = split_after 58 w front back (Some (before, behind)) (subst at e h) (omega arith) is (plain front one.0.0.1) in
    let at_variable : List ℕ → Type 0 = λ l. Number 32 l variable in
    let at_weight : List ℕ → Type 0 = λ l. Number 8 l weight in
    (subst at_variable (sym same.0) one, subst at_weight (sym same.1) two)

-- the word is no item
pub unread : (w : Bor (List ℕ)) (r : Result (ℕ × ℕ) SumTextFault) (x : SumTextFault) → IsErrAnd r (λ y. y ≡ x) → x ≡ fault.Item w →
    ((variable weight : ℕ) → Item w.now variable weight → ⊥) → ItemRead w r
unread w (Ok p) x by is none = absurd by
unread w (Err y) x by is none = (by ∙ is, λ item. none item.0 item.1 item.2)

-- the same, where `ok_or` says so
pub no_item : {T : Type 0} (w : Bor (List ℕ)) (r : Result (ℕ × ℕ) SumTextFault) (x : SumTextFault) (o : Option T) → IsErrAnd r (λ y. y ≡ x) →
    Err x ≡ ok_or o (fault.Item w) → (o ≡ None → (variable weight : ℕ) → Item w.now variable weight → ⊥) → ItemRead w r
no_item w r x (Some v) by e none = absurd (grind arith)
no_item w r x None by e none = unread w r x by (grind arith) (none refl)

-- the word at i is the first that is no item
pub first_item : (refs : List (Bor (List ℕ))) (i : ℕ) (vs ks : List ℕ) (x : SumTextFault) (r : Result (Vec ℕ Global × Vec ℕ Global) SumTextFault) → i < length refs →
    ((k : ℕ) → k < i → Item (get_or (map (λ x. x.now) refs) k []) (get_or vs k 0) (get_or ks k 0)) → ItemRead (get_or refs i no_word) (Err x) → IsErrAnd r (λ y. y ≡ x) → ItemsRead refs r
first_item refs i vs ks x (Ok p) l old new by = absurd by
first_item refs i vs ks x (Err y) l old new by =
    let w = get_or refs i no_word in
    inr (
      w,
      by ∙ new.0,
      record {
        place = i;
        inside = l;
        there = get_or_default refs i w no_word l;
        before = λ k m.
            let same : get_or (map (λ x. x.now) refs) k [] ≡ (get_or refs k w).now = word_at refs k ∙ sym (ap (λ x. x.now) (get_or_default refs k w no_word (omega arith))) in
            let at : List ℕ → Type 0 = λ t. Item t (get_or vs k 0) (get_or ks k 0) in
            (get_or vs k 0, get_or ks k 0, subst at same (old k m));
        wrong = new.1;
      },
    )

-- a fault of the three words that there are, at least, or of those behind them is handed on
pub wrong : (x : SumTextFault) (refs : List (Bor (List ℕ))) (r : Result OwnedSum SumTextFault) → 3 ≤ length refs → IsErrAnd r (λ y. y ≡ x) →
    Wrong (get_or refs 0 no_word) (get_or refs 1 no_word) (get_or refs 2 no_word) (take (length refs - 3) (drop 3 refs)) x → SumRead refs r
wrong x refs (Ok s) l by h = absurd by
wrong x [] (Err y) l by h = absurd (omega arith)
wrong x (m ∷ []) (Err y) l by h = absurd (omega arith)
wrong x (m ∷ t ∷ []) (Err y) l by h = absurd (omega arith)
wrong x (m ∷ t ∷ f ∷ ws) (Err y) l by h =
    let at : List (Bor (List ℕ)) → Type 0 = λ q. Wrong m t f q x in
    let at_fault : SumTextFault → Type 0 = λ z. Wrong m t f ws z in
    subst at_fault (sym by) (subst at (rest_is (m ∷ t ∷ f ∷ ws) 3) h)

-- The words m, t, f and ws, of which the first names a totaller.
module _ (m t f : Bor (List ℕ)) (ws : List (Bor (List ℕ))) (x : SumTextFault) (method : IsMethod m) where
  pub no_first : IsNumber t → (x ≡ fault.Number f) × (IsNumber f → ⊥) → Wrong m t f ws x
  no_first one (is, none) =
      let at : SumTextFault → Type 0 = λ z. Wrong m t f ws z in
      subst at (sym is) (method, record { place = 1; inside = omega arith; there = refl; before = front; wrong = none })
    where
      front : (k : ℕ) → k < 1 → IsNumber (get_or (t ∷ f ∷ []) k f)
      front zero l = one
      front (suc k) l = absurd (omega arith)

  pub no_items : IsNumber t → IsNumber f → ItemsRead ws (Err x) → Wrong m t f ws x
  no_items one two (inl is) = let at : SumTextFault → Type 0 = λ z. Wrong m t f ws z in subst at (sym is) tt
  no_items one two (inr (w, is, h)) = let at : SumTextFault → Type 0 = λ z. Wrong m t f ws z in subst at (sym is) (method, one, two, h)
