-- What a put and a cut leave of a place, for any way of spelling clauses that reads back.
use Rattle.std.proofs.Common.{◌≡◌, ℕ, ◌+◌, ◌-◌, ◌<◌, ◌≤◌, Bool, true, not, cond, leb, Some, None, inl, inr, List, [], ◌∷◌, ◌++◌, length, take, drop, replicate, ℤ, sum_by, count_by, sym, refl, ap, ◌∙◌, subst, append_assoc, append-nil, arith}
use borrow.Rule.Slice.PartMut.{put_mid}
use Rattle.std.proofs.lemmas.List.{length-append, length-take-le, length-drop, length-replicate, take_at, drop_at, take-take, take_all, drop-drop, drop-replicate, replicate-append-replicate}
use Rattle.std.proofs.lemmas.List.Sums.{sum_by-cons, sum_by-take-drop}
use Rattle.std.proofs.lemmas.Bool.{cases_Bool, cond-true, cond-false, leb-true}
use Rattle.formulas.specs.Clause.{every, valid}
use Rattle.spelling.specs.Store.{Spelling, Lawful, Kept, line, spelled}
use Rattle.formulas.proofs.Lists.{joined_append, joined_split, length_joined_take}
use Rattle.formulas.proofs.Every.{every_push, every_take, every_weaker}
use Rattle.spelling.proofs.Pieces.{begins_at}

-- what an answer of `write` tells
taken_fits : (n room taken : ℕ) → Some taken ≡ cond (leb n room) (Some n) None → (taken ≡ n) × (n ≤ room)
taken_fits n room taken e = elim (cases_Bool (leb n room)) [
  | inl y ↦ let h = e ∙ cond-true (leb n room) _ _ y in let l = leb-true n room y in grind arith
  | inr y ↦ let h = e ∙ cond-false (leb n room) _ _ y in grind arith
]

module _ {X : Type 0} (ends : X → Bool) (s : Spelling X) (law : Lawful ends s) where
  pub length_spelled : (cs : List (List ℤ)) → length (spelled s cs) ≡ sum_by s.charge cs
  length_spelled [] = refl
  length_spelled (c ∷ cs) = omega (arith, length-append (line s c) (spelled s cs), length_spelled cs, law.charged c, sum_by-cons s.charge c cs)

  -- a buffer that holds the clauses cs, and then n blanks
  filled : (cs : List (List ℤ)) (n : ℕ) (xs : List X) (used : ℕ) → every valid cs ≡ true → used ≡ length (spelled s cs) →
      xs ≡ spelled s cs ++ replicate n s.blank → Kept s xs used (length cs) × (s.read (take used xs) ≡ cs) × (length xs ≡ used + n)
  filled cs n xs used ok u e =
      let zs = replicate n s.blank in
      let t : take used xs ≡ spelled s cs = ap (take used) e ∙ take_at (spelled s cs) zs used (sym u) in
      let d : drop used xs ≡ zs = ap (drop used) e ∙ drop_at (spelled s cs) zs used (sym u) in
      let r : s.read (take used xs) ≡ cs = ap s.read t ∙ law.back cs ok in
      let l : length xs ≡ used + n = ap length e ∙ omega (arith, length-append (spelled s cs) zs, length-replicate n s.blank) in
      let m : length xs - used ≡ n = omega arith in (
        record {
          fits = omega arith;
          sound = ap (every valid) r ∙ ok;
          written = ap (spelled s) r ∙ sym t;
          counted = ap length (sym r);
          blank = d ∙ ap (λ k. replicate k s.blank) (sym m);
        },
        r,
        l,
      )

  module _ (xs : List X) (used count : ℕ) (k : Kept s xs used count) where
    abbrev held : List (List ℤ)
    held = s.read (take used xs)

    used_is : used ≡ sum_by s.charge held
    used_is = omega (arith, length_spelled held, ap length k.written, length-take-le used xs k.fits)

    -- where the last count - m clauses begin in the used part, which us is
    begins : (m : ℕ) (us : List X) (r : ℕ) → m ≤ count → us ≡ spelled s held → count_by ends (drop r us) ≤ count - m →
        ((k : ℕ) → k < r → count - m < count_by ends (drop k us)) → r ≡ length (spelled s (take m held))
    begins m us r l e most least =
        begins_at ends s.mark law.marks s.body held
        (every_weaker valid (λ c. every (λ x. not (ends x)) (s.body c)) law.plain held k.sound)
        [] us m (count - m) r e (omega (arith, k.counted)) most least

    -- the clause c is written at the start of the room that is left, takes n elements of it, and leaves it as `room`
    pub put : (c : List ℤ) (n : ℕ) (room : List X) → valid c ≡ true →
        Some n ≡ cond (leb (s.charge c) (length (take (length xs - used) (drop used xs)))) (Some (s.charge c)) None →
        room ≡ line s c ++ drop (s.charge c) (take (length xs - used) (drop used xs)) →
        let ys = put_mid used (length xs - used) xs room in
        Kept s ys (used + n) (count + 1) × (s.read (take (used + n) ys) ≡ held ++ c ∷ [])
    put c n room ok taken e =
        let cs = held ++ c ∷ [] in
        let left = length xs - used in
        let zs = replicate (left - s.charge c) s.blank in
        let rest : take left (drop used xs) ≡ replicate left s.blank = take_all left (drop used xs) (omega (arith, length-drop used xs)) ∙ k.blank in
        let zero : left - left ≡ 0 = omega arith in
        let none : drop left (drop used xs) ≡ [] = ap (drop left) k.blank ∙ drop-replicate left left s.blank ∙ ap (λ i. replicate i s.blank) zero in
        let fits = taken_fits (s.charge c) (length (take left (drop used xs))) n taken in
        let size : length (take left (drop used xs)) ≡ left = ap length rest ∙ length-replicate left s.blank in
        let j : spelled s cs ≡ spelled s held ++ line s c =
        joined_append (line s) held (c ∷ []) ∙ ap (λ r. spelled s held ++ r) (append-nil (line s c)) in
        let u : used + n ≡ length (spelled s cs) =
        omega (arith, ap length j, length-append (spelled s held) (line s c), length_spelled held, used_is, law.charged c, fits.0) in
        let f : put_mid used left xs room ≡ spelled s cs ++ zs =
        ap (λ r. take used xs ++ (room ++ r)) none ∙ ap (λ r. take used xs ++ r) (append-nil room ∙ e) ∙
        ap (λ r. take used xs ++ (line s c ++ drop (s.charge c) r)) rest ∙ ap (λ r. take used xs ++ (line s c ++ r)) (drop-replicate (s.charge c) left s.blank) ∙
        ap (λ p. p ++ (line s c ++ zs)) (sym k.written) ∙ sym (append_assoc (spelled s held) (line s c) zs) ∙ ap (λ p. p ++ zs) (sym j) in
        let r = filled cs (left - s.charge c) (put_mid used left xs room) (used + n) (every_push valid held c k.sound ok) u f in
        let m : length cs ≡ count + 1 = omega (arith, length-append held (c ∷ []), k.counted) in
        (subst (λ i. Kept s (put_mid used left xs room) (used + n) i) m r.0, r.1)

    -- The used part is blanked from `start` on, where the last count - m clauses begin: zs are the blanks.
    cut : (m start : ℕ) (zs : List X) → m ≤ count → start ≡ length (spelled s (take m held)) →
        zs ≡ replicate (length (take (used - start) (drop start xs))) s.blank →
        let ys = put_mid start (used - start) xs zs in
        Kept s ys start m × (s.read (take start ys) ≡ take m held) × (length ys ≡ length xs)
    cut m start zs le begin d =
        let n = used - start in
        let cs = take m held in
        let within : start ≤ used = omega (arith, length_joined_take (line s) held m, length_spelled held, used_is) in
        let size : length (take n (drop start xs)) ≡ n = length-take-le n (drop start xs) (omega (arith, length-drop start xs, k.fits)) in
        let front : take start xs ≡ spelled s cs =
        sym (take-take start used xs within) ∙ ap (take start) (sym k.written ∙ joined_split (line s) held m) ∙
        take_at (spelled s cs) (spelled s (drop m held)) start (sym begin) in
        let rest : replicate n s.blank ++ drop n (drop start xs) ≡ replicate (length xs - start) s.blank =
        ap (λ r. replicate n s.blank ++ r) (drop-drop n start xs ∙ ap (λ i. drop i xs) (omega arith) ∙ k.blank) ∙
        replicate-append-replicate n (length xs - used) s.blank ∙ ap (λ i. replicate i s.blank) (omega (arith, k.fits)) in
        let all : put_mid start n xs zs ≡ spelled s cs ++ replicate (length xs - start) s.blank =
        ap (put_mid start n xs) (d ∙ ap (λ i. replicate i s.blank) size) ∙
        ap (λ r. r ++ (replicate n s.blank ++ drop n (drop start xs))) front ∙ ap (λ r. spelled s cs ++ r) rest in
        let r = filled cs (length xs - start) (put_mid start n xs zs) start (every_take valid m held k.sound) begin all in
        let c : length cs ≡ m = length-take-le m held (omega (arith, k.counted)) in
        (subst (λ i. Kept s (put_mid start n xs zs) start i) c r.0, r.1, omega (arith, r.2, k.fits))

    -- what a cut frees
    freed : (m : ℕ) (ys : List X) (used' count' : ℕ) → Kept s ys used' count' → s.read (take used' ys) ≡ take m held → length ys ≡ length xs →
        length ys - used' ≡ (length xs - used) + sum_by s.charge (drop m held)
    freed m ys used' count' k' r l =
        let a : used' ≡ sum_by s.charge (take m held) =
        sym (length-take-le used' ys k'.fits) ∙ ap length (sym k'.written) ∙ length_spelled (s.read (take used' ys)) ∙ ap (sum_by s.charge) r in
        omega (arith, used_is, sum_by-take-drop s.charge held m, k.fits)

    -- a cut back to m clauses, as a place promises it
    abbrev Back : ℕ → List (List ℤ) → ℕ → Type 0
    Back m held' free' = record { holds : held' ≡ take m held; room : free' ≡ (length xs - used) + sum_by s.charge (drop m held) }

    -- of all of them nothing goes
    pub back_none : (m : ℕ) → count ≤ m → Back m held (length xs - used)
    back_none m l =
        let all : held ≡ take m held = sym (take_all m held (omega (arith, k.counted))) in
        record { holds = all; room = freed m xs used count k all refl }

    -- us is the used part, of which the last count - m clauses begin at `start`, and zs the blanks over these
    pub back_some : (m start : ℕ) (us zs : List X) → m < count → us ≡ spelled s held → count_by ends (drop start us) ≤ count - m →
        ((k : ℕ) → k < start → count - m < count_by ends (drop k us)) →
        zs ≡ replicate (length (take (used - start) (drop start xs))) s.blank →
        let ys = put_mid start (used - start) xs zs in
        Kept s ys start m × Back m (s.read (take start ys)) (length ys - start)
    back_some m start us zs l u most least d =
        let ys = put_mid start (used - start) xs zs in
        let done = cut m start zs (omega arith) (begins m us start (omega arith) u most least) d in
        (done.0, record { holds = done.1; room = freed m ys start m done.0 done.1 done.2 })
