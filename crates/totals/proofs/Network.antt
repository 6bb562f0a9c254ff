-- The lines of a network, and the law.
use Rattle.std.proofs.Common.{◌≡◌, ℕ, zero, suc, ◌+◌, ◌*◌, ◌/◌, ◌^◌, ◌<◌, ◌≤◌, Bool, true, false, cond, List, [], ◌∷◌, ◌++◌, length, drop, sym, refl, ap, ◌∙◌, subst, append_assoc, arith}
use Rattle.std.specs.List.{AllByRecursion as Each}
use Rattle.std.proofs.ByRecursion.{All-append, All-weaker}
use Rattle.std.proofs.lemmas.Nat.{shr-shr}
use Rattle.std.proofs.lemmas.List.{drop_more, ext_get_or, length-append}
use Rattle.std.proofs.lemmas.Bool.{cond_both}
use Rattle.std.proofs.lemmas.Bool.Decides.{nat_tests}
use Rattle.formulas.specs.Formula.{Holds, under, SizedClause}
use Rattle.formulas.proofs.All.{holds_both, holds_left, holds_right}
use Rattle.totals.specs.Items.{Item, item, fresh, Valuation, valued, Known, Contained}
use Rattle.totals.specs.Totaller.{total, Exact, Lawful, Weight}
use Rattle.totals.specs.Adders.{Adder, full, half, adder_clauses, wired, reduce, has_bit, with_bit, Network, lines, close, closing, network, adders}
use Rattle.totals.proofs.Adder.{bit, ones}
use Rattle.totals.proofs.Circuit.{Made, Same, all_inside, same_all, extend, wired_contained}
use Rattle.totals.proofs.Reduce.{ones_append, reduce_sound, reduce_worth, reduce_thin}

-- adders after adders
wired_append : (gs hs : List (Adder Item)) (n : ℕ) → wired fresh n (gs ++ hs) ≡ wired fresh n gs ++ wired fresh (n + 2 * length gs) hs
wired_append [] hs n = ap (λ k. wired fresh k hs) (omega arith)
wired_append (g ∷ gs) hs n =
    ap (λ f. adder_clauses fresh n g ++ f) (wired_append gs hs (n + 2)) ∙
    ap (λ k. adder_clauses fresh n g ++ (wired fresh (n + 2) gs ++ wired fresh k hs)) (omega arith) ∙
    sym (append_assoc (adder_clauses fresh n g) (wired fresh (n + 2) gs) (wired fresh (n + 2 * length (g ∷ gs)) hs))

made_append : (gs hs : List (Adder Item)) (c n : ℕ) → Made c n gs → Made c (n + 2 * length gs) hs → Made c n (gs ++ hs)
made_append [] hs c n h k = subst (λ m. Made c m hs) (omega arith) k
made_append (g ∷ gs) hs c n h k = (h.0, made_append gs hs c (n + 2) h.1 (subst (λ m. Made c m hs) (omega arith) k))

-- the items on a line
items_inside : (c n k i : ℕ) (ws : List ℕ) → i + length ws ≤ c → Each (Known c n) (with_bit item k i ws)
items_inside c n k i [] l = tt
items_inside c n k i (w ∷ ws) l =
    let ih = items_inside c n k (i + 1) ws (omega arith) in
    cond_both (has_bit k w) (item i ∷ with_bit item k (i + 1) ws) (with_bit item k (i + 1) ws) (Each (Known c n)) (λ _. (omega arith, ih)) (λ _. ih)

-- the true weights, each divided by 2 ^ k
abbrev pub weigh : Valuation → ℕ → ℕ → List ℕ → ℕ
weigh v k i [] = 0
weigh v k i (w ∷ ws) = cond (v (item i)) (w / 2 ^ k) 0 + weigh v k (i + 1) ws

pub weigh_line : (v : Valuation) (k i : ℕ) (ws : List ℕ) → weigh v k i ws ≡ ones v (with_bit item k i ws) + 2 * weigh v (k + 1) i ws
weigh_line v k i [] = refl
weigh_line v k i (w ∷ ws) =
    let ih = weigh_line v k (i + 1) ws in
    let sh : w / 2 ^ k / 2 ≡ w / 2 ^ (k + 1) = shr-shr w k 1 in
    grind (arith, nat_tests)

-- what the lines are worth: line k counts once, line k + 1 twice, and so on
abbrev worth : Valuation → List (List Item) → ℕ
worth v [] = 0
worth v (l ∷ ls) = ones v l + 2 * worth v ls

record Built (c n : ℕ) (w : Network Item) : Type 0 where
  pub made : Made c n w.adders
  pub bits : Each (Each (Known c (n + 2 * length w.adders))) w.bits

lines_built : (m k : ℕ) (ws : List ℕ) (cs : List Item) (n : ℕ) → Each (Known (length ws) n) cs → Built (length ws) n (lines item fresh m k ws cs n)
lines_built zero k ws cs n h = record { made = tt; bits = tt }
lines_built (suc m) k ws cs n h =
    let c = length ws in
    let line = with_bit item k 0 ws ++ cs in
    let r = reduce fresh (length line) line n in
    let s = reduce_sound (length line) line c n (All-append (Known c n) (with_bit item k 0 ws) cs (items_inside c n k 0 ws (omega arith)) h) in
    let rest = lines item fresh m (k + 1) ws r.carries (n + 2 * length r.adders) in
    let b = lines_built m (k + 1) ws r.carries (n + 2 * length r.adders) s.carries in
    let e = length-append r.adders rest.adders in
    record {
      made = made_append r.adders rest.adders c n s.made b.made;
      bits = (
        all_inside c (n + 2 * length r.adders) (n + 2 * length (r.adders ++ rest.adders)) (omega arith) r.left s.left,
        All-weaker _ _ (all_inside c (n + 2 * length r.adders + 2 * length rest.adders) (n + 2 * length (r.adders ++ rest.adders)) (omega arith)) rest.bits b.bits,
      );
    }

close_contained : (c n : ℕ) (b : Bool) (l : List Item) → 0 < c → Each (Known c n) l → Contained c n (close (item 0) b l)
close_contained c n true [] o h = ((o, tt), ((o, tt), tt))
close_contained c n false [] o h = tt
close_contained c n true (a ∷ l) o h = ((h.0, tt), tt)
close_contained c n false (a ∷ l) o h = ((h.0, tt), tt)

closing_contained : (c n k t : ℕ) (ls : List (List Item)) → 0 < c → Each (Each (Known c n)) ls → Contained c n (closing (item 0) k t ls)
closing_contained c n k t [] o h = tt
closing_contained c n k t (l ∷ ls) o h =
    All-append _ (close (item 0) (has_bit k t) l) (closing (item 0) (k + 1) t ls) (close_contained c n (has_bit k t) l o h.0) (closing_contained c n (k + 1) t ls o h.1)

lines_thin : (m k : ℕ) (ws : List ℕ) (cs : List Item) (n : ℕ) → Each (λ l. length l ≤ 1) (lines item fresh m k ws cs n).bits
lines_thin zero k ws cs n = tt
lines_thin (suc m) k ws cs n =
    let line = with_bit item k 0 ws ++ cs in
    let r = reduce fresh (length line) line n in
    (reduce_thin (length line) line n (omega arith), lines_thin m (k + 1) ws r.carries (n + 2 * length r.adders))

pub lines_count : (m k : ℕ) (ws : List ℕ) (cs : List Item) (n : ℕ) → length (lines item fresh m k ws cs n).bits ≡ m
lines_count zero k ws cs n = refl
lines_count (suc m) k ws cs n =
    let line = with_bit item k 0 ws ++ cs in
    let r = reduce fresh (length line) line n in
    ap suc (lines_count m (k + 1) ws r.carries (n + 2 * length r.adders))

-- the lines keep the total, if it has no more bits than there are lines
lines_worth : (v : Valuation) (m k : ℕ) (ws : List ℕ) (cs : List Item) (n : ℕ) → weigh v k 0 ws + ones v cs < 2 ^ m →
    Holds (under v) (wired fresh n (lines item fresh m k ws cs n).adders) → worth v (lines item fresh m k ws cs n).bits ≡ weigh v k 0 ws + ones v cs
lines_worth v zero k ws cs n l h = omega arith
lines_worth v (suc m) k ws cs n l h =
    let line = with_bit item k 0 ws ++ cs in
    let r = reduce fresh (length line) line n in
    let rest = lines item fresh m (k + 1) ws r.carries (n + 2 * length r.adders) in
    let h₂ = subst (Holds (under v)) (wired_append r.adders rest.adders n) h in
    let hl = holds_left (under v) (wired fresh n r.adders) (wired fresh (n + 2 * length r.adders) rest.adders) h₂ in
    let hr = holds_right (under v) (wired fresh n r.adders) (wired fresh (n + 2 * length r.adders) rest.adders) h₂ in
    let e₁ = reduce_worth v (length line) line n hl in
    let e₂ = ones_append v (with_bit item k 0 ws) cs in
    let e₃ = weigh_line v k 0 ws in
    let lt : weigh v (k + 1) 0 ws + ones v r.carries < 2 ^ m = omega arith in
    let ih = lines_worth v m (k + 1) ws r.carries (n + 2 * length r.adders) lt hr in
    omega arith

-- the last clauses: what is left of the lines is the target
ones_le : (v : Valuation) (l : List Item) → ones v l ≤ length l
ones_le v [] = omega arith
ones_le v (a ∷ l) = let ih = ones_le v l in grind arith

close_out : (v : Valuation) (b : Bool) (l : List Item) → length l ≤ 1 → Holds (under v) (close (item 0) b l) → ones v l ≡ bit b
close_out v true [] th h = grind arith
close_out v false [] th h = refl
close_out v true (a ∷ []) th h = grind arith
close_out v false (a ∷ []) th h = grind arith
close_out v true (a ∷ b ∷ l) th h = absurd (omega arith)
close_out v false (a ∷ b ∷ l) th h = absurd (omega arith)

close_in : (v : Valuation) (b : Bool) (l : List Item) → length l ≤ 1 → ones v l ≡ bit b → Holds (under v) (close (item 0) b l)
close_in v true [] th h = absurd (omega arith)
close_in v false [] th h = tt
close_in v true (a ∷ []) th h = grind arith
close_in v false (a ∷ []) th h = grind arith
close_in v true (a ∷ b ∷ l) th h = absurd (omega arith)
close_in v false (a ∷ b ∷ l) th h = absurd (omega arith)

closing_out : (v : Valuation) (ls : List (List Item)) (k t : ℕ) → Each (λ l. length l ≤ 1) ls → t / 2 ^ k < 2 ^ length ls →
    Holds (under v) (closing (item 0) k t ls) → worth v ls ≡ t / 2 ^ k
closing_out v [] k t th lt h = omega arith
closing_out v (l ∷ ls) k t th lt h =
    let sh : t / 2 ^ k / 2 ≡ t / 2 ^ (k + 1) = shr-shr t k 1 in
    let lt₂ : t / 2 ^ k < 2 ^ suc (length ls) = lt in
    let e = close_out v (has_bit k t) l th.0 (holds_left (under v) (close (item 0) (has_bit k t) l) (closing (item 0) (k + 1) t ls) h) in
    let ih = closing_out v ls (k + 1) t th.1 (omega arith) (holds_right (under v) (close (item 0) (has_bit k t) l) (closing (item 0) (k + 1) t ls) h) in
    grind (arith, nat_tests)

closing_in : (v : Valuation) (ls : List (List Item)) (k t : ℕ) → Each (λ l. length l ≤ 1) ls →
    worth v ls ≡ t / 2 ^ k → Holds (under v) (closing (item 0) k t ls)
closing_in v [] k t th h = tt
closing_in v (l ∷ ls) k t th h =
    let sh : t / 2 ^ k / 2 ≡ t / 2 ^ (k + 1) = shr-shr t k 1 in
    let few = ones_le v l in
    let e : ones v l ≡ bit (has_bit k t) = grind (arith, nat_tests) in
    let ih = closing_in v ls (k + 1) t th.1 (omega arith) in
    holds_both (under v) (close (item 0) (has_bit k t) l) (closing (item 0) (k + 1) t ls) (close_in v (has_bit k t) l th.0 e) ih

-- the total of the items
weigh_total : (xs fs : List Bool) (ws : List ℕ) (i : ℕ) → length xs ≡ i + length ws → weigh (valued xs fs) 0 i ws ≡ total ws (drop i xs)
weigh_total xs fs [] i e = refl
weigh_total xs fs (w ∷ ws) i e =
    let ih = weigh_total xs fs ws (i + 1) (omega arith) in
    let l : i < length xs = omega arith in
    rw (drop_more xs i false) (grind arith)

total_bound : (ws : List ℕ) (xs : List Bool) → Each Weight ws → total ws xs ≤ 15 * length ws
total_bound [] xs h = omega arith
total_bound (w ∷ ws) [] h = omega arith
total_bound (w ∷ ws) (x ∷ xs) h = let ih = total_bound ws xs h.1 in let top = h.0.1 in grind arith

at_first : (c : ℕ) (xs fs gs : List Bool) → Same c 0 (valued xs fs) (valued xs gs)
at_first c xs fs gs (item i) l = refl
at_first c xs fs gs (fresh j) l = absurd (omega arith)

-- any adders that keep the total, with lines enough for the target, fulfil the law
module _ (c : ℕ) (gs : List (Adder Item)) (bits : List (List Item)) (t : ℕ) (xs : List Bool) (sum : ℕ) (made : Made c 0 gs) (thin : Each (λ l. length l ≤ 1) bits)
    (keeps : (fs : List Bool) → Holds (under (valued xs fs)) (wired fresh 0 gs) → worth (valued xs fs) bits ≡ sum) where
  only_sum : t < 2 ^ length bits → (fs : List Bool) → Holds (under (valued xs fs)) (wired fresh 0 gs ++ closing (item 0) 0 t bits) → sum ≡ t
  only_sum lt fs h =
      let c = closing_out (valued xs fs) bits 0 t thin (omega arith) (holds_right (under (valued xs fs)) (wired fresh 0 gs) (closing (item 0) 0 t bits) h) in
      let e = keeps fs (holds_left (under (valued xs fs)) (wired fresh 0 gs) (closing (item 0) 0 t bits) h) in
      omega arith

  some_values : sum ≡ t → (fs : List Bool) × (length fs ≡ 2 * length gs) × Holds (under (valued xs fs)) (wired fresh 0 gs ++ closing (item 0) 0 t bits)
  some_values e =
      let (fs, r) = extend gs c 0 xs [] made refl in
      let k = keeps fs r.holds in (
        fs,
        omega (arith, r.size),
        holds_both (under (valued xs fs)) (wired fresh 0 gs) (closing (item 0) 0 t bits) r.holds (closing_in (valued xs fs) bits 0 t thin (omega arith)),
      )

  one_value : (fs fs' : List Bool) → length fs ≡ 2 * length gs → length fs' ≡ 2 * length gs →
      Holds (under (valued xs fs)) (wired fresh 0 gs ++ closing (item 0) 0 t bits) → Holds (under (valued xs fs')) (wired fresh 0 gs ++ closing (item 0) 0 t bits) → fs ≡ fs'
  one_value fs fs' l l' h h' =
      ext_get_or false fs fs' (l ∙ sym l') (λ j lt.
      same_all gs c 0 (valued xs fs) (valued xs fs') made (at_first c xs fs fs')
      (holds_left (under (valued xs fs)) (wired fresh 0 gs) (closing (item 0) 0 t bits) h) (holds_left (under (valued xs fs')) (wired fresh 0 gs) (closing (item 0) 0 t bits) h')
      (fresh j) (omega arith))

-- the network of the encoding: 11 lines
network_built : (ws : List ℕ) → Built (length ws) 0 (network item fresh ws)
unfolding network
network_built ws = lines_built 11 0 ws [] 0 tt

network_thin : (ws : List ℕ) → Each (λ l. length l ≤ 1) (network item fresh ws).bits
unfolding network
network_thin ws = lines_thin 11 0 ws [] 0

network_count : (ws : List ℕ) → length (network item fresh ws).bits ≡ 11
unfolding network
network_count ws = lines_count 11 0 ws [] 0

network_worth : (v : Valuation) (ws : List ℕ) → weigh v 0 0 ws + 0 < 2 ^ 11 → Holds (under v) (wired fresh 0 (network item fresh ws).adders) →
    worth v (network item fresh ws).bits ≡ weigh v 0 0 ws + 0
unfolding network
network_worth v ws l h = lines_worth v 11 0 ws [] 0 l h

module _ (ws : List ℕ) (t : ℕ) (weights : Each Weight ws) (few : length ws ≤ 96) (small : t ≤ 63) (xs : List Bool) (same : length xs ≡ length ws) where
  keeps : (fs : List Bool) → Holds (under (valued xs fs)) (wired fresh 0 (network item fresh ws).adders) → worth (valued xs fs) (network item fresh ws).bits ≡ total ws xs
  keeps fs h =
      let e = weigh_total xs fs ws 0 (omega arith) in
      let b = total_bound ws xs weights in
      let k = network_worth (valued xs fs) ws (omega arith) h in
      omega arith

  exact : Exact adders ws t xs
  exact =
      let made = (network_built ws).made in
      let thin = network_thin ws in
      let enough : t < 2 ^ length (network item fresh ws).bits = rw network_count (omega arith) in
      record {
        only = λ fs f. only_sum (length ws) (network item fresh ws).adders (network item fresh ws).bits t xs (total ws xs) made thin keeps enough fs f.holds;
        some = λ e.
            let (fs, l, h) = some_values (length ws) (network item fresh ws).adders (network item fresh ws).bits t xs (total ws xs) made thin keeps e in
            (fs, record { size = l; holds = h });
        one = λ fs gs f g.
            one_value (length ws) (network item fresh ws).adders (network item fresh ws).bits t xs (total ws xs) made thin keeps
            fs gs f.size g.size f.holds g.holds;
      }

contained : (ws : List ℕ) (t : ℕ) → 0 < length ws → Contained (length ws) (adders.fresh_count ws t) (adders.formula ws t)
contained ws t o =
    let n = 2 * length (network item fresh ws).adders in
    let e : 0 + n ≡ n = omega arith in
    All-append _ (wired fresh 0 (network item fresh ws).adders) (closing (item 0) 0 t (network item fresh ws).bits)
    (wired_contained (network item fresh ws).adders (length ws) 0 n (omega arith) (network_built ws).made)
    (closing_contained (length ws) n 0 t (network item fresh ws).bits o (rw e at (network_built ws).bits))

adder_sized : (n : ℕ) (g : Adder Item) → Each SizedClause (adder_clauses fresh n g)
adder_sized n (full a b c) =
    (omega arith, (omega arith, (omega arith, (omega arith, (omega arith, (omega arith, (omega arith, (omega arith, (omega arith, (omega arith, (omega arith, (omega arith, (omega arith, (omega arith, tt))))))))))))))
adder_sized n (half a b) = (omega arith, (omega arith, (omega arith, (omega arith, (omega arith, (omega arith, (omega arith, tt)))))))

wired_sized : (n : ℕ) (gs : List (Adder Item)) → Each SizedClause (wired fresh n gs)
wired_sized n [] = tt
wired_sized n (g ∷ gs) = All-append _ (adder_clauses fresh n g) (wired fresh (n + 2) gs) (adder_sized n g) (wired_sized (n + 2) gs)

close_sized : (b : Bool) (l : List Item) → Each SizedClause (close (item 0) b l)
close_sized true [] = (omega arith, (omega arith, tt))
close_sized false [] = tt
close_sized true (a ∷ l) = (omega arith, tt)
close_sized false (a ∷ l) = (omega arith, tt)

closing_sized : (k t : ℕ) (ls : List (List Item)) → Each SizedClause (closing (item 0) k t ls)
closing_sized k t [] = tt
closing_sized k t (l ∷ ls) = All-append _ (close (item 0) (has_bit k t) l) (closing (item 0) (k + 1) t ls) (close_sized (has_bit k t) l) (closing_sized (k + 1) t ls)

pub adders_lawful : Lawful adders
adders_lawful = record {
  sound = λ ws t weights takes.
      let few : length ws ≤ 96 = grind (arith, nat_tests) in
      let small : t ≤ 63 = grind (arith, nat_tests) in
      record {
        contained = contained ws t (grind (arith, nat_tests));
        sized = All-append _ (wired fresh 0 (network item fresh ws).adders) (closing (item 0) 0 t (network item fresh ws).bits) (wired_sized 0 (network item fresh ws).adders) (closing_sized 0 t (network item fresh ws).bits);
        exact = exact ws t weights few small;
      };
  ready = λ n t l u v. grind (arith, nat_tests);
  bounded = λ n t h. (grind (arith, nat_tests), grind (arith, nat_tests));
}
