-- More lines than the weights need change nothing: they are empty.
use Rattle.std.proofs.Common.{◌≡◌, ℕ, zero, suc, ◌+◌, ◌*◌, ◌%◌, ◌^◌, ◌<◌, ◌≤◌, true, false, eqb, List, [], ◌∷◌, ◌++◌, length, replicate, sym, refl, ap, ◌∙◌, subst, suc-add, zero-add, arith}
use native.Mathlib.Nat.{div-eq_of_lt}
use Rattle.std.proofs.lemmas.List.{length-append, nil_from_length, append-nil, append_assoc}
use Rattle.std.proofs.lemmas.Nat.{pow_below}
use Rattle.formulas.specs.Formula.{Formula}
use Rattle.totals.specs.Items.{Item, item, fresh, Valuation}
use Rattle.totals.specs.Adders.{Adder, reduce, has_bit, with_bit, Network, lines, close, closing, wired}
use Rattle.totals.proofs.Adder.{ones}
use Rattle.totals.proofs.Network.{weigh, weigh_line, lines_count}

abbrev all_true : Valuation
all_true a = true

ones_all : (ls : List Item) → ones all_true ls ≡ length ls
ones_all [] = refl
ones_all (a ∷ ls) = omega (arith, ones_all ls)

few_carries : (m : ℕ) (ls : List Item) (n : ℕ) → 2 * length (reduce fresh m ls n).carries ≤ length ls
few_carries zero ls n = omega arith
few_carries (suc m) [] n = omega arith
few_carries (suc m) (a ∷ []) n = omega arith
few_carries (suc m) (a ∷ b ∷ []) n = omega arith
few_carries (suc m) (a ∷ b ∷ c ∷ ls) n =
    let ih = few_carries m (ls ++ fresh n ∷ []) (n + 2) in omega (arith, length-append ls (fresh n ∷ []))

abbrev front : List (Adder Item) → List Item → Network Item → Network Item
front gs l w = record { adders = gs ++ w.adders; bits = l ∷ w.bits }

lines_none : (j k : ℕ) (ws : List ℕ) (n : ℕ) → weigh all_true k 0 ws ≡ 0 → lines item fresh j k ws [] n ≡ record { adders = []; bits = replicate j [] }
lines_none zero k ws n e = refl
lines_none (suc j) k ws n e =
    let w = weigh_line all_true k 0 ws in
    let empty : with_bit item k 0 ws ≡ [] = nil_from_length _ (omega (arith, ones_all (with_bit item k 0 ws))) in
    let ih = lines_none j (k + 1) ws (n + 0) (omega arith) in
    rw empty (ap (front [] []) ih)

abbrev padded : ℕ → Network Item → Network Item
padded j w = record { adders = w.adders; bits = w.bits ++ replicate j [] }

pub lines_enough : (m j k : ℕ) (ws : List ℕ) (cs : List Item) (n : ℕ) → weigh all_true k 0 ws + length cs < 2 ^ m →
    lines item fresh (m + j) k ws cs n ≡ padded j (lines item fresh m k ws cs n)
lines_enough zero j k ws cs n l =
    let empty : cs ≡ [] = nil_from_length cs (omega arith) in
    rw (zero-add, empty) (lines_none j k ws n (omega arith))
lines_enough (suc m) j k ws cs n l =
    let line = with_bit item k 0 ws ++ cs in
    let r = reduce fresh (length line) line n in
    let w = weigh_line all_true k 0 ws in
    let f = few_carries (length line) line n in
    let a = length-append (with_bit item k 0 ws) cs in
    let o = ones_all (with_bit item k 0 ws) in
    let lt : weigh all_true (k + 1) 0 ws + length r.carries < 2 ^ m = omega arith in
    let ih = lines_enough m j (k + 1) ws r.carries (n + 2 * length r.adders) lt in
    rw suc-add (ap (front r.adders r.left) ih)

closing_none : (j k t : ℕ) → t < 2 ^ k → closing (item 0) k t (replicate j []) ≡ []
closing_none zero k t l = refl
closing_none (suc j) k t l =
    let e = div-eq_of_lt l in
    let no_bit : has_bit k t ≡ false = ap (λ q. eqb (q % 2) 1) e in
    let ih = closing_none j (k + 1) t (omega (arith, pow_below k (k + 1) (omega arith))) in
    ap (λ b. close (item 0) b [] ++ closing (item 0) (k + 1) t (replicate j [])) no_bit ∙ ih

closing_append : (k t : ℕ) (ls ms : List (List Item)) → closing (item 0) k t (ls ++ ms) ≡ closing (item 0) k t ls ++ closing (item 0) (k + length ls) t ms
closing_append k t [] ms = ap (λ n. closing (item 0) n t ms) (omega arith)
closing_append k t (l ∷ ls) ms =
    ap (λ f. close (item 0) (has_bit k t) l ++ f) (closing_append (k + 1) t ls ms) ∙
    ap (λ n. close (item 0) (has_bit k t) l ++ (closing (item 0) (k + 1) t ls ++ closing (item 0) n t ms)) (omega arith) ∙
    sym (append_assoc (close (item 0) (has_bit k t) l) (closing (item 0) (k + 1) t ls) (closing (item 0) (k + length (l ∷ ls)) t ms))

abbrev written : ℕ → Network Item → Formula Item
written t w = wired fresh 0 w.adders ++ closing (item 0) 0 t w.bits

-- m lines that are enough for the weights and for the target write what any more lines do
pub same_written : (m j t : ℕ) (ws : List ℕ) → weigh all_true 0 0 ws < 2 ^ m → t < 2 ^ m →
    written t (lines item fresh (m + j) 0 ws [] 0) ≡ written t (lines item fresh m 0 ws [] 0)
same_written m j t ws l lt =
    let w = lines item fresh m 0 ws [] 0 in
    let none : closing (item 0) (0 + length w.bits) t (replicate j []) ≡ [] =
    closing_none j (0 + length w.bits) t (subst (λ n. t < 2 ^ (0 + n)) (sym (lines_count m 0 ws [] 0)) (rw zero-add lt)) in
    ap (written t) (lines_enough m j 0 ws [] 0 (omega arith)) ∙
    ap (λ f. wired fresh 0 w.adders ++ f)
    (closing_append 0 t w.bits (replicate j []) ∙ ap (λ f. closing (item 0) 0 t w.bits ++ f) none ∙ append-nil (closing (item 0) 0 t w.bits))
