-- The rules one after another, under bytes whose cells show a grid that repeats no digit.
use Rattle.std.proofs.Common.{◌≡◌, ℕ, ◌+◌, ◌-◌, ◌<◌, ◌≤◌, Bool, true, false, List, [], ◌∷◌, ◌++◌, map, length, get_or, pos, sym, refl, ap, ◌∙◌, ap₂, inl, inr, not-suc-le-zero, arith}
use Rattle.std.specs.List.{range_with_len, AllByRecursion as Each}
use Rattle.std.proofs.lemmas.List.FromFn.{get_or-map-range_with_len, length-map-range_with_len}
use Rattle.std.proofs.lemmas.List.{get_or_append_left, get_or-append_right, length-append}
use Rattle.std.proofs.lemmas.Bool.{cases_lt}
use Rattle.formulas.specs.Formula.{Holds}
use Rattle.formulas.specs.Numbered.{numbered}
use Rattle.formulas.proofs.All.{holds_both, holds_left, holds_right}
use Rattle.boards.specs.declared.board.Board.{Board}
use Rattle.boards.specs.Atoms.{Atom, at, fresh, number}
use Rattle.rules.specs.Clauses.{fresh_total, rule_clauses}
use Rattle.rules.specs.Grid.{Clean, Grid}
use Rattle.rules.specs.Model.{true_in}
use Rattle.rules.specs.Rule.{Fulfils, given, Inside, Rule, Sound}
use Rattle.rules.proofs.Base.{Agrees}
use Rattle.rules.proofs.Reading.{shown_by}
use Rattle.rules.proofs.Truth.{numbered_in, numbered_out}

-- the values that m has for n fresh variables
abbrev fresh_in : List ℕ → ℕ → ℕ → List Bool
fresh_in m before n = map (λ j. true_in m (pos (before + 1 + j))) (range_with_len 0 n)

fresh_at : (m : List ℕ) (before n j : ℕ) → j < n → get_or (fresh_in m before n) j false ≡ true_in m (pos (before + 1 + j))
fresh_at m before n j l = get_or-map-range_with_len (λ j. true_in m (pos (before + 1 + j))) 0 n j j false l (omega arith)

-- m has these values for the fresh variables
abbrev pub HasFresh : List ℕ → ℕ → ℕ → List Bool → Type 0
HasFresh m before n fs = (j : ℕ) → j < n → true_in m (pos (before + 1 + j)) ≡ get_or fs j false

-- bytes that are 0 or 1, with cells that show the grid g
pub record Showing (b : Board) (g m : List ℕ) : Type 0 where
  pub bytes : Each (λ x. x ≤ 1) m
  pub agrees : Agrees b (shown_by b m) g

module _ (b : Board) (g : List ℕ) where
  agree : (m : List ℕ) (before n : ℕ) (fs : List Bool) → Showing b g m → HasFresh m before n fs →
      (a : Atom) → Inside b n a → true_in m (pos (number b before a)) ≡ given g fs a
  agree m before n fs s h (at c d) i = s.agrees c d i.0 i.1
  agree m before n fs s h (fresh j) i = h j i

  module _ (G : Grid b g) (clean : Clean b g) where
    fulfils : (m : List ℕ) (before : ℕ) (r : Rule) → Sound b r → Showing b g m →
        Holds (true_in m) (numbered (number b before) r.formula) → Fulfils r g (fresh_in m before r.fresh_count)
    fulfils m before r S s h =
        let n = r.fresh_count in
        record {
          size = length-map-range_with_len _ 0 n;
          holds = numbered_out m s.bytes b before n (given g (fresh_in m before n))
              (agree m before n (fresh_in m before n) s (λ j l. sym (fresh_at m before n j l))) r.formula S.contained h;
        }

    -- the clauses of each rule say that the grid keeps it
    pub keeps_all : (m : List ℕ) → Showing b g m → (before : ℕ) (rs : List Rule) → Each (Sound b) rs →
        Holds (true_in m) (rule_clauses b before rs) → Each (λ r. r.keeps g ≡ true) rs
    keeps_all m s before [] S h = tt
    keeps_all m s before (r ∷ rs) S h =
        let f = numbered (number b before) r.formula in (
          (S.0.exact g G clean).only _ (fulfils m before r S.0 s (holds_left (true_in m) f _ h)),
          keeps_all m s (before + r.fresh_count) rs S.1 (holds_right (true_in m) f _ h),
        )

    -- two lists of bytes have the same fresh values
    pub same_fresh : (m m' : List ℕ) → Showing b g m → Showing b g m' → (before : ℕ) (rs : List Rule) → Each (Sound b) rs →
        Holds (true_in m) (rule_clauses b before rs) → Holds (true_in m') (rule_clauses b before rs) →
        (j : ℕ) → j < fresh_total rs → true_in m (pos (before + 1 + j)) ≡ true_in m' (pos (before + 1 + j))
    same_fresh m m' s s' before [] S h h' j l = absurd (not-suc-le-zero l)
    same_fresh m m' s s' before (r ∷ rs) S h h' j l =
        let n = r.fresh_count in
        let f = numbered (number b before) r.formula in
        elim (cases_lt j n) [
          | inl k ↦
              let e = (S.0.exact g G clean).one _ _ (fulfils m before r S.0 s (holds_left (true_in m) f _ h))
              (fulfils m' before r S.0 s' (holds_left (true_in m') f _ h')) in
              sym (fresh_at m before n j k) ∙ ap (λ fs. get_or fs j false) e ∙ fresh_at m' before n j k
          | inr k ↦
              let e : before + 1 + j ≡ before + n + 1 + (j - n) = omega arith in
              rw e (same_fresh m m' s s' (before + n) rs S.1 (holds_right (true_in m) f _ h) (holds_right (true_in m') f _ h') (j - n) (omega arith))
        ]

    -- values for the fresh variables, under which every rule's clauses hold
    pub record Found (before : ℕ) (rs : List Rule) (fs : List Bool) : Type 0 where
      pub size : length fs ≡ fresh_total rs
      pub holds : (m : List ℕ) → Showing b g m → HasFresh m before (fresh_total rs) fs → Holds (true_in m) (rule_clauses b before rs)

    found_more : (before : ℕ) (r : Rule) (rs : List Rule) → Sound b r → (fs hs : List Bool) → Fulfils r g fs →
        Found (before + r.fresh_count) rs hs → Found before (r ∷ rs) (fs ++ hs)
    found_more before r rs S fs hs F R =
        let n = r.fresh_count in
        record {
          size = length-append fs hs ∙ ap₂ ◌+◌ F.size R.size;
          holds = λ m s k. holds_both (true_in m) (numbered (number b before) r.formula) (rule_clauses b (before + n) rs)
              (numbered_in m s.bytes b before n (given g fs)
              (agree m before n fs s (λ j l. k j (omega arith) ∙ get_or_append_left fs hs false j (omega (arith, F.size))))
              r.formula S.contained F.holds)
              (R.holds m s (λ j l.
              let e : before + n + 1 + j ≡ before + 1 + (n + j) = omega arith in
              let d : n + j - n ≡ j = omega arith in
              rw e (k (n + j) (omega arith) ∙ get_or-append_right fs hs n (n + j) false F.size (omega arith) ∙ ap (λ i. get_or hs i false) d)));
        }

    pub found : (before : ℕ) (rs : List Rule) → Each (Sound b) rs → Each (λ r. r.keeps g ≡ true) rs → (fs : List Bool) × Found before rs fs
    found before [] S k = ([], record { size = refl; holds = λ m s h. tt })
    found before (r ∷ rs) S k =
        let (fs, F) = (S.0.exact g G clean).some k.0 in
        let (hs, R) = found (before + r.fresh_count) rs S.1 k.1 in
        (fs ++ hs, found_more before r rs S.0 fs hs F R)
