-- Formulas without fresh variables, and what they say of a grid.
use Rattle.std.proofs.Common.{◌≡◌, ℕ, Bool, true, ◌&&◌, ◌↔◌, List, [], ◌++◌, sym, refl, ◌∙◌, arith}
use Rattle.std.specs.List.{AllByRecursion as Each}
use Rattle.std.proofs.ByRecursion.{All-append, All-weaker}
use Rattle.std.proofs.lemmas.List.{nil_from_length}
use Rattle.std.proofs.lemmas.Bool.{and_from, and_parts}
use Rattle.formulas.specs.Formula.{Formula, Holds, SpeaksOf, under, variable, SizedClause}
use Rattle.formulas.proofs.All.{holds_both, holds_left, holds_right}
use Rattle.boards.specs.declared.board.Board.{Board}
use Rattle.boards.specs.Atoms.{Atom, at, fresh}
use Rattle.rules.specs.Grid.{Grid}
use Rattle.rules.specs.Rule.{Fulfils, given, Inside, Rule, Sound}

-- the formula speaks of cells only, and holds just where the grid passes the test, whatever fresh variables are
pub record Says (b : Board) (f : Formula Atom) (test : List ℕ → Bool) : Type 0 where
  pub contained : SpeaksOf (Inside b 0) f
  pub sized : Each SizedClause f
  pub means : (g : List ℕ) → Grid b g → (fs : List Bool) → Holds (under (given g fs)) f ↔ (test g ≡ true)

-- what is a cell with a digit is inside, however many fresh variables there are
pub inside_more : (b : Board) (m : ℕ) (a : Atom) → Inside b 0 a → Inside b m a
inside_more b m (at c d) h = h
inside_more b m (fresh j) h = absurd (omega arith)

speaks_more : (b : Board) (m : ℕ) (f : Formula Atom) → SpeaksOf (Inside b 0) f → SpeaksOf (Inside b m) f
speaks_more b m f h = All-weaker _ _ (All-weaker _ _ (λ l. inside_more b m (variable l))) f h

module _ (b : Board) where
  pub says_nothing : Says b [] (λ g. true)
  says_nothing = record { contained = tt; sized = tt; means = λ g G fs. (λ _. refl, λ _. tt) }

  module _ (f : Formula Atom) (t : List ℕ → Bool) (F : Says b f t) where
    pub says_both : (h : Formula Atom) (u : List ℕ → Bool) → Says b h u → Says b (f ++ h) (λ g. t g && u g)
    says_both h u H = record {
      contained = All-append _ f h F.contained H.contained;
      sized = All-append SizedClause f h F.sized H.sized;
      means = λ g G fs.
          let p = under (given g fs) in
          let m = F.means g G fs in
          let n = H.means g G fs in (
            λ k. and_from (t g) (u g) (m.0 (holds_left p f h k)) (n.0 (holds_right p f h k)),
            λ k. let both = and_parts (t g) (u g) k in holds_both p f h (m.1 both.0) (n.1 both.1),
          );
    }

    -- it makes a rule by itself
    pub says_alone : Sound b (record { keeps = t; fresh_count = 0; formula = f })
    says_alone = record {
      contained = F.contained;
      sized = F.sized;
      exact = λ g G clean. record {
        only = λ fs k. (F.means g G fs).0 k.holds;
        some = λ k. ([], record { size = refl; holds = (F.means g G []).1 k });
        one = λ fs fs' k k'. nil_from_length fs k.size ∙ sym (nil_from_length fs' k'.size);
      };
    }

    -- it adds to a rule
    pub says_with : (r : Rule) → Sound b r →
        Sound b (record { keeps = λ g. t g && r.keeps g; fresh_count = r.fresh_count; formula = f ++ r.formula })
    says_with r R =
        let m = r.fresh_count in
        record {
          contained = All-append _ f r.formula (speaks_more b m f F.contained) R.contained;
          sized = All-append SizedClause f r.formula F.sized R.sized;
          exact = λ g G clean.
              let X = R.exact g G clean in
              let rest : (fs : List Bool) → Fulfils (record { keeps = λ g. t g && r.keeps g; fresh_count = m; formula = f ++ r.formula }) g fs → Fulfils r g fs
              = λ fs k. record { size = k.size; holds = holds_right (under (given g fs)) f r.formula k.holds } in
              record {
                only = λ fs k.
                    and_from (t g) (r.keeps g) ((F.means g G fs).0 (holds_left (under (given g fs)) f r.formula k.holds)) (X.only fs (rest fs k));
                some = λ k.
                    let both = and_parts (t g) (r.keeps g) k in
                    let (fs, q) = X.some both.1 in
                    (fs, record { size = q.size; holds = holds_both (under (given g fs)) f r.formula ((F.means g G fs).1 both.0) q.holds });
                one = λ fs fs' k k'. X.one fs fs' (rest fs k) (rest fs' k');
              };
        }
