-- The lines of a text, one after the other.
use Rattle.std.proofs.Common.{◌≡◌, ℕ, ◌+◌, List, [], ◌∷◌, ◌++◌, length, Some, None, Ok, Err, IsErrAnd, MatchOption, Option, Result, Bor, sym, ap, ap₂, ◌∙◌, subst, arith}
use Rattle.std.specs.List.{enumerate_from}
use Rattle.std.proofs.lemmas.Iterator.{YieldsList}
use Rattle.desk.specs.declared.statement.Reason.TheVariants.{NoSide}
use Rattle.desk.specs.declared.statement.SideLine.{SideLine}
use Rattle.desk.specs.declared.statement.TextFault.{TextFault}
use Rattle.desk.specs.DraftText.{Said, lines_of, numbered, read, said, statement_of, verdict}
use Rattle.desk.specs.Rest.{front}
use Rattle.desk.proofs.Chains.{first_left, none_left}

-- the lines `rest` are left, with their indices from n on, and what comes before them says no more than `found`
pub record Left {S : Type 0} (steps : S → Option (ℕ × Bor (List ℕ)) → S → Type 0) (text : List ℕ) (s : S) (found : Option SideLine) : Type 0 where
  pub n : ℕ
  pub rest : List (List ℕ)
  pub runs : YieldsList {B = ℕ × List ℕ} steps (λ p. (p.0, p.1.now)) s (enumerate_from n rest)
  pub is : read text ≡ verdict (length (lines_of text)) (front found ++ said (n + 1) rest)

module _ {S : Type 0} {steps : S → Option (ℕ × Bor (List ℕ)) → S → Type 0} (text : List ℕ) {s : S} (found : Option SideLine) where
  -- a line is the first of them
  pub next_line : (h : Left steps text s found) (index : ℕ) (bytes : Bor (List ℕ)) (says : Said) (r : Option (ℕ × Bor (List ℕ))) (t : S) → steps s r t →
      r ≡ Some (index, bytes) → says ≡ statement_of bytes.now →
      (rest : List (List ℕ)) × YieldsList {B = ℕ × List ℕ} steps (λ p. (p.0, p.1.now)) t (enumerate_from (index + 1) rest) ×
      (read text ≡ verdict (length (lines_of text)) (front found ++ numbered (index + 1) says (said (index + 1 + 1) rest)))
  next_line h index bytes says r t k e says_is = go h.n h.rest h.runs h.is
    where
      go : (n : ℕ) (rest : List (List ℕ)) → YieldsList {B = ℕ × List ℕ} steps (λ p. (p.0, p.1.now)) s (enumerate_from n rest) →
          read text ≡ verdict (length (lines_of text)) (front found ++ said (n + 1) rest) →
          (rest : List (List ℕ)) × YieldsList {B = ℕ × List ℕ} steps (λ p. (p.0, p.1.now)) t (enumerate_from (index + 1) rest) ×
          (read text ≡ verdict (length (lines_of text)) (front found ++ numbered (index + 1) says (said (index + 1 + 1) rest)))
      go n [] runs is = let no = (first_left [] r (index, bytes) t k e runs).0 in absurd (grind arith)
      go n (l ∷ ls) runs is =
          let m = first_left (enumerate_from n (l ∷ ls)) r (index, bytes) t k e runs in
          let same_index : n ≡ index = grind arith in
          let same_line : l ≡ bytes.now = grind arith in
          let at : ℕ → Type 0 = λ i. YieldsList {B = ℕ × List ℕ} steps (λ p. (p.0, p.1.now)) t (enumerate_from (i + 1) ls) in (
            ls,
            subst at same_index m.1,
            is ∙ ap₂ (λ i w. verdict (length (lines_of text)) (front found ++ numbered (i + 1) w (said (i + 1 + 1) ls))) same_index (ap statement_of same_line ∙ sym says_is),
          )

  -- none is left
  pub no_line : (h : Left steps text s found) (r : Option (ℕ × Bor (List ℕ))) (t : S) → steps s r t → r ≡ None → read text ≡ verdict (length (lines_of text)) (front found ++ [])
  no_line h r t k e = go h.n h.rest h.runs h.is
    where
      go : (n : ℕ) (rest : List (List ℕ)) → YieldsList {B = ℕ × List ℕ} steps (λ p. (p.0, p.1.now)) s (enumerate_from n rest) →
          read text ≡ verdict (length (lines_of text)) (front found ++ said (n + 1) rest) → read text ≡ verdict (length (lines_of text)) (front found ++ [])
      go n [] runs is = is
      go n (l ∷ ls) runs is = let no = none_left (enumerate_from n (l ∷ ls)) r t k e runs in absurd (grind arith)

-- a fault that is known is handed on
pub handed_on : (e : TextFault) (v : Result SideLine TextFault) (r : Result SideLine TextFault) → IsErrAnd r (λ y. y ≡ e) → v ≡ Err e → r ≡ v
handed_on e v (Ok x) by is = absurd by
handed_on e v (Err y) by is = ap Err by ∙ sym is

-- the verdict on what is found
pub ended : (last : ℕ) (found : Option SideLine) (r : Result SideLine TextFault) {E : TextFault → Type 0} →
    ((e : TextFault) → E e → e ≡ record { line = last; reason = NoSide }) → MatchOption found (IsErrAnd r E) (λ s. r ≡ Ok s) → r ≡ verdict last (front found ++ [])
ended last None (Ok s) is m = absurd m
ended last None (Err e) is m = ap Err (is e m)
ended last (Some s) r is m = m
