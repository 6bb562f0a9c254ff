-- Writing over the start of a list, piece by piece.
use Rattle.std.proofs.Common.{◌≡◌, ℕ, ◌+◌, List, ◌++◌, length, take, drop, codes, decimal, sym, ap, ◌∙◌, append_assoc, arith}
use Rattle.std.proofs.lemmas.List.{length-append, take_at, drop_at, drop-drop}
use Rattle.spelling.specs.Spelling.{overwritten}
use Rattle.spelling.specs.Text.{heading}

-- the list xs with s written over its start, up to `end`
abbrev pub Over : {X : Type 0} → List X → List X → ℕ → List X → Type 0
Over xs s end bs = (end ≡ length s) × (bs ≡ s ++ drop (length s) xs)

-- one more piece
pub over_more : {X : Type 0} (xs s t : List X) (end end' : ℕ) (bs bs' : List X) → Over xs s end bs →
    end' ≡ end + length t → bs' ≡ overwritten bs end t → Over xs (s ++ t) end' bs'
over_more xs s t end end' bs bs' o e b =
    let rest = drop (length s) xs in
    let front : take end bs ≡ s = ap (take end) o.1 ∙ take_at s rest end (sym o.0) in
    let back : drop (end + length t) bs ≡ drop (length (s ++ t)) xs =
    sym (drop-drop (length t) end bs) ∙ ap (drop (length t)) (ap (drop end) o.1 ∙ drop_at s rest end (sym o.0)) ∙
    drop-drop (length t) (length s) xs ∙ ap (λ i. drop i xs) (omega (arith, length-append s t)) in (
      omega (arith, length-append s t),
      b ∙ ap (λ r. r ++ (t ++ drop (end + length t) bs)) front ∙ ap (λ r. s ++ (t ++ r)) back ∙ sym (append_assoc s t (drop (length (s ++ t)) xs)),
    )

-- how long a heading is
pub length_heading : (v c : ℕ) → length (heading v c) ≡ length (decimal v) + length (decimal c) + 8
length_heading v c =
    omega (
      arith,
      length-append (codes "p cnf " ++ decimal v ++ codes " " ++ decimal c) (codes "\n"),
      length-append (codes "p cnf " ++ decimal v ++ codes " ") (decimal c),
      length-append (codes "p cnf " ++ decimal v) (codes " "),
      length-append (codes "p cnf ") (decimal v),
    )
