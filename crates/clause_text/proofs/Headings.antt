-- Headings in a buffer that has room for any.
use Rattle.std.proofs.Common.{◌≡◌, ℕ, ◌^◌, ◌<◌, ◌≤◌, cond, leb, List, length, arith}
use Rattle.std.proofs.lemmas.Fmt.{length-decimal-le}
use Rattle.std.proofs.lemmas.Bool.{cond-true, le-leb}
use Rattle.spelling.specs.Text.{heading}
use Rattle.spelling.proofs.Writing.{length_heading}

module _ (v c : ℕ) (small : v < 2 ^ 32) (few : c < 2 ^ 64) (buffer : List ℕ) (size : length buffer ≡ 48) where
  -- 48 bytes suffice
  pub fits : length (heading v c) ≤ length buffer
  fits =
      omega (
        arith,
        length_heading v c,
        length-decimal-le 20 v (omega arith) (omega arith) (omega arith),
        length-decimal-le 20 c (omega arith) (omega arith) (omega arith),
      )

  -- what comes of the test is what comes where there is room
  pub chosen : {A : Type 0} (there not_there : A) → cond (leb (length (heading v c)) (length buffer)) there not_there ≡ there
  chosen there not_there = cond-true (leb (length (heading v c)) (length buffer)) there not_there (le-leb (length (heading v c)) (length buffer) fits)
