-- The names of the kinds, and of the sides.
use Rattle.std.specs.Prelude.{ℕ, cond, List, Some, None, codes, Option}
use Rattle.std.specs.Str.{bytes_eq}
use Rattle.part_text.specs.declared.part.KindName.{KindName}
use Rattle.part_text.specs.declared.part.KindName.TheVariants.{Givens, Cage, Thermometer, Arrow}
use Rattle.part_text.specs.declared.part.Side.{Side}
use Rattle.part_text.specs.declared.part.Side.TheVariants.{Four, Nine}

-- the kind that a word names
abbrev pub kind_of : List ℕ → Option KindName
kind_of w =
    cond (bytes_eq w (codes "givens")) (Some Givens) (cond (bytes_eq w (codes "cage")) (Some Cage)
    (cond (bytes_eq w (codes "thermometer")) (Some Thermometer) (cond (bytes_eq w (codes "arrow")) (Some Arrow) None)))

-- the side that a word is
abbrev pub side_of : List ℕ → Option Side
side_of w = cond (bytes_eq w (codes "4")) (Some Four) (cond (bytes_eq w (codes "9")) (Some Nine) None)
