-- Sums over the digits of cells.
use Rattle.std.specs.Prelude.{ℕ, ◌+◌, cond, List, [], ◌∷◌, map, Some, None, Option, nat_le, slice_index, slice_index_or}
use Rattle.std.specs.List.{range_with_len, flat_map}
use Rattle.std.specs.Option.{option_or}
use Rattle.formulas.specs.Formula.{Formula, Literal, is, isnt}
use Rattle.totals.specs.Items as sum
use Rattle.totals.specs.Items.{Item, item}
use Rattle.totals.specs.Totaller.{Totaller}
use Rattle.totallers.specs.declared.fault.TotallerFault.{TotallerFault}
use Rattle.totallers.specs.declared.fault.TotallerFault.TheVariants.{Item as WrongItem}
use Rattle.totallers.specs.Writing.{taking_fault}
use Rattle.boards.specs.declared.board.Board.{Board}
use Rattle.boards.specs.Board.{side}
use Rattle.boards.specs.Atoms.{Atom, at, fresh}
use Rattle.parts.specs.declared.fault.KindFault.{KindFault}
use Rattle.parts.specs.declared.fault.KindFault.TheVariants as kind

-- the digits of the cells, added
abbrev pub digit_sum : List ℕ → List ℕ → ℕ
digit_sum g [] = 0
digit_sum g (c ∷ cs) = slice_index g c + digit_sum g cs

-- an item for each cell and each digit
abbrev pub cell_items : Board → List ℕ → List Atom
cell_items b cs = flat_map (λ c. map (at c) (range_with_len 1 (side b))) cs

-- which weighs what the digit is
abbrev pub cell_weights : Board → List ℕ → List ℕ
cell_weights b cs = flat_map (λ c. range_with_len 1 (side b)) cs

-- the totaller's items are these variables
abbrev pub named : List Atom → Item → Atom
named atoms (item i) = slice_index_or atoms i (at 0 0)
named atoms (sum.fresh j) = fresh j

abbrev pub literal : List Atom → Literal Item → Literal Atom
literal atoms (is a) = is (named atoms a)
literal atoms (isnt a) = isnt (named atoms a)

-- that the items with these weights add to the target, as the totaller says it
abbrev pub sum_formula : Totaller → List Atom → List ℕ → ℕ → Formula Atom
sum_formula 𝓣 atoms ws t = map (map (literal atoms)) (𝓣.formula ws t)

-- what a totaller finds wrong
abbrev pub by_totaller : Option TotallerFault → Option KindFault
by_totaller None = None
by_totaller (Some e) = Some (kind.Totaller e)

-- A digit beyond 15 is no weight. On a board that has one, the sixteenth item, the first cell's, is the first that is wrong.
abbrev pub large_fault : Board → Option TotallerFault
large_fault b = cond (nat_le (side b) 15) None (Some (WrongItem 15))

-- what a totaller finds wrong with a sum of digits that has these weights
abbrev pub adding_fault : Totaller → Board → List ℕ → ℕ → ℕ → Option KindFault
adding_fault 𝓣 b ws t f = by_totaller (option_or (large_fault b) (taking_fault 𝓣 ws t f))
