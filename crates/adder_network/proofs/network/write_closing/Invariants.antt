use Rattle.std.proofs.Common.{[], length, map}
use Rattle.formulas.specs.Numbered.{plain}
use Rattle.places.proofs.Loops.{ToCome, below}
use Rattle.totals.specs.Adders.{closing}
use Rattle.adder_network.specs.Variables.{listed, number_of}
use Rattle.adder_network.proofs.Closing.{line_turn}
use Rattle.adder_network.proofs.network.write_closing.Given as goal

abbrev pub invariant-loop-index : goal.invariant-loop-index
invariant-loop-index g l =
    ToCome g.P.Place (plain (closing l.item.number 0 l.target (map listed (map number_of l.bits)))) l.initial.place (line_turn l.item.number l.target l.bits) [] (below (length l.bits) l.index) l.place
