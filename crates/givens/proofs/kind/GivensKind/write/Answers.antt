use Rattle.std.proofs.Common.{sym, rules}
use Rattle.boards.specs.Board.{cells}
use Rattle.parts.specs.Tests.{length_fault}
use Rattle.totallers.proofs.Faultless.{both_none}
use Rattle.meanings.proofs.Givens.{characters_fit}
use Rattle.givens.proofs.kind.GivensKind.write.Goals as goal

pub write_digits-requires-clause-characters : goal.write_digits-requires-clause-characters
write_digits-requires-clause-characters g c =
    let b = c.args.board.now in
    let body = c.args.part.now.body.now in
    characters_fit b body (both_none (length_fault (cells b) (cells b) body) _ (sym c.in_ok-test.ensures)).1

pub returns-in_err-write_digits : goal.returns-in_err-write_digits
returns-in_err-write_digits g c = let w = c.in_err-write_digits.ensures c.args.first in search rules

pub returns : goal.returns
returns g c = let w = c.in_ok-write_digits.ensures c.args.first in search rules
