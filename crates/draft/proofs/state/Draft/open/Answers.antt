use Rattle.std.proofs.Common.{◌≡◌, ◌*◌, Some, None, sym, refl, ap, ◌∙◌, ap₂, arith}
use Rattle.boards.specs.Board.{board_of}
use Rattle.draft.proofs.Openings.{inside, new, not_empty, reported, undone}
use Rattle.draft.proofs.state.Draft.open.Goals as goal

pub returns-then-count-gt0 : goal.returns-then-count-gt0
returns-then-count-gt0 g c =
    let found : board_of c.args.side ≡ Some c.in_ok-board.board = sym c.of_side.ensures ∙ c.in_ok-board.ensures.ok_part in
    let fault = not_empty g.P.Place c.args.side c.args.place.now _ found (omega arith) in
    record { fault = fault; refusal = reported g.P.Place c.args.side c.args.place.now _ fault; opened = (refl, refl) }

pub returns-in-Err : goal.returns-in-Err
returns-in-Err g c =
    let p = c.args.place.now in
    let b = c.in_ok-board.board in
    let found : board_of c.args.side ≡ Some b = sym c.of_side.ensures ∙ c.in_ok-board.ensures.ok_part in
    let w = c.in-Err.ensures in
    let fault = ap Some c.from.ensures ∙ inside g.P.Place c.args.side p b found (omega arith) c.write_base.new.place (Some c.in-Err.fault) w in
    record {
      fault = fault;
      refusal = reported g.P.Place c.args.side p _ fault;
      opened =
          undone g.P.Place c.args.side p b found (omega arith) c.write_base.new.place (Some c.in-Err.fault) w c.cut_back.new.self
          c.cut_back.ensures.holds c.cut_back.ensures.room;
    }

pub returns : goal.returns
returns g c =
    let p = c.args.place.now in
    let b = c.in_ok-board.board in
    let found : board_of c.args.side ≡ Some b = sym c.of_side.ensures ∙ c.in_ok-board.ensures.ok_part in
    let w = c.in_default.ensures in
    let fault = inside g.P.Place c.args.side p b found (omega arith) c.write_base.new.place None w in
    let made = new g.P.Place c.args.side p b found (omega arith) c.write_base.new.place w in
    record {
      fault = fault;
      refusal = reported g.P.Place c.args.side p None fault;
      opened = (found, ap₂ ◌*◌ c.cells.ensures.value c.side.ensures.value, made.0, made.1);
    }
