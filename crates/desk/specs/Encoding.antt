-- What comes of writing a draft as a clause text.
use Rattle.std.specs.Prelude.{◌≡◌, ℕ, List, [], Some, Ok, Err, vec_items, Result, Vec}
use Rattle.std.specs.declared.alloc.Global.{Global}
use Rattle.spelling.specs.Text.{text_charge}
use Rattle.clause_text.specs.declared.fault.WriteFault.{WriteFault}
use Rattle.clause_text.specs.declared.fault.WriteFault.TheVariants as writing
use Rattle.clause_text.specs.Writing.{cnf}
use Rattle.boards.specs.declared.board.Board.{Board}
use Rattle.boards.specs.Atoms.{cell_variables}
use Rattle.boards.specs.Board.{board_of}
use Rattle.draft.specs.declared.fault.DraftFault.{DraftFault}
use Rattle.boards.specs.Base.{base_clauses}
use Rattle.draft.specs.Opening.{open_fault_on}
use Rattle.desk.specs.declared.fault.EncodeFault.{EncodeFault}
use Rattle.desk.specs.declared.fault.EncodeFault.TheVariants as encoding
use Rattle.desk.specs.declared.statement.SideLine.{SideLine}
use Rattle.desk.specs.DraftText.{read}

-- the clause text of an empty board
abbrev pub board_text : Board → List ℕ
board_text b = cnf (cell_variables b) (base_clauses b)

-- a draft of a side is written, or refused as opening it in so much room is; or memory is wanting
abbrev pub Written : ℕ → ℕ → Result (Vec ℕ Global) (WriteFault DraftFault) → Type 0
Written side room (Ok text) = (b : Board) × (board_of side ≡ Some b) × (vec_items text ≡ board_text b)
Written side room (Err (writing.Refused f)) = Some f ≡ open_fault_on text_charge (board_of side) [] room
Written side room (Err writing.Memory) = Unit {0}

-- the fault of a draft that a line says
abbrev pub fault_at_line : ℕ → WriteFault DraftFault → EncodeFault
fault_at_line line (writing.Refused f) = encoding.Draft line f
fault_at_line line writing.Memory = encoding.Memory

-- the same of a text that says the side
abbrev pub Encoded : List ℕ → Result (Vec ℕ Global) EncodeFault → Type 0
Encoded bytes (Ok text) = (s : SideLine) × (b : Board) × (read bytes ≡ Ok s) × (board_of s.side ≡ Some b) × (vec_items text ≡ board_text b)
Encoded bytes (Err (encoding.Text f)) = read bytes ≡ Err f
Encoded bytes (Err (encoding.Draft line f)) =
    (s : SideLine) × (read bytes ≡ Ok s) × (line ≡ s.line) × (Some f ≡ open_fault_on text_charge (board_of s.side) [] 1048576)
Encoded bytes (Err encoding.Memory) = Unit {0}
