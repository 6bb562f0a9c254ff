-- Draft texts: one statement to a line, and what it says.
use Rattle.std.specs.Prelude.{ℕ, ◌+◌, ◌-◌, Bool, cond, not, ◌&&◌, ◌||◌, List, [], ◌∷◌, length, is_some, Some, None, Ok, Err, codes, filter, Option, Result, ◌==◌, nat_le}
use Rattle.std.specs.List.{before_first, slice_split}
use Rattle.std.specs.Str.{bytes_eq}
use Rattle.boards.specs.Board.{board_of}
use Rattle.spelling.specs.Text.{is_line_feed}
use Rattle.desk.specs.declared.statement.Reason.{Reason}
use Rattle.desk.specs.declared.statement.Reason.TheVariants.{UnknownStatement, NoSide, SecondSide, SideWords, SideNumber}
use Rattle.desk.specs.declared.statement.SideLine.{SideLine}
use Rattle.desk.specs.declared.statement.Statement.{Statement}
use Rattle.desk.specs.declared.statement.Statement.TheVariants.{Side}
use Rattle.desk.specs.declared.statement.TextFault.{TextFault}

-- a space, a tab or a carriage return
abbrev pub blank : ℕ → Bool
blank b = b == 32 || (b == 9 || b == 13)

-- `#` starts a comment
abbrev pub hash : ℕ → Bool
hash b = b == 35

-- a line ends at a line feed or with the text
abbrev pub lines_of : List ℕ → List (List ℕ)
lines_of text = slice_split is_line_feed text

-- what stands before the comment
abbrev pub code_of : List ℕ → List ℕ
code_of line = before_first hash line

abbrev pub some : List ℕ → Bool
some w = not (length w == 0)

-- blanks stand between words
abbrev pub words_of : List ℕ → List (List ℕ)
words_of bytes = filter some (slice_split blank bytes)

-- a number of one digit
abbrev pub digit : List ℕ → Option ℕ
digit [] = None
digit (b ∷ []) = cond (nat_le 48 b && nat_le b 57) (Some (b - 48)) None
digit (b ∷ c ∷ bs) = None

-- that is the side of a board
abbrev pub known : Option ℕ → Option ℕ
known None = None
known (Some n) = cond (is_some (board_of n)) (Some n) None

-- a line says a statement or nothing, or is wrong
abbrev pub Said : Type 0
Said = Result (Option Statement) Reason

-- a line says the side that its number is, or is wrong where that is none
abbrev pub side_number : Option ℕ → Said
side_number None = Err SideNumber
side_number (Some n) = Ok (Some (Side n))

-- one number follows the word `side`
abbrev pub says_side : List (List ℕ) → Said
says_side [] = Err SideWords
says_side (w ∷ []) = side_number (known (digit w))
says_side (w ∷ v ∷ vs) = Err SideWords

-- no word says nothing, and the first of some is `side`
abbrev pub says : List (List ℕ) → Said
says [] = Ok None
says (w ∷ ws) = cond (bytes_eq w (codes "side")) (says_side ws) (Err UnknownStatement)

abbrev pub statement_of : List ℕ → Said
statement_of line = says (words_of (code_of line))

-- the lines that say something, with their numbers from k on
abbrev pub numbered : ℕ → Said → List (ℕ × Result Statement Reason) → List (ℕ × Result Statement Reason)
numbered k (Ok None) rest = rest
numbered k (Ok (Some s)) rest = (k, Ok s) ∷ rest
numbered k (Err r) rest = (k, Err r) ∷ rest

abbrev pub said : ℕ → List (List ℕ) → List (ℕ × Result Statement Reason)
said k [] = []
said k (l ∷ ls) = numbered k (statement_of l) (said (k + 1) ls)

-- what is wrong with a line behind the side, where it would be wrong as the first
abbrev pub after_side : Reason → Reason
after_side UnknownStatement = UnknownStatement
after_side NoSide = SecondSide
after_side SecondSide = SecondSide
after_side SideWords = SecondSide
after_side SideNumber = SecondSide

-- the first statement is the side, and there is no other; `last` is the number of the last line
abbrev pub verdict : ℕ → List (ℕ × Result Statement Reason) → Result SideLine TextFault
verdict last [] = Err (record { line = last; reason = NoSide })
verdict last ((k, Err r) ∷ rest) = Err (record { line = k; reason = r })
verdict last ((k, Ok (Side n)) ∷ []) = Ok (record { line = k; side = n })
verdict last ((k, Ok (Side n)) ∷ (j, Ok (Side m)) ∷ rest) = Err (record { line = j; reason = SecondSide })
verdict last ((k, Ok (Side n)) ∷ (j, Err r) ∷ rest) = Err (record { line = j; reason = after_side r })

abbrev pub read : List ℕ → Result SideLine TextFault
read text = verdict (length (lines_of text)) (said 1 (lines_of text))
