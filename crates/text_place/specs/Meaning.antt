-- What a place of text means.
use Rattle.std.specs.Prelude.{ℕ, List, ℤ}
use Rattle.store.specs.declared.store.Store.{Store}
use Rattle.store.specs.Meaning.{held, free}
use Rattle.text_place.specs.declared.text.Lines.{Lines}
use Rattle.spelling.specs.Text.{is_line_feed, text}

-- a place of text: a store that spells clauses as lines
abbrev pub TextPlace : Type 0
TextPlace = Store Lines ℕ (record { spelling = text }) (record { ends = is_line_feed })

-- the clauses that it holds
abbrev pub held_text : TextPlace → List (List ℤ)
held_text = held

-- the bytes that are left
abbrev pub free_text : TextPlace → ℕ
free_text = free
