-- What a place of words means.
use Rattle.std.specs.Prelude.{ℕ, List, ℤ}
use Rattle.store.specs.declared.store.Store.{Store}
use Rattle.store.specs.Meaning.{held, free}
use Rattle.word_place.specs.declared.word.Words.{Words}
use Rattle.spelling.specs.Word.{is_zero, words}

-- a place of words: a store that spells clauses so
abbrev pub WordPlace : Type 0
WordPlace = Store Words ℤ (record { spelling = words }) (record { ends = is_zero })

-- the clauses that it holds
abbrev pub held_words : WordPlace → List (List ℤ)
held_words = held

-- the words that are left
abbrev pub free_words : WordPlace → ℕ
free_words = free
