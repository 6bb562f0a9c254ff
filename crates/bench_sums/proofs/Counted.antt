-- What a totaller's answer means for an empty place of words.
use Rattle.std.proofs.Common.{◌≡◌, ℕ, Bool, true, false, cond, leb, List, [], ◌++◌, length, ℤ, Some, None, Ok, Err, sum_by, Option, sym, refl, ap, ◌∙◌, arith}
use Rattle.std.proofs.lemmas.Bool.{cond-true, le-leb}
use Rattle.spelling.specs.Word.{spelled_words, word_charge}
use Rattle.places.specs.declared.fault.PlaceFault.{PlaceFault}
use Rattle.places.specs.declared.fault.PlaceFault.TheVariants.{NoSpace}
use Rattle.places.specs.declared.place.Place.{Ghosts}
use Rattle.places.proofs.Written.{wrote_all}
use Rattle.word_place.specs.Meaning.{WordPlace, free_words, held_words}
use Rattle.totals.specs.Totaller.{Totaller}
use Rattle.totallers.specs.declared.fault.TotallerFault.{TotallerFault}
use Rattle.totallers.specs.Writing.{Totalled, TotalledBy, ready_fault, sum_clauses}
use Rattle.bench_sums.specs.Words.{words_by, words_of}

-- what a place of words means
abbrev words : Ghosts WordPlace
words = record { held = held_words; free = free_words; charge = word_charge }

-- a sum is handed to a totaller with an empty place p, which is then q
module _ (𝓣 : Totaller) (vs ws : List ℕ) (t f : ℕ) (p q : WordPlace) (room : ℕ) (empty : held_words p ≡ []) (all_free : free_words p ≡ room) where
  abbrev ready : Option TotallerFault
  ready = ready_fault 𝓣 vs ws t f

  abbrev cs : List (List ℤ)
  cs = sum_clauses 𝓣 vs ws t f

  pub counted : (fresh : ℕ) → Totalled 𝓣 words vs ws t f p q (Ok fresh) → length (spelled_words (held_words q)) ≡ words_of 𝓣 vs ws t f room
  counted fresh h = go ready refl h
    where
      go : (o : Option TotallerFault) → ready ≡ o → TotalledBy o 𝓣 words vs ws t f p q (Ok fresh) →
          length (spelled_words (held_words q)) ≡ words_of 𝓣 vs ws t f room
      go (Some e) is w = let no = w.0 in absurd (grind arith)
      go None is w =
          let all = wrote_all word_charge cs (held_words p) (free_words p) (held_words q) (free_words q) w.1 in
          ap (λ l. length (spelled_words l)) (all.1 ∙ ap (λ l. l ++ cs) empty) ∙
          sym (ap (λ o. words_by o cs room) is ∙ cond-true (leb (sum_by word_charge cs) room) _ _ (le-leb (sum_by word_charge cs) room (omega (arith, all.0))))

  pub refused : (e : TotallerFault) → Totalled 𝓣 words vs ws t f p q (Err e) → 0 ≡ words_of 𝓣 vs ws t f room
  refused e h = go ready refl h
    where
      none : (b : Bool) (n k : ℕ) (d : PlaceFault) → Some d ≡ cond b None (Some (NoSpace n)) → 0 ≡ cond b k 0
      none true n k d full = absurd (grind arith)
      none false n k d full = refl

      go : (o : Option TotallerFault) → ready ≡ o → TotalledBy o 𝓣 words vs ws t f p q (Err e) → 0 ≡ words_of 𝓣 vs ws t f room
      go (Some d) is w = sym (ap (λ o. words_by o cs room) is)
      go None is w =
          none (leb (sum_by word_charge cs) (free_words p)) _ (length (spelled_words cs)) w.0 w.2.ended ∙
          ap (λ n. cond (leb (sum_by word_charge cs) n) (length (spelled_words cs)) 0) all_free ∙ sym (ap (λ o. words_by o cs room) is)
