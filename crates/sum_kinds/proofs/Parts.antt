-- What a cage and an arrow write, where nothing is wrong with them.
use Rattle.std.proofs.Common.{◌≡◌, ℕ, ◌+◌, ◌-◌, ◌*◌, ◌<◌, ◌≤◌, List, [], ◌++◌, map, length, ℤ, IsErrAnd, Some, None, Ok, Err, Result, sym, refl, ap, ◌∙◌, ap₂, subst, append_assoc, mul-le-mul, arith}
use Rattle.std.specs.List.{range_with_len, AllByRecursion as Each}
use Rattle.std.proofs.ByRecursion.{All-drop}
use Rattle.std.proofs.lemmas.List.{length-append, length-drop, length-map, map-append}
use Rattle.std.proofs.lemmas.Bool.{le-leb, lt-leb}
use Rattle.arrayvec.specs.ArrayVec.{array_vec_len}
use Rattle.formulas.specs.Numbered.{signed}
use Rattle.places.specs.declared.fault.PlaceFault.{PlaceFault}
use Rattle.places.specs.declared.place.Place.{Ghosts}
use Rattle.places.specs.Written.{Writes}
use Rattle.totals.specs.Totaller.{Totaller}
use Rattle.totallers.specs.declared.fault.TotallerFault.{TotallerFault}
use Rattle.totallers.specs.Writing.{Totalled, items_fault, ready_fault, sum_clauses}
use Rattle.totallers.proofs.Faultless.{both_none}
use Rattle.boards.specs.declared.board.Board.{Board}
use Rattle.boards.specs.Board.{cells, side}
use Rattle.boards.specs.Atoms.{Atom, at, cell_variables, number}
use Rattle.boards.specs.Base.{clauses_of, no_repeat}
use Rattle.boards.proofs.Boards.{side_some}
use Rattle.rules.specs.Rule.{Inside}
use Rattle.parts.specs.declared.fault.KindFault.{KindFault}
use Rattle.parts.specs.declared.fault.KindFault.TheVariants as kind
use Rattle.parts.specs.Tests.{cell_fault, first_number_fault, length_fault}
use Rattle.meanings.specs.Sum.{by_totaller, cell_items, cell_weights, large_fault, sum_formula}
use Rattle.meanings.specs.Cage.{cage}
use Rattle.meanings.specs.Arrow.{arrow, arrow_items, arrow_weights, circle, shaft}
use Rattle.meanings.proofs.Faults.{cells_on, length_between}
use Rattle.meanings.proofs.Numbers.{items_large}
use Rattle.meanings.proofs.Sums.{items_inside, items_length, weights_length, weights_small}
use Rattle.meanings.proofs.Arrows.{arrow_items_inside, arrow_items_length, arrow_weights_length, arrow_weights_small}
use Rattle.kinds.specs.Answers.{Written, part_clauses, write_fault}
use Rattle.kinds.proofs.Writing.{alone_done, alone_ended, own_stopped, sum_done, sum_refused, sum_stopped, write_fault_is}
use Rattle.sum_kinds.specs.declared.items.Items.{Items}
use Rattle.sum_kinds.specs.Items.{Longer}
use Rattle.sum_kinds.proofs.Totalling.{behind_cells, first_of, no_repeat_as, ready_is, sum_is}

-- a list that was made from none, and that the code has as l
made : (now before xs l : List ℕ) → before ≡ [] → now ≡ before ++ xs → l ≡ now → l ≡ xs
made now before xs l empty more is = is ∙ more ∙ ap (λ r. r ++ xs) empty

-- no item
abbrev pub Empty : Items → Type 0
Empty items = (items.variables.items ≡ []) × (items.weights.items ≡ [])

-- A cage with which nothing is wrong.
module _ (b : Board) (total : ℕ) (body : List ℕ) (tested : cage.fault b total body ≡ None) where
  parts : (length_fault 1 (side b) body ≡ None) × (cell_fault b body ≡ None)
  parts = let both = both_none (length_fault 1 (side b) body) _ tested in (both.0, (both_none (cell_fault b body) _ both.1).0)

  pub cage_cells : Each (λ c. c < cells b) body
  cage_cells = cells_on b body parts.1

  pub cage_long : (1 ≤ length body) × (length body ≤ side b)
  cage_long = length_between 1 (side b) body parts.0

  pub cage_few : length body * side b ≤ 272
  cage_few =
      let few : length body ≤ 16 = omega (arith, cage_long.1, b.small) in
      let most : length body * side b ≤ 16 * 16 = mul-le-mul few b.small in
      omega (arith, most)

  large : (f : ℕ) → cell_variables b < f → items_fault (map (number b 0) (cell_items b body)) (cell_weights b body) f ≡ large_fault b
  large f behind =
      let some : 1 * 1 ≤ length body * side b = mul-le-mul cage_long.0 (side_some b) in
      let (c, rest, e) = first_of body cage_long.0 in
      items_large b 0 f behind c (subst (Each (λ q. q < cells b)) e cage_cells).0 (cell_items b body) (cell_items b rest) (cell_weights b body) (cell_weights b rest)
      (items_length b body ∙ sym (weights_length b body)) (items_inside b body cage_cells) (λ l. weights_small b l body) (omega (arith, some, items_length b body))
      (ap (cell_items b) e) (ap (cell_weights b) e)

  -- its own clauses
  abbrev own : List (List ℤ)
  own = clauses_of b (no_repeat b body)

  -- The items are made from none, and the code has their variables as vs and their weights as ws.
  module _ (𝓣 : Totaller) {P : Type 0} (𝓟 : Ghosts P) (f : ℕ) (first : first_number_fault b f ≡ None) (none items : Items) (empty : Empty none)
      (pushed : Longer none (map (number b 0) (cell_items b body)) (cell_weights b body) items) (vs ws : List ℕ) (is_vs : vs ≡ items.variables.items) (is_ws : ws ≡ items.weights.items) where
    ev : vs ≡ map (number b 0) (cell_items b body)
    ev = made items.variables.items none.variables.items (map (number b 0) (cell_items b body)) vs empty.0 pushed.0 is_vs

    ew : ws ≡ cell_weights b body
    ew = made items.weights.items none.weights.items (cell_weights b body) ws empty.1 pushed.1 is_ws

    whole : part_clauses cage 𝓣 b total body f ≡ own ++ sum_clauses 𝓣 vs ws total f
    whole =
        map-append (map (signed (number b (f - 1)))) (no_repeat b body) (sum_formula 𝓣 (cell_items b body) (cell_weights b body) total) ∙
        ap₂ ◌++◌ (sym (no_repeat_as b f body))
        (sum_is 𝓣 b (cell_items b body) (cell_weights b body) total f (items_inside b body cage_cells) (behind_cells b f first) ∙
        sym (ap₂ (λ v w. sum_clauses 𝓣 v w total f) ev ew))

    ready : write_fault cage 𝓣 b total body f ≡ by_totaller (ready_fault 𝓣 vs ws total f)
    ready =
        write_fault_is cage 𝓣 𝓟 b total body f tested first ∙
        sym (ap by_totaller (ap₂ (λ v w. ready_fault 𝓣 v w total f) ev ew) ∙
        ready_is 𝓣 b (cell_items b body) (cell_weights b body) total f (items_inside b body cage_cells) (behind_cells b f first) (large f (behind_cells b f first)))

    -- the first clauses are the cage's own, and the others the totaller's
    count_own : length own ≡ length (no_repeat b body)
    count_own = length-map (no_repeat b body) (map (signed (number b (cell_variables b))))

    pub cage_refused : (p : P) (e : TotallerFault) → ready_fault 𝓣 vs ws total f ≡ Some e → (r : Result ℕ KindFault) → IsErrAnd r (λ y. y ≡ kind.Totaller e) →
        Written cage 𝓣 𝓟 b total body f p p r
    cage_refused p e h r by = sum_refused cage 𝓣 𝓟 b total body f own vs ws total whole ready p e h r by

    module _ (none_wrong : ready_fault 𝓣 vs ws total f ≡ None) (p q : P) where
      pub cage_own_stopped : (d : PlaceFault) → Writes 𝓟 own p q (Some d) → (r : Result ℕ KindFault) → IsErrAnd r (λ y. y ≡ kind.Place d) →
          Written cage 𝓣 𝓟 b total body f p q r
      cage_own_stopped d w r by =
          own_stopped cage 𝓣 𝓟 b total body f own vs ws total whole ready p none_wrong (λ i l. lt-leb (length (no_repeat b body)) i (omega (arith, count_own))) q d w r by

      module _ (w : Writes 𝓟 own p q None) (s : P) where
        pub cage_sum_stopped : (e : TotallerFault) → Totalled 𝓣 𝓟 vs ws total f q s (Err e) → (r : Result ℕ KindFault) → IsErrAnd r (λ y. y ≡ kind.Totaller e) →
            Written cage 𝓣 𝓟 b total body f p s r
        cage_sum_stopped e v r by =
            sum_stopped cage 𝓣 𝓟 b total body f own vs ws total whole ready p none_wrong q w s (λ i l. le-leb (length (no_repeat b body)) i (omega (arith, count_own))) e v r by

        pub cage_done : (k : ℕ) → Totalled 𝓣 𝓟 vs ws total f q s (Ok k) → Written cage 𝓣 𝓟 b total body f p s (Ok k)
        cage_done k v = sum_done cage 𝓣 𝓟 b total body f own vs ws total whole ready p none_wrong q w s (ap (λ w. 𝓣.fresh_count w total) ew) k v

-- how many items the cells have
pub arrow_pushed : (b : Board) (none some : Items) (rest : List ℕ) → Longer none (map (number b 0) (cell_items b rest)) (cell_weights b rest) some →
    array_vec_len some.variables ≡ array_vec_len none.variables + length rest * side b
arrow_pushed b none some rest pushed =
    omega (arith, ap length pushed.0, length-append none.variables.items (map (number b 0) (cell_items b rest)), length-map (cell_items b rest) (number b 0), items_length b rest)

-- An arrow with which nothing is wrong.
module _ (b : Board) (total : ℕ) (body : List ℕ) (tested : arrow.fault b total body ≡ None) where
  arrow_parts : (length_fault 2 (side b + 1) body ≡ None) × (cell_fault b body ≡ None)
  arrow_parts = let both = both_none (length_fault 2 (side b + 1) body) _ tested in (both.0, (both_none (cell_fault b body) _ both.1).0)

  pub arrow_cells : Each (λ c. c < cells b) body
  arrow_cells = cells_on b body arrow_parts.1

  pub arrow_long : (2 ≤ length body) × (length body ≤ side b + 1)
  arrow_long = length_between 2 (side b + 1) body arrow_parts.0

  pub arrow_few : length (shaft body) * side b + side b ≤ 272
  arrow_few =
      let few : length (shaft body) ≤ 16 = omega (arith, arrow_long.1, b.small, length-drop 1 body) in
      let most : length (shaft body) * side b ≤ 16 * 16 = mul-le-mul few b.small in
      omega (arith, most, b.small)

  -- the circle's items
  abbrev around : List Atom
  around = map (at (circle body)) (range_with_len 1 (side b - 1))

  abbrev lacks : List ℕ
  lacks = map (λ d. side b - d) (range_with_len 1 (side b - 1))

  arrow_inside : Each (Inside b 0) (arrow_items b body)
  arrow_inside = arrow_items_inside b body (omega (arith, arrow_long.0)) arrow_cells

  arrow_large : (f : ℕ) → cell_variables b < f → items_fault (map (number b 0) (arrow_items b body)) (arrow_weights b body) f ≡ large_fault b
  arrow_large f behind =
      let least : 1 ≤ length (shaft body) = omega (arith, arrow_long.0, length-drop 1 body) in
      let some : 1 * 1 ≤ length (shaft body) * side b = mul-le-mul least (side_some b) in
      let (c, rest, e) = first_of (shaft body) least in
      items_large b 0 f behind c (subst (Each (λ q. q < cells b)) e (All-drop (λ q. q < cells b) 1 body arrow_cells)).0
      (arrow_items b body) (cell_items b rest ++ around) (arrow_weights b body) (cell_weights b rest ++ lacks)
      (arrow_items_length b body ∙ sym (arrow_weights_length b body)) arrow_inside (λ l. arrow_weights_small b body l)
      (omega (arith, some, arrow_items_length b body))
      (ap (λ l. cell_items b l ++ around) e ∙ append_assoc (map (at c) (range_with_len 1 (side b))) (cell_items b rest) around)
      (ap (λ l. cell_weights b l ++ lacks) e ∙ append_assoc (range_with_len 1 (side b)) (cell_weights b rest) lacks)

  -- The shaft's items are made from none, and the circle's come behind. The code has the shaft as rest, and the side as t.
  module _ (𝓣 : Totaller) {P : Type 0} (𝓟 : Ghosts P) (f : ℕ) (first : first_number_fault b f ≡ None) (none some items : Items) (empty : Empty none)
      (rest : List ℕ) (is_shaft : rest ≡ shaft body) (pushed : Longer none (map (number b 0) (cell_items b rest)) (cell_weights b rest) some)
      (more : Longer some (map (number b 0) around) lacks items) (vs ws : List ℕ) (is_vs : vs ≡ items.variables.items) (is_ws : ws ≡ items.weights.items) (t : ℕ) (is_t : t ≡ side b) where
    arrow_vs : vs ≡ map (number b 0) (arrow_items b body)
    arrow_vs =
        is_vs ∙ more.0 ∙ ap (λ l. l ++ map (number b 0) around) (pushed.0 ∙ ap₂ (λ l r. l ++ map (number b 0) (cell_items b r)) empty.0 is_shaft) ∙
        sym (map-append (number b 0) (cell_items b (shaft body)) around)

    arrow_ws : ws ≡ arrow_weights b body
    arrow_ws = is_ws ∙ more.1 ∙ ap (λ l. l ++ lacks) (pushed.1 ∙ ap₂ (λ l r. l ++ cell_weights b r) empty.1 is_shaft)

    arrow_whole : part_clauses arrow 𝓣 b total body f ≡ sum_clauses 𝓣 vs ws t f
    arrow_whole =
        sum_is 𝓣 b (arrow_items b body) (arrow_weights b body) (side b) f arrow_inside (behind_cells b f first) ∙
        sym (ap (λ n. sum_clauses 𝓣 vs ws n f) is_t ∙ ap₂ (λ v w. sum_clauses 𝓣 v w (side b) f) arrow_vs arrow_ws)

    arrow_ready : write_fault arrow 𝓣 b total body f ≡ by_totaller (ready_fault 𝓣 vs ws t f)
    arrow_ready =
        write_fault_is arrow 𝓣 𝓟 b total body f tested first ∙
        sym (ap by_totaller (ap (λ n. ready_fault 𝓣 vs ws n f) is_t ∙ ap₂ (λ v w. ready_fault 𝓣 v w (side b) f) arrow_vs arrow_ws) ∙
        ready_is 𝓣 b (arrow_items b body) (arrow_weights b body) (side b) f arrow_inside (behind_cells b f first) (arrow_large f (behind_cells b f first)))

    pub arrow_ended : (p s : P) (e : TotallerFault) → Totalled 𝓣 𝓟 vs ws t f p s (Err e) → (r : Result ℕ KindFault) → IsErrAnd r (λ y. y ≡ kind.Totaller e) →
        Written arrow 𝓣 𝓟 b total body f p s r
    arrow_ended p s e v r by = alone_ended arrow 𝓣 𝓟 b total body f vs ws t arrow_whole arrow_ready p s (λ i l. refl) e v r by

    pub arrow_done : (p s : P) (k : ℕ) → Totalled 𝓣 𝓟 vs ws t f p s (Ok k) → Written arrow 𝓣 𝓟 b total body f p s (Ok k)
    arrow_done p s k v =
        alone_done arrow 𝓣 𝓟 b total body f vs ws t arrow_whole arrow_ready p s (ap₂ (λ w n. 𝓣.fresh_count w n) arrow_ws is_t) k v
