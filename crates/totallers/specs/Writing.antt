-- What comes of writing a sum.
use Rattle.std.specs.Prelude.{◌≡◌, ℕ, suc, ◌+◌, Bool, cond, ◌&&◌, ◌||◌, List, [], ◌∷◌, length, ℤ, Some, None, Ok, Err, Option, Result, ◌==◌, nat_le, nat_lt, slice_index}
use Rattle.std.specs.Option.{option_or}
use Rattle.formulas.specs.Numbered.{numbered}
use Rattle.places.specs.declared.fault.PlaceFault.{PlaceFault}
use Rattle.places.specs.declared.place.Place.{Ghosts}
use Rattle.places.specs.Written.{Writes}
use Rattle.totals.specs.Items.{Item, item, fresh}
use Rattle.totals.specs.Totaller.{Totaller}
use Rattle.totallers.specs.declared.fault.TotallerFault.{TotallerFault}
use Rattle.totallers.specs.declared.fault.TotallerFault.TheVariants as fault

-- item i has the i-th variable, and the fresh numbers count from f
abbrev pub number : List ℕ → ℕ → Item → ℕ
number vs f (item i) = slice_index vs i
number vs f (fresh j) = f + j

-- a variable before the first fresh number and not beyond 65,535, and a weight from 1 to 15
abbrev pub good_item : ℕ → ℕ → ℕ → Bool
good_item f v w = nat_le 1 v && (nat_lt v f && (nat_le v 65535 && (nat_le 1 w && nat_le w 15)))

-- how many items are good, from the first on; the two lists are equally long
abbrev pub good_items : ℕ → List ℕ → List ℕ → ℕ
good_items f [] ws = 0
good_items f (v ∷ vs) [] = 0
good_items f (v ∷ vs) (w ∷ ws) = cond (good_item f v w) (suc (good_items f vs ws)) 0

-- what is wrong with the items
abbrev pub items_fault : List ℕ → List ℕ → ℕ → Option TotallerFault
items_fault vs ws f =
    cond (nat_le 1 (length vs) && length vs == length ws)
    (cond (good_items f vs ws == length vs) None (Some (fault.Item (good_items f vs ws))))
    (Some fault.Items)

-- that the last of n fresh numbers from f on lies beyond 65,535
abbrev pub fresh_fault : ℕ → ℕ → Option TotallerFault
fresh_fault f n = cond (n == 0 || nat_le (f + n) 65536) None (Some fault.FreshNumber)

-- that it does not take them, or that a fresh number lies beyond 65,535
abbrev pub taking_fault : Totaller → List ℕ → ℕ → ℕ → Option TotallerFault
taking_fault 𝓣 ws t f =
    cond (𝓣.takes (length ws) t)
    (cond (𝓣.fresh_count ws t == 0 || nat_le (f + 𝓣.fresh_count ws t) 65536) None (Some fault.FreshNumber))
    (Some (fault.NotTaken (length ws)))

-- how many variables are fresh, where it takes them
abbrev pub taken_count : Totaller → List ℕ → ℕ → Option ℕ
taken_count 𝓣 ws t = cond (𝓣.takes (length ws) t) (Some (𝓣.fresh_count ws t)) None

-- what is wrong before the first clause
abbrev pub ready_fault : Totaller → List ℕ → List ℕ → ℕ → ℕ → Option TotallerFault
ready_fault 𝓣 vs ws t f = option_or (items_fault vs ws f) (taking_fault 𝓣 ws t f)

-- the clauses that are written
abbrev pub sum_clauses : Totaller → List ℕ → List ℕ → ℕ → ℕ → List (List ℤ)
sum_clauses 𝓣 vs ws t f = numbered (number vs f) (𝓣.formula ws t)

-- the answer before writing
abbrev pub Ready : Totaller → List ℕ → List ℕ → ℕ → ℕ → Result ℕ TotallerFault → Type 0
Ready 𝓣 vs ws t f (Ok k) = (ready_fault 𝓣 vs ws t f ≡ None) × (k ≡ 𝓣.fresh_count ws t)
Ready 𝓣 vs ws t f (Err e) = ready_fault 𝓣 vs ws t f ≡ Some e

-- the answer to writing: the clauses come to the place's end as far as they fit, or nothing does
abbrev pub TotalledBy : Option TotallerFault → Totaller → {P : Type 0} → Ghosts P → List ℕ → List ℕ → ℕ → ℕ → P → P → Result ℕ TotallerFault → Type 0
TotalledBy (Some e) 𝓣 place vs ws t f p q r = (r ≡ Err e) × (q ≡ p)
TotalledBy None 𝓣 place vs ws t f p q (Ok k) = (k ≡ 𝓣.fresh_count ws t) × Writes place (sum_clauses 𝓣 vs ws t f) p q None
TotalledBy None 𝓣 place vs ws t f p q (Err e) = (d : PlaceFault) × (e ≡ fault.Place d) × Writes place (sum_clauses 𝓣 vs ws t f) p q (Some d)

abbrev pub Totalled : Totaller → {P : Type 0} → Ghosts P → List ℕ → List ℕ → ℕ → ℕ → P → P → Result ℕ TotallerFault → Type 0
Totalled 𝓣 place vs ws t f p q r = TotalledBy (ready_fault 𝓣 vs ws t f) 𝓣 place vs ws t f p q r
