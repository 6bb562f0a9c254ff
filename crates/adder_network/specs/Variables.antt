-- The variables of an adder network, and what comes of writing its lines.
use Rattle.std.specs.Prelude.{◌≡◌, ℕ, ◌+◌, ◌*◌, ◌<◌, ◌≤◌, List, [], ◌∷◌, map, length, Some, None, Ok, Err, Option, Result, slice_index}
use Rattle.adder_network.specs.declared.variable.Variable.{Variable}
use Rattle.places.specs.declared.fault.PlaceFault.{PlaceFault}
use Rattle.places.specs.declared.place.Place.{Ghosts}
use Rattle.places.specs.Written.{Writes}
use Rattle.totals.specs.Numbers.{count_from, lines_from, reduced, wiring}
use Rattle.arrayvec.specs.ArrayVec.{ArrayVec}

-- a variable that a place takes
abbrev pub Usable : ℕ → Type 0
Usable v = (1 ≤ v) × (v ≤ 65535)

-- what is left of a line, if anything: its bit
abbrev pub bit_of : List ℕ → Option ℕ
bit_of [] = None
bit_of (v ∷ vs) = Some v

-- and back
abbrev pub listed : Option ℕ → List ℕ
listed None = []
listed (Some v) = v ∷ []

-- the numbers of the code's variables
abbrev pub numbers : List Variable → List ℕ
numbers vs = map (λ v. v.number) vs

-- the same of one that may be missing
abbrev pub number_of : Option Variable → Option ℕ
number_of None = None
number_of (Some v) = Some v.number

-- items that can be literals, and fresh numbers from f on that fit, if there are any
pub record Fitting (vs ws : List ℕ) (f : ℕ) : Type 0 where
  pub same : length vs ≡ length ws
  pub few : length ws ≤ 96
  pub low : 1 ≤ f
  pub items : (i : ℕ) → i < length vs → Usable (slice_index vs i)
  pub room : 1 ≤ count_from ws 0 0 → f + 2 * count_from ws 0 0 ≤ 65536

-- the adders of a line of the variables ls are written, whose fresh numbers count from n, and its bit is told
abbrev pub TakenDown : {P : Type 0} → Ghosts P → List ℕ → ℕ → P → P → Result (Option Variable) PlaceFault → Type 0
TakenDown place ls n p q (Ok bit) = Writes place (wiring n (reduced ls n).adders) p q None × (number_of bit ≡ bit_of (reduced ls n).left)
TakenDown place ls n p q (Err e) = Writes place (wiring n (reduced ls n).adders) p q (Some e)

-- the adders of all lines are written, and the lines' bits are told
abbrev pub Lined : {P : Type 0} → Ghosts P → List ℕ → List ℕ → ℕ → P → P → Result (ArrayVec (Option Variable)) PlaceFault → Type 0
Lined place vs ws f p q (Ok bits) =
    Writes place (wiring f (lines_from vs ws 0 f 0).adders) p q None × (map number_of bits.items ≡ map bit_of (lines_from vs ws 0 f 0).bits)
Lined place vs ws f p q (Err e) = Writes place (wiring f (lines_from vs ws 0 f 0).adders) p q (Some e)
