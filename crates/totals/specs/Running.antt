-- Running totals: the fresh variable at (i, u) says that the first i items total u.
use Rattle.std.specs.Prelude.{ℕ, ◌+◌, ◌-◌, ◌*◌, cond, ◌&&◌, List, [], ◌∷◌, ◌++◌, length, nat_le, slice_index}
use Rattle.std.specs.List.{range_with_len, flat_map}
use Rattle.formulas.specs.Formula.{Literal, is, isnt, Formula}
use Rattle.totals.specs.Items.{Item, item, fresh}
use Rattle.totals.specs.Totaller.{Totaller}

-- the variable for the total u of the first i items, where the target is t
abbrev pub at : ℕ → ℕ → ℕ → Item
at t i u = fresh (i * (t + 1) + u)

-- unless l, p is as q
abbrev pub as_unless : Literal Item → Item → Item → Formula Item
as_unless l p q = (l ∷ isnt p ∷ is q ∷ []) ∷ (l ∷ is p ∷ isnt q ∷ []) ∷ []

-- no item: the total is 0, and no other
abbrev pub no_other_sum : ℕ → Formula Item
no_other_sum t = flat_map (λ u. (isnt (at t 0 u) ∷ []) ∷ []) (range_with_len 1 t)

abbrev pub first_row : ℕ → Formula Item
first_row t = (is (at t 0 0) ∷ []) ∷ no_other_sum t

-- item i has the weight w: with it the total u is reached from u - w
abbrev pub with_item : ℕ → ℕ → ℕ → ℕ → Formula Item
with_item t i w u =
    cond (nat_le w u) (as_unless (isnt (item i)) (at t (i + 1) u) (at t i (u - w))) ((isnt (item i) ∷ isnt (at t (i + 1) u) ∷ []) ∷ [])

-- without it the total u is reached from u
abbrev pub without_item : ℕ → ℕ → ℕ → Formula Item
without_item t i u = as_unless (is (item i)) (at t (i + 1) u) (at t i u)

abbrev pub step : ℕ → ℕ → ℕ → ℕ → Formula Item
step t i w u = with_item t i w u ++ without_item t i u

abbrev pub row : List ℕ → ℕ → ℕ → Formula Item
row ws t i = flat_map (step t i (slice_index ws i)) (range_with_len 0 (t + 1))

abbrev pub rows : List ℕ → ℕ → Formula Item
rows ws t = flat_map (row ws t) (range_with_len 0 (length ws))

abbrev pub running : Totaller
running = record {
  most = 96;
  takes = λ n t. nat_le 1 n && nat_le n 96 && nat_le t 63 && nat_le ((n + 1) * (t + 1)) 3000;
  fresh_count = λ ws t. (length ws + 1) * (t + 1);
  formula = λ ws t. first_row t ++ rows ws t ++ (is (at t (length ws) t) ∷ []) ∷ [];
}
