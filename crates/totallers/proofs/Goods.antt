-- The first item that is not good.
use Rattle.std.proofs.Common.{◌≡◌, ℕ, ◌≤◌, Bool, not, List, [], ◌∷◌, length, Option, inl, inr, refl, arith}
use Rattle.std.specs.List.{position, position_or_len, zip}
use Rattle.std.specs.Option.{option_map}
use Rattle.std.proofs.lemmas.Slice.Zip.{length-zip}
use Rattle.std.proofs.lemmas.List.Sums.{prefix_len-le-length}
use Rattle.std.proofs.lemmas.Bool.{cases_Bool}
use Rattle.std.proofs.lemmas.Bool.Decides.{nat_tests}
use Rattle.totallers.specs.Writing.{good_item, good_items, items_fault}
use Rattle.totallers.specs.declared.fault.TotallerFault.TheVariants as fault

-- an item that is not good
abbrev pub bad : ℕ → (ℕ × ℕ) → Bool
bad f x = not (good_item f x.0 x.1)

goods_before : (f : ℕ) (vs ws : List ℕ) → good_items f vs ws ≡ position_or_len (bad f) (zip vs ws)
goods_before f [] ws = refl
goods_before f (v ∷ vs) [] = refl
goods_before f (v ∷ vs) (w ∷ ws) =
    elim (cases_Bool (good_item f v w)) [
      | inl e ↦ rw e (omega (arith, goods_before f vs ws))
      | inr e ↦ rw e refl
    ]

pub first_bad : (f : ℕ) (vs ws : List ℕ) (o : Option ℕ) → o ≡ position (bad f) (zip vs ws) → 1 ≤ length vs → length vs ≡ length ws →
    option_map fault.Item o ≡ items_fault vs ws f
first_bad f vs ws o e some same =
    let n : length (zip vs ws) ≡ length vs = omega (arith, length-zip vs ws) in
    let g = goods_before f vs ws in
    let l = prefix_len-le-length (λ x. not (bad f x)) (zip vs ws) in
    grind (arith, nat_tests, g, e, n, l)
