-- What a result was before `map_err`.
use Rattle.std.proofs.Common.{◌≡◌, Ok, Err, Result, refl, sym, ap, arith}
use Rattle.std.specs.Result.{IsErrAnd, MatchResult}

-- a value is as it was
pub was_ok : (G : Type 0) {T F : Type 0} {Q : F → Type 0} (never : (e : F) → Q e → ⊥) (r : Result T F) (d : T) →
    MatchResult r (λ x. ◌≡◌ {A = Result T G} (Ok d) (Ok x)) Q → r ≡ Ok d
was_ok G never (Ok x) d k = let same : d ≡ x = grind arith in ap Ok (sym same)
was_ok G never (Err e) d k = absurd (never e k)

-- a fault is what the fault before became
pub was_err : {T F G : Type 0} {Q : F → Type 0} (into : F → G) (g : G) (told : (e : F) → Q e → g ≡ into e) (r : Result T F) →
    MatchResult r (λ x. ◌≡◌ {A = Result T G} (Err g) (Ok x)) Q → (e : F) × (r ≡ Err e) × (g ≡ into e)
was_err into g told (Ok x) k = absurd (grind arith)
was_err into g told (Err e) k = (e, refl, told e k)
