-- The names of the totallers.
use Rattle.std.specs.Prelude.{ℕ, cond, List, Some, None, codes, Option}
use Rattle.std.specs.Str.{bytes_eq}
use Rattle.sum_text.specs.declared.sum.Method.{Method}
use Rattle.sum_text.specs.declared.sum.Method.TheVariants.{Running, Adder}

-- the totaller that a word names
abbrev pub method_of : List ℕ → Option Method
method_of w = cond (bytes_eq w (codes "running")) (Some Running) (cond (bytes_eq w (codes "adder")) (Some Adder) None)
