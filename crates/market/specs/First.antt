-- The foremost refusal of a table of tests. A refusal is of any type. Of one check after another it is what the library's `result_and` gives.
use Rattle.std.specs.Prelude.{Bool, cond, List, [], ◌∷◌, Ok, Err, Result}

-- a table of tests in their order: the first that fails refuses
abbrev pub tests : {E : Type 0} → List (Bool × E) → Result Unit E
tests [] = Ok tt
tests ((passes, refusal) ∷ more) = cond passes (tests more) (Err refusal)
