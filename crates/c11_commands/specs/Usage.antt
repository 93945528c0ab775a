-- How the program is called.
use Rattle.std.specs.Prelude.{ℕ, List, [], ◌∷◌, ◌++◌, codes}

-- how to call the program
abbrev pub usage_bytes : List ℕ
usage_bytes =
    codes "c11t run [--seed S] [--steps B]" ++ 10 ∷ [] ++ codes "c11t threads [--seed S] [--steps B] [--workers W]" ++ 10 ∷ []
    ++ codes "c11t campaign [--first S] [--count N] [--steps B] [--workers W]" ++ 10 ∷ []
    ++ codes "c11t trial [--number N] [--size Z] [--first S] [--count N] [--steps B] [--workers W]" ++ 10 ∷ [] ++ codes "c11t help" ++ 10 ∷ []
