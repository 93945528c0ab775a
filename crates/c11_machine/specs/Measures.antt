-- How far a configuration may be from its next operation.
use Rattle.std.specs.Prelude.{ℕ, ◌+◌, ◌-◌, ◌*◌, List, [], ◌∷◌}
use Rattle.c11_meaning.specs.Outcome.{left}
use Rattle.c11_flat.specs.Flat.{Caller, Config}

-- what the callers have before them of a code of this size
abbrev pub rests : ℕ → List Caller → ℕ
rests size [] = 0
rests size (caller ∷ callers) = (size + 1 - caller.place) + rests size callers

-- a bound on the instructions until the next operation for which there is no reply
abbrev pub far : ℕ → Config → ℕ
far size c = left c.state * (size + 1) + ((size + 1 - c.place) + rests size c.callers)
