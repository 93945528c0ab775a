-- How what the code returns, seen by a view, stands to what is read.
use Rattle.std.specs.Prelude.{◌≡◌, Option, Some, None, Result, Ok, Err}
use Rattle.c11_grammar.specs.declared.stop.Stop.{Stop}
use Rattle.c11_grammar.specs.declared.stop.Stop.TheVariants.{Memory, Syntax}

abbrev pub Seen : {X Y : Type 0} → (X → Y) → Option X → Option Y → Type 0
Seen view (Some x) read = read ≡ Some (view x)
Seen view None read = read ≡ None

-- Unless memory ran out, it is what is read.
abbrev pub Gives : {X Y : Type 0} → (X → Y) → Result X Stop → Option Y → Type 0
Gives view (Ok x) read = read ≡ Some (view x)
Gives view (Err Syntax) read = read ≡ None
Gives view (Err Memory) read = Unit {0}
