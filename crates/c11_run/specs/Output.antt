-- What a run wrote by its `printf`.
use Rattle.std.specs.Prelude.{ℕ, List, [], flat_map}
use Rattle.c11_events.specs.declared.op.Op.{Op}
use Rattle.c11_events.specs.declared.op.Op.TheVariants.{Out}
use Rattle.c11_events.specs.declared.entry.Entry.{Entry}

-- the bytes of an Out
abbrev pub out_bytes : Op → List ℕ
out_bytes (Out bytes) = bytes
out_bytes _ = []

-- those of each Out of the history, in order
abbrev pub output_of : List Entry → List ℕ
output_of entries = flat_map (λ e. out_bytes e.op) entries
