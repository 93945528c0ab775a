-- What an operation that reads an atomic cell asks for.
use Rattle.std.specs.Prelude.{ℕ, Bool, true, false, Option, Some, None}
use Rattle.std.specs.Ordering.{int_eq}
use Rattle.c11_num.specs.Ranges.{TypedNumber}
use Rattle.c11_events.specs.declared.op.Op.{Op}
use Rattle.c11_events.specs.declared.op.Op.TheVariants as op
use Rattle.c11_events.specs.Events.{is_seq_cst_order}
use Rattle.c11_mayread.specs.declared.asked.Asked.{Asked}
use Rattle.c11_mayread.specs.declared.asked.Writes.{Writes}
use Rattle.c11_mayread.specs.declared.asked.Writes.TheVariants.{Never, Always, Behind}

-- an operation of one order that writes always or never
abbrev pub of_order : ℕ → Writes → Bool → Asked
of_order cell writes seq_cst = record { cell = cell; writes = writes; seq_cst_store = seq_cst; seq_cst_load = seq_cst }

abbrev pub asked_of : Op → Option Asked
asked_of (op.AtomicLoad cell order) = Some (of_order cell Never (is_seq_cst_order order))
asked_of (op.Rmw cell order kind operand) = Some (of_order cell Always (is_seq_cst_order order))
asked_of (op.CompareExchange cell success failure weak expected desired) =
    Some (record { cell = cell; writes = Behind expected; seq_cst_store = is_seq_cst_order success; seq_cst_load = is_seq_cst_order failure })
asked_of _ = None

-- whether it writes, by the value that it reads
abbrev pub stores_by : Writes → TypedNumber → Bool
stores_by Never value = false
stores_by Always value = true
stores_by (Behind expected) value = int_eq value.number expected.number
