use Rattle.std.proofs.Common.{sym, ap, ◌∙◌, Some, if◌then◌else◌, Ok, Err, OnErr}
use Rattle.std.specs.Prelude.{Result}
use Rattle.std.specs.Str.{bytes_eq}
use Rattle.c11_check.specs.Table.{Table, entry_at}
use Rattle.c11_check.proofs.Entries.{entry_looked_up, entry_inserted, table_of, Entries}
use Rattle.c11_check.proofs.last.Last.set.Goals as goal

on_err : {T E : Type 0} {P : Type 0} (result : Result T E) → P → OnErr result P
on_err (Ok x) p = tt
on_err (Err e) p = p

pub returns-in_err-insert-clause-absent : goal.returns-in_err-insert-clause-absent
returns-in_err-insert-clause-absent c = on_err _ (sym (ap (entry_at c.args.name.now) c.self.view_is) ∙ (sym (entry_looked_up c.args.name.now _) ∙ c.in_err-insert.ensures.absent))

pub returns-clause-changed : goal.returns-clause-changed
returns-clause-changed c = λ other. ap (λ (es : Entries). entry_at other (table_of es)) c.in_ok-insert.ensures.entries ∙ (entry_inserted other _ _ _
    ∙ ap (λ (t : Table). if bytes_eq other c.args.name.now then Some c.args.place else entry_at other t) c.self.view_is)
