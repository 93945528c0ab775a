-- What is read where it is offered keeps the events lawful.
use Rattle.std.proofs.Common.{◌≡◌, ℕ, List, [], Option, Some, MatchOption, slice_get, subst}
use Rattle.c11_events.specs.declared.event.Event.{Event}
use Rattle.c11_events.specs.declared.op.Op.{Op}
use Rattle.c11_events.specs.Chains.{ChainLawful}
use Rattle.c11_events.specs.Offered.{extended, op_cell, op_reading, ChainOffered}

pub read_lawful : (events seen : List Event) (thread : ℕ) (op : Op) (cell : ℕ) (list got : List ℕ) → seen ≡ events → got ≡ list → op_cell op ≡ Some cell
    → MatchOption (op_cell op) (list ≡ []) (λ c. ChainOffered seen thread (op_reading seen op) c list) → (place from : ℕ) → slice_get got place ≡ Some from
    → ChainLawful (extended events thread (op_reading events op) from)
read_lawful events seen thread op cell list got same taken is offered place from at =
    let here : ChainOffered seen thread (op_reading seen op) cell list = subst (λ (o : Option ℕ). MatchOption o (list ≡ []) (λ c. ChainOffered seen thread (op_reading seen op) c list)) is offered in
    let lawful = (here.only place from (subst (λ (l : List ℕ). slice_get l place ≡ Some from) taken at)).lawful in
    subst (λ (l : List Event). ChainLawful (extended l thread (op_reading l op) from)) same lawful
