use Rattle.std.proofs.Common.{ap, refl, List, ℕ, nat_eq}
use Rattle.std.specs.Map.{lookup}
use Rattle.c11_happens.specs.declared.mutexes.MutexState.{MutexState}
use Rattle.c11_happens.specs.Mutexes.{state_or_new}
use Rattle.c11_happens.proofs.Opening.{kept_none}
use Rattle.c11_happens.proofs.tables.Tables.open.Goals as goal

pub returns-clause-kept : goal.returns-clause-kept
returns-clause-kept c = kept_none c.args.threads c.args.events _ refl c.in_ok-blank_clocks.ensures c.in_ok-blank_clocks-2.ensures c.in_ok-blank_clocks-3.ensures c.in_ok-blank_clocks-4.ensures c.in_ok-blank_clocks-5.ensures
    c.in_ok-blank_clocks-6.ensures (λ mutex. ap (λ (entries : List (ℕ × MutexState)). state_or_new (lookup (nat_eq mutex) entries)) c.in_ok-with_capacity.ensures.empty)
