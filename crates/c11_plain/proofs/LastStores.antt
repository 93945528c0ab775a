-- The last seq_cst store before an event.
use Rattle.std.proofs.Common.{ℕ, ◌<◌, List, arith}
use native.Mathlib.Decide.{dec_lt}
use mathlib.Core.Logic.{dite}
use Rattle.c11_events.specs.declared.event.Event.{Event}
use Rattle.c11_events.specs.Events.{IsStore}
use Rattle.c11_events.specs.HappensBefore.{SeqCstBefore}
use Rattle.c11_events.specs.Lawful.{IsLastSeqCst}
use Rattle.c11_plain.specs.SeqCst.{HasNoLater}

module _ (events : List Event) (cell l a : ℕ) where
  pub last_is : IsStore events cell a → SeqCstBefore events a l → HasNoLater events cell l a → IsLastSeqCst events cell l a
  last_is store before n = record {
    store = store;
    before = before;
    last = λ b s t. dite (dec_lt a b) (λ (lt : a < b). absurd (n.none b t.earlier (record { later = lt; store = s; before = t }))) (λ (le : a < b → ⊥). omega arith);
  }

  pub no_later : IsLastSeqCst events cell l a → HasNoLater events cell l a
  no_later last = record { none = λ b lt s. omega (arith, s.later, last.last b s.store s.before) }
