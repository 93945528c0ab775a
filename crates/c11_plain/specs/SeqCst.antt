-- Parts of the read rule of seq_cst.
use Rattle.std.specs.Prelude.{ℕ, ◌≡◌, ◌<◌, List, ◌⊎◌}
use Rattle.c11_events.specs.declared.event.Event.{Event}
use Rattle.c11_events.specs.Events.{IsStore, IsLoad}
use Rattle.c11_events.specs.HappensBefore.{HappensBefore, IsSeqCst, SeqCstBefore}
use Rattle.c11_events.specs.Lawful.{IsLastSeqCst}

-- b is a seq_cst store of the cell before l, and later than a
pub record IsLaterStore (events : List Event) (cell l a b : ℕ) : Type 0 where
  pub later : a < b
  pub store : IsStore events cell b
  pub before : SeqCstBefore events b l

-- no seq_cst store of the cell before l is later than a
pub record HasNoLater (events : List Event) (cell l a : ℕ) : Type 0 where
  pub none : (b : ℕ) → b < l → IsLaterStore events cell l a b → ⊥

-- l may read x, if a is the last seq_cst store before it
pub record MayRead (events : List Event) (cell l x a : ℕ) : Type 0 where
  pub may : IsLastSeqCst events cell l a → (x ≡ a) ⊎ ((IsSeqCst events x → ⊥) × (HappensBefore events x a → ⊥))

-- l may read what it reads, if a is the last seq_cst store before it
pub record MayReadIt (events : List Event) (cell a l : ℕ) : Type 0 where
  pub may : (x : ℕ) → IsLoad events cell l x → MayRead events cell l x a
