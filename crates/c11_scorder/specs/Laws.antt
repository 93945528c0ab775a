-- That what is kept is all of the order of the seq_cst events that the rules need.
use Rattle.std.specs.Prelude.{ℕ, suc, ◌≡◌, ◌≤◌, ◌↔◌, true, List, [], ◌∷◌, ◌++◌, length, ◌⊎◌}
use Rattle.c11_events.specs.declared.event.Event.{Event}
use Rattle.c11_events.specs.Events.{IsStore, is_seq_cst}
use Rattle.c11_events.specs.HappensBefore.{ProgramOrder, SeqCstBefore}
use Rattle.c11_events.specs.Lawful.{Fenced, IsLastSeqCst}
use Rattle.c11_scorder.specs.SeqCst.{IsLast, IsStoreOf, IsSeqCstStore, IsSeqCstFenceOf, IsBeforeFence}

-- the fence f decides which stores of the thread must stand before what the further event e reads or writes: it is the last seq_cst
-- fence of e's thread or, where e is seq_cst, of the thread itself
pub data IsDecisive (events : List Event) (e : Event) (thread f : ℕ) : Type 0 where
  own : IsLast (IsSeqCstFenceOf events e.thread) f → IsDecisive events e thread f
  other : is_seq_cst e.kind ≡ true → IsLast (IsSeqCstFenceOf events thread) f → IsDecisive events e thread f

-- a store that fences hold before a further event is before a decisive fence; and a store before a decisive fence is held before the
-- event by fences, or stands before it in their thread
abbrev pub FencesDecide : Type 0
FencesDecide = (events : List Event) (e : Event) (cell thread a : ℕ) → IsStoreOf events cell thread a
    → (Fenced (events ++ e ∷ []) a (suc (length events)) → (f : ℕ) × IsDecisive events e thread f × IsBeforeFence events cell thread f a)
    × ((f : ℕ) → IsDecisive events e thread f → IsBeforeFence events cell thread f a
    → Fenced (events ++ e ∷ []) a (suc (length events)) ⊎ ProgramOrder (events ++ e ∷ []) a (suc (length events)))

-- x is the last store of the cell by the thread that is before a decisive fence
abbrev pub IsAnswer : List Event → Event → ℕ → ℕ → ℕ → Type 0
IsAnswer events e cell thread x = (f : ℕ) × IsDecisive events e thread f × IsLast (IsBeforeFence events cell thread f) x

-- so each store that fences hold before a further event is such a last store or an earlier one of its cell and thread, and each such
-- last store is held before the event by fences, or stands before it in their thread
abbrev pub AnswersDecide : Type 0
AnswersDecide = (events : List Event) (e : Event) (cell thread : ℕ)
    → ((a : ℕ) → IsStoreOf events cell thread a → Fenced (events ++ e ∷ []) a (suc (length events)) → (x : ℕ) × IsAnswer events e cell thread x × (a ≤ x))
    × ((x : ℕ) → IsAnswer events e cell thread x → IsStoreOf events cell thread x
    × (Fenced (events ++ e ∷ []) x (suc (length events)) ⊎ ProgramOrder (events ++ e ∷ []) x (suc (length events))))

-- the last seq_cst store before a further event is the last of the events, where that event is seq_cst
abbrev pub LastStoreDecides : Type 0
LastStoreDecides = (events : List Event) (e : Event) (cell a : ℕ)
    → IsLastSeqCst (events ++ e ∷ []) cell (suc (length events)) a ↔ ((is_seq_cst e.kind ≡ true) × IsLast (IsSeqCstStore events cell) a)

-- and each seq_cst store before a further event is the last one of the events or before it, and that one is before the event, where
-- the event is seq_cst
abbrev pub LastStoreStandsForAll : Type 0
LastStoreStandsForAll = (events : List Event) (e : Event) (cell : ℕ)
    → ((b : ℕ) → IsStore events cell b → SeqCstBefore (events ++ e ∷ []) b (suc (length events))
    → (a : ℕ) × IsLast (IsSeqCstStore events cell) a × ((b ≡ a) ⊎ SeqCstBefore events b a))
    × ((a : ℕ) → IsLast (IsSeqCstStore events cell) a → is_seq_cst e.kind ≡ true → SeqCstBefore (events ++ e ∷ []) a (suc (length events)))
