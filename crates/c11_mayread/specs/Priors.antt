-- Stores that stand for all that must not follow what a next event reads or writes.
use Rattle.std.specs.Prelude.{ℕ, suc, ◌≡◌, ◌≤◌, ◌↔◌, ◌⊎◌, Bool, true, List, [], ◌∷◌, ◌++◌, Option, MatchOption, Some, length, slice_get}
use Rattle.c11_events.specs.declared.event.Event.{Event}
use Rattle.c11_events.specs.Events.{IsStore, IsLoad, is_seq_cst}
use Rattle.c11_events.specs.HappensBefore.{HappensBefore, SeqCstBefore, IsSeqCst}
use Rattle.c11_events.specs.Lawful.{Fenced}
use Rattle.c11_events.specs.Chains.{MustPrecede}
use Rattle.c11_events.specs.Priors.{IsKnown, Prior}
use Rattle.c11_scorder.specs.SeqCst.{IsLast, Answers, IsOf, IsStoreOf, IsSeqCstStore, IsSeqCstFenceOf, IsBeforeFence}

-- p is one of these
abbrev pub In : List ℕ → ℕ → Type 0
In list p = (place : ℕ) × (slice_get list place ≡ Some p)

-- a is p, or must precede it
abbrev pub IsOrPrecedes : List Event → ℕ → ℕ → ℕ → Type 0
IsOrPrecedes events cell a p = (a ≡ p) ⊎ MustPrecede events cell a p

-- a next event of the thread, seq_cst or not
pub record IsNextOf (of : ℕ) (is_sc : Bool) (e : Event) : Type 0 where
  pub thread : e.thread ≡ of
  pub seq_cst : is_seq_cst e.kind ≡ is_sc

-- the store a must not follow what the further event e reads, or where it stores must not follow e
pub data PriorTo (events : List Event) (e : Event) (cell : ℕ) (stores : Bool) (a : ℕ) : Type 0 where
  prior : Prior events e cell a → PriorTo events e cell stores a
  seq_cst : stores ≡ true → IsStore events cell a → SeqCstBefore (events ++ e ∷ []) a (suc (length events)) → PriorTo events e cell stores a

-- these are such stores, and each such store is one of them or must precede one
pub record ArePriors (events : List Event) (e : Event) (cell : ℕ) (stores : Bool) (list : List ℕ) : Type 0 where
  pub only : (p : ℕ) → In list p → PriorTo events e cell stores p
  pub all : (a : ℕ) → PriorTo events e cell stores a → (p : ℕ) × (In list p × IsOrPrecedes events cell a p)

-- of each next event of the thread, seq_cst or not, the list has such stores
abbrev pub ListsPriors : List Event → ℕ → ℕ → Bool → Bool → List ℕ → Type 0
ListsPriors events thread cell is_sc stores list = (e : Event) → IsNextOf thread is_sc e → ArePriors events e cell stores list

-- the number is that of the last event of the thread that e knows of
abbrev pub KnowsUpTo : List Event → Event → ℕ → ℕ → Type 0
KnowsUpTo events e of number = (a : ℕ) → IsOf events of a → (a ≤ number) ↔ IsKnown events e a

-- l is a load of the cell by the thread
abbrev pub IsLoadOf : List Event → ℕ → ℕ → ℕ → Type 0
IsLoadOf events cell of l = (x : ℕ) × (IsLoad events cell l x × IsOf events of l)

-- what the last load of the cell by the thread up to the number read
abbrev pub IsLastRead : List Event → ℕ → ℕ → ℕ → Option ℕ → Type 0
IsLastRead events cell of number answer = MatchOption answer ((l : ℕ) → IsLoadOf events cell of l → l ≤ number → ⊥)
    (λ x. (l : ℕ) × (IsLast (λ k. IsLoadOf events cell of k × (k ≤ number)) l × IsLoad events cell l x))

-- the last store of the cell by the thread `of` before the last seq_cst fence of the thread
abbrev pub IsBeforeLastFence : List Event → ℕ → ℕ → ℕ → Option ℕ → Type 0
IsBeforeLastFence events thread cell of answer = Answers (λ a. (f : ℕ) × (IsLast (IsSeqCstFenceOf events thread) f × IsBeforeFence events cell of f a)) answer

-- why the store a of the thread `of`, or a load of it by that thread, must not follow what e reads
pub data PriorBy (events : List Event) (e : Event) (cell of a : ℕ) : Type 0 where
  known_store : IsStoreOf events cell of a → IsKnown events e a → PriorBy events e cell of a
  known_load : {l : ℕ} → IsLoad events cell l a → IsOf events of l → IsKnown events e l → PriorBy events e cell of a
  fenced : IsStoreOf events cell of a → Fenced (events ++ e ∷ []) a (suc (length events)) → PriorBy events e cell of a

-- further stores that stand for those that the thread `of` stores or loads
pub record AddsPriorsBy (events : List Event) (e : Event) (cell of : ℕ) (old new : List ℕ) : Type 0 where
  pub stays : (p : ℕ) → In old p → In new p
  pub only : (p : ℕ) → In new p → In old p ⊎ Prior events e cell p
  pub all : (a : ℕ) → PriorBy events e cell of a → (p : ℕ) × (In new p × IsOrPrecedes events cell a p)

-- x is the last seq_cst store, or it is not seq_cst and does not happen before that
abbrev pub KeepsReadRule : List Event → ℕ → ℕ → Type 0
KeepsReadRule events cell x = (a : ℕ) → IsLast (IsSeqCstStore events cell) a → (x ≡ a) ⊎ ((IsSeqCst events x → ⊥) × (HappensBefore events x a → ⊥))
