-- Parts of the definitions that have a name of their own here.
use Rattle.std.specs.Prelude.{ℕ, ◌≡◌, ◌<◌, ◌⊎◌, List}
use Rattle.c11_events.specs.declared.event.Event.{Event}
use Rattle.c11_events.specs.Events.{At, IsStore, IsLoad, IsRmw}
use Rattle.c11_events.specs.Races.{IsRead, IsWrite, Races}
use Rattle.c11_events.specs.HappensBefore.{ProgramOrder, ReadsSequence, UnlockBeforeLock, CreateBeforeFirst, EndBeforeJoin, IsReleaseStore, IsReleaseFence, IsAcquireLoad, IsAcquireFence}

-- b is the thread's first event
pub record IsFirst (events : List Event) (thread b : ℕ) : Type 0 where
  pub own : At events b (λ e. e.thread ≡ thread)
  pub first : (c : ℕ) → c < b → At events c (λ e. e.thread ≡ thread) → ⊥

-- l is a load that reads the store x of its cell
pub record ReadsFrom (events : List Event) (x l : ℕ) : Type 0 where
  pub cell : ℕ
  pub store : IsStore events cell x
  pub load : IsLoad events cell l x

-- x is a read-modify-write that reads the store y of its cell
pub record Follows (events : List Event) (y x : ℕ) : Type 0 where
  pub cell : ℕ
  pub store : IsStore events cell y
  pub rmw : IsRmw events cell x y

-- some number comes behind a in the one relation and before b in the other
abbrev pub Joined : (ℕ → ℕ → Type 0) → (ℕ → ℕ → Type 0) → ℕ → ℕ → Type 0
Joined R S a b = (k : ℕ) × (R a k × S k b)

-- the four cases of synchronization by reading
abbrev pub ReleaseToAcquire : List Event → ℕ → ℕ → Type 0
ReleaseToAcquire events a b = ReadsSequence events a b × (IsReleaseStore events a × IsAcquireLoad events b)

abbrev pub FenceToAcquire : List Event → ℕ → ℕ → Type 0
FenceToAcquire events a b = Joined (ProgramOrder events) (ReadsSequence events) a b × (IsReleaseFence events a × IsAcquireLoad events b)

abbrev pub ReleaseToFence : List Event → ℕ → ℕ → Type 0
ReleaseToFence events a b = Joined (ReadsSequence events) (ProgramOrder events) a b × (IsReleaseStore events a × IsAcquireFence events b)

abbrev pub FenceToFence : List Event → ℕ → ℕ → Type 0
FenceToFence events a b = Joined (Joined (ProgramOrder events) (ReadsSequence events)) (ProgramOrder events) a b × (IsReleaseFence events a × IsAcquireFence events b)

abbrev pub ByReading : List Event → ℕ → ℕ → Type 0
ByReading events a b = (ReleaseToAcquire events a b ⊎ FenceToAcquire events a b) ⊎ (ReleaseToFence events a b ⊎ FenceToFence events a b)

-- the cases of mutexes and of threads
abbrev pub ByMutexOrThread : List Event → ℕ → ℕ → Type 0
ByMutexOrThread events a b = UnlockBeforeLock events a b ⊎ (CreateBeforeFirst events a b ⊎ EndBeforeJoin events a b)

-- m is a plain write, and n a plain access of its cell
pub record WriteConflict (events : List Event) (m n : ℕ) : Type 0 where
  pub cell : ℕ
  pub write : IsWrite events cell m
  pub access : IsRead events cell n ⊎ IsWrite events cell n

-- m is a plain read, and n a plain write of its cell
pub record ReadConflict (events : List Event) (m n : ℕ) : Type 0 where
  pub cell : ℕ
  pub read : IsRead events cell m
  pub write : IsWrite events cell n

-- the earlier access m of some cell races with n
abbrev pub RacesAnywhere : List Event → ℕ → ℕ → Type 0
RacesAnywhere events m n = (cell : ℕ) × Races events cell m n
