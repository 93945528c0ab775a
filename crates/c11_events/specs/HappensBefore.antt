-- Happens-before, and the order of the seq_cst events (C11 5.1.2.4, 7.17.3 and 7.17.4; for mutexes and threads
-- 7.26.4.3, 7.26.4.5, 7.26.4.6, 7.26.5.1 and 7.26.5.6).
use Rattle.std.specs.Prelude.{ℕ, suc, ◌≡◌, ◌<◌, ◌-◌, true, List, None, Some, take, ◌⊎◌}
use Rattle.c11_events.specs.declared.event.Event.{Event}
use Rattle.c11_events.specs.Closure.{Closure}
use Rattle.c11_events.specs.Events.{At, event_at, IsStore, IsLoad, IsRmw, is_release_store, is_release_fence, is_acquire_load, is_acquire_fence, is_seq_cst, locked_mutex, unlocked_mutex, is_create, is_end, joined_thread}
use Rattle.c11_events.specs.Threads.{holder, created}

-- a and b are of one thread, a the earlier
pub record ProgramOrder (events : List Event) (a b : ℕ) : Type 0 where
  pub thread : At events a (λ e. At events b (λ f. e.thread ≡ f.thread))
  pub earlier : a < b

-- x is in the release sequence that the store s heads: it is s, or follows it by n read-modify-writes, each of which reads the
-- last (C11 5.1.2.4 has later stores of the head's thread in it too; that they are left out is this project's own)
pub data ReleaseSequence (events : List Event) (cell s : ℕ) : ℕ → ℕ → Type 0 where
  here : IsStore events cell s → ReleaseSequence events cell s 0 s
  next : {n y x : ℕ} → ReleaseSequence events cell s n y → IsRmw events cell x y → ReleaseSequence events cell s (suc n) x

-- the load l reads from the release sequence that the store s heads
pub record ReadsSequence (events : List Event) (s l : ℕ) : Type 0 where
  pub cell : ℕ
  pub n : ℕ
  pub x : ℕ
  pub sequence : ReleaseSequence events cell s n x
  pub reads : IsLoad events cell l x

-- an Unlock, and a later Lock or TryLock of the mutex that found it free
pub record UnlockBeforeLock (events : List Event) (a b : ℕ) : Type 0 where
  pub mutex : ℕ
  pub unlock : At events a (λ e. unlocked_mutex e.kind ≡ Some mutex)
  pub lock : At events b (λ e. locked_mutex e.kind ≡ Some mutex)
  pub free : holder (take (b - 1) events) mutex ≡ None
  pub earlier : a < b

-- the Create of a thread, and the thread's first event
pub record CreateBeforeFirst (events : List Event) (a b : ℕ) : Type 0 where
  pub create : At events a (λ e. is_create e.kind ≡ true)
  pub thread : At events b (λ e. e.thread ≡ created (take a events))
  pub first : (c : ℕ) → c < b → At events c (λ e. e.thread ≡ created (take a events)) → ⊥
  pub earlier : a < b

-- the End of a thread, and a later Join of it
pub record EndBeforeJoin (events : List Event) (a b : ℕ) : Type 0 where
  pub end : At events a (λ e. (is_end e.kind ≡ true) × At events b (λ f. joined_thread f.kind ≡ Some e.thread))
  pub earlier : a < b

abbrev pub IsReleaseStore : List Event → ℕ → Type 0
IsReleaseStore events a = At events a (λ e. is_release_store e.kind ≡ true)

abbrev pub IsReleaseFence : List Event → ℕ → Type 0
IsReleaseFence events a = At events a (λ e. is_release_fence e.kind ≡ true)

abbrev pub IsAcquireLoad : List Event → ℕ → Type 0
IsAcquireLoad events b = At events b (λ e. is_acquire_load e.kind ≡ true)

abbrev pub IsAcquireFence : List Event → ℕ → Type 0
IsAcquireFence events b = At events b (λ e. is_acquire_fence e.kind ≡ true)

-- a synchronizes with b; the last two are the case of threads
pub data SynchronizesWith (events : List Event) (a b : ℕ) : Type 0 where
  release_to_acquire : IsReleaseStore events a → ReadsSequence events a b → IsAcquireLoad events b → SynchronizesWith events a b
  fence_to_acquire : {s : ℕ} → IsReleaseFence events a → ProgramOrder events a s → ReadsSequence events s b → IsAcquireLoad events b → SynchronizesWith events a b
  release_to_fence : {l : ℕ} → IsReleaseStore events a → ReadsSequence events a l → ProgramOrder events l b → IsAcquireFence events b → SynchronizesWith events a b
  fence_to_fence : {s l : ℕ} → IsReleaseFence events a → ProgramOrder events a s → ReadsSequence events s l → ProgramOrder events l b → IsAcquireFence events b → SynchronizesWith events a b
  unlock_to_lock : UnlockBeforeLock events a b → SynchronizesWith events a b
  create_to_first : CreateBeforeFirst events a b → SynchronizesWith events a b
  end_to_join : EndBeforeJoin events a b → SynchronizesWith events a b

-- a comes directly before b: in its thread, or by synchronization
abbrev pub DirectlyBefore : List Event → ℕ → ℕ → Type 0
DirectlyBefore events a b = ProgramOrder events a b ⊎ SynchronizesWith events a b

-- a happens before b
abbrev pub HappensBefore : List Event → ℕ → ℕ → Type 0
HappensBefore events = Closure (DirectlyBefore events)

abbrev pub IsSeqCst : List Event → ℕ → Type 0
IsSeqCst events a = At events a (λ e. is_seq_cst e.kind ≡ true)

-- a stands before b in the order of the seq_cst events, which is that of their numbers (this project's own)
pub record SeqCstBefore (events : List Event) (a b : ℕ) : Type 0 where
  pub first : IsSeqCst events a
  pub second : IsSeqCst events b
  pub earlier : a < b

-- each event is of this thread
abbrev pub AreOfThread : List Event → ℕ → Type 0
AreOfThread events thread = (a : ℕ) (e : Event) → event_at events a ≡ Some e → e.thread ≡ thread
