-- The four cases of synchronization by reading, as one.
use Rattle.std.proofs.Common.{◌≡◌, ℕ, true, List, refl, sym, subst}
use Rattle.c11_events.specs.declared.event.Event.{Event}
use Rattle.c11_events.specs.Events.{At, IsLoad, is_release_store, is_release_fence, is_acquire_load, is_acquire_fence}
use Rattle.c11_events.specs.HappensBefore.{ProgramOrder, ReleaseSequence, ReadsSequence, UnlockBeforeLock, CreateBeforeFirst, EndBeforeJoin, SynchronizesWith, release_to_acquire, fence_to_acquire, release_to_fence, fence_to_fence, unlock_to_lock, create_to_first, end_to_join}

-- a is a release store, or a release fence before a store of its thread, and s is the store
pub data Releases (events : List Event) (a s : ℕ) : Type 0 where
  store : a ≡ s → At events a (λ e. is_release_store e.kind ≡ true) → Releases events a s
  fence : At events a (λ e. is_release_fence e.kind ≡ true) → ProgramOrder events a s → Releases events a s

-- b is an acquire load, or an acquire fence after a load of its thread, and l is the load
pub data Acquires (events : List Event) (b l : ℕ) : Type 0 where
  load : b ≡ l → At events b (λ e. is_acquire_load e.kind ≡ true) → Acquires events b l
  fence : At events b (λ e. is_acquire_fence e.kind ≡ true) → ProgramOrder events l b → Acquires events b l

-- a releases by a store from whose release sequence b reads
pub record IsReadBy (events : List Event) (a b : ℕ) : Type 0 where
  pub s : ℕ
  pub l : ℕ
  pub x : ℕ
  pub cell : ℕ
  pub n : ℕ
  pub releases : Releases events a s
  pub acquires : Acquires events b l
  pub chain : ReleaseSequence events cell s n x
  pub reads : IsLoad events cell l x

pub data Sync (events : List Event) (a b : ℕ) : Type 0 where
  read : IsReadBy events a b → Sync events a b
  mutex : UnlockBeforeLock events a b → Sync events a b
  create : CreateBeforeFirst events a b → Sync events a b
  finish : EndBeforeJoin events a b → Sync events a b

pub sync_of : (events : List Event) (a b : ℕ) → SynchronizesWith events a b → Sync events a b
sync_of events a b (release_to_acquire is r is') =
    read (record { s = a; l = b; x = r.x; cell = r.cell; n = r.n; releases = Releases.store refl is; acquires = Acquires.load refl is'; chain = r.sequence; reads = r.reads })
sync_of events a b (fence_to_acquire {s = s} is o r is') =
    read (record { s = s; l = b; x = r.x; cell = r.cell; n = r.n; releases = Releases.fence is o; acquires = Acquires.load refl is'; chain = r.sequence; reads = r.reads })
sync_of events a b (release_to_fence {l = l} is r o is') =
    read (record { s = a; l = l; x = r.x; cell = r.cell; n = r.n; releases = Releases.store refl is; acquires = Acquires.fence is' o; chain = r.sequence; reads = r.reads })
sync_of events a b (fence_to_fence {s = s} {l = l} is o r o' is') =
    read (record { s = s; l = l; x = r.x; cell = r.cell; n = r.n; releases = Releases.fence is o; acquires = Acquires.fence is' o'; chain = r.sequence; reads = r.reads })
sync_of events a b (unlock_to_lock m) = mutex m
sync_of events a b (create_to_first c) = create c
sync_of events a b (end_to_join e) = finish e

-- the load reads from the sequence of a store, each by any name
sequence_of : (events : List Event) (s s' l l' x cell n : ℕ) → s' ≡ s → l' ≡ l → ReleaseSequence events cell s n x → IsLoad events cell l x → ReadsSequence events s' l'
sequence_of events s s' l l' x cell n same same' chain reads = record {
  cell = cell;
  n = n;
  x = x;
  sequence = subst (λ (z : ℕ). ReleaseSequence events cell z n x) (sym same) chain;
  reads = subst (λ (z : ℕ). IsLoad events cell z x) (sym same') reads;
}

by_parts : (events : List Event) (a b s l x cell n : ℕ) → Releases events a s → Acquires events b l → ReleaseSequence events cell s n x → IsLoad events cell l x → SynchronizesWith events a b
by_parts events a b s l x cell n (Releases.store same is) (Acquires.load same' is') chain reads =
    release_to_acquire is (sequence_of events s a l b x cell n same same' chain reads) is'
by_parts events a b s l x cell n (Releases.fence is o) (Acquires.load same' is') chain reads =
    fence_to_acquire {s = s} is o (sequence_of events s s l b x cell n refl same' chain reads) is'
by_parts events a b s l x cell n (Releases.store same is) (Acquires.fence is' o') chain reads =
    release_to_fence {l = l} is (sequence_of events s a l l x cell n same refl chain reads) o' is'
by_parts events a b s l x cell n (Releases.fence is o) (Acquires.fence is' o') chain reads =
    fence_to_fence {s = s} {l = l} is o (sequence_of events s s l l x cell n refl refl chain reads) o' is'

pub synchronizes : (events : List Event) (a b : ℕ) → Sync events a b → SynchronizesWith events a b
synchronizes events a b (read r) = by_parts events a b r.s r.l r.x r.cell r.n r.releases r.acquires r.chain r.reads
synchronizes events a b (mutex m) = unlock_to_lock m
synchronizes events a b (create c) = create_to_first c
synchronizes events a b (finish e) = end_to_join e
