-- The numbers of events are below the count.
use Rattle.std.proofs.Common.{◌≡◌, ℕ, ◌+◌, ◌<◌, List, length, arith}
use Rattle.c11_events.specs.declared.event.Event.{Event}
use Rattle.c11_events.specs.Events.{At, IsLoad, ReadsEarlier}
use Rattle.c11_events.proofs.Basics.{chain_store}
use Rattle.c11_plain.specs.ChainParts.{Loaded, InChain, Chained}
use Rattle.c11_events.specs.HappensBefore.{ProgramOrder, UnlockBeforeLock, CreateBeforeFirst, EndBeforeJoin, SeqCstBefore}
use Rattle.c11_events.proofs.DecideEvents.{event_below}
use Rattle.c11_plain.specs.Parts.{ReadsFrom, Follows}

module _ (events : List Event) (n : ℕ) (size : n ≡ length events + 1) where
  pub below : {P : Event → Type 0} {a : ℕ} → At events a P → a < n
  below {a = a} t = omega (arith, event_below events a t.event t.is)

  pub reads_ends : (a b : ℕ) → ReadsFrom events a b → (a < n) × (b < n)
  reads_ends a b r = (below r.store, below r.load)

  pub steps_ends : (a b : ℕ) → Follows events a b → (a < n) × (b < n)
  steps_ends a b r = (below r.store, below r.rmw)

  pub program_ends : (a b : ℕ) → ProgramOrder events a b → (a < n) × (b < n)
  program_ends a b r = (below r.thread, below r.thread.holds)

  pub unlocks_ends : (a b : ℕ) → UnlockBeforeLock events a b → (a < n) × (b < n)
  unlocks_ends a b r = (below r.unlock, below r.lock)

  pub creates_ends : (a b : ℕ) → CreateBeforeFirst events a b → (a < n) × (b < n)
  creates_ends a b r = (below r.create, below r.thread)

  pub ends_ends : (a b : ℕ) → EndBeforeJoin events a b → (a < n) × (b < n)
  ends_ends a b r = (below r.end, below r.end.holds.1)

  pub seq_cst_ends : (a b : ℕ) → SeqCstBefore events a b → (a < n) × (b < n)
  seq_cst_ends a b r = (below r.first, below r.second)

  module _ (reads : ReadsEarlier events) (cell : ℕ) where
    pub load_ends : (l x : ℕ) → IsLoad events cell l x → (l < n) × (x < n)
    load_ends l x i = (below i, below (reads cell l x i).0)

    pub loaded_ends : (x l : ℕ) → Loaded events cell x l → (x < n) × (l < n)
    loaded_ends x l i = let e = load_ends l x i in (e.1, e.0)

    pub chain_ends : (h x : ℕ) → InChain events cell h x → (h < n) × (x < n)
    chain_ends h x c = (below c.ranked.first, below (chain_store events cell h c.rank x c.ranked.chain))

    pub chained_ends : (x h : ℕ) → Chained events cell x h → (x < n) × (h < n)
    chained_ends x h c = let e = chain_ends h x c in (e.1, e.0)
