-- Happens-before leads to larger numbers.
use Rattle.std.proofs.Common.{ℕ, ◌+◌, ◌<◌, ◌≤◌, List, arith, inl, inr}
use Rattle.c11_events.specs.declared.event.Event.{Event}
use Rattle.c11_events.specs.Events.{IsStore, IsLoad, IsRmw, ReadsEarlier}
use Rattle.c11_events.specs.HappensBefore.{ReleaseSequence, here, next}
use Rattle.c11_events.specs.Closure.{Closure, one, join}
use Rattle.c11_events.specs.HappensBefore.{DirectlyBefore}
use Rattle.c11_events.proofs.ReadBy.{sync_of, Releases, Acquires, Sync, read, mutex, create, finish}
use Rattle.c11_events.specs.Laws.{HappensBeforeRises}

-- a read-modify-write is a load
pub rmw_load : (events : List Event) (cell b x : ℕ) → IsRmw events cell b x → IsLoad events cell b x
rmw_load events cell b x r = record { event = r.event; is = r.is; holds = (r.holds.1, r.holds.2) }

pub rmw_store : (events : List Event) (cell b x : ℕ) → IsRmw events cell b x → IsStore events cell b
rmw_store events cell b x r = record { event = r.event; is = r.is; holds = r.holds.0 }

pub chain_rises : (events : List Event) (cell s n x : ℕ) → ReadsEarlier events → ReleaseSequence events cell s n x → s + n ≤ x
chain_rises events cell s _ _ reads (here is) = omega arith
chain_rises events cell s _ _ reads (next {n = n} {y = y} {x = x} c r) =
    let e = reads cell x y (rmw_load events cell x y r) in omega (arith, chain_rises events cell s n y reads c, e.1)

releases_rises : (events : List Event) (a s : ℕ) → Releases events a s → a ≤ s
releases_rises events a s (Releases.store same is) = omega arith
releases_rises events a s (Releases.fence is order) = omega (arith, order.earlier)

acquires_rises : (events : List Event) (b l : ℕ) → Acquires events b l → l ≤ b
acquires_rises events b l (Acquires.load same is) = omega arith
acquires_rises events b l (Acquires.fence is order) = omega (arith, order.earlier)

sync_rises : (events : List Event) (a b : ℕ) → ReadsEarlier events → Sync events a b → a < b
sync_rises events a b reads (read r) = let e = reads r.cell r.l r.x r.reads in
    omega (arith, releases_rises events a r.s r.releases, acquires_rises events b r.l r.acquires, chain_rises events r.cell r.s r.n r.x reads r.chain, e.1)
sync_rises events a b reads (mutex m) = m.earlier
sync_rises events a b reads (create m) = m.earlier
sync_rises events a b reads (finish m) = m.earlier

pub step_rises : (events : List Event) (a b : ℕ) → ReadsEarlier events → DirectlyBefore events a b → a < b
step_rises events a b reads (inl p) = p.earlier
step_rises events a b reads (inr s) = sync_rises events a b reads (sync_of events a b s)

pub closure_rises : (R : ℕ → ℕ → Type 0) → ((a b : ℕ) → R a b → a < b) → (a b : ℕ) → Closure R a b → a < b
closure_rises R rises a b (one r) = rises a b r
closure_rises R rises a c (join {b = b} r s) = omega (arith, closure_rises R rises a b r, closure_rises R rises b c s)

pub hb_rises : HappensBeforeRises
hb_rises events a b reads hb = closure_rises (DirectlyBefore events) (λ x y s. step_rises events x y reads s) a b hb
