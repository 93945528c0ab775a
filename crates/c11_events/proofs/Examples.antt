-- Lists that are not consistent.
use Rattle.std.proofs.Common.{◌≡◌, ℕ, zero, suc, ◌<◌, List, [], ◌∷◌, refl, arith, inl, inr}
use Rattle.std.specs.Prelude.{pos}
use Rattle.c11_num.specs.Ranges.{TypedNumber}
use Rattle.c11_num.specs.declared.value.CType.TheVariants.{Int}
use Rattle.c11_num.specs.declared.kind.RmwKind.TheVariants.{Add}
use Rattle.c11_events.specs.declared.order.Order.TheVariants.{Relaxed, Acquire, Release}
use Rattle.c11_events.specs.declared.event.EventKind.TheVariants.{Init, AtomicLoad, AtomicStore, Rmw, Create}
use Rattle.c11_events.specs.declared.event.Event.{Event}
use Rattle.c11_events.specs.Closure.{one, join}
use Rattle.c11_events.specs.Events.{At, IsStore, IsLoad}
use Rattle.c11_events.specs.HappensBefore.{here}
use Rattle.c11_events.specs.HappensBefore.{release_to_acquire, create_to_first, HappensBefore}
use Rattle.c11_events.specs.Lawful.{Consistent}

abbrev zero_value : TypedNumber
zero_value = record { ctype = Int; number = pos 0 }

abbrev one_value : TypedNumber
one_value = record { ctype = Int; number = pos 1 }

-- a message is passed from thread 1 to thread 0, which then reads the old value
abbrev passing : List Event
passing = record { number = 1; thread = 0; kind = Init 0 zero_value; from = 0 } ∷ record { number = 2; thread = 0; kind = Init 1 zero_value; from = 0 } ∷ record { number = 3; thread = 0; kind = Create 1 (pos 0); from = 0 }
    ∷ record { number = 4; thread = 1; kind = AtomicStore 0 Relaxed one_value; from = 0 } ∷ record { number = 5; thread = 1; kind = AtomicStore 1 Release one_value; from = 0 }
    ∷ record { number = 6; thread = 0; kind = AtomicLoad 1 Acquire; from = 5 } ∷ record { number = 7; thread = 0; kind = AtomicLoad 0 Relaxed; from = 1 } ∷ []

not_consistent : Consistent passing → ⊥
not_consistent c = (c.lawful 0).write_read_coherence 4 7 1 store load (join {b = 5} after (join {b = 6} sync before))
    ((c.lawful 0).write_write_coherence 1 4 first store (join {b = 3} (one (inl (record { thread = record { event = _; is = refl; holds = record { event = _; is = refl; holds = refl } }; earlier = omega arith })))
    (one (inr (create_to_first (record {
      create = record { event = _; is = refl; holds = refl };
      thread = record { event = _; is = refl; holds = refl };
      first = λ k lt t. none_before k lt t;
      earlier = omega arith;
    })))))) where
      store : IsStore passing 0 4
      store = record { event = _; is = refl; holds = refl }

      first : IsStore passing 0 1
      first = record { event = _; is = refl; holds = refl }

      load : IsLoad passing 0 7 1
      load = record { event = _; is = refl; holds = (refl, refl) }

      after : HappensBefore passing 4 5
      after = one (inl (record { thread = record { event = _; is = refl; holds = record { event = _; is = refl; holds = refl } }; earlier = omega arith }))

      before : HappensBefore passing 6 7
      before = one (inl (record { thread = record { event = _; is = refl; holds = record { event = _; is = refl; holds = refl } }; earlier = omega arith }))

      sync : HappensBefore passing 5 6
      sync = one (inr (release_to_acquire (record { event = _; is = refl; holds = refl }) (record {
        cell = 1;
        n = 0;
        x = 5;
        sequence = here (record { event = _; is = refl; holds = refl });
        reads = record { event = _; is = refl; holds = (refl, refl) };
      }) (record { event = _; is = refl; holds = refl })))

      none_before : (k : ℕ) → k < 4 → At passing k (λ e. e.thread ≡ 1) → ⊥
      none_before zero lt t = let e = t.is in cc
      none_before (suc zero) lt t = let e = t.is in let h = t.holds in cc
      none_before (suc (suc zero)) lt t = let e = t.is in let h = t.holds in cc
      none_before (suc (suc (suc zero))) lt t = let e = t.is in let h = t.holds in cc
      none_before (suc (suc (suc (suc k)))) lt t = absurd (omega arith)

-- two read-modify-writes read one store
abbrev twice : List Event
twice = record { number = 1; thread = 0; kind = Init 0 zero_value; from = 0 } ∷ record { number = 2; thread = 1; kind = Rmw 0 Relaxed Add one_value; from = 1 } ∷ record { number = 3; thread = 2; kind = Rmw 0 Relaxed Add one_value; from = 1 } ∷ []

not_twice : Consistent twice → ⊥
not_twice c =
    let a = (c.lawful 0).rmw_atomicity 2 1 (record { event = _; is = refl; holds = (refl, refl, refl) }) in
    let b = (c.lawful 0).rmw_atomicity 3 1 (record { event = _; is = refl; holds = (refl, refl, refl) }) in
    let same : a.place ≡ b.place = (c.lawful 0).stores.once a.place b.place 1 a.first b.first in
    let e = a.second in let f = b.second in cc
