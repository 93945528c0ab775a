-- Happens-before and links are decided.
use Rattle.std.proofs.Common.{◌≡◌, ℕ, zero, suc, ◌-◌, ◌<◌, true, List, [], ◌∷◌, Option, Some, None, slice_get, length, take, refl, sym, ◌∙◌, subst, arith, ◌⊎◌, inl, inr}
use native.Mathlib.Decide.{map_dec, ℕ_discrete, dec_lt}
use Rattle.c11_events.specs.declared.event.Event.{Event}
use Rattle.c11_events.specs.Events.{At, event_at, IsStore, IsLoad, ReadsEarlier, stored_cell, loaded_cell, is_release_store, is_release_fence, is_acquire_load, is_acquire_fence, locked_mutex, unlocked_mutex, is_create, is_end, joined_thread, is_seq_cst, is_fence}
use Rattle.c11_events.specs.HappensBefore.{ReleaseSequence, here, next}
use Rattle.c11_events.specs.HappensBefore.{ProgramOrder, UnlockBeforeLock, CreateBeforeFirst, EndBeforeJoin, DirectlyBefore, HappensBefore, IsSeqCst, SeqCstBefore}
use Rattle.c11_events.specs.Threads.{holder, created}
use Rattle.c11_events.proofs.ReadBy.{sync_of, synchronizes, Releases, Acquires, IsReadBy, Sync, read, mutex, create, finish}
use Rattle.c11_events.specs.Lawful.{IsFence, Fenced, before, after, between}
use Rattle.c11_events.specs.Chains.{IsRanked, Cause, write_write, write_read, read_write, read_read, seq_cst, fenced_read, fenced_write, MustPrecede, Link, Links}
use Rattle.c11_events.proofs.Decide.{dec_and, dec_and₃, dec_or, dec_not, dec_below, dec_some, dec_true, dec_is, dec_none, dec_held, Below}
use Rattle.c11_events.proofs.Warshall.{dec_closure}
use Rattle.c11_events.proofs.Rises.{chain_rises}
use Rattle.c11_events.proofs.Basics.{at_same, chain_head}

get_below : (events : List Event) (i : ℕ) (e : Event) → slice_get events i ≡ Some e → i < length events
get_below [] i e at = cc
get_below (f ∷ es) zero e at = omega arith
get_below (f ∷ es) (suc i) e at = omega (arith, get_below es i e at)

pub event_below : (events : List Event) (a : ℕ) (e : Event) → event_at events a ≡ Some e → a < suc (length events)
event_below events zero e at = omega arith
event_below events (suc i) e at = omega (arith, get_below events i e at)

module _ (events : List Event) where
  pub at_below : (a : ℕ) (P : Event → Type 0) → At events a P → a < suc (length events)
  at_below a P t = event_below events a t.event t.is

  at_of : (a : ℕ) (P : Event → Type 0) → ((e : Event) → Dec (P e)) → (o : Option Event) → event_at events a ≡ o → Dec (At events a P)
  at_of a P d None is = no (λ t. let e : None ≡ Some t.event = sym is ∙ t.is in cc)
  at_of a P d (Some e) is = map_dec (λ (p : P e). record { event = e; is = is; holds = p }) (λ (t : At events a P). subst P (at_same events a t.event e t.is is) t.holds) (d e)

  pub dec_at : (a : ℕ) (P : Event → Type 0) → ((e : Event) → Dec (P e)) → Dec (At events a P)
  dec_at a P d = at_of a P d (event_at events a) refl

  pub dec_store : (cell x : ℕ) → Dec (IsStore events cell x)
  dec_store cell x = dec_at x (λ e. stored_cell e.kind ≡ Some cell) (λ e. dec_is (stored_cell e.kind) cell)

  pub dec_load : (cell l x : ℕ) → Dec (IsLoad events cell l x)
  dec_load cell l x = dec_at l (λ e. (loaded_cell e.kind ≡ Some cell) × (e.from ≡ x)) (λ e. dec_and (dec_is (loaded_cell e.kind) cell) (ℕ_discrete e.from x))

  -- how a chain ends
  abbrev pub ChainEnd : ℕ → ℕ → ℕ → ℕ → Type 0
  ChainEnd cell s zero x = (s ≡ x) × IsStore events cell s
  ChainEnd cell s (suc n) x = At events x (λ e. (stored_cell e.kind ≡ Some cell) × (loaded_cell e.kind ≡ Some cell) × ReleaseSequence events cell s n e.from)

  pub chain_end : (cell s n x : ℕ) → ReleaseSequence events cell s n x → ChainEnd cell s n x
  chain_end cell s _ _ (here is) = (refl, is)
  chain_end cell s _ _ (next {n = n} c r) = record { event = r.event; is = r.is; holds = (r.holds.0, r.holds.1, subst (λ (z : ℕ). ReleaseSequence events cell s n z) (sym r.holds.2) c) }

  pub end_chain : (cell s n x : ℕ) → ChainEnd cell s n x → ReleaseSequence events cell s n x
  end_chain cell s zero x t = subst (λ (z : ℕ). ReleaseSequence events cell s 0 z) t.0 (here t.1)
  end_chain cell s (suc n) x t = next t.holds.2 (record { event = t.event; is = t.is; holds = (t.holds.0, t.holds.1, refl) })

  pub dec_chain : (cell s n x : ℕ) → Dec (ReleaseSequence events cell s n x)
  dec_chain cell s zero x = map_dec (end_chain cell s zero x) (chain_end cell s zero x) (dec_and (ℕ_discrete s x) (dec_store cell s))
  dec_chain cell s (suc n) x = map_dec (end_chain cell s (suc n) x) (chain_end cell s (suc n) x)
      (dec_at x (λ e. (stored_cell e.kind ≡ Some cell) × (loaded_cell e.kind ≡ Some cell) × ReleaseSequence events cell s n e.from)
      (λ e. dec_and₃ (dec_is (stored_cell e.kind) cell) (dec_is (loaded_cell e.kind) cell) (dec_chain cell s n e.from)))

  pub dec_program : (a b : ℕ) → Dec (ProgramOrder events a b)
  dec_program a b = map_dec (λ p. record { thread = p.0; earlier = p.1 }) (λ (p : ProgramOrder events a b). (p.thread, p.earlier))
      (dec_and (dec_at a (λ e. At events b (λ f. e.thread ≡ f.thread)) (λ e. dec_at b (λ f. e.thread ≡ f.thread) (λ f. ℕ_discrete e.thread f.thread))) (dec_lt a b))

  dec_releases : (a s : ℕ) → Dec (Releases events a s)
  dec_releases a s = map_dec
      (λ p. elim p [ inl q ↦ Releases.store q.0 q.1 | inr q ↦ Releases.fence q.0 q.1 ])
      (λ (r : Releases events a s). elim r [ Releases.store e is ↦ inl (e, is) | Releases.fence is o ↦ inr (is, o) ])
      (dec_or (dec_and (ℕ_discrete a s) (dec_at a (λ e. is_release_store e.kind ≡ true) (λ e. dec_true (is_release_store e.kind))))
      (dec_and (dec_at a (λ e. is_release_fence e.kind ≡ true) (λ e. dec_true (is_release_fence e.kind))) (dec_program a s)))

  dec_acquires : (b l : ℕ) → Dec (Acquires events b l)
  dec_acquires b l = map_dec
      (λ p. elim p [ inl q ↦ Acquires.load q.0 q.1 | inr q ↦ Acquires.fence q.0 q.1 ])
      (λ (r : Acquires events b l). elim r [ Acquires.load e is ↦ inl (e, is) | Acquires.fence is o ↦ inr (is, o) ])
      (dec_or (dec_and (ℕ_discrete b l) (dec_at b (λ e. is_acquire_load e.kind ≡ true) (λ e. dec_true (is_acquire_load e.kind))))
      (dec_and (dec_at b (λ e. is_acquire_fence e.kind ≡ true) (λ e. dec_true (is_acquire_fence e.kind))) (dec_program l b)))

  -- the load l reads from the chain of s
  abbrev Carried : ℕ → ℕ → Type 0
  Carried s l = At events l (λ e. (cell : ℕ) × (loaded_cell e.kind ≡ Some cell) × ((n : ℕ) × ReleaseSequence events cell s n e.from))

  chain_count : ReadsEarlier events → (cell s n x : ℕ) → ReleaseSequence events cell s n x → n < suc x
  chain_count reads cell s n x c = omega (arith, chain_rises events cell s n x reads c)

  dec_carried : ReadsEarlier events → (s l : ℕ) → Dec (Carried s l)
  dec_carried reads s l = dec_at l (λ e. (cell : ℕ) × (loaded_cell e.kind ≡ Some cell) × ((n : ℕ) × ReleaseSequence events cell s n e.from))
      (λ e. dec_held (loaded_cell e.kind) (λ cell. (n : ℕ) × ReleaseSequence events cell s n e.from)
      (λ cell. dec_some (suc e.from) (λ n. ReleaseSequence events cell s n e.from) (λ n. chain_count reads cell s n e.from) (λ n. dec_chain cell s n e.from)))

  abbrev ReadParts : ℕ → ℕ → Type 0
  ReadParts a b = (s : ℕ) × ((l : ℕ) × (Releases events a s × Acquires events b l × Carried s l))

  parts_read : (a b : ℕ) → ReadParts a b → IsReadBy events a b
  parts_read a b p = let q = p.1.1 in let t = q.2 in
      record {
        s = p.0;
        l = p.1.0;
        x = t.event.from;
        cell = t.holds.0;
        n = t.holds.2.0;
        releases = q.0;
        acquires = q.1;
        chain = t.holds.2.1;
        reads = record { event = t.event; is = t.is; holds = (t.holds.1, refl) };
      }

  read_parts : (a b : ℕ) → IsReadBy events a b → ReadParts a b
  read_parts a b r = (
    r.s,
    (
      r.l,
      (
        r.releases,
        r.acquires,
        record {
          event = r.reads.event;
          is = r.reads.is;
          holds = (r.cell, r.reads.holds.0, (r.n, subst (λ (z : ℕ). ReleaseSequence events r.cell r.s r.n z) (sym r.reads.holds.1) r.chain));
        },
      ),
    ),
  )

  dec_read : ReadsEarlier events → (a b : ℕ) → Dec (IsReadBy events a b)
  dec_read reads a b = map_dec (parts_read a b) (read_parts a b)
      (dec_some (suc (length events)) (λ s. (l : ℕ) × (Releases events a s × Acquires events b l × Carried s l))
      (λ s p. let t = p.1.2 in let is = chain_head events t.holds.0 s t.holds.2.0 t.event.from t.holds.2.1 in at_below s (λ e. stored_cell e.kind ≡ Some t.holds.0) is)
      (λ s. dec_some (suc (length events)) (λ l. Releases events a s × Acquires events b l × Carried s l)
      (λ l p. event_below events l p.2.event p.2.is)
      (λ l. dec_and₃ (dec_releases a s) (dec_acquires b l) (dec_carried reads s l))))

  dec_mutex : (a b : ℕ) → Dec (UnlockBeforeLock events a b)
  dec_mutex a b = map_dec
      (λ p. let t = p.0 in record { mutex = t.holds.0; unlock = record { event = t.event; is = t.is; holds = t.holds.1 }; lock = t.holds.2.0; free = t.holds.2.1; earlier = p.1 })
      (λ (u : UnlockBeforeLock events a b). (record { event = u.unlock.event; is = u.unlock.is; holds = (u.mutex, u.unlock.holds, (u.lock, u.free)) }, u.earlier))
      (dec_and (dec_at a (λ e. (m : ℕ) × (unlocked_mutex e.kind ≡ Some m) × (At events b (λ f. locked_mutex f.kind ≡ Some m) × (holder (take (b - 1) events) m ≡ None)))
      (λ e. dec_held (unlocked_mutex e.kind) (λ m. At events b (λ f. locked_mutex f.kind ≡ Some m) × (holder (take (b - 1) events) m ≡ None))
      (λ m. dec_and (dec_at b (λ f. locked_mutex f.kind ≡ Some m) (λ f. dec_is (locked_mutex f.kind) m)) (dec_none (holder (take (b - 1) events) m)))))
      (dec_lt a b))

  abbrev OfThread : ℕ → ℕ → Type 0
  OfThread u c = At events c (λ e. e.thread ≡ u)

  dec_thread : (u c : ℕ) → Dec (OfThread u c)
  dec_thread u c = dec_at c (λ e. e.thread ≡ u) (λ e. ℕ_discrete e.thread u)

  dec_create : (a b : ℕ) → Dec (CreateBeforeFirst events a b)
  dec_create a b = let u = created (take a events) in map_dec
      (λ p. record { create = p.0; thread = p.1.0; first = λ c lt is. p.1.1.0 (c, lt, is); earlier = p.1.1.1 })
      (λ (k : CreateBeforeFirst events a b). (k.create, (k.thread, ((λ (s : Below b (OfThread (created (take a events)))). k.first s.0 s.1 s.2), k.earlier))))
      (dec_and (dec_at a (λ e. is_create e.kind ≡ true) (λ e. dec_true (is_create e.kind)))
      (dec_and (dec_thread u b) (dec_and (dec_not (dec_below b (OfThread u) (dec_thread u))) (dec_lt a b))))

  dec_end : (a b : ℕ) → Dec (EndBeforeJoin events a b)
  dec_end a b = map_dec (λ p. record { end = p.0; earlier = p.1 }) (λ (k : EndBeforeJoin events a b). (k.end, k.earlier))
      (dec_and (dec_at a (λ e. (is_end e.kind ≡ true) × At events b (λ f. joined_thread f.kind ≡ Some e.thread))
      (λ e. dec_and (dec_true (is_end e.kind)) (dec_at b (λ f. joined_thread f.kind ≡ Some e.thread) (λ f. dec_is (joined_thread f.kind) e.thread))))
      (dec_lt a b))

  dec_sync : ReadsEarlier events → (a b : ℕ) → Dec (Sync events a b)
  dec_sync reads a b = map_dec
      (λ p. elim p [ inl r ↦ read r | inr q ↦ elim q [ inl m ↦ mutex m | inr t ↦ elim t [ inl c ↦ create c | inr f ↦ finish f ] ] ])
      (λ (s : Sync events a b). elim s [ read r ↦ inl r | mutex m ↦ inr (inl m) | create c ↦ inr (inr (inl c)) | finish f ↦ inr (inr (inr f)) ])
      (dec_or (dec_read reads a b) (dec_or (dec_mutex a b) (dec_or (dec_create a b) (dec_end a b))))

  program_ends : (a b : ℕ) → ProgramOrder events a b → (a < suc (length events)) × (b < suc (length events))
  program_ends a b p = (event_below events a p.thread.event p.thread.is, event_below events b p.thread.holds.event p.thread.holds.is)

  releases_below : (a s : ℕ) → Releases events a s → a < suc (length events)
  releases_below a s (Releases.store e is) = event_below events a is.event is.is
  releases_below a s (Releases.fence is o) = event_below events a is.event is.is

  acquires_below : (b l : ℕ) → Acquires events b l → b < suc (length events)
  acquires_below b l (Acquires.load e is) = event_below events b is.event is.is
  acquires_below b l (Acquires.fence is o) = event_below events b is.event is.is

  sync_ends : (a b : ℕ) → Sync events a b → (a < suc (length events)) × (b < suc (length events))
  sync_ends a b (read r) = (releases_below a r.s r.releases, acquires_below b r.l r.acquires)
  sync_ends a b (mutex m) = (event_below events a m.unlock.event m.unlock.is, event_below events b m.lock.event m.lock.is)
  sync_ends a b (create m) = (event_below events a m.create.event m.create.is, event_below events b m.thread.event m.thread.is)
  sync_ends a b (finish m) = (event_below events a m.end.event m.end.is, event_below events b m.end.holds.1.event m.end.holds.1.is)

  step_ends : (a b : ℕ) → DirectlyBefore events a b → (a < suc (length events)) × (b < suc (length events))
  step_ends a b (inl p) = program_ends a b p
  step_ends a b (inr s) = sync_ends a b (sync_of events a b s)

  pub dec_hb : ReadsEarlier events → (a b : ℕ) → Dec (HappensBefore events a b)
  dec_hb reads = dec_closure (DirectlyBefore events) (suc (length events)) step_ends (λ a b. dec_or (dec_program a b) (map_dec (synchronizes events a b) (sync_of events a b) (dec_sync reads a b)))

  pub dec_seq_cst : (a : ℕ) → Dec (IsSeqCst events a)
  dec_seq_cst a = dec_at a (λ e. is_seq_cst e.kind ≡ true) (λ e. dec_true (is_seq_cst e.kind))

  dec_seq_before : (a b : ℕ) → Dec (SeqCstBefore events a b)
  dec_seq_before a b = map_dec (λ p. record { first = p.0; second = p.1; earlier = p.2 }) (λ (s : SeqCstBefore events a b). (s.first, s.second, s.earlier))
      (dec_and₃ (dec_seq_cst a) (dec_seq_cst b) (dec_lt a b))

  dec_fence : (f : ℕ) → Dec (IsFence events f)
  dec_fence f = dec_at f (λ e. is_fence e.kind ≡ true) (λ e. dec_true (is_fence e.kind))

  dec_fenced : (a n : ℕ) → Dec (Fenced events a n)
  dec_fenced a n = map_dec
      (λ p. elim p [
        | inl t ↦ before (record { f = t.0; fence = t.1.0; first = t.1.1; second = t.1.2 })
        | inr q ↦ elim q [
          | inl t ↦ after (record { f = t.0; fence = t.1.0; first = t.1.1; second = t.1.2 })
          | inr t ↦ between (record { f = t.0; g = t.1.0; fence = t.1.1.0; other = t.1.1.1.0; first = t.1.1.1.1.0; between = t.1.1.1.1.1; second = t.1.1.1.1.2 })
        ]
      ])
      (λ (s : Fenced events a n). elim s [
        | before t ↦ inl (t.f, (t.fence, t.first, t.second))
        | after t ↦ inr (inl (t.f, (t.fence, t.first, t.second)))
        | between t ↦ inr (inr (t.f, (t.g, (t.fence, (t.other, (t.first, t.between, t.second))))))
      ])
      (dec_or (dec_some (suc (length events)) (λ f. IsFence events f × SeqCstBefore events a f × ProgramOrder events f n)
      (λ f p. event_below events f p.0.event p.0.is) (λ f. dec_and₃ (dec_fence f) (dec_seq_before a f) (dec_program f n)))
      (dec_or (dec_some (suc (length events)) (λ f. IsFence events f × ProgramOrder events a f × SeqCstBefore events f n)
      (λ f p. event_below events f p.0.event p.0.is) (λ f. dec_and₃ (dec_fence f) (dec_program a f) (dec_seq_before f n)))
      (dec_some (suc (length events)) (λ f. (g : ℕ) × (IsFence events f × (IsFence events g × (ProgramOrder events a f × SeqCstBefore events f g × ProgramOrder events g n))))
      (λ f p. event_below events f p.1.0.event p.1.0.is)
      (λ f. dec_some (suc (length events)) (λ g. IsFence events f × (IsFence events g × (ProgramOrder events a f × SeqCstBefore events f g × ProgramOrder events g n)))
      (λ g p. event_below events g p.1.0.event p.1.0.is)
      (λ g. dec_and (dec_fence f) (dec_and (dec_fence g) (dec_and₃ (dec_program a f) (dec_seq_before f g) (dec_program g n))))))))

  -- a load that reads b, for which P holds
  dec_loaded : (cell b : ℕ) (P : ℕ → Type 0) → ((l : ℕ) → Dec (P l)) → Dec ((l : ℕ) × (IsLoad events cell l b × P l))
  dec_loaded cell b P d = dec_some (suc (length events)) (λ l. IsLoad events cell l b × P l) (λ l p. event_below events l p.0.event p.0.is) (λ l. dec_and (dec_load cell l b) (d l))

  abbrev Causes : ℕ → ℕ → ℕ → Type 0
  Causes cell a b = HappensBefore events a b ⊎ (((l : ℕ) × (IsLoad events cell l b × HappensBefore events a l)) ⊎ (((l : ℕ) × (IsLoad events cell l a × HappensBefore events l b))
      ⊎ (((l : ℕ) × (IsLoad events cell l a × ((k : ℕ) × (IsLoad events cell k b × HappensBefore events l k)))) ⊎ (SeqCstBefore events a b
      ⊎ (((l : ℕ) × (IsLoad events cell l b × Fenced events a l)) ⊎ Fenced events a b)))))

  causes_cause : (cell a b : ℕ) → Causes cell a b → Cause events cell a b
  causes_cause cell a b (inl h) = write_write h
  causes_cause cell a b (inr (inl t)) = write_read t.1.1 t.1.0
  causes_cause cell a b (inr (inr (inl t))) = read_write t.1.0 t.1.1
  causes_cause cell a b (inr (inr (inr (inl t)))) = read_read t.1.0 t.1.1.1.0 t.1.1.1.1
  causes_cause cell a b (inr (inr (inr (inr (inl s))))) = seq_cst s
  causes_cause cell a b (inr (inr (inr (inr (inr (inl t)))))) = fenced_read t.1.1 t.1.0
  causes_cause cell a b (inr (inr (inr (inr (inr (inr f)))))) = fenced_write f

  cause_causes : (cell a b : ℕ) → Cause events cell a b → Causes cell a b
  cause_causes cell a b (write_write h) = inl h
  cause_causes cell a b (write_read {l = l} h load) = inr (inl (l, (load, h)))
  cause_causes cell a b (read_write {l = l} load h) = inr (inr (inl (l, (load, h))))
  cause_causes cell a b (read_read {l = l} {k = k} load load' h) = inr (inr (inr (inl (l, (load, (k, (load', h)))))))
  cause_causes cell a b (seq_cst s) = inr (inr (inr (inr (inl s))))
  cause_causes cell a b (fenced_read {l = l} f load) = inr (inr (inr (inr (inr (inl (l, (load, f)))))))
  cause_causes cell a b (fenced_write f) = inr (inr (inr (inr (inr (inr f)))))

  dec_cause : ReadsEarlier events → (cell a b : ℕ) → Dec (Cause events cell a b)
  dec_cause reads cell a b = map_dec (causes_cause cell a b) (cause_causes cell a b)
      (dec_or (dec_hb reads a b) (dec_or (dec_loaded cell b (λ l. HappensBefore events a l) (λ l. dec_hb reads a l)) (dec_or (dec_loaded cell a (λ l. HappensBefore events l b) (λ l. dec_hb reads l b))
      (dec_or (dec_loaded cell a (λ l. (k : ℕ) × (IsLoad events cell k b × HappensBefore events l k)) (λ l. dec_loaded cell b (λ k. HappensBefore events l k) (λ k. dec_hb reads l k)))
      (dec_or (dec_seq_before a b) (dec_or (dec_loaded cell b (λ l. Fenced events a l) (λ l. dec_fenced a l)) (dec_fenced a b)))))))

  dec_must : ReadsEarlier events → (cell a b : ℕ) → Dec (MustPrecede events cell a b)
  dec_must reads cell a b = map_dec (λ p. record { first = p.0; second = p.1.0; differ = p.1.1.0; cause = p.1.1.1 })
      (λ (m : MustPrecede events cell a b). (m.first, (m.second, (m.differ, m.cause))))
      (dec_and (dec_store cell a) (dec_and (dec_store cell b) (dec_and (dec_not (ℕ_discrete a b)) (dec_cause reads cell a b))))

  pub dec_ranked : (cell h i x : ℕ) → Dec (IsRanked events cell h i x)
  dec_ranked cell h i x = map_dec (λ p. record { chain = p.0; first = p.1 }) (λ (r : IsRanked events cell h i x). (r.chain, r.first))
      (dec_and (dec_chain cell h i x) (dec_at h (λ e. loaded_cell e.kind ≡ None) (λ e. dec_none (loaded_cell e.kind))))

  -- x is in the chain of h
  abbrev InChain : ℕ → ℕ → ℕ → Type 0
  InChain cell h x = (i : ℕ) × IsRanked events cell h i x

  dec_in_chain : ReadsEarlier events → (cell h x : ℕ) → Dec (InChain cell h x)
  dec_in_chain reads cell h x = dec_some (suc x) (λ i. IsRanked events cell h i x) (λ i r. chain_count reads cell h i x r.chain) (λ i. dec_ranked cell h i x)

  abbrev LinkParts : ℕ → ℕ → ℕ → Type 0
  LinkParts cell h k = (h ≡ k → ⊥) × ((a : ℕ) × ((b : ℕ) × (InChain cell h a × InChain cell k b × MustPrecede events cell a b)))

  parts_link : (cell h k : ℕ) → LinkParts cell h k → Link events cell h k
  parts_link cell h k p = let q = p.1.1.1 in record { differ = p.0; a = p.1.0; b = p.1.1.0; i = q.0.0; j = q.1.0; first = q.0.1; second = q.1.1; must = q.2 }

  link_parts : (cell h k : ℕ) → Link events cell h k → LinkParts cell h k
  link_parts cell h k l = (l.differ, (l.a, (l.b, ((l.i, l.first), (l.j, l.second), l.must))))

  dec_link : ReadsEarlier events → (cell h k : ℕ) → Dec (Link events cell h k)
  dec_link reads cell h k = map_dec (parts_link cell h k) (link_parts cell h k)
      (dec_and (dec_not (ℕ_discrete h k)) (dec_some (suc (length events)) (λ a. (b : ℕ) × (InChain cell h a × InChain cell k b × MustPrecede events cell a b))
      (λ a p. let m = p.1.2 in event_below events a m.first.event m.first.is)
      (λ a. dec_some (suc (length events)) (λ b. InChain cell h a × InChain cell k b × MustPrecede events cell a b)
      (λ b p. event_below events b p.2.second.event p.2.second.is)
      (λ b. dec_and₃ (dec_in_chain reads cell h a) (dec_in_chain reads cell k b) (dec_must reads cell a b)))))

  link_ends : (cell h k : ℕ) → Link events cell h k → (h < suc (length events)) × (k < suc (length events))
  link_ends cell h k l = (event_below events h l.first.first.event l.first.first.is, event_below events k l.second.first.event l.second.first.is)

  pub dec_links : ReadsEarlier events → (cell h k : ℕ) → Dec (Links events cell h k)
  dec_links reads cell = dec_closure (Link events cell) (suc (length events)) (link_ends cell) (dec_link reads cell)
