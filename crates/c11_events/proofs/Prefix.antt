-- What holds of the events of a list holds of them in a longer one, and back.
use Rattle.std.proofs.Common.{◌≡◌, ℕ, zero, suc, ◌-◌, ◌<◌, ◌≤◌, true, List, [], ◌∷◌, ◌++◌, Some, slice_get, length, take, sym, ap, ◌∙◌, arith, inl, inr}
use Rattle.std.proofs.lemmas.List.{take-append-le}
use Rattle.c11_events.specs.declared.event.Event.{Event}
use Rattle.c11_events.specs.Closure.{Closure, one, join}
use Rattle.c11_events.specs.Events.{At, event_at, IsStore, IsLoad, IsRmw, ReadsEarlier, stored_cell, loaded_cell, is_release_store, is_release_fence, is_acquire_load, is_acquire_fence, locked_mutex, unlocked_mutex, is_create, is_end, joined_thread, is_seq_cst, is_fence}
use Rattle.c11_events.specs.HappensBefore.{ReleaseSequence, here, next}
use Rattle.c11_events.specs.HappensBefore.{ProgramOrder, UnlockBeforeLock, CreateBeforeFirst, EndBeforeJoin, DirectlyBefore, HappensBefore, IsSeqCst, SeqCstBefore}
use Rattle.c11_events.specs.Threads.{holder, created}
use Rattle.c11_events.proofs.ReadBy.{Sync, sync_of, synchronizes, Releases, Acquires, IsReadBy, read, mutex, create, finish}
use Rattle.c11_events.specs.Lawful.{IsFence, Fenced, before, after, between}
use Rattle.c11_events.proofs.Rises.{rmw_load, chain_rises, hb_rises}
use Rattle.c11_events.proofs.DecideEvents.{at_below}

pub get_more : {X : Type 0} (xs ys : List X) (i : ℕ) (x : X) → slice_get xs i ≡ Some x → slice_get (xs ++ ys) i ≡ Some x
get_more [] ys i x at = cc
get_more (w ∷ xs) ys zero x at = at
get_more (w ∷ xs) ys (suc i) x at = get_more xs ys i x at

pub get_less : {X : Type 0} (xs ys : List X) (i : ℕ) (x : X) → i < length xs → slice_get (xs ++ ys) i ≡ Some x → slice_get xs i ≡ Some x
get_less [] ys i x lt at = absurd (omega arith)
get_less (w ∷ xs) ys zero x lt at = at
get_less (w ∷ xs) ys (suc i) x lt at = get_less xs ys i x (omega arith) at

pub event_more : (events more : List Event) (a : ℕ) (e : Event) → event_at events a ≡ Some e → event_at (events ++ more) a ≡ Some e
event_more events more zero e at = at
event_more events more (suc i) e at = get_more events more i e at

pub event_less : (events more : List Event) (a : ℕ) (e : Event) → a ≤ length events → event_at (events ++ more) a ≡ Some e → event_at events a ≡ Some e
event_less events more zero e le at = at
event_less events more (suc i) e le at = get_less events more i e (omega arith) at

pub closure_map : (R S : ℕ → ℕ → Type 0) → ((a b : ℕ) → R a b → S a b) → (a b : ℕ) → Closure R a b → Closure S a b
closure_map R S f a b (one r) = one (f a b r)
closure_map R S f a c (join {b = b} v w) = join (closure_map R S f a b v) (closure_map R S f b c w)

module _ (events more : List Event) where
  pub at_more : (a : ℕ) (P Q : Event → Type 0) → ((e : Event) → P e → Q e) → At events a P → At (events ++ more) a Q
  at_more a P Q f t = record { event = t.event; is = event_more events more a t.event t.is; holds = f t.event t.holds }

  pub at_less : (a : ℕ) (P Q : Event → Type 0) → a ≤ length events → ((e : Event) → P e → Q e) → At (events ++ more) a P → At events a Q
  at_less a P Q le f t = record { event = t.event; is = event_less events more a t.event le t.is; holds = f t.event t.holds }

  pub same_more : (a : ℕ) (P : Event → Type 0) → At events a P → At (events ++ more) a P
  same_more a P t = at_more a P P (λ e p. p) t

  pub same_less : (a : ℕ) (P : Event → Type 0) → a ≤ length events → At (events ++ more) a P → At events a P
  same_less a P le t = at_less a P P le (λ e p. p) t

  within : (a : ℕ) (P : Event → Type 0) → At events a P → a ≤ length events
  within a P t = omega (arith, at_below events a P t)

  pub store_more : (cell x : ℕ) → IsStore events cell x → IsStore (events ++ more) cell x
  store_more cell x t = same_more x (λ e. stored_cell e.kind ≡ Some cell) t

  pub store_less : (cell x : ℕ) → x ≤ length events → IsStore (events ++ more) cell x → IsStore events cell x
  store_less cell x le t = same_less x (λ e. stored_cell e.kind ≡ Some cell) le t

  pub load_more : (cell l x : ℕ) → IsLoad events cell l x → IsLoad (events ++ more) cell l x
  load_more cell l x t = same_more l (λ e. (loaded_cell e.kind ≡ Some cell) × (e.from ≡ x)) t

  pub load_less : (cell l x : ℕ) → l ≤ length events → IsLoad (events ++ more) cell l x → IsLoad events cell l x
  load_less cell l x le t = same_less l (λ e. (loaded_cell e.kind ≡ Some cell) × (e.from ≡ x)) le t

  pub rmw_more : (cell b x : ℕ) → IsRmw events cell b x → IsRmw (events ++ more) cell b x
  rmw_more cell b x t = same_more b (λ e. (stored_cell e.kind ≡ Some cell) × (loaded_cell e.kind ≡ Some cell) × (e.from ≡ x)) t

  pub rmw_less : (cell b x : ℕ) → b ≤ length events → IsRmw (events ++ more) cell b x → IsRmw events cell b x
  rmw_less cell b x le t = same_less b (λ e. (stored_cell e.kind ≡ Some cell) × (loaded_cell e.kind ≡ Some cell) × (e.from ≡ x)) le t

  pub chain_more : (cell s n x : ℕ) → ReleaseSequence events cell s n x → ReleaseSequence (events ++ more) cell s n x
  chain_more cell s _ _ (here is) = here (store_more cell s is)
  chain_more cell s _ _ (next {n = n} {y = y} {x = x} c r) = next (chain_more cell s n y c) (rmw_more cell x y r)

  pub chain_less : ReadsEarlier (events ++ more) → (cell s n x : ℕ) → x ≤ length events → ReleaseSequence (events ++ more) cell s n x → ReleaseSequence events cell s n x
  chain_less reads cell s _ _ le (here is) = here (store_less cell s le is)
  chain_less reads cell s _ _ le (next {n = n} {y = y} {x = x} c r) =
      let e = reads cell x y (rmw_load (events ++ more) cell x y r) in next (chain_less reads cell s n y (omega (arith, e.1)) c) (rmw_less cell x y le r)

  pub reads_less : ReadsEarlier (events ++ more) → ReadsEarlier events
  reads_less reads cell l x load = let e = reads cell l x (load_more cell l x load) in
      let le = within l (λ e. (loaded_cell e.kind ≡ Some cell) × (e.from ≡ x)) load in (store_less cell x (omega (arith, e.1)) e.0, e.1)

  pub program_more : (a b : ℕ) → ProgramOrder events a b → ProgramOrder (events ++ more) a b
  program_more a b p = record {
    earlier = p.earlier;
    thread = at_more a (λ e. At events b (λ f. e.thread ≡ f.thread)) (λ e. At (events ++ more) b (λ f. e.thread ≡ f.thread)) (λ e t. same_more b (λ f. e.thread ≡ f.thread) t) p.thread;
  }

  pub program_less : (a b : ℕ) → b ≤ length events → ProgramOrder (events ++ more) a b → ProgramOrder events a b
  program_less a b le p = record {
    earlier = p.earlier;
    thread = at_less a (λ e. At (events ++ more) b (λ f. e.thread ≡ f.thread)) (λ e. At events b (λ f. e.thread ≡ f.thread)) (omega (arith, p.earlier)) (λ e t. same_less b (λ f. e.thread ≡ f.thread) le t) p.thread;
  }

  releases_more : (a s : ℕ) → Releases events a s → Releases (events ++ more) a s
  releases_more a s (Releases.store e is) = Releases.store e (same_more a (λ e. is_release_store e.kind ≡ true) is)
  releases_more a s (Releases.fence is o) = Releases.fence (same_more a (λ e. is_release_fence e.kind ≡ true) is) (program_more a s o)

  releases_less : (a s : ℕ) → s ≤ length events → Releases (events ++ more) a s → Releases events a s
  releases_less a s le (Releases.store e is) = Releases.store e (same_less a (λ e. is_release_store e.kind ≡ true) (omega arith) is)
  releases_less a s le (Releases.fence is o) = Releases.fence (same_less a (λ e. is_release_fence e.kind ≡ true) (omega (arith, o.earlier)) is) (program_less a s le o)

  acquires_more : (b l : ℕ) → Acquires events b l → Acquires (events ++ more) b l
  acquires_more b l (Acquires.load e is) = Acquires.load e (same_more b (λ e. is_acquire_load e.kind ≡ true) is)
  acquires_more b l (Acquires.fence is o) = Acquires.fence (same_more b (λ e. is_acquire_fence e.kind ≡ true) is) (program_more l b o)

  acquires_less : (b l : ℕ) → b ≤ length events → Acquires (events ++ more) b l → (l ≤ length events) × Acquires events b l
  acquires_less b l le (Acquires.load e is) = (omega arith, Acquires.load e (same_less b (λ e. is_acquire_load e.kind ≡ true) le is))
  acquires_less b l le (Acquires.fence is o) = (omega (arith, o.earlier), Acquires.fence (same_less b (λ e. is_acquire_fence e.kind ≡ true) le is) (program_less l b le o))

  read_more : (a b : ℕ) → IsReadBy events a b → IsReadBy (events ++ more) a b
  read_more a b r = record {
    s = r.s;
    l = r.l;
    x = r.x;
    cell = r.cell;
    n = r.n;
    releases = releases_more a r.s r.releases;
    acquires = acquires_more b r.l r.acquires;
    chain = chain_more r.cell r.s r.n r.x r.chain;
    reads = load_more r.cell r.l r.x r.reads;
  }

  read_less : ReadsEarlier (events ++ more) → (a b : ℕ) → b ≤ length events → IsReadBy (events ++ more) a b → IsReadBy events a b
  read_less reads a b le r =
      let load = acquires_less b r.l le r.acquires in
      let e = reads r.cell r.l r.x r.reads in
      record {
        s = r.s;
        l = r.l;
        x = r.x;
        cell = r.cell;
        n = r.n;
        releases = releases_less a r.s (omega (arith, load.0, e.1, chain_rises (events ++ more) r.cell r.s r.n r.x reads r.chain)) r.releases;
        acquires = load.1;
        chain = chain_less reads r.cell r.s r.n r.x (omega (arith, load.0, e.1)) r.chain;
        reads = load_less r.cell r.l r.x load.0 r.reads;
      }

  mutex_more : (a b : ℕ) → UnlockBeforeLock events a b → UnlockBeforeLock (events ++ more) a b
  mutex_more a b u =
      let le = within b (λ e. locked_mutex e.kind ≡ Some u.mutex) u.lock in
      record {
        mutex = u.mutex;
        unlock = same_more a (λ e. unlocked_mutex e.kind ≡ Some u.mutex) u.unlock;
        lock = same_more b (λ e. locked_mutex e.kind ≡ Some u.mutex) u.lock;
        free = ap (λ (es : List Event). holder es u.mutex) (take-append-le (b - 1) events more (omega arith)) ∙ u.free;
        earlier = u.earlier;
      }

  mutex_less : (a b : ℕ) → b ≤ length events → UnlockBeforeLock (events ++ more) a b → UnlockBeforeLock events a b
  mutex_less a b le u =
      record {
        mutex = u.mutex;
        unlock = same_less a (λ e. unlocked_mutex e.kind ≡ Some u.mutex) (omega (arith, u.earlier)) u.unlock;
        lock = same_less b (λ e. locked_mutex e.kind ≡ Some u.mutex) le u.lock;
        free = ap (λ (es : List Event). holder es u.mutex) (sym (take-append-le (b - 1) events more (omega arith))) ∙ u.free;
        earlier = u.earlier;
      }

  create_more : (a b : ℕ) → CreateBeforeFirst events a b → CreateBeforeFirst (events ++ more) a b
  create_more a b k =
      let le = within b (λ e. e.thread ≡ created (take a events)) k.thread in
      let same : created (take a (events ++ more)) ≡ created (take a events) = ap (λ (es : List Event). created es) (take-append-le a events more (omega (arith, k.earlier))) in
      record {
        create = same_more a (λ e. is_create e.kind ≡ true) k.create;
        thread = at_more b (λ e. e.thread ≡ created (take a events)) (λ e. e.thread ≡ created (take a (events ++ more))) (λ e p. p ∙ sym same) k.thread;
        first = λ c lt is. k.first c lt (at_less c (λ e. e.thread ≡ created (take a (events ++ more))) (λ e. e.thread ≡ created (take a events)) (omega arith) (λ e p. p ∙ same) is);
        earlier = k.earlier;
      }

  create_less : (a b : ℕ) → b ≤ length events → CreateBeforeFirst (events ++ more) a b → CreateBeforeFirst events a b
  create_less a b le k =
      let same : created (take a (events ++ more)) ≡ created (take a events) = ap (λ (es : List Event). created es) (take-append-le a events more (omega (arith, k.earlier))) in
      record {
        create = same_less a (λ e. is_create e.kind ≡ true) (omega (arith, k.earlier)) k.create;
        thread = at_less b (λ e. e.thread ≡ created (take a (events ++ more))) (λ e. e.thread ≡ created (take a events)) le (λ e p. p ∙ same) k.thread;
        first = λ c lt is. k.first c lt (at_more c (λ e. e.thread ≡ created (take a events)) (λ e. e.thread ≡ created (take a (events ++ more))) (λ e p. p ∙ sym same) is);
        earlier = k.earlier;
      }

  end_more : (a b : ℕ) → EndBeforeJoin events a b → EndBeforeJoin (events ++ more) a b
  end_more a b k = record {
    earlier = k.earlier;
    end = at_more a (λ e. (is_end e.kind ≡ true) × At events b (λ f. joined_thread f.kind ≡ Some e.thread))
        (λ e. (is_end e.kind ≡ true) × At (events ++ more) b (λ f. joined_thread f.kind ≡ Some e.thread)) (λ e p. (p.0, same_more b (λ f. joined_thread f.kind ≡ Some e.thread) p.1)) k.end;
  }

  end_less : (a b : ℕ) → b ≤ length events → EndBeforeJoin (events ++ more) a b → EndBeforeJoin events a b
  end_less a b le k = record {
    earlier = k.earlier;
    end = at_less a (λ e. (is_end e.kind ≡ true) × At (events ++ more) b (λ f. joined_thread f.kind ≡ Some e.thread))
        (λ e. (is_end e.kind ≡ true) × At events b (λ f. joined_thread f.kind ≡ Some e.thread)) (omega (arith, k.earlier)) (λ e p. (p.0, same_less b (λ f. joined_thread f.kind ≡ Some e.thread) le p.1)) k.end;
  }

  sync_more : (a b : ℕ) → Sync events a b → Sync (events ++ more) a b
  sync_more a b (read r) = read (read_more a b r)
  sync_more a b (mutex u) = mutex (mutex_more a b u)
  sync_more a b (create k) = create (create_more a b k)
  sync_more a b (finish k) = finish (end_more a b k)

  step_more : (a b : ℕ) → DirectlyBefore events a b → DirectlyBefore (events ++ more) a b
  step_more a b (inl p) = inl (program_more a b p)
  step_more a b (inr s) = inr (synchronizes (events ++ more) a b (sync_more a b (sync_of events a b s)))

  sync_less : ReadsEarlier (events ++ more) → (a b : ℕ) → b ≤ length events → Sync (events ++ more) a b → Sync events a b
  sync_less reads a b le (read r) = read (read_less reads a b le r)
  sync_less reads a b le (mutex u) = mutex (mutex_less a b le u)
  sync_less reads a b le (create k) = create (create_less a b le k)
  sync_less reads a b le (finish k) = finish (end_less a b le k)

  step_less : ReadsEarlier (events ++ more) → (a b : ℕ) → b ≤ length events → DirectlyBefore (events ++ more) a b → DirectlyBefore events a b
  step_less reads a b le (inl p) = inl (program_less a b le p)
  step_less reads a b le (inr s) = inr (synchronizes events a b (sync_less reads a b le (sync_of (events ++ more) a b s)))

  pub hb_more : (a b : ℕ) → HappensBefore events a b → HappensBefore (events ++ more) a b
  hb_more a b h = closure_map (DirectlyBefore events) (DirectlyBefore (events ++ more)) step_more a b h

  pub hb_less : ReadsEarlier (events ++ more) → (a b : ℕ) → b ≤ length events → HappensBefore (events ++ more) a b → HappensBefore events a b
  hb_less reads a b le (one s) = one (step_less reads a b le s)
  hb_less reads a c le (join {b = b} v w) =
      let lt = hb_rises (events ++ more) b c reads w in join (hb_less reads a b (omega arith) v) (hb_less reads b c le w)

  pub seq_more : (a : ℕ) → IsSeqCst events a → IsSeqCst (events ++ more) a
  seq_more a t = same_more a (λ e. is_seq_cst e.kind ≡ true) t

  pub seq_less : (a : ℕ) → a ≤ length events → IsSeqCst (events ++ more) a → IsSeqCst events a
  seq_less a le t = same_less a (λ e. is_seq_cst e.kind ≡ true) le t

  pub seq_before_more : (a b : ℕ) → SeqCstBefore events a b → SeqCstBefore (events ++ more) a b
  seq_before_more a b s = record { first = seq_more a s.first; second = seq_more b s.second; earlier = s.earlier }

  pub seq_before_less : (a b : ℕ) → b ≤ length events → SeqCstBefore (events ++ more) a b → SeqCstBefore events a b
  seq_before_less a b le s = record { first = seq_less a (omega (arith, s.earlier)) s.first; second = seq_less b le s.second; earlier = s.earlier }

  fence_more : (f : ℕ) → IsFence events f → IsFence (events ++ more) f
  fence_more f t = same_more f (λ e. is_fence e.kind ≡ true) t

  fence_less : (f : ℕ) → f ≤ length events → IsFence (events ++ more) f → IsFence events f
  fence_less f le t = same_less f (λ e. is_fence e.kind ≡ true) le t

  pub fenced_more : (a n : ℕ) → Fenced events a n → Fenced (events ++ more) a n
  fenced_more a n (before t) = before (record { f = t.f; fence = fence_more t.f t.fence; first = seq_before_more a t.f t.first; second = program_more t.f n t.second })
  fenced_more a n (after t) = after (record { f = t.f; fence = fence_more t.f t.fence; first = program_more a t.f t.first; second = seq_before_more t.f n t.second })
  fenced_more a n (between t) = between (record {
    f = t.f;
    g = t.g;
    fence = fence_more t.f t.fence;
    other = fence_more t.g t.other;
    first = program_more a t.f t.first;
    between = seq_before_more t.f t.g t.between;
    second = program_more t.g n t.second;
  })

  pub fenced_less : (a n : ℕ) → n ≤ length events → Fenced (events ++ more) a n → Fenced events a n
  fenced_less a n le (before t) = let f : t.f ≤ length events = omega (arith, t.second.earlier) in
      before (record { f = t.f; fence = fence_less t.f f t.fence; first = seq_before_less a t.f f t.first; second = program_less t.f n le t.second })
  fenced_less a n le (after t) = let f : t.f ≤ length events = omega (arith, t.second.earlier) in
      after (record { f = t.f; fence = fence_less t.f f t.fence; first = program_less a t.f f t.first; second = seq_before_less t.f n le t.second })
  fenced_less a n le (between t) = let g : t.g ≤ length events = omega (arith, t.second.earlier) in let f : t.f ≤ length events = omega (arith, t.between.earlier) in
      between (record {
        f = t.f;
        g = t.g;
        fence = fence_less t.f f t.fence;
        other = fence_less t.g g t.other;
        first = program_less a t.f f t.first;
        between = seq_before_less t.f t.g g t.between;
        second = program_less t.g n le t.second;
      })

pub hb_stays : (events more : List Event) (a b : ℕ) → ReadsEarlier (events ++ more) → b ≤ length events → (HappensBefore events a b → HappensBefore (events ++ more) a b) × (HappensBefore (events ++ more) a b → HappensBefore events a b)
hb_stays events more a b reads le = (hb_more events more a b, hb_less events more reads a b le)
