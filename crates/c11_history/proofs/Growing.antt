-- A history with one entry more.
use Rattle.std.proofs.Common.{◌≡◌, ℕ, suc, ◌+◌, ◌-◌, ◌<◌, ◌≤◌, Bool, true, false, List, [], ◌∷◌, ◌++◌, Option, Some, None, length, refl, sym, ap, ◌∙◌, subst, arith, length-append}
use Rattle.std.specs.Prelude.{MatchOption, ⊤, is_some}
use Rattle.c11_num.specs.Ranges.{TypedNumber}
use Rattle.c11_events.specs.declared.event.Event.{Event}
use Rattle.c11_events.specs.declared.entry.Entry.{Entry}
use Rattle.c11_events.specs.declared.op.Ask.{Ask}
use Rattle.c11_events.specs.declared.op.Op.{Op}
use Rattle.c11_events.specs.declared.op.Op.TheVariants as op
use Rattle.c11_events.specs.declared.order.Order.{Order}
use Rattle.c11_events.specs.declared.reply.Reply.{Reply}
use Rattle.c11_events.specs.declared.reply.Reply.TheVariants.{Exchanged}
use Rattle.c11_events.specs.EventOf.{event_of, events_of, kind_of, exchange_kind}
use Rattle.c11_events.specs.Events.{IsStore, stored_cell, loaded_cell}
use Rattle.c11_events.specs.Chains.{ChainLawful}
use Rattle.c11_events.specs.Offered.{Offered}
use Rattle.c11_events.specs.Replies.{Setting, thread_limit}
use Rattle.c11_events.specs.Steps.{IsStep}
use Rattle.c11_events.proofs.Histories.{events_of-append, length-events_of, step_consistent}
use Rattle.c11_events.proofs.Necessary.{chain_lawful}
use Rattle.c11_events.proofs.Prefix.{store_more}
use Rattle.c11_events.proofs.Sufficient.{consistent}
use Rattle.c11_mayread.specs.Standing as reading
use Rattle.c11_replies.specs.Words as replying
use Rattle.c11_shadow.specs.Words as shadows
use Rattle.c11_history.specs.declared.adding.Access.{Access}
use Rattle.c11_history.specs.declared.history.Race.{Race}
use Rattle.c11_history.specs.Past.{Past, IsWithin, IsRaceOfLast}
use Rattle.c11_history.specs.Sound.{access_of, HaveSameShadowCounts, IsSound}

-- a compare-exchange stores to its cell or to none, and loads from its cell
exchange_cells : (c : ℕ) (success failure : Order) (desired : TypedNumber) (r : Reply) (cell : ℕ)
    → (stored_cell (exchange_kind c success failure desired r) ≡ Some cell → c ≡ cell) × (loaded_cell (exchange_kind c success failure desired r) ≡ Some cell → c ≡ cell)
exchange_cells c success failure desired (Exchanged old true) cell = (λ is. cc, λ is. cc)
exchange_cells c success failure desired _ cell = (λ is. cc, λ is. cc)

exchange_quiet : (c : ℕ) (success failure : Order) (desired : TypedNumber) (r : Reply) → access_of (exchange_kind c success failure desired r) ≡ None
exchange_quiet c success failure desired (Exchanged old true) = refl
exchange_quiet c success failure desired _ = refl

-- the cells of the event are those of the operation

pub stored_within : (setting : Setting) (mutexes : ℕ) (o : Op) (r : Reply) (cell : ℕ) → IsWithin setting mutexes o → stored_cell (kind_of o r) ≡ Some cell → cell < length setting.atomic
stored_within setting mutexes (op.AtomicStore c order value) r cell within is = let same : c ≡ cell = cc in omega arith
stored_within setting mutexes (op.Rmw c order kind operand) r cell within is = let same : c ≡ cell = cc in omega arith
stored_within setting mutexes (op.CompareExchange c success failure weak expected desired) r cell within is =
    omega (arith, (exchange_cells c success failure desired r cell).0 is)
stored_within setting mutexes (op.Init c value) r cell within is = absurd within
stored_within setting mutexes _ r cell within is = cc

pub loaded_within : (setting : Setting) (mutexes : ℕ) (o : Op) (r : Reply) (cell : ℕ) → IsWithin setting mutexes o → loaded_cell (kind_of o r) ≡ Some cell → cell < length setting.atomic
loaded_within setting mutexes (op.AtomicLoad c order) r cell within is = let same : c ≡ cell = cc in omega arith
loaded_within setting mutexes (op.Rmw c order kind operand) r cell within is = let same : c ≡ cell = cc in omega arith
loaded_within setting mutexes (op.CompareExchange c success failure weak expected desired) r cell within is =
    omega (arith, (exchange_cells c success failure desired r cell).1 is)
loaded_within setting mutexes _ r cell within is = cc

pub accessed_within : (setting : Setting) (mutexes : ℕ) (o : Op) (r : Reply) (count : ℕ) → IsWithin setting mutexes o → count ≡ length setting.plain
    → MatchOption (access_of (kind_of o r)) ⊤ (λ a. a.cell < count)
accessed_within setting mutexes (op.PlainRead c) r count within is = omega arith
accessed_within setting mutexes (op.PlainWrite c value) r count within is = omega arith
accessed_within setting mutexes (op.CompareExchange c success failure weak expected desired) r count within is =
    subst (λ (o : Option Access). MatchOption o ⊤ (λ a. a.cell < count)) (sym (exchange_quiet c success failure desired r)) tt
accessed_within setting mutexes _ r count within is = tt

-- room alone changes nothing
pub sound_roomy : (setting : Setting) (room capacity : ℕ) (entries : List Entry) (reads reads' : reading.Words) (shadow shadow' : shadows.Words) (replies : replying.Words) (raced : Bool)
    → ((events : List Event) → reading.StandsFor reads events → reading.StandsFor reads' events) → reading.HaveSameCounts reads reads'
    → ((events : List Event) → shadows.StandsFor shadow events → shadows.StandsFor shadow' events) → HaveSameShadowCounts shadow shadow'
    → IsSound setting room capacity entries reads shadow replies raced → IsSound setting room capacity entries reads' shadow' replies raced
sound_roomy setting room capacity entries reads reads' shadow shadow' replies raced stands same stands' same' s = record {
  reads_stand = stands (events_of entries) s.reads_stand;
  replies_stand = s.replies_stand;
  shadow_stands = λ quiet. stands' (events_of entries) (s.shadow_stands quiet);
  stores = s.stores;
  reads_cells = same.cells ∙ s.reads_cells;
  reads_threads = same.threads ∙ s.reads_threads;
  reads_room = same.events ∙ s.reads_room;
  replies_threads = s.replies_threads;
  replies_values = s.replies_values;
  shadow_threads = same'.threads ∙ s.shadow_threads;
  shadow_cells = same'.cells ∙ s.shadow_cells;
  few = s.few;
  fits = s.fits;
}

-- what was changed by a further event
pub record Changes (f : Event) (reads reads' : reading.Words) (shadow shadow' : shadows.Words) (replies replies' : replying.Words) (race : Option Race) : Type 0 where
  pub reads_stand : (events : List Event) → reading.StandsFor reads events → ChainLawful (events ++ f ∷ []) → reading.StandsFor reads' (events ++ f ∷ [])
  pub replies_stand : (setting : Setting) (events : List Event) → replying.StandsFor replies setting events → replying.StandsFor replies' setting (events ++ f ∷ [])
  pub reads_counts : reading.HaveSameCounts reads reads'
  pub replies_counts : replying.HaveSameCounts replies replies'
  pub shadow_stands : (events : List Event) → f.number ≡ length events + 1 → reading.StandsFor reads' (events ++ f ∷ []) → shadows.StandsFor shadow events → race ≡ None → shadows.StandsFor shadow' (events ++ f ∷ [])
  pub shadow_counts : HaveSameShadowCounts shadow shadow'

no_race : (race : Option Race) → is_some race ≡ false → race ≡ None
no_race None is = refl
no_race (Some race) is = cc

-- e is the next entry, and f its event
pub record IsNext (p : Past) (e : Entry) (f : Event) : Type 0 where
  pub is : f ≡ event_of e
  pub ask : Ask
  pub step : IsStep Offered p.setting p.entries e.thread ask e
  pub quiet : p.raced ≡ false
  pub some : 0 < p.room
  pub known : e.thread < thread_limit
  pub within : IsWithin p.setting p.mutexes e.op

pub next_of : (now p : Past) → p ≡ now → (e : Entry) (f : Event) → f ≡ event_of e → now.raced ≡ false → 0 < now.room → e.thread < thread_limit → IsWithin now.setting now.mutexes e.op
    → ((ask : Ask) × IsStep Offered now.setting now.entries e.thread ask e) → IsNext p e f
next_of now p view e f is quiet some known within step =
    let next : IsNext now e f = record { is = is; ask = step.0; step = step.1; quiet = quiet; some = some; known = known; within = within } in
    subst (λ (q : Past). IsNext q e f) (sym view) next

module _ (p : Past) (capacity : ℕ) (reads : reading.Words) (shadow : shadows.Words) (replies : replying.Words) (sound : IsSound p.setting p.room capacity p.entries reads shadow replies p.raced)
    (e : Entry) (f : Event) (next : IsNext p e f) where
  pub joined : events_of (p.entries ++ e ∷ []) ≡ events_of p.entries ++ f ∷ []
  joined = events_of-append p.entries (e ∷ []) ∙ ap (λ (g : Event). events_of p.entries ++ g ∷ []) (sym next.is)

  pub lawful : ChainLawful (events_of p.entries ++ f ∷ [])
  lawful = subst ChainLawful joined (chain_lawful (events_of (p.entries ++ e ∷ [])) (step_consistent p.setting p.entries e.thread next.ask e (consistent (events_of p.entries) sound.reads_stand.lawful) next.step))

  pub number : f.number ≡ length (events_of p.entries) + 1
  number = ap (λ (g : Event). g.number) next.is ∙ (next.step.number ∙ ap (λ (n : ℕ). n + 1) (sym (length-events_of p.entries)))

  pub can_commit : reading.CanCommit reads (events_of p.entries) f
  can_commit = record {
    number = number;
    room = omega (arith, next.some, length-events_of p.entries, sound.reads_room);
    thread = omega (arith, ap (λ (g : Event). g.thread) next.is, next.known, sound.reads_threads);
    stored = λ cell stores. omega (arith, sound.reads_cells, stored_within p.setting p.mutexes e.op e.reply cell next.within (ap (λ (g : Event). stored_cell g.kind) (sym next.is) ∙ stores));
    loaded = λ cell loads. omega (arith, sound.reads_cells, loaded_within p.setting p.mutexes e.op e.reply cell next.within (ap (λ (g : Event). loaded_cell g.kind) (sym next.is) ∙ loads));
    lawful = lawful;
  }

  module _ (reads' : reading.Words) (shadow' : shadows.Words) (replies' : replying.Words) (race : Option Race) (changes : Changes f reads reads' shadow shadow' replies replies' race) where
    pub reads_next : reading.StandsFor reads' (events_of p.entries ++ f ∷ [])
    reads_next = changes.reads_stand (events_of p.entries) sound.reads_stand lawful

    pub sound_grown : (capacity' : ℕ) (entries' : List Entry) (raced : Bool) → capacity ≤ capacity' → entries' ≡ p.entries ++ e ∷ [] → raced ≡ is_some race
        → IsSound p.setting (p.room - 1) capacity' entries' reads' shadow' replies' raced
    sound_grown capacity' entries' raced more put told =
        let events_are : events_of p.entries ++ f ∷ [] ≡ events_of entries' = sym (ap events_of put ∙ joined) in
        let count : length entries' ≡ length p.entries + 1 = ap (λ (l : List Entry). length l) put ∙ length-append p.entries (e ∷ []) in
        record {
          reads_stand = subst (λ (es : List Event). reading.StandsFor reads' es) events_are reads_next;
          replies_stand = subst (λ (es : List Event). replying.StandsFor replies' p.setting es) events_are (changes.replies_stand p.setting (events_of p.entries) sound.replies_stand);
          shadow_stands = λ quiet. subst (λ (es : List Event). shadows.StandsFor shadow' es) events_are (changes.shadow_stands (events_of p.entries) number reads_next (sound.shadow_stands next.quiet) (no_race race (sym told ∙ quiet)));
          stores = λ cell below. subst (λ (es : List Event). IsStore es cell (suc cell)) events_are (store_more (events_of p.entries) (f ∷ []) cell (suc cell) (sound.stores cell below));
          reads_cells = changes.reads_counts.cells ∙ sound.reads_cells;
          reads_threads = changes.reads_counts.threads ∙ sound.reads_threads;
          reads_room = omega (arith, changes.reads_counts.events, sound.reads_room);
          replies_threads = changes.replies_counts.threads ∙ sound.replies_threads;
          replies_values = changes.replies_counts.values ∙ sound.replies_values;
          shadow_threads = changes.shadow_counts.threads ∙ sound.shadow_threads;
          shadow_cells = changes.shadow_counts.cells ∙ sound.shadow_cells;
          few = omega (arith, sound.few);
          fits = omega (arith, sound.fits);
        }

    pub race_grown : (entries' : List Entry) → entries' ≡ p.entries ++ e ∷ []
        → ((events : List Event) → f.number ≡ length events + 1 → reading.StandsFor reads' (events ++ f ∷ []) → shadows.StandsFor shadow events → IsRaceOfLast (events ++ f ∷ []) race)
        → IsRaceOfLast (events_of entries') race
    race_grown entries' put races =
        subst (λ (es : List Event). IsRaceOfLast es race) (sym (ap events_of put ∙ joined)) (races (events_of p.entries) number reads_next (sound.shadow_stands next.quiet))
