-- A history of Inits alone.
use Rattle.std.proofs.Common.{false, ◌≡◌, ℕ, zero, suc, ◌+◌, ◌<◌, ◌≤◌, List, [], ◌∷◌, ◌++◌, Some, None, length, slice_get, take, refl, sym, ap, ◌∙◌, subst, arith, zero-add, add-one, append_assoc, append-nil}
use Rattle.std.proofs.lemmas.List.{length-take-le}
use Rattle.std.proofs.lemmas.List.Sums.{count_by-le-length}
use Rattle.std.proofs.lemmas.Option.{slice_get_within}
use Rattle.c11_events.specs.declared.cells.CellInfo.{CellInfo}
use Rattle.c11_events.specs.declared.event.Event.{Event}
use Rattle.c11_events.specs.declared.entry.Entry.{Entry}
use Rattle.c11_events.specs.EventOf.{event_of, events_of}
use Rattle.c11_events.specs.Events.{IsStore, ReadsEarlier, loaded_cell, stored_cell, read_cell, written_cell, is_create}
use Rattle.c11_events.specs.Chains.{ChainLawful}
use Rattle.c11_events.specs.Replies.{Setting, thread_limit}
use Rattle.c11_events.specs.Steps.{init_from, init_entries}
use Rattle.c11_events.proofs.Histories.{events_of-append, length-events_of}
use Rattle.c11_events.proofs.Others.{others_fit}
use Rattle.c11_events.proofs.Prefix.{reads_less}
use Rattle.c11_mayread.specs.Standing as reading
use Rattle.c11_replies.specs.Words as replying
use Rattle.c11_shadow.specs.Words as shadows
use Rattle.c11_shadow.proofs.Noted.{others_change_nothing}
use Rattle.c11_history.specs.Sound.{init_entry, HasRoomForInits, IsSound}

-- counts that are the same as those that are the same

pub reading_same : {a b d : reading.Words} → reading.HaveSameCounts a b → reading.HaveSameCounts b d → reading.HaveSameCounts a d
reading_same s t = record { cells = t.cells ∙ s.cells; threads = t.threads ∙ s.threads; events = t.events ∙ s.events }

pub replying_same : {a b d : replying.Words} → replying.HaveSameCounts a b → replying.HaveSameCounts b d → replying.HaveSameCounts a d
replying_same s t = record { threads = t.threads ∙ s.threads; mutexes = t.mutexes ∙ s.mutexes; values = t.values ∙ s.values }

-- one cell more
init_taken : (n : ℕ) (cells : List CellInfo) (i : ℕ) (info : CellInfo) → slice_get cells i ≡ Some info → init_from n (take (suc i) cells) ≡ init_from n (take i cells) ++ init_entry (n + i) info.initial ∷ []
init_taken n [] i info at = cc
init_taken n (first ∷ cells) zero info at =
    let same : first ≡ info = cc in
    let sum : n ≡ n + 0 = omega arith in
    λ j. init_entry (sum j) (same j).initial ∷ []
init_taken n (first ∷ cells) (suc i) info at =
    let sum : suc n + i ≡ n + suc i = omega arith in
    ap (λ (l : List Entry). init_entry n first.initial ∷ l) (init_taken (suc n) cells i info at ∙ ap (λ (k : ℕ). init_from (suc n) (take i cells) ++ init_entry k info.initial ∷ []) sum)

length-init : (n : ℕ) (cells : List CellInfo) → length (init_from n cells) ≡ length cells
length-init n [] = refl
length-init n (info ∷ cells) = ap suc (length-init (suc n) cells)

init_stands : (n : ℕ) (cells : List CellInfo) (i : ℕ) → i < length cells → IsStore (events_of (init_from n cells)) (n + i) (suc i)
init_stands n [] i lt = absurd (omega arith)
init_stands n (info ∷ cells) zero lt = record { event = event_of (init_entry n info.initial); is = refl; holds = ap (λ (k : ℕ). Some k) (omega arith) }
init_stands n (info ∷ cells) (suc i) lt =
    let t = init_stands (suc n) cells i (omega arith) in
    let sum : suc n + i ≡ n + suc i = omega arith in
    record { event = t.event; is = t.is; holds = t.holds ∙ ap (λ (k : ℕ). Some k) sum }

-- the Init of each cell is its store
pub init_stores : (cells : List CellInfo) (cell : ℕ) → cell < length cells → IsStore (events_of (init_entries cells)) cell (suc cell)
init_stores cells cell lt = subst (λ (k : ℕ). IsStore (events_of (init_entries cells)) k (suc cell)) (zero-add cell) (init_stands 0 cells cell lt)

pub init_count : (cells : List CellInfo) → length (init_entries cells) ≡ length cells
init_count cells = length-init 0 cells

-- events that neither read an atomic cell nor access a plain one
abbrev Quiet : List Event → Type 0
Quiet events = (i : ℕ) (e : Event) → slice_get events i ≡ Some e → (read_cell e.kind ≡ None) × (written_cell e.kind ≡ None)

quiet_stands : (words : shadows.Words) (more events : List Event) → ReadsEarlier (events ++ more) → Quiet more → shadows.StandsFor words events → shadows.StandsFor words (events ++ more)
quiet_stands words [] events reads quiet stands = subst (shadows.StandsFor words) (sym (append-nil events)) stands
quiet_stands words (e ∷ more) events reads quiet stands =
    let joined : (events ++ e ∷ []) ++ more ≡ events ++ e ∷ more = append_assoc events (e ∷ []) more in
    let reads' : ReadsEarlier ((events ++ e ∷ []) ++ more) = subst ReadsEarlier (sym joined) reads in
    let none = quiet 0 e refl in
    subst (shadows.StandsFor words) joined
    (quiet_stands words more (events ++ e ∷ []) reads' (λ i f at. quiet (suc i) f at) (others_change_nothing words events e stands (reads_less (events ++ e ∷ []) more reads') none.0 none.1))

inits_quiet : (n : ℕ) (cells : List CellInfo) → Quiet (events_of (init_from n cells))
inits_quiet n [] i e at = cc
inits_quiet n (info ∷ cells) zero e at = let same : event_of (init_entry n info.initial) ≡ e = cc in (ap (λ (f : Event). read_cell f.kind) (sym same), ap (λ (f : Event). written_cell f.kind) (sym same))
inits_quiet n (info ∷ cells) (suc i) e at = inits_quiet (suc n) cells i e at

-- Inits change nothing of what is kept of the plain cells
pub inits_stand : (words : shadows.Words) (cells : List CellInfo) → ReadsEarlier (events_of (init_entries cells)) → shadows.StandsFor words [] → shadows.StandsFor words (events_of (init_entries cells))
inits_stand words cells reads stands = quiet_stands words (events_of (init_entries cells)) [] reads (inits_quiet 0 cells) stands

module _ (cells : List CellInfo) (cell : ℕ) (info : CellInfo) (at : slice_get cells cell ≡ Some info) where
  abbrev before : List Entry
  before = init_entries (take cell cells)

  pub count : length before ≡ cell
  count = length-init 0 (take cell cells) ∙ length-take-le cell cells (omega (arith, slice_get_within cells cell info at))

  pub next_init : init_entries (take (cell + 1) cells) ≡ before ++ init_entry cell info.initial ∷ []
  next_init =
      ap (λ (k : ℕ). init_entries (take k cells)) (add-one cell) ∙ (init_taken 0 cells cell info at ∙ ap (λ (k : ℕ). before ++ init_entry k info.initial ∷ []) (zero-add cell))

  pub few_created : (words : replying.Words) (setting : Setting) → replying.StandsFor words setting (events_of before) → words.created ≤ cell
  few_created words setting stands = omega (arith, stands.created, count_by-le-length (λ (e : Event). is_create e.kind) (events_of before), length-events_of before, count)

  module _ (e : Entry) (f : Event) (made : e ≡ init_entry cell info.initial) (is : f ≡ event_of e) where
    event_is : f ≡ event_of (init_entry cell info.initial)
    event_is = is ∙ ap event_of made

    pub events_next : events_of (init_entries (take (cell + 1) cells)) ≡ events_of before ++ f ∷ []
    events_next = ap events_of next_init ∙ (events_of-append before (init_entry cell info.initial ∷ []) ∙ ap (λ (g : Event). events_of before ++ g ∷ []) (sym event_is))

    pub lawful : ChainLawful (events_of before) → ChainLawful (events_of before ++ f ∷ [])
    lawful old = others_fit (events_of before) f old (ap (λ (g : Event). loaded_cell g.kind) event_is)

    pub can_commit : (first words : reading.Words) → HasRoomForInits first (length cells) → reading.HaveSameCounts first words → reading.StandsFor words (events_of before) → reading.CanCommit words (events_of before) f
    can_commit first words room same stands = record {
      number = ap (λ (g : Event). g.number) event_is ∙ ap (λ (n : ℕ). n + 1) (sym (length-events_of before ∙ count));
      room = omega (arith, length-events_of before, count, room.events, same.events, slice_get_within cells cell info at);
      thread = omega (arith, ap (λ (g : Event). g.thread) event_is, room.threads, same.threads);
      stored = λ c stores.
          let both : Some cell ≡ Some c = sym (ap (λ (g : Event). stored_cell g.kind) event_is) ∙ stores in
          let here : cell ≡ c = cc in omega (arith, room.cells, same.cells, slice_get_within cells cell info at);
      loaded = λ c loads. let clash : None ≡ Some c = sym (ap (λ (g : Event). loaded_cell g.kind) event_is) ∙ loads in cc;
      lawful = lawful stands.lawful;
    }

-- the parts as they are opened, and after the Inits
pub record Opens (setting : Setting) (room : ℕ) (first reads : reading.Words) (shadow : shadows.Words) (replies_first replies : replying.Words) : Type 0 where
  pub reads_cells : reading.cells_of first ≡ length setting.atomic
  pub reads_threads : reading.threads_of first ≡ thread_limit
  pub reads_room : reading.room_of first ≡ length setting.atomic + room
  pub reads_counts : reading.HaveSameCounts first reads
  pub replies_threads : length replies_first.threads ≡ thread_limit
  pub replies_values : length replies_first.values ≡ length setting.plain
  pub replies_counts : replying.HaveSameCounts replies_first replies
  pub shadow_threads : shadow.threads ≡ thread_limit
  pub shadow_cells : length shadow.cells ≡ length setting.plain

pub sound_opened : (setting : Setting) (room capacity : ℕ) (first reads : reading.Words) (shadow : shadows.Words) (replies_first replies : replying.Words) → Opens setting room first reads shadow replies_first replies
    → length setting.atomic ≤ 4096 → room ≤ 10000 → length setting.atomic + room ≤ capacity → (cells : List CellInfo) (entries : List Entry) → cells ≡ setting.atomic → entries ≡ init_entries cells
    → reading.StandsFor reads (events_of (init_entries cells)) → replying.StandsFor replies setting (events_of (init_entries cells)) → shadows.StandsFor shadow []
    → IsSound setting room capacity entries reads shadow replies false
sound_opened setting room capacity first reads shadow replies_first replies o few_cells few_steps fits cells entries same made reads_stand replies_stand shadow_stand =
    let events_are : events_of (init_entries cells) ≡ events_of entries = ap events_of (sym made) in
    let count : length entries ≡ length setting.atomic = ap (λ (l : List Entry). length l) made ∙ (init_count cells ∙ ap (λ (l : List CellInfo). length l) same) in
    record {
      reads_stand = subst (λ (es : List Event). reading.StandsFor reads es) events_are reads_stand;
      replies_stand = subst (λ (es : List Event). replying.StandsFor replies setting es) events_are replies_stand;
      shadow_stands = λ quiet. subst (λ (es : List Event). shadows.StandsFor shadow es) events_are (inits_stand shadow cells reads_stand.lawful.reads shadow_stand);
      stores = λ cell below. subst (λ (es : List Event). IsStore es cell (suc cell)) events_are (init_stores cells cell (omega (arith, ap (λ (l : List CellInfo). length l) same)));
      reads_cells = o.reads_counts.cells ∙ o.reads_cells;
      reads_threads = o.reads_counts.threads ∙ o.reads_threads;
      reads_room = omega (arith, o.reads_counts.events, o.reads_room);
      replies_threads = o.replies_counts.threads ∙ o.replies_threads;
      replies_values = o.replies_counts.values ∙ o.replies_values;
      shadow_threads = o.shadow_threads;
      shadow_cells = o.shadow_cells;
      few = omega arith;
      fits = omega arith;
    }
