-- What is kept of a history, and that it stands for its entries.
use Rattle.std.specs.Prelude.{ℕ, suc, ◌≡◌, ◌<◌, ◌≤◌, ◌+◌, ⊤, true, false, Bool, List, [], Option, Some, None, MatchOption, length, vec_capacity}
use Rattle.c11_num.specs.Ranges.{TypedNumber}
use Rattle.c11_events.specs.declared.event.EventKind.{EventKind}
use Rattle.c11_events.specs.declared.event.EventKind.TheVariants.{PlainRead, PlainWrite}
use Rattle.c11_events.specs.declared.entry.Entry.{Entry}
use Rattle.c11_events.specs.declared.op.Op.TheVariants.{Init}
use Rattle.c11_events.specs.declared.reply.Reply.TheVariants.{Done}
use Rattle.c11_events.specs.EventOf.{events_of}
use Rattle.c11_events.specs.Events.{IsStore}
use Rattle.c11_events.specs.Replies.{Setting, thread_limit}
use Rattle.c11_mayread.specs.Standing as reading
use Rattle.c11_shadow.specs.Words as shadows
use Rattle.c11_replies.specs.Words as replying
use Rattle.c11_history.specs.declared.adding.Access.{Access}
use Rattle.c11_history.specs.declared.history.History.TheInside as history
use Rattle.c11_history.specs.Past.{Past}

abbrev pub setting_in : history.Inside → Setting
setting_in h = record { atomic = h.atomics.items; plain = h.plains.items; main = h.main }

abbrev pub past_of : history.Inside → Past
past_of h = record {
  setting = setting_in h;
  mutexes = length h.replies.mutexes;
  room = h.room;
  entries = h.entries.items;
  raced = h.raced;
}

-- the access of a plain cell that an event of this kind is
abbrev pub access_of : EventKind → Option Access
access_of (PlainRead cell) = Some (record { cell = cell; write = false })
access_of (PlainWrite cell value) = Some (record { cell = cell; write = true })
access_of _ = None

-- the access takes no memory
abbrev pub HasRoomFor : shadows.Words → Option Access → Type 0
HasRoomFor words access = MatchOption access ⊤ (λ a. shadows.HasRoom words a.cell)

-- as many threads and plain cells are kept
pub record HaveSameShadowCounts (old new : shadows.Words) : Type 0 where
  pub threads : new.threads ≡ old.threads
  pub cells : length new.cells ≡ length old.cells

-- the Init of an atomic cell
abbrev pub init_entry : ℕ → TypedNumber → Entry
init_entry cell value = record { number = cell + 1; thread = 0; line = 0; op = Init cell value; reply = Done; from = 0; offered = [] }

-- there is room for so many Inits, one for each atomic cell
pub record HasRoomForInits (words : reading.Words) (count : ℕ) : Type 0 where
  pub cells : reading.cells_of words ≡ count
  pub threads : 0 < reading.threads_of words
  pub events : count ≤ reading.room_of words

-- the parts stand for the entries, with the counts of the setting, and there is room for the entries to come
pub record IsSound (setting : Setting) (room capacity : ℕ) (entries : List Entry) (reads : reading.Words) (shadow : shadows.Words) (replies : replying.Words) (raced : Bool) : Type 0 where
  pub reads_stand : reading.StandsFor reads (events_of entries)
  pub replies_stand : replying.StandsFor replies setting (events_of entries)
  pub shadow_stands : raced ≡ false → shadows.StandsFor shadow (events_of entries)
  -- the Init of each atomic cell
  pub stores : (cell : ℕ) → cell < length setting.atomic → IsStore (events_of entries) cell (suc cell)
  pub reads_cells : reading.cells_of reads ≡ length setting.atomic
  pub reads_threads : reading.threads_of reads ≡ thread_limit
  pub reads_room : reading.room_of reads ≡ length entries + room
  pub replies_threads : length replies.threads ≡ thread_limit
  pub replies_values : length replies.values ≡ length setting.plain
  pub shadow_threads : shadow.threads ≡ thread_limit
  pub shadow_cells : length shadow.cells ≡ length setting.plain
  pub few : length entries + room ≤ 14096
  pub fits : length entries + room ≤ capacity

abbrev pub IsSoundHistory : history.Inside → Type 0
IsSoundHistory h = IsSound (setting_in h) h.room (vec_capacity h.entries) h.entries.items h.reads h.shadow h.replies h.raced
