-- The steps of a history: its entries other than Init.
use Rattle.std.specs.Prelude.{ℕ, suc, ◌≡◌, ◌+◌, Bool, true, false, not, ◌&&◌, List, [], ◌∷◌, length, map, filter, nat_eq, Contains, MatchOption}
use Rattle.c11_events.specs.declared.cells.CellInfo.{CellInfo}
use Rattle.c11_events.specs.declared.op.Ask.{Ask}
use Rattle.c11_events.specs.declared.event.Event.{Event}
use Rattle.c11_events.specs.declared.event.EventKind.{EventKind}
use Rattle.c11_events.specs.declared.reply.Reply.TheVariants.{Done}
use Rattle.c11_events.specs.EventOf.{events_of}
use Rattle.c11_events.specs.Offered.{op_cell, op_reading}
use Rattle.c11_events.specs.Replies.{Setting, answer}
use Rattle.c11_events.specs.declared.op.Op.{Op}
use Rattle.c11_events.specs.declared.op.Op.TheVariants.{Init}
use Rattle.c11_events.specs.declared.entry.Entry.{Entry}
use Rattle.c11_events.specs.declared.reply.Reply.{Reply}

abbrev pub is_init : Op → Bool
is_init (Init cell value) = true
is_init _ = false

-- how many steps the history has
abbrev pub step_count : List Entry → ℕ
step_count entries = length (filter (λ e. not (is_init e.op)) entries)

-- the steps of one thread, in order
abbrev pub own_steps : List Entry → ℕ → List Entry
own_steps entries thread = filter (λ e. nat_eq e.thread thread && not (is_init e.op)) entries

-- the replies that the thread has had
abbrev pub own_replies : List Entry → ℕ → List Reply
own_replies entries thread = map (λ e. e.reply) (own_steps entries thread)

abbrev pub init_from : ℕ → List CellInfo → List Entry
init_from cell [] = []
init_from cell (info ∷ more) =
    record { number = cell + 1; thread = 0; line = 0; op = Init cell info.initial; reply = Done; from = 0; offered = [] } ∷ init_from (suc cell) more

-- what each history begins with: one Init for each atomic cell, in the order of the cells
abbrev pub init_entries : List CellInfo → List Entry
init_entries cells = init_from 0 cells

-- a way to say which list of stores is offered to a read: by the events before it, its thread, what the operation becomes with
-- each store, and the cell
abbrev pub Offering : Type 1
Offering = List Event → ℕ → (ℕ → EventKind) → ℕ → List ℕ → Type 0

-- an operation that reads an atomic cell has its offers and reads one of them; another has none and reads nothing
abbrev pub ReadsOffered : Offering → List Event → ℕ → Op → List ℕ → ℕ → Type 0
ReadsOffered Offers events thread op offered from =
    MatchOption (op_cell op) ((offered ≡ []) × (from ≡ 0)) (λ cell. Offers events thread (op_reading events op) cell offered × Contains offered from)

-- e is the next entry of the history: the thread does what it asks for, and gets its reply
pub record IsStep (Offers : Offering) (setting : Setting) (entries : List Entry) (thread : ℕ) (ask : Ask) (e : Entry) : Type 0 where
  pub number : e.number ≡ length entries + 1
  pub of_thread : e.thread ≡ thread
  pub line : e.line ≡ ask.line
  pub op : e.op ≡ ask.op
  pub reads : ReadsOffered Offers (events_of entries) thread ask.op e.offered e.from
  pub reply : e.reply ≡ answer setting (events_of entries) thread ask.op e.from
