-- The histories of a program, and the one history that a seed gives.
use Rattle.std.specs.Prelude.{ℕ, ◌≡◌, ◌+◌, ◌%◌, List, [], ◌∷◌, ◌++◌, Option, Some, None, ⊤, length, filter, nat_lt, slice_get, MatchOption}
use Rattle.c11_events.specs.declared.op.Ask.{Ask}
use Rattle.c11_events.specs.declared.reply.Reply.{Reply}
use Rattle.c11_events.specs.declared.entry.Entry.{Entry}
use Rattle.c11_events.specs.declared.verdict.Verdict.{Verdict}
use Rattle.c11_events.specs.EventOf.{events_of}
use Rattle.c11_events.specs.Draws.{draw, chosen, words_for}
use Rattle.c11_events.specs.Offered.{IsRisingList, op_cell}
use Rattle.c11_events.specs.Replies.{Setting}
use Rattle.c11_events.specs.Steps.{Offering, IsStep, init_entries, own_replies}
use Rattle.c11_events.specs.Threads.{IsLive, blocked_by}
use Rattle.c11_events.specs.Verdicts.{IsEnabled, VerdictOf}

-- a program: what the memory model takes from it, and what each of its threads asks for next after the replies that it had, which
-- is nothing after the reply to its End or Stop, or a fault
pub record Program : Type 0 where
  pub setting : Setting
  pub asks : List Reply → Option Ask

-- the next operation of each thread
abbrev pub next_of : Program → List Entry → ℕ → Option Ask
next_of program entries thread = program.asks (own_replies entries thread)

-- e is a step that the program may make after the history: the run goes on, and a live thread that is not blocked makes the
-- operation that it asks for
pub record IsLegalStep (Offers : Offering) (program : Program) (bound : ℕ) (entries : List Entry) (e : Entry) : Type 0 where
  pub goes_on : VerdictOf (next_of program entries) bound entries None
  pub live : IsLive (events_of entries) e.thread
  pub ask : Ask
  pub asked : next_of program entries e.thread ≡ Some ask
  pub free : blocked_by (events_of entries) e.thread ask.op ≡ None
  pub step : IsStep Offers program.setting entries e.thread ask e

-- the histories that the program and the bound allow
pub data Legal (Offers : Offering) (program : Program) (bound : ℕ) : List Entry → Type 0 where
  start : Legal Offers program bound (init_entries program.setting.atomic)
  more : (entries : List Entry) (e : Entry) → Legal Offers program bound entries → IsLegalStep Offers program bound entries e → Legal Offers program bound (entries ++ e ∷ [])

-- the entries that chose among two stores or more
abbrev pub choices_of : List Entry → List Entry
choices_of entries = filter (λ e. nat_lt 1 (length e.offered)) entries

-- the history is legal, and the choices of its reads are the draws of the seed
pub record Follows (Offers : Offering) (program : Program) (seed bound : ℕ) (entries : List Entry) : Type 0 where
  pub legal : Legal Offers program bound entries
  pub drawn : (i : ℕ) (e : Entry) → slice_get (choices_of entries) i ≡ Some e → slice_get e.offered (draw seed i % length e.offered) ≡ Some e.from

-- e is chosen with word k as the next: first its thread among the enabled ones, rising, and then the store that it reads
pub record IsChosen (program : Program) (seed k : ℕ) (entries : List Entry) (e : Entry) : Type 0 where
  pub threads : List ℕ
  pub enabled : IsRisingList (IsEnabled (next_of program entries) entries) threads
  pub thread : slice_get threads (chosen seed k (length threads)) ≡ Some e.thread
  pub store : MatchOption (op_cell e.op) ⊤ (λ _. slice_get e.offered (chosen seed (k + words_for (length threads)) (length e.offered)) ≡ Some e.from)

-- the histories on the way of the one run, with how many words they took
pub data OnTheWay (Offers : Offering) (program : Program) (seed bound : ℕ) : ℕ → List Entry → Type 0 where
  begins : OnTheWay Offers program seed bound 0 (init_entries program.setting.atomic)
  goes : (k : ℕ) (entries : List Entry) (e : Entry) → OnTheWay Offers program seed bound k entries → IsLegalStep Offers program bound entries e
      → (c : IsChosen program seed k entries e) → OnTheWay Offers program seed bound (k + words_for (length c.threads) + words_for (length e.offered)) (entries ++ e ∷ [])

-- the one run of the program with the seed and the bound: its history, and the verdict that ended it
pub record OneRun (Offers : Offering) (program : Program) (seed bound : ℕ) (entries : List Entry) (verdict : Verdict) : Type 0 where
  pub words : ℕ
  pub way : OnTheWay Offers program seed bound words entries
  pub ends : VerdictOf (next_of program entries) bound entries (Some verdict)
