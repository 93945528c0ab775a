-- The laws of runs.
use Rattle.std.specs.Prelude.{ℕ, ◌≡◌, ◌+◌, ◌≤◌, true, false, List, Some, None, length, slice_get, take}
use Rattle.c11_events.specs.declared.cells.CellInfo.{CellInfo}
use Rattle.c11_events.specs.declared.op.Ask.{Ask}
use Rattle.c11_events.specs.declared.op.Op.TheVariants.{Lock}
use Rattle.c11_events.specs.declared.reply.Reply.{Reply}
use Rattle.c11_events.specs.declared.reply.Reply.TheVariants.{Locked}
use Rattle.c11_events.specs.declared.entry.Entry.{Entry}
use Rattle.c11_events.specs.declared.verdict.Verdict.{Verdict}
use Rattle.c11_events.specs.Dead.{AreOfLive}
use Rattle.c11_events.specs.EventOf.{events_of}
use Rattle.c11_events.specs.Lawful.{Consistent}
use Rattle.c11_events.specs.Offered.{Offered}
use Rattle.c11_events.specs.Steps.{Offering, init_entries, is_init}
use Rattle.c11_events.specs.Threads.{holder}
use Rattle.c11_check.specs.declared.checked.Checked.{Checked}
use Rattle.c11_machine.specs.Programs.{program_of}
use Rattle.c11_machine.specs.Runs.{Program, Legal, OneRun}

-- the history of the one run is one that the program and the bound allow, whatever is offered
abbrev pub OneRunIsLegal : Offering → Type 0
OneRunIsLegal Offers = (program : Program) (seed bound : ℕ) (entries : List Entry) (verdict : Verdict) → OneRun Offers program seed bound entries verdict → Legal Offers program bound entries

-- each history that the program and the bound allow is consistent
abbrev pub LegalIsConsistent : Type 0
LegalIsConsistent = (program : Program) (bound : ℕ) (entries : List Entry) → Legal Offered program bound entries → Consistent (events_of entries)

-- a history of these cells: it begins with their Inits, its entries are numbered from 1, and no later one is an Init
pub record IsHistory (cells : List CellInfo) (entries : List Entry) : Type 0 where
  pub inits : take (length cells) entries ≡ init_entries cells
  pub numbered : (i : ℕ) (e : Entry) → slice_get entries i ≡ Some e → e.number ≡ i + 1
  pub steps : (i : ℕ) (e : Entry) → slice_get entries i ≡ Some e → length cells ≤ i → is_init e.op ≡ false

-- no thread of the program asks for an Init
abbrev pub AsksNoInit : Program → Type 0
AsksNoInit program = (replies : List Reply) (ask : Ask) → program.asks replies ≡ Some ask → is_init ask.op ≡ false

-- each history of a program that asks for no Init is a history of its cells, whatever is offered
abbrev pub LegalIsHistory : Offering → Type 0
LegalIsHistory Offers = (program : Program) (bound : ℕ) (entries : List Entry) → AsksNoInit program → Legal Offers program bound entries → IsHistory program.setting.atomic entries

-- in each history that the program and the bound allow a step is of a thread that is live then, whatever is offered
abbrev pub LegalIsOfLive : Offering → Type 0
LegalIsOfLive Offers = (program : Program) (bound : ℕ) (entries : List Entry) → Legal Offers program bound entries → AreOfLive (events_of entries)

-- each Lock that took its mutex found it free
abbrev pub LocksFindFree : List Entry → Type 0
LocksFindFree entries = (i mutex : ℕ) (e : Entry) → slice_get entries i ≡ Some e → e.op ≡ Lock mutex → e.reply ≡ Locked true → holder (events_of (take i entries)) mutex ≡ None

-- so it is in each history that the program and the bound allow, whatever is offered
abbrev pub LegalLocksFindFree : Offering → Type 0
LegalLocksFindFree Offers = (program : Program) (bound : ℕ) (entries : List Entry) → Legal Offers program bound entries → LocksFindFree entries

-- a checked program asks for no Init
abbrev pub CheckedAsksNoInit : Type 0
CheckedAsksNoInit = (checked : Checked) → AsksNoInit (program_of checked)

-- the one run is one: a program, a seed and a bound have one history and one verdict at most
abbrev pub OneRunIsOne : Type 0
OneRunIsOne = (program : Program) (seed bound : ℕ) (es fs : List Entry) (v w : Verdict) → OneRun Offered program seed bound es v → OneRun Offered program seed bound fs w → (es ≡ fs) × (v ≡ w)
