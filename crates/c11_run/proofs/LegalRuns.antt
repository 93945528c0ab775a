-- The one run is legal, and legal histories are consistent and histories of their cells.
use Rattle.std.proofs.Common.{◌≡◌, ℕ, zero, suc, ◌+◌, ◌≤◌, false, List, [], ◌∷◌, Some, length, slice_get, take, refl, sym, ap, ◌∙◌, arith, inl, inr, length-append}
use Rattle.std.proofs.Math.Seq.{take-length}
use Rattle.std.proofs.lemmas.List.{take-append-le}
use Rattle.c11_events.specs.declared.cells.CellInfo.{CellInfo}
use Rattle.c11_events.specs.declared.op.Op.{Op}
use Rattle.c11_events.specs.declared.op.Op.TheVariants as op
use Rattle.c11_events.specs.declared.reply.Reply.TheVariants.{Done}
use Rattle.c11_events.specs.declared.entry.Entry.{Entry}
use Rattle.c11_events.specs.Steps.{Offering, is_init, init_from, init_entries}
use Rattle.c11_events.proofs.Histories.{inits_consistent, step_consistent}
use Rattle.c11_check.specs.Lies.{signatures_in}
use Rattle.c11_check.specs.Tables.{tables_of}
use Rattle.c11_meaning.specs.Legal.{AsksAreLegal, IsOpOf, World}
use Rattle.c11_machine.specs.Runs.{Program, Legal, start, more, OnTheWay, begins, goes}
use Rattle.c11_run.proofs.Lists.{no_later, old_or_end}
use Rattle.c11_run.specs.Laws.{OneRunIsLegal, LegalIsConsistent, LegalIsHistory, CheckedAsksNoInit}

pub way_legal : (Offers : Offering) (program : Program) (seed bound k : ℕ) (entries : List Entry) → OnTheWay Offers program seed bound k entries → Legal Offers program bound entries
way_legal Offers program seed bound _ _ begins = start
way_legal Offers program seed bound _ _ (goes k entries e way legal c) = more entries e (way_legal Offers program seed bound k entries way) legal

pub run_legal : (Offers : Offering) → OneRunIsLegal Offers
run_legal Offers program seed bound entries verdict run = way_legal Offers program seed bound run.words entries run.way

pub legal_consistent : LegalIsConsistent
legal_consistent program bound _ start = inits_consistent program.setting.atomic
legal_consistent program bound _ (more entries e before legal) = step_consistent program.setting entries e.thread legal.ask e (legal_consistent program bound entries before) legal.step

pub length-inits : (n : ℕ) (cells : List CellInfo) → length (init_from n cells) ≡ length cells
length-inits n [] = refl
length-inits n (info ∷ cells) = ap suc (length-inits (suc n) cells)

-- the Init of a cell
abbrev pub init_entry : ℕ → CellInfo → Entry
init_entry n info = record { number = n + 1; thread = 0; line = 0; op = op.Init n info.initial; reply = Done; from = 0; offered = [] }

inits_numbered : (n : ℕ) (cells : List CellInfo) (i : ℕ) (e : Entry) → slice_get (init_from n cells) i ≡ Some e → e.number ≡ n + i + 1
inits_numbered n [] i e at = cc
inits_numbered n (info ∷ cells) zero e at =
    let same : init_entry n info ≡ e = cc in
    let number : n + 1 ≡ e.number = ap (λ (f : Entry). f.number) same in
    omega arith
inits_numbered n (info ∷ cells) (suc i) e at = omega (arith, inits_numbered (suc n) cells i e at)

pub legal_longer : (Offers : Offering) (program : Program) (bound : ℕ) (entries : List Entry) → Legal Offers program bound entries → length program.setting.atomic ≤ length entries
legal_longer Offers program bound _ start = omega (arith, length-inits 0 program.setting.atomic)
legal_longer Offers program bound _ (more entries e before legal) = omega (arith, length-append entries (e ∷ []), legal_longer Offers program bound entries before)

pub legal_history : (Offers : Offering) → LegalIsHistory Offers
legal_history Offers program bound _ no_init start = record {
  inits = ap (λ (n : ℕ). take n (init_entries program.setting.atomic)) (sym (length-inits 0 program.setting.atomic)) ∙ take-length (init_entries program.setting.atomic);
  numbered = λ i e at. omega (arith, inits_numbered 0 program.setting.atomic i e at);
  steps = λ i e at le. absurd (no_later (init_entries program.setting.atomic) i e (omega (arith, length-inits 0 program.setting.atomic)) at);
}
legal_history Offers program bound _ no_init (more entries e before legal) =
    let history = legal_history Offers program bound entries no_init before in
    record {
      inits = take-append-le (length program.setting.atomic) entries (e ∷ []) (legal_longer Offers program bound entries before) ∙ history.inits;
      numbered = λ i f at. elim (old_or_end entries e i f at) [
        | inl old ↦ history.numbered i f old
        | inr end ↦ ap (λ (g : Entry). g.number) (sym end.1) ∙ (legal.step.number ∙ ap (λ (n : ℕ). n + 1) (sym end.0))
      ];
      steps = λ i f at le. elim (old_or_end entries e i f at) [
        | inl old ↦ history.steps i f old le
        | inr end ↦ ap (λ (g : Entry). is_init g.op) (sym end.1) ∙ (ap is_init legal.step.op ∙ no_init _ legal.ask legal.asked)
      ];
    }

-- an operation on cells of the program is no Init
legal_no_init : (w : World) (o : Op) → IsOpOf w o → is_init o ≡ false
legal_no_init w (op.Init cell value) legal = absurd legal
legal_no_init w _ legal = refl

pub checked_asks_no_init : AsksAreLegal → CheckedAsksNoInit
checked_asks_no_init law checked replies ask is =
    legal_no_init (record { tables = tables_of checked.program; functions = signatures_in checked.program.items; replies = replies }) ask.op (law checked.program replies ask checked.few checked.faultless is)
