-- What becomes of a text, and what is due for it.
use Rattle.std.proofs.Common.{◌≡◌, ℕ, ◌+◌, ◌≤◌, List, Option, Some, None, Result, Ok, Err, IfOk, IsTrue, ◌↔◌, length, replicate, arith, refl, subst}
use Rattle.std.proofs.lemmas.List.{length-replicate}
use Rattle.c11_io.specs.Whole.{LosesFront}
use Rattle.c11_report.specs.declared.refusal.Refusal.{Refusal}
use Rattle.c11_report.specs.Refusals.{has_place, HasSome}
use Rattle.c11_accepts.specs.declared.whole.AcceptStop.{AcceptStop}
use Rattle.c11_accepts.specs.declared.whole.AcceptStop.TheVariants as accepting
use Rattle.c11_accepts.specs.Texts.{IsStop, IsRefusedAs}
use Rattle.c11_accepts.proofs.Judging.{places_fit}
use Rattle.c11_check.specs.declared.checked.Checked.{Checked}
use Rattle.c11_commands.specs.declared.due.Due.{Due}
use Rattle.c11_commands.specs.declared.words.Status.{Status}
use Rattle.c11_commands.specs.declared.program.Judged.{Judged}
use Rattle.c11_commands.specs.declared.program.Judged.TheVariants as judged
use Rattle.c11_commands.specs.Answers.{Held, IsRead, IsDue, answered, refused as due_refused}
use Rattle.c11_commands.specs.Jobs.{program_job}
use Rattle.c11_commands.specs.Programs.{IsProgramOf, IsRefusalText, IsHeld, IsJudged, IsRefusedWith, accepted, refused}

-- what holds of a good result, weakened
pub good_as : {T E : Type 0} (r : Result T E) (P Q : T → Type 0) → ((v : T) → P v → Q v) → IfOk r P → IfOk r Q
good_as (Ok v) P Q f p = f v p
good_as (Err e) P Q f p = p

some_text : (n : ℕ) → (text : List ℕ) × (length text ≡ n)
some_text n = (replicate n 0, length-replicate n 0)

-- where more bytes were taken than the command reads, there was a text of more
pub long_text : (most : ℕ) (left now : Option (List ℕ)) → LosesFront left now (most + 1) → (text : List ℕ) × (Held left text × ((most + 1 ≤ length text) × IsRead most text left now))
long_text most None now gone = let some = some_text (most + 1) in (some.0, (tt, (omega (arith, some.1), record { long = λ more. gone; short = λ few. absurd (omega (arith, some.1)) })))
long_text most (Some all) now gone = let count = gone.0 in (all, (refl, (omega arith, record { long = λ more. gone; short = λ few. absurd (omega arith) })))

-- a stop that is a refusal is that of the text
pub stopped_so : (text : List ℕ) (stop : AcceptStop) (refusal : Refusal) → IsStop text stop → stop ≡ accepting.Refused refusal → IsRefusedAs text refusal
stopped_so text stop refusal stopped is = subst (λ (s : AcceptStop). IsStop text s) is stopped

pub fits : (text : List ℕ) (stop : AcceptStop) (refusal : Refusal) → IsStop text stop → stop ≡ accepting.Refused refusal → IsTrue (has_place refusal.word) ↔ HasSome refusal.place
fits text stop refusal stopped is = places_fit text refusal (stopped_so text stop refusal stopped is)

-- a text that is refused so is judged
pub refused_with : (text : List ℕ) (refusal : Refusal) → IsRefusedAs text refusal → (found : Judged) → IsRefusedWith refusal found → IsJudged text found
refused_with text refusal is (judged.Accepted checked) none = absurd none
refused_with text refusal is (judged.Refused due) so = refused is so

-- what is due where the text was accepted as a program, for which this is due
pub accepted_due : (answers : List ℕ → Status → List ℕ → Type 0) (left now : Option (List ℕ)) (found : Judged) (checked : Checked) → found ≡ judged.Accepted checked → IsHeld left now found
    → (status : Status) (bytes : List ℕ) → ((text : List ℕ) → IsProgramOf text checked → answers text status bytes) → IsDue (program_job answers) left now status bytes
accepted_due answers left now found checked is h status bytes given = by (judged.Accepted checked) refl (subst (λ (j : Judged). IsJudged h.text j) is h.judges)
  where
    by : (j : Judged) → j ≡ judged.Accepted checked → IsJudged h.text j → IsDue (program_job answers) left now status bytes
    by _ same (accepted {checked = other} p) =
        let at : other ≡ checked = cc in answered refl h.held h.read (given h.text (subst (λ (x : Checked). IsProgramOf h.text x) at p))
    by _ same (refused {due = due} is_refused so) = absurd (let clash : judged.Refused due ≡ judged.Accepted checked = same in cc)

-- what is due where it was refused
pub refused_due : (answers : List ℕ → Status → List ℕ → Type 0) (left now : Option (List ℕ)) (found : Judged) (due : Due) → found ≡ judged.Refused due → IsHeld left now found
    → IsDue (program_job answers) left now due.status due.text.items
refused_due answers left now found due is h = by (judged.Refused due) refl (subst (λ (j : Judged). IsJudged h.text j) is h.judges)
  where
    by : (j : Judged) → j ≡ judged.Refused due → IsJudged h.text j → IsDue (program_job answers) left now due.status due.text.items
    by _ same (accepted {checked = checked} p) = absurd (let clash : judged.Accepted checked ≡ judged.Refused due = same in cc)
    by _ same (refused {refusal = refusal} {due = other} is_refused so) =
        let at : other ≡ due = cc in
        let told : IsRefusalText refusal due = subst (λ (x : Due). IsRefusalText refusal x) at so in
        due_refused refl h.held h.read (record { refusal = refusal; refused = is_refused; ends = told.ends; printed = told.printed })
