-- What becomes of what a source held: a program, or the text of a refusal.
use Rattle.std.specs.Prelude.{◌≡◌, ℕ, List, Option}
use Rattle.c11_check.specs.declared.checked.Checked.{Checked}
use Rattle.c11_check.specs.Checked.{IsChecked}
use Rattle.c11_report.specs.declared.refusal.Refusal.{Refusal}
use Rattle.c11_report.specs.Refusals.{refusal_bytes}
use Rattle.c11_accepts.specs.Texts.{Accepts, IsRefusedAs, longest}
use Rattle.c11_commands.specs.declared.due.Due.{Due}
use Rattle.c11_commands.specs.declared.program.Judged.{Judged}
use Rattle.c11_commands.specs.declared.program.Judged.TheVariants as judged
use Rattle.c11_commands.specs.declared.words.Status.TheVariants.{Refused}
use Rattle.c11_commands.specs.Answers.{Held, IsRead}

-- the text is accepted, as this program with its tables
pub record IsProgramOf (text : List ℕ) (checked : Checked) : Type 0 where
  pub accepted : Accepts text checked.program
  pub is : IsChecked checked.program checked

-- the bytes are those of this refusal, and the status says so
pub record IsRefusalText (refusal : Refusal) (due : Due) : Type 0 where
  pub ends : due.status ≡ Refused
  pub printed : due.text.items ≡ refusal_bytes refusal

-- what became of a text is this refusal
abbrev pub IsRefusedWith : Refusal → Judged → Type 0
IsRefusedWith refusal (judged.Accepted checked) = ⊥
IsRefusedWith refusal (judged.Refused due) = IsRefusalText refusal due

-- the text is accepted as this program; or it is refused, and the bytes say why
pub data IsJudged (text : List ℕ) : Judged → Type 0 where
  accepted : {checked : Checked} → IsProgramOf text checked → IsJudged text (judged.Accepted checked)
  refused : {refusal : Refusal} {due : Due} → IsRefusedAs text refusal → IsRefusalText refusal due → IsJudged text (judged.Refused due)

-- the source held a text, which is judged so, and stands behind it
pub record IsHeld (left now : Option (List ℕ)) (judged : Judged) : Type 0 where
  pub text : List ℕ
  pub held : Held left text
  pub read : IsRead longest text left now
  pub judges : IsJudged text judged
