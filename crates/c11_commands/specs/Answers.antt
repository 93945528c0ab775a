-- What an answer of a command tells, for any command.
use Rattle.std.specs.Prelude.{◌≡◌, ◌≢◌, ◌⊎◌, ◌+◌, ◌<◌, ◌≤◌, ℕ, true, false, IsTrue, List, [], Option, Some, None, IfSome, length}
use Rattle.std.specs.Io.KnownBytes.{Appends, IsAtEnd}
use Rattle.c11_io.specs.Causes.{Rose}
use Rattle.c11_io.specs.Whole.{AppendsPart, LosesFront, OneRose}
use Rattle.c11_report.specs.declared.refusal.Refusal.{Refusal}
use Rattle.c11_report.specs.Refusals.{refusal_bytes}
use Rattle.c11_commands.specs.declared.due.DueStop.{DueStop}
use Rattle.c11_commands.specs.declared.due.DueStop.TheVariants as stop
use Rattle.c11_commands.specs.declared.words.Status.{Status}
use Rattle.c11_commands.specs.declared.words.Status.TheVariants.{Refused, ReadFault, WriteFault, NoMemory}
use Rattle.c11_commands.specs.Statuses.{IsWhole, IsAnswer}
use Rattle.c11_commands.specs.Jobs.{Job}

-- ---- what is due

-- the source held this text, where it tells what it held
abbrev pub Held : Option (List ℕ) → List ℕ → Type 0
Held left text = IfSome left (λ all. text ≡ all)

-- the text is refused, and the bytes say why
pub record IsRefusalOf (job : Job) (text : List ℕ) (status : Status) (bytes : List ℕ) : Type 0 where
  pub refusal : Refusal
  pub refused : job.refuses text refusal
  pub ends : status ≡ Refused
  pub printed : bytes ≡ refusal_bytes refusal

-- where the source stands after a text: of one that is too long one byte more was taken than the command reads, any other is read to its end
pub record IsRead (most : ℕ) (text : List ℕ) (left now : Option (List ℕ)) : Type 0 where
  pub long : most < length text → LosesFront left now (most + 1)
  pub short : length text ≤ most → IsAtEnd now

-- the bytes are due, with this status: of a command that reads nothing, or for what the source held
pub data IsDue (job : Job) (left now : Option (List ℕ)) (status : Status) (bytes : List ℕ) : Type 0 where
  alone : job.reads ≡ false → job.answers [] status bytes → IsDue job left now status bytes
  answered : {text : List ℕ} → job.reads ≡ true → Held left text → IsRead job.most text left now → job.answers text status bytes → IsDue job left now status bytes
  refused : {text : List ℕ} → job.reads ≡ true → Held left text → IsRead job.most text left now → IsRefusalOf job text status bytes → IsDue job left now status bytes

-- ---- what is written

-- what was due was written whole
pub record PrintsWhole (job : Job) (left now : Option (List ℕ)) (status : Status) (before after : Option (List ℕ)) : Type 0 where
  pub bytes : List ℕ
  pub due : IsDue job left now status bytes
  pub written : Appends before after bytes

-- a part of what was due was written, but not all
pub record PrintsPart (job : Job) (left now : Option (List ℕ)) (before after : Option (List ℕ)) : Type 0 where
  pub status : Status
  pub bytes : List ℕ
  pub due : IsDue job left now status bytes
  pub part : AppendsPart before after bytes

-- the text was written whole, and the status answered; or a write failed, and a part was written
pub data Writes (before after : Option (List ℕ)) (faults faults' empties empties' : ℕ) (bytes : List ℕ) (status : Status) : Status → Type 0 where
  whole : Appends before after bytes → faults' ≡ faults → empties' ≡ empties → Writes before after faults faults' empties empties' bytes status status
  part : AppendsPart before after bytes → OneRose faults faults' empties empties' → Writes before after faults faults' empties empties' bytes status WriteFault

-- a fault of the source only where its count of faults rose; want of memory leaves it
abbrev pub HasDueCause : ℕ → ℕ → DueStop → Type 0
HasDueCause before now stop.Fault = Rose before now
HasDueCause before now stop.NoMemory = now ≡ before

-- ---- what is answered

-- What a command answers, and what it did to the source and the sink. What they tell of themselves is given first.
pub record Answers {S K : Type 0} (left : S → Option (List ℕ)) (read_faults : S → ℕ) (taken : K → Option (List ℕ)) (faults empties : K → ℕ)
    (job : Job) (source source' : S) (sink sink' : K) (status : Status) : Type 0 where
  -- the headline: with each of these statuses what is due was written whole
  pub headline : IsWhole status → PrintsWhole job (left source) (left source') status (taken sink) (taken sink')
  -- the faults, with what was written then
  pub read_fault : status ≡ ReadFault → IsTrue job.reads × Rose (read_faults source) (read_faults source') × (sink' ≡ sink)
  pub write_fault : status ≡ WriteFault
      → OneRose (faults sink) (faults sink') (empties sink) (empties sink') × PrintsPart job (left source) (left source') (taken sink) (taken sink')
  pub no_memory : status ≡ NoMemory → IsTrue job.takes × (sink' ≡ sink)
  -- no other answer comes with a fault, and a command that reads nothing leaves the source as it was
  pub source_kept : status ≢ ReadFault → read_faults source' ≡ read_faults source
  pub sink_kept : status ≢ WriteFault → (faults sink' ≡ faults sink) × (empties sink' ≡ empties sink)
  pub unread : job.reads ≡ false → source' ≡ source
  -- where nothing fails, what the source held, if the command reads it, gets its answer or its refusal, if there is memory
  pub complete : (text : List ℕ) → (IsTrue job.reads → left source ≡ Some text) → ((refusal : Refusal) → job.refuses text refusal → ⊥)
      → (Rose (read_faults source) (read_faults source') → ⊥) → (Rose (faults sink) (faults sink') → ⊥) → (Rose (empties sink) (empties sink') → ⊥)
      → IsAnswer status ⊎ (status ≡ NoMemory)
  pub refuses : (text : List ℕ) (refusal : Refusal) → left source ≡ Some text → job.refuses text refusal
      → (Rose (read_faults source) (read_faults source') → ⊥) → (Rose (faults sink) (faults sink') → ⊥) → (Rose (empties sink) (empties sink') → ⊥)
      → (status ≡ Refused) ⊎ (status ≡ NoMemory)

-- the same of a command that reads nothing, where no source is at hand
abbrev pub AnswersAlone : {K : Type 0} → (K → Option (List ℕ)) → (K → ℕ) → (K → ℕ) → Job → K → K → Status → Type 0
AnswersAlone taken faults empties job sink sink' status =
    Answers {S = Unit {0}} (λ nothing. None) (λ nothing. 0) taken faults empties job tt tt sink sink' status
