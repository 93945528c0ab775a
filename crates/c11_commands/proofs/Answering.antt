-- What an answer says of what was written.
use Rattle.std.proofs.Common.{◌≡◌, ℕ, Bool, true, false, List, Option, Some, None, IsTrue, arith, refl, sym, ◌∙◌, subst, inl, inr}
use Rattle.c11_io.specs.Causes.{Rose}
use Rattle.c11_report.specs.declared.refusal.Refusal.{Refusal}
use Rattle.c11_commands.specs.declared.words.Status.{Status}
use Rattle.c11_commands.specs.declared.words.Status.TheVariants.{Done, Found, Bound, Refused, Usage, ReadFault, WriteFault, NoMemory}
use Rattle.c11_commands.specs.Statuses.{IsWhole, IsAnswer}
use Rattle.c11_commands.specs.Jobs.{Job, usage_job}
use Rattle.c11_commands.specs.Answers.{Held, IsDue, alone, answered, refused, Writes, whole, part, Answers, AnswersAlone}

-- what a command must be for its answers to be told apart: it answers with statuses of answers, and nothing that it refuses
pub record IsGood (job : Job) : Type 0 where
  pub ends : (text : List ℕ) (status : Status) (bytes : List ℕ) → job.answers text status bytes → IsAnswer status
  pub apart : (text : List ℕ) (status : Status) (bytes : List ℕ) (refusal : Refusal) → job.answers text status bytes → job.refuses text refusal → ⊥

whole_of : (status : Status) → IsAnswer status → IsWhole status
whole_of Done is = tt
whole_of Found is = tt
whole_of Bound is = tt
whole_of Usage is = tt
whole_of Refused is = absurd is
whole_of ReadFault is = absurd is
whole_of WriteFault is = absurd is
whole_of NoMemory is = absurd is

module _ (job : Job) (good : IsGood job) where
  due_whole : (left now : Option (List ℕ)) (status : Status) (bytes : List ℕ) → IsDue job left now status bytes → IsWhole status
  due_whole left now status bytes (alone reads a) = whole_of status (good.ends _ status bytes a)
  due_whole left now status bytes (answered reads held read a) = whole_of status (good.ends _ status bytes a)
  due_whole left now status bytes (refused reads held read r) = subst IsWhole (sym r.ends) tt

  -- a status that comes with no whole text is that of no text that is due
  no_due : (left now : Option (List ℕ)) (status other : Status) (bytes : List ℕ) → IsDue job left now status bytes → (IsWhole other → ⊥) → status ≡ other → ⊥
  no_due left now status other bytes due out is = out (subst IsWhole is (due_whole left now status bytes due))

  due_answer : (text : List ℕ) (left now : Option (List ℕ)) (status : Status) (bytes : List ℕ) → IsDue job left now status bytes → (IsTrue job.reads → left ≡ Some text) → ((refusal : Refusal) → job.refuses text refusal → ⊥) → IsAnswer status
  due_answer text left now status bytes (alone reads a) held none = good.ends _ status bytes a
  due_answer text left now status bytes (answered reads held' read a) held none = good.ends _ status bytes a
  due_answer text left now status bytes (refused {text = other} reads held' read r) held none =
      let same : other ≡ text = subst (λ (l : Option (List ℕ)). Held l other) (held reads) held' in
      absurd (none r.refusal (subst (λ (t : List ℕ). job.refuses t r.refusal) same r.refused))

  due_refused : (text : List ℕ) (refusal : Refusal) (left now : Option (List ℕ)) (status : Status) (bytes : List ℕ) → IsTrue job.reads → IsDue job left now status bytes → left ≡ Some text → job.refuses text refusal → status ≡ Refused
  due_refused text refusal left now status bytes reading (alone reads a) held is = absurd (let clash : true ≡ false = sym reading ∙ reads in cc)
  due_refused text refusal left now status bytes reading (answered {text = other} reads held' read a) held is =
      let same : other ≡ text = subst (λ (l : Option (List ℕ)). Held l other) held held' in
      absurd (good.apart text status bytes refusal (subst (λ (t : List ℕ). job.answers t status bytes) same a) is)
  due_refused text refusal left now status bytes reading (refused reads held' read r) held is = r.ends

  module _ {S K : Type 0} (left : S → Option (List ℕ)) (read_faults : S → ℕ) (taken : K → Option (List ℕ)) (faults empties : K → ℕ) (source source' : S) (sink sink' : K) where
    abbrev A : Status → Type 0
    A = Answers left read_faults taken faults empties job source source' sink sink'

    -- what is due was made, and then written, or a part of it
    pub printed : (status : Status) (bytes : List ℕ) → IsDue job (left source) (left source') status bytes → read_faults source' ≡ read_faults source → (job.reads ≡ false → source' ≡ source)
        → (job.reads ≡ false → (text : List ℕ) (refusal : Refusal) → job.refuses text refusal → ⊥)
        → (result : Status) → Writes (taken sink) (taken sink') (faults sink) (faults sink') (empties sink) (empties sink') bytes status result → A result
    printed status bytes due kept unread idle _ (whole a f e) = record {
      headline = λ is. record { bytes = bytes; due = due; written = a };
      read_fault = λ is. absurd (no_due (left source) (left source') status ReadFault bytes due (λ x. x) is);
      write_fault = λ is. absurd (no_due (left source) (left source') status WriteFault bytes due (λ x. x) is);
      no_memory = λ is. absurd (no_due (left source) (left source') status NoMemory bytes due (λ x. x) is);
      source_kept = λ not. kept;
      sink_kept = λ not. (f, e);
      unread = unread;
      complete = λ text held none no_read no_fault no_empty. inl (due_answer text (left source) (left source') status bytes due held none);
      refuses = λ text refusal held is no_read no_fault no_empty. inl (by_reads job.reads refl text refusal held is);
    }
      where
        by_reads : (b : Bool) → job.reads ≡ b → (text : List ℕ) (refusal : Refusal) → left source ≡ Some text → job.refuses text refusal → status ≡ Refused
        by_reads true reads text refusal held is = due_refused text refusal (left source) (left source') status bytes reads due held is
        by_reads false reads text refusal held is = absurd (idle reads text refusal is)
    printed status bytes due kept unread idle _ (part a o) = record {
      headline = λ is. absurd is;
      read_fault = λ is. absurd (let clash : WriteFault ≡ ReadFault = is in cc);
      write_fault = λ is. (o, record { status = status; bytes = bytes; due = due; part = a });
      no_memory = λ is. absurd (let clash : WriteFault ≡ NoMemory = is in cc);
      source_kept = λ not. kept;
      sink_kept = λ not. absurd (not refl);
      unread = unread;
      complete = λ text held none no_read no_fault no_empty. absurd (risen no_fault no_empty);
      refuses = λ text refusal held is no_read no_fault no_empty. absurd (risen no_fault no_empty);
    }
      where
        risen : (Rose (faults sink) (faults sink') → ⊥) → (Rose (empties sink) (empties sink') → ⊥) → ⊥
        risen no_fault no_empty = elim o [
          | inl p ↦ no_fault p.0
          | inr p ↦ no_empty p.1
        ]

    -- the source failed, and nothing was written
    pub unreadable : IsTrue job.reads → Rose (read_faults source) (read_faults source') → sink' ≡ sink → A ReadFault
    unreadable reads rose same = record {
      headline = λ is. absurd is;
      read_fault = λ is. (reads, rose, same);
      write_fault = λ is. absurd (let clash : ReadFault ≡ WriteFault = is in cc);
      no_memory = λ is. absurd (let clash : ReadFault ≡ NoMemory = is in cc);
      source_kept = λ not. absurd (not refl);
      sink_kept = λ not. (subst (λ (k : K). faults k ≡ faults sink) (sym same) refl, subst (λ (k : K). empties k ≡ empties sink) (sym same) refl);
      unread = λ none. absurd (let clash : true ≡ false = sym reads ∙ none in cc);
      complete = λ text held none no_read no_fault no_empty. absurd (no_read rose);
      refuses = λ text refusal held is no_read no_fault no_empty. absurd (no_read rose);
    }

    -- there was no memory, and nothing was written
    pub wanting : IsTrue job.takes → read_faults source' ≡ read_faults source → (job.reads ≡ false → source' ≡ source) → sink' ≡ sink → A NoMemory
    wanting takes kept unread same = record {
      headline = λ is. absurd is;
      read_fault = λ is. absurd (let clash : NoMemory ≡ ReadFault = is in cc);
      write_fault = λ is. absurd (let clash : NoMemory ≡ WriteFault = is in cc);
      no_memory = λ is. (takes, same);
      source_kept = λ not. kept;
      sink_kept = λ not. (subst (λ (k : K). faults k ≡ faults sink) (sym same) refl, subst (λ (k : K). empties k ≡ empties sink) (sym same) refl);
      unread = unread;
      complete = λ text held none no_read no_fault no_empty. inr refl;
      refuses = λ text refusal held is no_read no_fault no_empty. inr refl;
    }

pub good_usage : (status : Status) → IsAnswer status → IsGood (usage_job status)
good_usage status is = record {
  ends = λ text other bytes p. subst IsAnswer (sym p.0) is;
  apart = λ text other bytes refusal p none. none;
}

-- what is due of a command that reads nothing is due beside any source
due_beside : (job : Job) → job.reads ≡ false → (left now left' now' : Option (List ℕ)) (status : Status) (bytes : List ℕ) → IsDue job left now status bytes → IsDue job left' now' status bytes
due_beside job none left now left' now' status bytes (alone reads a) = alone reads a
due_beside job none left now left' now' status bytes (answered reads held read a) = absurd (let clash : true ≡ false = sym reads ∙ none in cc)
due_beside job none left now left' now' status bytes (refused reads held read r) = absurd (let clash : true ≡ false = sym reads ∙ none in cc)

no_rise : Rose 0 0 → ⊥
no_rise rose = omega (arith, rose)

-- what a command that reads nothing answers is the same beside any source, which it leaves as it was
pub beside : {S K : Type 0} (left : S → Option (List ℕ)) (read_faults : S → ℕ) (taken : K → Option (List ℕ)) (faults empties : K → ℕ) (job : Job) → job.reads ≡ false
    → ((text : List ℕ) (refusal : Refusal) → job.refuses text refusal → ⊥) → (source : S) (sink sink' : K) (status : Status)
    → AnswersAlone taken faults empties job sink sink' status → Answers left read_faults taken faults empties job source source sink sink' status
beside left read_faults taken faults empties job none idle source sink sink' status a = record {
  headline = λ is. (let p = a.headline is in record { bytes = p.bytes; due = due_beside job none None None (left source) (left source) status p.bytes p.due; written = p.written });
  read_fault = λ is. absurd (let clash : true ≡ false = sym (a.read_fault is).0 ∙ none in cc);
  write_fault = λ is. (let f = a.write_fault is in
      (f.0, record { status = f.1.status; bytes = f.1.bytes; due = due_beside job none None None (left source) (left source) f.1.status f.1.bytes f.1.due; part = f.1.part }));
  no_memory = a.no_memory;
  source_kept = λ not. refl;
  sink_kept = a.sink_kept;
  unread = λ no. refl;
  complete = λ text held no_refusal no_read no_fault no_empty. a.complete text (λ reads. absurd (let clash : true ≡ false = sym reads ∙ none in cc)) no_refusal no_rise no_fault no_empty;
  refuses = λ text refusal held is no_read no_fault no_empty. absurd (idle text refusal is);
}
