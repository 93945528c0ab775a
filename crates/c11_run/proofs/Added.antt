-- A history with one step more.
use Rattle.std.proofs.Common.{◌≡◌, ℕ, suc, ◌+◌, Bool, true, false, not, ◌&&◌, ◌||◌, cond, nat_eq, List, [], ◌∷◌, ◌++◌, Option, Some, None, length, map, filter, slice_get, refl, sym, ap, ◌∙◌, subst, arith, inl, inr, length-append, append-nil}
use Rattle.std.specs.Prelude.{ℤ, ◌⊎◌, sum_by}
use Rattle.std.proofs.lemmas.Bool.Decides.{eqb_tells}
use Rattle.std.proofs.lemmas.List.{map-append}
use Rattle.std.proofs.lemmas.List.Elements.{filter-append}
use Rattle.std.proofs.lemmas.List.Folds.{list_any-append}
use Rattle.std.proofs.lemmas.List.Sums.{sum_by-append, sum_by-cons}
use Rattle.c11_check.specs.declared.entity.Signature.{Signature}
use Rattle.c11_events.specs.declared.cells.CellInfo.{CellInfo}
use Rattle.c11_events.specs.declared.entry.Entry.{Entry}
use Rattle.c11_events.specs.declared.event.Event.{Event}
use Rattle.c11_events.specs.declared.op.Op.{Op}
use Rattle.c11_events.specs.declared.op.Op.TheVariants as op
use Rattle.c11_events.specs.declared.reply.Reply.{Reply}
use Rattle.c11_events.specs.declared.reply.Reply.TheVariants.{Exchanged}
use Rattle.c11_events.specs.declared.verdict.Verdict.{Verdict}
use Rattle.c11_events.specs.EventOf.{event_of, events_of, kind_of}
use Rattle.c11_events.specs.Events.{is_create, is_end}
use Rattle.c11_events.specs.Steps.{is_init, init_from, own_steps, own_replies, step_count}
use Rattle.c11_events.specs.Threads.{created, has_ended}
use Rattle.c11_events.specs.Verdicts.{LastVerdict, no_race, race, StepVerdict, by_bound, by_last, undecided, last_says, step_verdict}
use Rattle.c11_run.specs.Going.{CreatesAreNamed, NamesFunction}
use Rattle.c11_run.proofs.LegalRuns.{init_entry}
use Rattle.c11_run.proofs.Lists.{old_or_end}

abbrev pub bit : Bool → ℕ
bit b = cond b 1 0

-- ---- the replies of each thread

kept_all : {X : Type 0} (a b : Bool) (x : X) → a ≡ true → b ≡ false → cond (a && not b) (x ∷ []) [] ≡ x ∷ []
kept_all true true x is is' = absurd (let clash : true ≡ false = is' in cc)
kept_all true false x is is' = refl
kept_all false b x is is' = absurd (let clash : false ≡ true = is in cc)

kept_none : {X : Type 0} (a b : Bool) (x : X) → a ≡ false → cond (a && not b) (x ∷ []) [] ≡ []
kept_none true b x is = absurd (let clash : true ≡ false = is in cc)
kept_none false b x is = refl

same_tells : (a b : ℕ) → a ≡ b → nat_eq a b ≡ true
same_tells a b same = elim (eqb_tells a b) [ inl p ↦ p.0 | inr p ↦ absurd (p.1 same) ]

other_tells : (a b : ℕ) → (a ≡ b → ⊥) → nat_eq a b ≡ false
other_tells a b other = elim (eqb_tells a b) [ inl p ↦ absurd (other p.1) | inr p ↦ p.0 ]

module _ (entries : List Entry) (e : Entry) where
  steps_more : (u : ℕ) → own_steps (entries ++ e ∷ []) u ≡ own_steps entries u ++ own_steps (e ∷ []) u
  steps_more u = filter-append (λ (g : Entry). nat_eq g.thread u && not (is_init g.op)) entries (e ∷ [])

  replies_of : (more : List Entry) (u : ℕ) → own_steps (e ∷ []) u ≡ more → own_replies (entries ++ e ∷ []) u ≡ own_replies entries u ++ map (λ (g : Entry). g.reply) more
  replies_of more u is =
      ap (λ (es : List Entry). map (λ (g : Entry). g.reply) es) (steps_more u ∙ ap (λ (es : List Entry). own_steps entries u ++ es) is) ∙ map-append (λ (g : Entry). g.reply) (own_steps entries u) more

  pub own_more : (u : ℕ) → e.thread ≡ u → is_init e.op ≡ false → own_replies (entries ++ e ∷ []) u ≡ own_replies entries u ++ e.reply ∷ []
  own_more u is no_init = replies_of (e ∷ []) u (kept_all (nat_eq e.thread u) (is_init e.op) e (same_tells e.thread u is) no_init)

  pub other_more : (u : ℕ) → (e.thread ≡ u → ⊥) → own_replies (entries ++ e ∷ []) u ≡ own_replies entries u
  other_more u other = replies_of [] u (kept_none (nat_eq e.thread u) (is_init e.op) e (other_tells e.thread u other)) ∙ append-nil (own_replies entries u)

  -- one step more in all
  pub count_more : is_init e.op ≡ false → step_count (entries ++ e ∷ []) ≡ step_count entries + 1
  count_more no_init =
      ap length (filter-append (λ (g : Entry). not (is_init g.op)) entries (e ∷ [])) ∙ (length-append (filter (λ (g : Entry). not (is_init g.op)) entries) (filter (λ (g : Entry). not (is_init g.op)) (e ∷ []))
      ∙ ap (λ (es : List Entry). step_count entries + length es) (kept_all true (is_init e.op) e refl no_init))

-- ---- the threads

module _ (events : List Event) (f : Event) where
  pub created_more : created (events ++ f ∷ []) ≡ created events + bit (is_create f.kind)
  created_more = sum_by-append (λ (e : Event). bit (is_create e.kind)) events (f ∷ []) ∙ (let one : sum_by (λ (e : Event). bit (is_create e.kind)) (f ∷ []) ≡ bit (is_create f.kind) = omega arith in omega arith)

  ended_is : (u : ℕ) → has_ended (events ++ f ∷ []) u ≡ (has_ended events u || ((nat_eq f.thread u && is_end f.kind) || false))
  ended_is u = list_any-append (λ (e : Event). nat_eq e.thread u && is_end e.kind) events (f ∷ [])

  pub ended_less : (u : ℕ) → has_ended (events ++ f ∷ []) u ≡ false → has_ended events u ≡ false
  ended_less u is = first (has_ended events u) _ (sym (ended_is u) ∙ is)
    where
      first : (a b : Bool) → (a || b) ≡ false → a ≡ false
      first true b is = is
      first false b is = refl

  pub ended_here : (u : ℕ) → f.thread ≡ u → is_end f.kind ≡ true → has_ended (events ++ f ∷ []) u ≡ false → ⊥
  ended_here u of_thread ends is = last (has_ended events u) (nat_eq f.thread u) (is_end f.kind) (same_tells f.thread u of_thread) ends (sym (ended_is u) ∙ is)
    where
      last : (a b c : Bool) → b ≡ true → c ≡ true → (a || ((b && c) || false)) ≡ false → ⊥
      last true b c p q is = let clash : true ≡ false = is in cc
      last false true true p q is = let clash : true ≡ false = is in cc
      last false true false p q is = let clash : false ≡ true = q in cc
      last false false c p q is = let clash : false ≡ true = p in cc

  pub named_more : (functions : List Signature) → CreatesAreNamed functions events → (is_create f.kind ≡ true → NamesFunction functions f.kind) → CreatesAreNamed functions (events ++ f ∷ [])
  named_more functions named here i g at =
      by_kind (is_create f.kind) here (subst (λ (es : List Event). slice_get es i ≡ Some g) (filter-append (λ (e : Event). is_create e.kind) events (f ∷ [])) at)
    where
      by_kind : (b : Bool) → (b ≡ true → NamesFunction functions f.kind) → slice_get (filter (λ (e : Event). is_create e.kind) events ++ cond b (f ∷ []) []) i ≡ Some g → NamesFunction functions g.kind
      by_kind true here at = elim (old_or_end (filter (λ (e : Event). is_create e.kind) events) f i g at) [
        | inl old ↦ named i g old
        | inr end ↦ subst (λ (h : Event). NamesFunction functions h.kind) end.1 (here refl)
      ]
      by_kind false here at = named i g (subst (λ (es : List Event). slice_get es i ≡ Some g) (append-nil (filter (λ (e : Event). is_create e.kind) events)) at)

-- ---- the Inits

pub init_replies : (n u : ℕ) (cells : List CellInfo) → own_replies (init_from n cells) u ≡ []
init_replies n u [] = refl
init_replies n u (info ∷ cells) = no_step (nat_eq 0 u) (init_replies (suc n) u cells)
  where
    no_step : (b : Bool) → own_replies (init_from (suc n) cells) u ≡ [] → map (λ (g : Entry). g.reply) (cond (b && false) (init_entry n info ∷ own_steps (init_from (suc n) cells) u) (own_steps (init_from (suc n) cells) u)) ≡ []
    no_step true rest = rest
    no_step false rest = rest

pub init_created : (n : ℕ) (cells : List CellInfo) → created (events_of (init_from n cells)) ≡ 0
init_created n [] = refl
init_created n (info ∷ cells) = sum_by-cons (λ (e : Event). bit (is_create e.kind)) (event_of (init_entry n info)) (events_of (init_from (suc n) cells)) ∙ (let rest = init_created (suc n) cells in omega arith)

pub init_steps : (n : ℕ) (cells : List CellInfo) → step_count (init_from n cells) ≡ 0
init_steps n [] = refl
init_steps n (info ∷ cells) = init_steps (suc n) cells

pub init_named : (n : ℕ) (cells : List CellInfo) → filter (λ (e : Event). is_create e.kind) (events_of (init_from n cells)) ≡ []
init_named n [] = refl
init_named n (info ∷ cells) = init_named (suc n) cells

-- ---- kinds of events

-- what becomes a Create was asked for as one
pub create_or_not : (o : Op) (r : Reply) → (is_create (kind_of o r) ≡ false) ⊎ ((function : ℕ) × (argument : ℤ) × (o ≡ op.Create function argument))
create_or_not (op.Create function argument) r = inr (function, argument, refl)
create_or_not (op.CompareExchange cell success failure weak expected desired) (Exchanged old true) = inl refl
create_or_not (op.CompareExchange cell success failure weak expected desired) (Exchanged old false) = inl refl
create_or_not (op.CompareExchange cell success failure weak expected desired) _ = inl refl
create_or_not _ r = inl refl

-- ---- verdicts

pub says_last : (entries : List Entry) (e : Entry) → last_says (entries ++ e ∷ []) ≡ step_verdict e.thread e.op e.reply
says_last [] e = refl
says_last (f ∷ []) e = refl
says_last (f ∷ g ∷ entries) e = says_last (g ∷ entries) e

says_none : (entries : List Entry) (v : Option Verdict) → LastVerdict entries v → v ≡ None → last_says entries ≡ None
says_none entries _ (race r) is = cc
says_none entries _ (no_race n) is = is

-- where no verdict is kept, the last step says none, and the bound is not reached
pub undecided_says : (bound : ℕ) (entries : List Entry) (v : Option Verdict) → StepVerdict bound entries v → v ≡ None → (last_says entries ≡ None) × (step_count entries ≡ bound → ⊥)
undecided_says bound entries _ (by_last l) is = cc
undecided_says bound entries _ (by_bound l same) is = cc
undecided_says bound entries _ (undecided l differ) is = (says_none entries None l refl, differ)
