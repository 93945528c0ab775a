-- Outcomes that ask for legal operations alone.
use Rattle.std.proofs.Common.{◌≡◌, ◌⊎◌, inl, inr, ℕ, zero, suc, ◌<◌, ◌^◌, Bool, true, false, List, [], ◌∷◌, Option, Some, None, Result, Ok, Err, refl, sym, ap, ◌∙◌, subst, arith, ℤ, pos}
use Rattle.std.specs.Prelude.{slice_get, slice_set, unsigned_abs, if◌then◌else◌}
use Rattle.std.proofs.lemmas.Int.{ints}
use Rattle.c11_num.specs.Ranges.{TypedNumber, IsInRange}
use Rattle.c11_num.specs.Wrapping.{wrapped, bits_of}
use Rattle.c11_num.specs.declared.fault.NumFault.{NumFault}
use Rattle.c11_num.specs.declared.value.CType.TheVariants.{Unsigned, Long}
use Rattle.c11_num.proofs.Wrapped.{wrapped_number}
use Rattle.c11_events.specs.declared.op.Ask.{Ask}
use Rattle.c11_events.specs.declared.op.Op.{Op}
use Rattle.c11_events.specs.declared.op.Op.TheVariants as op
use Rattle.c11_events.specs.declared.op.StopKind.{StopKind}
use Rattle.c11_events.specs.declared.op.StopKind.TheVariants as kind
use Rattle.c11_events.specs.declared.reply.Reply.{Reply}
use Rattle.c11_events.specs.declared.reply.Reply.TheVariants as reply
use Rattle.c11_meaning.specs.Outcome.{State, Outcome, Gives, Wants, Over, and_then, ask_at, with_reply, operation, told, when_done, stop, stop_of, computed, counting}
use Rattle.c11_meaning.specs.Objects.{option_number, local_at, local_value, with_local_at}
use Rattle.c11_meaning.specs.Library.{thread_of}
use Rattle.c11_meaning.specs.Legal.{World, IsThread, AreReplies, IsOpOf}

-- ---- places

set_here : {A : Type 0} (xs : List A) (p : ℕ) (x : A) → (slice_get (slice_set xs p x) p ≡ Some x) ⊎ (slice_get (slice_set xs p x) p ≡ slice_get xs p)
set_here [] p x = inr refl
set_here (y ∷ xs) zero x = inl refl
set_here (y ∷ xs) (suc p) x = set_here xs p x

set_other : {A : Type 0} (xs : List A) (p q : ℕ) (x : A) → (p ≡ q → ⊥) → slice_get (slice_set xs p x) q ≡ slice_get xs q
set_other [] p q x apart = refl
set_other (y ∷ xs) zero zero x apart = absurd (apart refl)
set_other (y ∷ xs) zero (suc q) x apart = refl
set_other (y ∷ xs) (suc p) zero x apart = refl
set_other (y ∷ xs) (suc p) (suc q) x apart = set_other xs p q x (λ same. apart (ap suc same))

same_or_apart : (p q : ℕ) → (p ≡ q) ⊎ (p ≡ q → ⊥)
same_or_apart zero zero = inl refl
same_or_apart zero (suc q) = inr (λ is. absurd (omega (arith, is)))
same_or_apart (suc p) zero = inr (λ is. absurd (omega (arith, is)))
same_or_apart (suc p) (suc q) = by (same_or_apart p q)
  where
    by : (p ≡ q) ⊎ (p ≡ q → ⊥) → (suc p ≡ suc q) ⊎ (suc p ≡ suc q → ⊥)
    by (inl is) = inl (ap suc is)
    by (inr apart) = inr (λ is. apart (omega (arith, is)))

module _ (w : World) where
  -- ---- threads

  -- the number of a thread that may be joined
  abbrev pub IsKnown : ℕ → Type 0
  IsKnown n = AreReplies w.replies → (n < 2 ^ 32) × IsThread w.replies n

  abbrev pub IsKnownAt : ℤ → Type 0
  IsKnownAt z = (n : ℕ) × ((z ≡ pos n) × IsKnown n)

  pub known_zero : IsKnownAt (pos 0)
  known_zero = (0, (refl, λ are. (omega arith, inl refl)))

  in_long : (n : ℕ) → n < 2 ^ 32 → IsInRange Long (pos n)
  in_long n less = (omega (arith, ints), omega (arith, ints, less))

  in_unsigned : (n : ℕ) → n < 2 ^ 32 → IsInRange Unsigned (pos n)
  in_unsigned n less = (omega (arith, ints), omega (arith, ints, less))

  same_bits : (n : ℕ) → n < 2 ^ 32 → bits_of Unsigned (pos n) ≡ n
  unfolding wrapped
  same_bits n less = ap unsigned_abs (wrapped_number Unsigned (pos n) (in_unsigned n less))

  -- a handle that holds such a number names that thread
  pub thread_known : (st : State) (place : ℕ) → IsKnownAt (local_at st place) → AreReplies w.replies → IsThread w.replies (thread_of (local_value Long st place))
  thread_known st place known are = let n = known.0 in let less = (known.1.1 are).0 in
      let number : (local_value Long st place).number ≡ pos n = ap (λ (z : ℤ). (wrapped Long z).number) known.1.0 ∙ wrapped_number Long (pos n) (in_long n less) in
      subst (IsThread w.replies) (sym (ap (bits_of Unsigned) number ∙ same_bits n less)) (known.1.1 are).1

  abbrev pub AllKnown : List Reply → Type 0
  AllKnown replies = (thread i : ℕ) → slice_get replies i ≡ Some (reply.Created thread) → IsKnown thread

  abbrev pub IsKnownReply : Reply → Type 0
  IsKnownReply r = (thread : ℕ) → r ≡ reply.Created thread → IsKnown thread

  -- ---- states: the places of handles, which `owners` says, hold numbers of such threads

  pub record Good (owners : List Bool) (st : State) : Type 0 where
    pub handles : (p : ℕ) → slice_get owners p ≡ Some true → IsKnownAt (local_at st p)
    pub replies : AllKnown st.replies

  pub good_turns : (owners : List Bool) (st : State) (n : ℕ) → Good owners st → Good owners (record st { turns = n })
  good_turns owners st n good = record { handles = good.handles; replies = good.replies }

  written : (owners : List Bool) (st : State) (place p : ℕ) (z : ℤ) → Good owners st → ((p ≡ place) → IsKnownAt z) → slice_get owners p ≡ Some true → IsKnownAt (local_at (with_local_at st place z) p)
  written owners st place p z good here is = by (same_or_apart place p)
    where
      at_same : (place ≡ p) → (slice_get (slice_set st.locals p z) p ≡ Some z) ⊎ (slice_get (slice_set st.locals p z) p ≡ slice_get st.locals p) → IsKnownAt (local_at (with_local_at st place z) p)
      at_same same (inl e) = subst IsKnownAt (sym (ap (λ (q : ℕ). option_number (slice_get (slice_set st.locals q z) p)) same ∙ ap option_number e)) (here (sym same))
      at_same same (inr e) = subst IsKnownAt (sym (ap (λ (q : ℕ). option_number (slice_get (slice_set st.locals q z) p)) same ∙ ap option_number e)) (good.handles p is)

      by : (place ≡ p) ⊎ (place ≡ p → ⊥) → IsKnownAt (local_at (with_local_at st place z) p)
      by (inl same) = at_same same (set_here st.locals p z)
      by (inr apart) = subst IsKnownAt (sym (ap option_number (set_other st.locals place p z apart))) (good.handles p is)

  -- what is no handle may hold anything
  pub good_local : (owners : List Bool) (st : State) (place : ℕ) (z : ℤ) → slice_get owners place ≡ Some false → Good owners st → Good owners (with_local_at st place z)
  good_local owners st place z local good = record {
    handles = λ p is. written owners st place p z good (λ same. absurd (no_both (slice_get owners p) is (ap (slice_get owners) same ∙ local))) is;
    replies = good.replies;
  }
    where
      no_both : (o : Option Bool) → o ≡ Some true → o ≡ Some false → ⊥
      no_both None one other = cc
      no_both (Some true) one other = cc
      no_both (Some false) one other = cc

  -- a place may hold the number of such a thread
  pub good_handle : (owners : List Bool) (st : State) (place : ℕ) (z : ℤ) → IsKnownAt z → Good owners st → Good owners (with_local_at st place z)
  good_handle owners st place z known good = record { handles = λ p is. written owners st place p z good (λ same. known) is; replies = good.replies }

  -- ---- outcomes

  -- what is asked for is legal, and what is given is this
  pub data Fine {A : Type 0} (Q : A → State → Type 0) : Outcome A → Type 0 where
    gives : {a : A} {st : State} → Q a st → Fine Q (Gives a st)
    wants : {ask : Ask} → IsOpOf w ask.op → Fine Q (Wants ask)
    over : Fine Q Over

  pub fine_bind : {A B : Type 0} {Q : A → State → Type 0} {R : B → State → Type 0} {o : Outcome A} {f : A → State → Outcome B} → Fine Q o → ((a : A) (st : State) → Q a st → Fine R (f a st)) → Fine R (and_then o f)
  unfolding and_then
  fine_bind (gives {a = a} {st = st} q) rest = rest a st q
  fine_bind (wants is) rest = wants is
  fine_bind over rest = over

  pub fine_more : {A : Type 0} {Q R : A → State → Type 0} {o : Outcome A} → ((a : A) (st : State) → Q a st → R a st) → Fine Q o → Fine R o
  fine_more more (gives {a = a} {st = st} q) = gives (more a st q)
  fine_more more (wants is) = wants is
  fine_more more over = over

  pub fine_asks : {A : Type 0} (Q : A → State → Type 0) (ask : Ask) (locals : List ℤ) (replies : List Reply) (go : Reply → State → Outcome A) → IsOpOf w ask.op → AllKnown replies
      → ((r : Reply) (after : State) → after.locals ≡ locals → AllKnown after.replies → IsKnownReply r → Fine Q (go r after)) → Fine Q (with_reply ask locals replies go)
  unfolding with_reply
  fine_asks Q ask locals [] go legal known rest = wants legal
  fine_asks Q ask locals (r ∷ rs) go legal known rest = rest r _ refl (λ thread i is. known thread (suc i) is) (λ thread is. known thread 0 (ap Some is))

  pub fine_operation : {A : Type 0} (owners : List Bool) (Q : A → State → Type 0) (line : ℕ) (o : Op) (st : State) (go : Reply → State → Outcome A) → IsOpOf w o → Good owners st
      → ((r : Reply) (after : State) → Good owners after → IsKnownReply r → Fine Q (go r after)) → Fine Q (operation line o st go)
  fine_operation owners Q line o st go legal good rest = fine_asks Q (ask_at line o) st.locals st.replies go legal good.replies
      (λ r after same known is. rest r after (record { handles = λ p own. subst IsKnownAt (ap (λ (xs : List ℤ). option_number (slice_get xs p)) (sym same)) (good.handles p own); replies = known }) is)

  -- the state is good
  abbrev pub Keeps : {A : Type 0} → List Bool → A → State → Type 0
  Keeps owners a st = Good owners st

  pub fine_stop : {A : Type 0} (Q : A → State → Type 0) (line : ℕ) (k : StopKind) (st : State) → AllKnown st.replies → Fine Q (stop {A = A} line k st)
  fine_stop Q line k st known = fine_asks Q (ask_at line (op.Stop k)) st.locals st.replies _ tt known (λ r after same rest is. over)

  pub fine_counting : {A : Type 0} (owners : List Bool) (Q : A → State → Type 0) (n line : ℕ) (st : State) (go : State → Outcome A) → Good owners st
      → ((m : ℕ) → Fine Q (go (record st { turns = m }))) → Fine Q (counting n line st go)
  unfolding counting
  fine_counting owners Q zero line st go good rest = fine_stop Q line kind.Local st good.replies
  fine_counting owners Q (suc n) line st go good rest = rest n

  pub fine_computed : (owners : List Bool) (line : ℕ) (r : Result TypedNumber NumFault) (st : State) → Good owners st → Fine (Keeps owners) (computed line r st)
  unfolding computed
  fine_computed owners line (Ok value) st good = gives good
  fine_computed owners line (Err fault) st good = fine_stop (Keeps owners) line (stop_of fault) st good.replies

  pub fine_told : (owners : List Bool) (r : Reply) (st : State) → Good owners st → Fine (Keeps owners) (told r st)
  fine_told owners (reply.Value value) st good = gives good
  fine_told owners reply.Done st good = over
  fine_told owners (reply.Exchanged old success) st good = over
  fine_told owners (reply.Locked mine) st good = over
  fine_told owners (reply.Created thread) st good = over
  fine_told owners (reply.Began function argument) st good = over
  fine_told owners (reply.Joined value) st good = over
  fine_told owners (reply.Fault fault) st good = over

  pub fine_done : (owners : List Bool) (value : TypedNumber) (r : Reply) (st : State) → Good owners st → Fine (Keeps owners) (when_done value r st)
  fine_done owners value reply.Done st good = gives good
  fine_done owners value (reply.Value v) st good = over
  fine_done owners value (reply.Exchanged old success) st good = over
  fine_done owners value (reply.Locked mine) st good = over
  fine_done owners value (reply.Created thread) st good = over
  fine_done owners value (reply.Began function argument) st good = over
  fine_done owners value (reply.Joined v) st good = over
  fine_done owners value (reply.Fault fault) st good = over

  pub fine_if : {A : Type 0} {Q : A → State → Type 0} {a b : Outcome A} (t : Bool) → Fine Q a → Fine Q b → Fine Q (if t then a else b)
  fine_if true one other = one
  fine_if false one other = other
