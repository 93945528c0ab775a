-- The steps of a reading, and single tokens.
use Rattle.std.proofs.Common.{◌≡◌, ◌<◌, ◌≤◌, ◌+◌, ◌∷◌, ◌++◌, ◌∙◌, ◌==◌, [], if◌then◌else◌, Bool, List, None, Option, Some, ap, arith, false, length, refl, subst, suc, sym, true, zero, ℕ}
use Rattle.c11_ast.specs.declared.expr.Infix.{Infix}
use Rattle.c11_ast.specs.declared.place.Spot.{Spot}
use Rattle.c11_ast.specs.declared.place.Word.{Word}
use Rattle.c11_grammar.specs.Laws.{Complete, Holds, Sound, binds, finds, nothing, sort_strength, strength, strength_by}
use Rattle.c11_grammar.specs.Reading.{◌>>=◌, Out, and_then, commas, given, literal, literal_sort, name, name_sort, see, see_sort, seen, skip, spot_of, take, text, text_sort}
use Rattle.c11_grammar.specs.Tokens.{Begins, Commas, Counted, Free, MayTake, Named, Quoted, Sees, Takes, Tokens, begins, counted, exactly, infix_at, infix_of, named, of_level, quoted, sees, set_of, step_of, takes}
use Rattle.c11_grammar.specs.contracts.token.Mark.{the_type}
use Rattle.c11_grammar.specs.declared.token.Mark.{Mark}
use Rattle.c11_grammar.specs.declared.token.Sort.{Sort}
use Rattle.c11_num.specs.Ranges.{TypedNumber}
use Rattle.c11_num.specs.declared.kind.BinaryOp.{BinaryOp}
use Rattle.std.proofs.lemmas.List.{append_assoc}
use denote.Enum.Bare.{same_true, sameb, true_same}
use Rattle.c11_grammar.specs.declared.token.Mark.TheVariants as m
use Rattle.c11_grammar.specs.declared.token.Sort.TheVariants as sort
use Rattle.c11_grammar.specs.Tokens as tk

-- ---- what is read is there

bind_holds : {A B : Type 0} {P : A → Type 0} (Q : B → Type 0) (f : A → Option B) (o : Option A) → Holds P o
    → ((x : A) → P x → Holds Q (f x)) → Holds Q (o >>= f)
unfolding and_then
bind_holds Q f None h k = nothing
bind_holds Q f (Some x) (finds h) k = k x h

pub holds_bind : {A B : Type 0} {P : A → Type 0} {Q : B → Type 0} {f : A → Option B} {o : Option A} → Holds P o
    → ((x : A) → P x → Holds Q (f x)) → Holds Q (o >>= f)
holds_bind {Q = Q} {f = f} {o = o} h k = bind_holds Q f o h k

given_holds : {A B : Type 0} {P : A → Type 0} (Q : B → Type 0) (other : Option B) (f : A → Option B) (o : Option A) → Holds P o
    → Holds Q other → ((x : A) → P x → Holds Q (f x)) → Holds Q (given o other f)
unfolding given
given_holds Q other f None h n k = n
given_holds Q other f (Some x) (finds h) n k = k x h

pub holds_given : {A B : Type 0} {P : A → Type 0} {Q : B → Type 0} {other : Option B} {f : A → Option B} {o : Option A} → Holds P o
    → Holds Q other → ((x : A) → P x → Holds Q (f x)) → Holds Q (given o other f)
holds_given {Q = Q} {other = other} {f = f} {o = o} h n k = given_holds Q other f o h n k

pub weaken : {A : Type 0} {P Q : A → Type 0} {o : Option A} → Holds P o → ((x : A) → P x → Q x) → Holds Q o
weaken nothing k = nothing
weaken (finds h) k = finds (k _ h)

seen_sound : {A : Type 0} (what : Mark → Option A) (mark : Mark) (o : Option A) (spot : Spot) (rest : Tokens) → what mark ≡ o
    → Holds (λ x. Sees what (record { sort = sort.Mark mark; spot = spot } ∷ rest) x.0.0 x.0.1 x.1) (seen o spot rest)
seen_sound what mark None spot rest is = nothing
seen_sound what mark (Some a) spot rest is = finds (sees is)

see_sort_sound : {A : Type 0} (what : Mark → Option A) (s : Sort) (spot : Spot) (rest : Tokens)
    → Holds (λ x. Sees what (record { sort = s; spot = spot } ∷ rest) x.0.0 x.0.1 x.1) (see_sort what s spot rest)
see_sort_sound what (sort.Mark mark) spot rest = seen_sound what mark (what mark) spot rest refl
see_sort_sound what (sort.Name n) spot rest = nothing
see_sort_sound what (sort.Literal n) spot rest = nothing
see_sort_sound what (sort.Text n) spot rest = nothing
see_sort_sound what sort.Reserved spot rest = nothing

pub see_sound : {A : Type 0} (what : Mark → Option A) (ts : Tokens) → Holds (λ x. Sees what ts x.0.0 x.0.1 x.1) (see what ts)
see_sound what [] = nothing
see_sound what (t ∷ ts) = see_sort_sound what t.sort t.spot ts

pub exactly_is : (mark other : Mark) (b : Bool) → sameb the_type mark other ≡ b → {u : Unit {0}} → (if b then Some tt else None) ≡ Some u → mark ≡ other
exactly_is mark other true same e = same_true the_type tt mark other same
exactly_is mark other false same e = cc

taken : (mark : Mark) {ts : Tokens} {u : Unit {0}} {spot : Spot} {rest : Tokens} → Sees (exactly mark) ts u spot rest → Takes mark ts spot rest
taken mark (sees {mark = other} {spot = spot} {rest = rest} e) =
    subst (λ (x : Mark). Takes mark (record { sort = sort.Mark x; spot = spot } ∷ rest) spot rest) (exactly_is mark other (sameb the_type mark other) refl e) takes

pub take_sound : (mark : Mark) (ts : Tokens) → Holds (λ x. Takes mark ts x.0.1 x.1) (take mark ts)
take_sound mark ts = weaken (see_sound (exactly mark) ts) (λ x h. taken mark h)

pub skip_sound : (mark : Mark) (ts : Tokens) → MayTake mark ts (skip mark ts)
unfolding given
skip_sound mark ts = by_case (take mark ts) (take_sound mark ts)
  where
    by_case : (o : Option ((Unit {0} × Spot) × Tokens)) → Holds (λ x. Takes mark ts x.0.1 x.1) o → MayTake mark ts (given o ts (λ p. p.1))
    by_case None h = tk.without
    by_case (Some x) (finds h) = tk.with_it h

name_sort_sound : (s : Sort) (spot : Spot) (rest : Tokens) → Holds (λ x. Named (record { sort = s; spot = spot } ∷ rest) x.0 x.1) (name_sort s spot rest)
name_sort_sound (sort.Mark mark) spot rest = nothing
name_sort_sound (sort.Name n) spot rest = finds named
name_sort_sound (sort.Literal n) spot rest = nothing
name_sort_sound (sort.Text n) spot rest = nothing
name_sort_sound sort.Reserved spot rest = nothing

pub name_sound : Sound Named name
name_sound [] = nothing
name_sound (t ∷ ts) = name_sort_sound t.sort t.spot ts

literal_sort_sound : (s : Sort) (spot : Spot) (rest : Tokens) → Holds (λ x. Counted (record { sort = s; spot = spot } ∷ rest) x.0.0 x.0.1 x.1) (literal_sort s spot rest)
literal_sort_sound (sort.Mark mark) spot rest = nothing
literal_sort_sound (sort.Name n) spot rest = nothing
literal_sort_sound (sort.Literal n) spot rest = finds counted
literal_sort_sound (sort.Text n) spot rest = nothing
literal_sort_sound sort.Reserved spot rest = nothing

pub literal_sound : (ts : Tokens) → Holds (λ x. Counted ts x.0.0 x.0.1 x.1) (literal ts)
literal_sound [] = nothing
literal_sound (t ∷ ts) = literal_sort_sound t.sort t.spot ts

text_sort_sound : (s : Sort) (spot : Spot) (rest : Tokens) → Holds (λ x. Quoted (record { sort = s; spot = spot } ∷ rest) x.0.0 x.0.1 x.1) (text_sort s spot rest)
text_sort_sound (sort.Mark mark) spot rest = nothing
text_sort_sound (sort.Name n) spot rest = nothing
text_sort_sound (sort.Literal n) spot rest = nothing
text_sort_sound (sort.Text n) spot rest = finds quoted
text_sort_sound sort.Reserved spot rest = nothing

pub text_sound : (ts : Tokens) → Holds (λ x. Quoted ts x.0.0 x.0.1 x.1) (text ts)
text_sound [] = nothing
text_sound (t ∷ ts) = text_sort_sound t.sort t.spot ts

pub spot_sound : (ts : Tokens) → Holds (λ p. Begins ts p) (spot_of ts)
spot_sound [] = nothing
spot_sound (t ∷ ts) = finds begins

-- ---- what is there is read

bind_opened : {A B : Type 0} (f : A → Option B) (o : Option A) (x : A) (y : Option B) → o ≡ Some x → f x ≡ y → (o >>= f) ≡ y
unfolding and_then
bind_opened f o x y is goes = rw is goes

pub bind_is : {A B : Type 0} (f : A → Option B) {o : Option A} {x : A} {y : Option B} → o ≡ Some x → f x ≡ y → (o >>= f) ≡ y
bind_is f {o = o} {x = x} {y = y} is goes = bind_opened f o x y is goes

bind_none_opened : {A B : Type 0} (f : A → Option B) (o : Option A) → o ≡ None → (o >>= f) ≡ None
unfolding and_then
bind_none_opened f o is = rw is refl

pub bind_none : {A B : Type 0} (f : A → Option B) {o : Option A} → o ≡ None → (o >>= f) ≡ None
bind_none f {o = o} is = bind_none_opened f o is

given_opened : {A B : Type 0} (other : B) (f : A → B) (o : Option A) (x : A) (y : B) → o ≡ Some x → f x ≡ y → given o other f ≡ y
unfolding given
given_opened other f o x y is goes = rw is goes

pub given_is : {A B : Type 0} (other : B) (f : A → B) {o : Option A} {x : A} {y : B} → o ≡ Some x → f x ≡ y → given o other f ≡ y
given_is other f {o = o} {x = x} {y = y} is goes = given_opened other f o x y is goes

not_opened : {A B : Type 0} (other : B) (f : A → B) (o : Option A) (y : B) → o ≡ None → other ≡ y → given o other f ≡ y
unfolding given
not_opened other f o y is goes = rw is goes

pub given_not : {A B : Type 0} (other : B) (f : A → B) {o : Option A} {y : B} → o ≡ None → other ≡ y → given o other f ≡ y
given_not other f {o = o} {y = y} is goes = not_opened other f o y is goes

pub sees_is : {A : Type 0} {what : Mark → Option A} {ts rest : Tokens} {a : A} {p : Spot} → Sees what ts a p rest → see what ts ≡ Some ((a, p), rest)
sees_is {what = what} (sees {spot = p} {rest = rest} e) = ap (λ o. seen o p rest) e

exactly_self : (mark : Mark) → exactly mark mark ≡ Some tt
exactly_self mark = ap (λ b. if b then Some tt else None) (true_same the_type mark mark refl)

pub takes_is : {mark : Mark} {ts rest : Tokens} {p : Spot} → Takes mark ts p rest → take mark ts ≡ Some ((tt, p), rest)
takes_is {mark = mark} (takes {spot = p} {rest = rest}) = ap (λ o. seen o p rest) (exactly_self mark)

pub takes_not : {A : Type 0} {mark : Mark} {ts rest : Tokens} {p : Spot} (what : Mark → Option A) → what mark ≡ None → Takes mark ts p rest → see what ts ≡ None
takes_not what none (takes {spot = p} {rest = rest}) = ap (λ o. seen o p rest) none

-- Behind another mark the reading of this one goes on with the other.
pub past : {B : Type 0} {mark : Mark} {ts rest : Tokens} {p : Spot} (other_mark : Mark) (other : B) (f : (Unit {0} × Spot) × Tokens → B) {y : B} → Takes mark ts p rest
    → exactly other_mark mark ≡ None → other ≡ y → given (take other_mark ts) other f ≡ y
past other_mark other f h differ goes = given_not other f (takes_not (exactly other_mark) differ h) goes

pub sees_not : {A B : Type 0} {what : Mark → Option A} {ts rest : Tokens} {a : A} {p : Spot} (other : Mark → Option B)
    → ((mark : Mark) (a : A) → what mark ≡ Some a → other mark ≡ None) → Sees what ts a p rest → see other ts ≡ None
sees_not other apart (sees {mark = mark} {spot = p} {rest = rest} e) = ap (λ o. seen o p rest) (apart mark _ e)

pub named_is : {ts rest : Tokens} {word : Word} → Named ts word rest → name ts ≡ Some (word, rest)
named_is named = refl

pub named_not : {A : Type 0} {ts rest : Tokens} {word : Word} (what : Mark → Option A) → Named ts word rest → see what ts ≡ None
named_not what named = refl

pub named_no_literal : {ts rest : Tokens} {word : Word} → Named ts word rest → literal ts ≡ None
named_no_literal named = refl

pub counted_is : {ts rest : Tokens} {value : TypedNumber} {p : Spot} → Counted ts value p rest → literal ts ≡ Some ((value, p), rest)
counted_is counted = refl

pub counted_not : {A : Type 0} {ts rest : Tokens} {value : TypedNumber} {p : Spot} (what : Mark → Option A) → Counted ts value p rest → see what ts ≡ None
counted_not what counted = refl

pub quoted_is : {ts rest : Tokens} {bytes : List ℕ} {p : Spot} → Quoted ts bytes p rest → text ts ≡ Some ((bytes, p), rest)
quoted_is quoted = refl

pub quoted_not : {A : Type 0} {ts rest : Tokens} {bytes : List ℕ} {p : Spot} (what : Mark → Option A) → Quoted ts bytes p rest → see what ts ≡ None
quoted_not what quoted = refl

pub begins_is : {ts : Tokens} {p : Spot} → Begins ts p → spot_of ts ≡ Some p
begins_is begins = refl

skip_opened : (mark : Mark) (ts rest : Tokens) → MayTake mark ts rest → take mark rest ≡ None → skip mark ts ≡ rest
skip_opened mark ts rest tk.without none = given_not _ _ none refl
skip_opened mark ts rest (tk.with_it h) none = given_is _ _ (takes_is h) refl

pub skip_is : {mark : Mark} {ts rest : Tokens} → MayTake mark ts rest → take mark rest ≡ None → skip mark ts ≡ rest
skip_is {mark = mark} {ts = ts} {rest = rest} h none = skip_opened mark ts rest h none

-- ---- what is not next

-- What binds less than the next token is not next.
unseen : {A : Type 0} (what : Mark → Option A) (level : ℕ) → ((mark : Mark) (a : A) → what mark ≡ Some a → strength mark ≤ level) → (mark : Mark) (p : Spot) (rest : Tokens)
    → (o : Option A) → what mark ≡ o → level < strength mark → seen o p rest ≡ None
unseen what level weak mark p rest None is less = refl
unseen what level weak mark p rest (Some a) is less = absurd (omega (arith, weak mark a is))

sort_unseen : {A : Type 0} (what : Mark → Option A) (level : ℕ) → ((mark : Mark) (a : A) → what mark ≡ Some a → strength mark ≤ level) → (s : Sort) (p : Spot) (rest : Tokens)
    → level < sort_strength s → see_sort what s p rest ≡ None
sort_unseen what level weak (sort.Mark mark) p rest less = unseen what level weak mark p rest (what mark) refl less
sort_unseen what level weak (sort.Name n) p rest less = refl
sort_unseen what level weak (sort.Literal n) p rest less = refl
sort_unseen what level weak (sort.Text n) p rest less = refl
sort_unseen what level weak sort.Reserved p rest less = refl

pub not_seen : {A : Type 0} (what : Mark → Option A) (level : ℕ) → ((mark : Mark) (a : A) → what mark ≡ Some a → strength mark ≤ level) → (ts : Tokens)
    → level < binds ts → see what ts ≡ None
not_seen what level weak [] less = refl
not_seen what level weak (t ∷ ts) less = sort_unseen what level weak t.sort t.spot ts less

pub not_taken : (mark : Mark) (ts : Tokens) → strength mark < binds ts → take mark ts ≡ None
not_taken mark ts less = not_seen (exactly mark) (strength mark) (λ other u e. let same = exactly_is mark other (sameb the_type mark other) refl e in subst (λ (x : Mark). strength x ≤ strength mark) same (omega arith)) ts less

pub takes_binds : {mark : Mark} {ts rest : Tokens} {p : Spot} → Takes mark ts p rest → binds ts ≡ strength mark
takes_binds takes = refl

pub named_binds : {ts rest : Tokens} {word : Word} → Named ts word rest → binds ts ≡ 14
named_binds named = refl

pub sees_binds : {A : Type 0} {what : Mark → Option A} {ts rest : Tokens} {a : A} {p : Spot} (level : ℕ) → ((mark : Mark) (a : A) → what mark ≡ Some a → strength mark ≡ level)
    → Sees what ts a p rest → binds ts ≡ level
sees_binds level strong (sees {mark = mark} e) = strong mark _ e

-- no expression goes on with this mark
pub closes : (mark : Mark) {ts rest : Tokens} {p : Spot} → Takes mark ts p rest → 13 < strength mark → 13 < binds ts
closes mark takes less = less

pub step_strength : (mark : Mark) (up : Bool) → step_of mark ≡ Some up → strength mark ≡ 1
step_strength m.Increment up e = refl
step_strength m.Decrement up e = refl
step_strength _ up e = cc

pub set_strength : (mark : Mark) (op : Option BinaryOp) → set_of mark ≡ Some op → strength mark ≡ 13
set_strength m.Set op e = refl
set_strength m.StarSet op e = refl
set_strength m.SlashSet op e = refl
set_strength m.PercentSet op e = refl
set_strength m.PlusSet op e = refl
set_strength m.MinusSet op e = refl
set_strength m.ShiftLeftSet op e = refl
set_strength m.ShiftRightSet op e = refl
set_strength m.AmpersandSet op e = refl
set_strength m.CaretSet op e = refl
set_strength m.BarSet op e = refl
set_strength _ op e = cc

level_strength : (level : ℕ) (mark : Mark) (o : Option (Infix × ℕ)) (op : Infix) → of_level level o ≡ Some op → strength_by o mark ≡ level + 1
level_strength level mark None op e = cc
level_strength level mark (Some found) op e = level_is (found.1 == level) refl e
  where
    level_is : (b : Bool) → (found.1 == level) ≡ b → (if b then Some found.0 else None) ≡ Some op → found.1 + 1 ≡ level + 1
    level_is true same e = grind (arith)
    level_is false same e = cc

pub infix_strength : (level : ℕ) (mark : Mark) (op : Infix) → infix_at level mark ≡ Some op → strength mark ≡ level + 1
infix_strength level mark op e = level_strength level mark (infix_of mark) op e

-- ---- lengths

pub takes_one : {mark : Mark} {ts rest : Tokens} {p : Spot} → Takes mark ts p rest → length ts ≡ suc (length rest)
takes_one takes = refl

pub sees_one : {A : Type 0} {what : Mark → Option A} {ts rest : Tokens} {a : A} {p : Spot} → Sees what ts a p rest → length ts ≡ suc (length rest)
sees_one (sees e) = refl

pub named_one : {ts rest : Tokens} {word : Word} → Named ts word rest → length ts ≡ suc (length rest)
named_one named = refl

pub counted_one : {ts rest : Tokens} {value : TypedNumber} {p : Spot} → Counted ts value p rest → length ts ≡ suc (length rest)
counted_one counted = refl

pub quoted_one : {ts rest : Tokens} {bytes : List ℕ} {p : Spot} → Quoted ts bytes p rest → length ts ≡ suc (length rest)
quoted_one quoted = refl

may_opened : (mark : Mark) (ts rest : Tokens) → MayTake mark ts rest → length rest ≤ length ts
may_opened mark ts rest tk.without = omega arith
may_opened mark ts rest (tk.with_it h) = omega (arith, takes_one h)

pub may_shorter : {mark : Mark} {ts rest : Tokens} → MayTake mark ts rest → length rest ≤ length ts
may_shorter {mark = mark} {ts = ts} {rest = rest} h = may_opened mark ts rest h

-- ---- next or not

none_taken : (mark : Mark) (ts : Tokens) (p : Spot) (rest : Tokens) → Takes mark ts p rest → take mark ts ≡ None → ⊥
none_taken mark ts p rest h none = let is = takes_is h in cc

-- either the mark is next, or it is not
pub data Next (mark : Mark) (ts : Tokens) : Option ((Unit {0} × Spot) × Tokens) → Type 0 where
  next : {x : (Unit {0} × Spot) × Tokens} → Takes mark ts x.0.1 x.1 → Next mark ts (Some x)
  other : Free mark ts → Next mark ts None

pub next_of : (mark : Mark) (ts : Tokens) → Next mark ts (take mark ts)
next_of mark ts = by_case (take mark ts) refl (take_sound mark ts)
  where
    by_case : (o : Option ((Unit {0} × Spot) × Tokens)) → take mark ts ≡ o → Holds (λ x. Takes mark ts x.0.1 x.1) o → Next mark ts o
    by_case None is h = other (λ p rest found. none_taken mark ts p rest found is)
    by_case (Some x) is (finds h) = next h

pub given_by : {B : Type 0} {Q : B → Type 0} {mark : Mark} {ts : Tokens} (other_read : Option B) (f : (Unit {0} × Spot) × Tokens → Option B) (o : Option ((Unit {0} × Spot) × Tokens))
    → Next mark ts o → (Free mark ts → Holds Q other_read) → ((x : (Unit {0} × Spot) × Tokens) → Takes mark ts x.0.1 x.1 → Holds Q (f x)) → Holds Q (given o other_read f)
unfolding given
given_by other_read f None (other free) n k = n free
given_by other_read f (Some x) (next h) n k = k x h

pub free_none : (mark : Mark) (ts : Tokens) → Free mark ts → take mark ts ≡ None
free_none mark ts free = by_case (take mark ts) (take_sound mark ts)
  where
    by_case : (o : Option ((Unit {0} × Spot) × Tokens)) → Holds (λ x. Takes mark ts x.0.1 x.1) o → o ≡ None
    by_case None h = refl
    by_case (Some x) (finds h) = absurd (free x.0.1 x.1 h)

-- ---- lists with commas

module _ {A : Type 0} (part : Tokens → A → Tokens → Type 0) where
  pub commas_shorter : ((ts : Tokens) (x : A) (rest : Tokens) → part ts x rest → length rest < length ts) → (ts : Tokens) (xs : List A) (rest : Tokens) → Commas part ts xs rest
      → length rest < length ts
  commas_shorter shorter ts xs rest (tk.last {x = x} one) = shorter ts x rest one
  commas_shorter shorter ts xs rest (tk.comma {a = a} {b = b} {x = x} {xs = others} one p tail) = omega (arith, shorter ts x a one, takes_one p, commas_shorter shorter b others rest tail)

  pub commas_first : (P : Tokens → Type 0) → ((ts : Tokens) (x : A) (rest : Tokens) → part ts x rest → P ts) → (ts : Tokens) (xs : List A) (rest : Tokens) → Commas part ts xs rest → P ts
  commas_first P first ts xs rest (tk.last {x = x} one) = first ts x rest one
  commas_first P first ts xs rest (tk.comma {a = a} {x = x} one p tail) = first ts x a one

  -- what was found before does not matter: it is put before what is found
  pub AddsCommas : List A → Tokens → List A × Tokens → Type 0
  AddsCommas found ts x = (more : List A) × (x.0 ≡ found ++ more) × Commas part ts more x.1

  pub commas_sound : (read : Tokens → Out A) → Sound part read → (n : ℕ) (found : List A) (ts : Tokens) → Holds (AddsCommas found ts) (commas read n found ts)
  unfolding commas AddsCommas
  commas_sound read sound zero found ts = nothing
  commas_sound read sound (suc n) found ts = holds_bind (sound ts) λ x one.
      holds_given (take_sound m.Comma x.1) (finds (x.0 ∷ [], refl, tk.last one)) λ p comma.
      weaken (commas_sound read sound n (found ++ x.0 ∷ []) p.1) λ y h.
      (x.0 ∷ h.0, h.1 ∙ append_assoc found (x.0 ∷ []) h.0, tk.comma one comma h.2)

  -- from the first part on
  pub list_sound : (read : Tokens → Out A) → Sound part read → (n : ℕ) (ts : Tokens) → Holds (λ x. Commas part ts x.0 x.1) (commas read n [] ts)
  unfolding AddsCommas
  list_sound read sound n ts = weaken (commas_sound read sound n [] ts) λ x h. subst (λ (l : List A). Commas part ts l x.1) (sym h.1) h.2

  pub commas_complete : (read : Tokens → Out A) (level : ℕ) → level < 14 → Complete level part read
      → ((ts : Tokens) (x : A) (rest : Tokens) → part ts x rest → length rest < length ts)
      → (n : ℕ) (found : List A) (ts : Tokens) (xs : List A) (rest : Tokens) → Commas part ts xs rest → level < binds rest → take m.Comma rest ≡ None → length ts ≤ n
      → commas read n found ts ≡ Some (found ++ xs, rest)
  unfolding commas
  commas_complete read level weak complete shorter zero found ts xs rest all less ends room = absurd (omega (arith, commas_shorter shorter ts xs rest all))
  commas_complete read level weak complete shorter (suc n) found ts xs rest (tk.last {x = x} one) less ends room = bind_is _ (complete ts x rest one less) (given_not _ _ ends refl)
  commas_complete read level weak complete shorter (suc n) found ts xs rest (tk.comma {a = a} {b = b} {x = x} {xs = others} one p tail) less ends room =
      bind_is _ (complete ts x a one (omega (arith, takes_binds p))) (given_is _ _ (takes_is p)
      (commas_complete read level weak complete shorter n (found ++ x ∷ []) b others rest tail less ends (omega (arith, shorter ts x a one, takes_one p))
      ∙ ap (λ l. Some (l, rest)) (append_assoc found (x ∷ []) others)))
