-- Runs of items: there is one longest, and one program at most.
use Rattle.std.proofs.Common.{◌≡◌, ◌≤◌, ◌∷◌, ◌++◌, ◌∙◌, [], List, None, Option, Some, ap, arith, length, refl, subst, suc, sym, zero, ℕ}
use Rattle.c11_ast.specs.declared.item.Item.{Item}
use Rattle.c11_grammar.proofs.ItemComplete.{item_complete, item_shorter}
use Rattle.c11_grammar.proofs.StmtSound.{item_sound}
use Rattle.c11_grammar.specs.Laws.{Holds, IsNoProgram, OnePlace, OneTree, Outcome, SomeOutcome, finds, is_none, is_program}
use Rattle.c11_grammar.specs.Programs.{IsItem, Run}
use Rattle.c11_grammar.specs.Reading.{Out, item_of}
use Rattle.c11_grammar.specs.Tokens.{Tokens}
use Rattle.c11_grammar.specs.declared.token.Lexeme.{Lexeme}
use Rattle.c11_grammar.specs.Programs as pr

-- An item at the front is one and ends at one place.
data Same (item other : Item) (rest other_rest : Tokens) : Type 0 where
  same : item ≡ other → rest ≡ other_rest → Same item other rest other_rest

one_item : (ts : Tokens) (item other : Item) (rest other_rest : Tokens) → IsItem ts item rest → IsItem ts other other_rest → Same item other rest other_rest
one_item ts item other rest other_rest a b = pairs (sym (item_complete ts item rest a) ∙ item_complete ts other other_rest b)
  where
    pairs : ◌≡◌ {A = Option (Item × Tokens)} (Some (item, rest)) (Some (other, other_rest)) → Same item other rest other_rest
    pairs e = let pair : ◌≡◌ {A = Item × Tokens} (item, rest) (other, other_rest) = cc in same (ap (λ (x : Item × Tokens). x.0) pair) (ap (λ (x : Item × Tokens). x.1) pair)

no_item : (item : Item) (rest : Tokens) → IsItem [] item rest → ⊥
no_item it rest h = omega (arith, item_shorter [] it rest h)

joined : (x y : Item) (xs ys : List Item) (a b : Tokens) → Same x y a b → (Run a ys [] → xs ≡ ys) → Run b ys [] → x ∷ xs ≡ y ∷ ys
joined x y xs ys a b (same e f) tails run = ap (λ z. z ∷ xs) e ∙ ap (λ zs. y ∷ zs) (tails (subst (λ r. Run r ys []) (sym f) run))

run_shorter : (ts : Tokens) (items : List Item) (rest : Tokens) → Run ts items rest → length rest ≤ length ts
run_shorter ts items rest pr.Run.done = omega arith
run_shorter ts items rest (pr.Run.more {a = a} {item = x} {items = xs} first tail) = omega (arith, item_shorter ts x a first, run_shorter a xs rest tail)

pub one_tree : OneTree
one_tree tokens [] [] a b = refl
one_tree tokens [] (y ∷ ys) pr.Run.done (pr.Run.more {a = a} item run) = absurd (no_item y a item)
one_tree tokens (x ∷ xs) [] (pr.Run.more {a = a} item run) pr.Run.done = absurd (no_item x a item)
one_tree tokens (x ∷ xs) (y ∷ ys) (pr.Run.more {a = a} item run) (pr.Run.more {a = b} other other_run) =
    joined x y xs ys a b (one_item tokens x y a b item other) (λ r. one_tree a xs ys run r) other_run

-- ---- the longest run

-- Where no item is read, no run of items goes on.
stops : (ts : Tokens) (others : List Item) (rest : Tokens) → item_of ts ≡ None → Run ts others rest → length ts ≤ length rest
stops ts others rest none pr.Run.done = omega arith
stops ts others rest none (pr.Run.more {a = a} {item = x} first run) = let e = item_complete ts x a first in absurd (clash none e)
  where
    clash : {o : Option (Item × Tokens)} {x : Item × Tokens} → o ≡ None → o ≡ Some x → ⊥
    clash none some = cc

-- Whole items, and then no item: no run of items is longer.
longest : (ts : Tokens) (items : List Item) (rest : Tokens) → Run ts items rest → item_of rest ≡ None
    → (others : List Item) (other_rest : Tokens) → Run ts others other_rest → length rest ≤ length other_rest
longest ts items rest pr.Run.done none others other_rest run = stops ts others other_rest none run
longest ts items rest (pr.Run.more {a = a} {item = x} {items = xs} first tail) none [] other_rest pr.Run.done = omega (arith, item_shorter ts x a first, run_shorter a xs rest tail)
longest ts items rest (pr.Run.more {a = a} {item = x} {items = xs} first tail) none others other_rest (pr.Run.more {a = b} {item = y} {items = ys} other run) =
    behind (one_item ts x y a b first other) (λ r. longest a xs rest tail none ys other_rest r) run
  where
    behind : Same x y a b → (Run a ys other_rest → length rest ≤ length other_rest) → Run b ys other_rest → length rest ≤ length other_rest
    behind (same e f) goes run = goes (subst (λ r. Run r ys other_rest) (sym f) run)

-- items at the end of a run
pub run_longer : (ts : Tokens) (items : List Item) (a : Tokens) (item : Item) (rest : Tokens) → Run ts items a → IsItem a item rest → Run ts (items ++ item ∷ []) rest
run_longer ts items a item rest pr.Run.done last = pr.Run.more last pr.Run.done
run_longer ts items a item rest (pr.Run.more {a = b} {items = xs} first tail) last = pr.Run.more first (run_longer b xs a item rest tail last)

-- An item that is read is one.
pub read_item : (ts : Tokens) (item : Item) (rest : Tokens) → item_of ts ≡ Some (item, rest) → IsItem ts item rest
read_item ts item rest is = held (item_of ts) (item_sound ts) is
  where
    held : (o : Out Item) → Holds (λ x. IsItem ts x.0 x.1) o → o ≡ Some (item, rest) → IsItem ts item rest
    held None h e = absurd (clash e)
      where
        clash : ◌≡◌ {A = Out Item} None (Some (item, rest)) → ⊥
        clash e = cc
    held (Some x) (finds h) e = let pair : x ≡ (item, rest) = cc in subst (λ (y : Item × Tokens). IsItem ts y.0 y.1) pair h

no_program : (ts : Tokens) (items : List Item) (first : Lexeme) (after : Tokens) → Run ts items (first ∷ after) → item_of (first ∷ after) ≡ None → IsNoProgram ts first.spot
no_program ts items first after run none = record {
  first = first;
  after = after;
  place_is = refl;
  longest = record { items = items; run = run; longest = longest ts items (first ∷ after) run none };
  none = λ others tree. let all = longest ts items (first ∷ after) run none others [] tree in absurd (omega arith);
}

pub no_program_at : (ts : Tokens) (items : List Item) (rest : Tokens) (first : Lexeme) (after : Tokens) → rest ≡ first ∷ after → Run ts items rest → item_of rest ≡ None
    → IsNoProgram ts first.spot
no_program_at ts items rest first after is run none = no_program ts items first after (subst (λ r. Run ts items r) is run) (subst (λ r. item_of r ≡ None) is none)

-- ---- each list of tokens is a program or none, at one place

by_item : (ts : Tokens) (items : List Item) (t : Lexeme) (after : Tokens) → Run ts items (t ∷ after)
    → ((item : Item) (rest : Tokens) → IsItem (t ∷ after) item rest → Outcome ts) → (o : Out Item) → item_of (t ∷ after) ≡ o → Outcome ts
by_item ts items t after run goes None is = is_none t.spot (no_program ts items t after run is)
by_item ts items t after run goes (Some x) is = goes x.0 x.1 (read_item (t ∷ after) x.0 x.1 is)

outcome_from : (n : ℕ) (ts : Tokens) (items : List Item) (rest : Tokens) → Run ts items rest → length rest ≤ n → Outcome ts
outcome_from n ts items [] run room = is_program items run
outcome_from zero ts items (t ∷ after) run room = absurd (omega arith)
outcome_from (suc n) ts items (t ∷ after) run room = by_item ts items t after run
    (λ x rest one. outcome_from n ts (items ++ x ∷ []) rest (run_longer ts items (t ∷ after) x rest run one) (omega (arith, item_shorter (t ∷ after) x rest one)))
    (item_of (t ∷ after)) refl

pub some_outcome : SomeOutcome
some_outcome ts = outcome_from (length ts) ts [] ts pr.Run.done (omega arith)

-- Runs that leave equally many tokens leave the same.
same_rest : (ts : Tokens) (xs ys : List Item) (a b : Tokens) → Run ts xs a → Run ts ys b → length a ≡ length b → a ≡ b
same_rest ts xs ys a b pr.Run.done pr.Run.done even = refl
same_rest ts xs ys a b pr.Run.done (pr.Run.more {a = c} {item = y} {items = zs} first tail) even = absurd (omega (arith, item_shorter ts y c first, run_shorter c zs b tail))
same_rest ts xs ys a b (pr.Run.more {a = c} {item = x} {items = zs} first tail) pr.Run.done even = absurd (omega (arith, item_shorter ts x c first, run_shorter c zs a tail))
same_rest ts xs ys a b (pr.Run.more {a = c} {item = x} {items = us} first tail) (pr.Run.more {a = d} {item = y} {items = vs} other run) even =
    behind (one_item ts x y c d first other) (λ r. same_rest c us vs a b tail r even) run
  where
    behind : Same x y c d → (Run c vs b → a ≡ b) → Run d vs b → a ≡ b
    behind (same e f) goes r = goes (subst (λ z. Run z vs b) (sym f) r)

pub one_place : OnePlace
one_place ts p q x y =
    let even : length (x.first ∷ x.after) ≡ length (y.first ∷ y.after) = omega (arith, x.longest.longest y.longest.items (y.first ∷ y.after) y.longest.run, y.longest.longest x.longest.items (x.first ∷ x.after) x.longest.run) in
    let rests = same_rest ts x.longest.items y.longest.items (x.first ∷ x.after) (y.first ∷ y.after) x.longest.run y.longest.run even in
    let firsts : x.first ≡ y.first = cc in
    x.place_is ∙ (ap (λ (t : Lexeme). t.spot) firsts ∙ sym y.place_is)
