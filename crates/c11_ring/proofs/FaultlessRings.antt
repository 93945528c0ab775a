-- The tokens of a ring are a program without a fault.
use Rattle.std.proofs.Common.{◌≡◌, ◌∙◌, ℕ, Bool, true, false, ◌||◌, not, List, [], ◌∷◌, ◌++◌, map, refl, ap, sym, subst}
use Rattle.c11_ast.specs.declared.place.Spot.{Spot}
use Rattle.c11_ast.specs.declared.item.Item.{Item}
use Rattle.c11_grammar.specs.declared.token.Lexeme.{Lexeme}
use Rattle.c11_grammar.specs.declared.token.Mark.TheVariants as m
use Rattle.c11_grammar.specs.declared.token.Sort.{Sort}
use Rattle.c11_grammar.specs.declared.token.Sort.TheVariants as sort
use Rattle.c11_grammar.specs.Tokens.{Tokens}
use Rattle.c11_grammar.specs.Programs.{Run, IsProgram}
use Rattle.c11_grammar.specs.Programs as g
use Rattle.c11_check.specs.declared.fault.Rule.TheVariants as rule
use Rattle.c11_check.specs.Faults.{when}
use Rattle.c11_check.specs.Scopes.{Scope, file_scope}
use Rattle.c11_check.specs.Statements.{Walked, followed}
use Rattle.c11_check.specs.Programs.{HasNoFault, items_walk, has_main}
use Rattle.c11_ring.proofs.RingSorts as r
use Rattle.c11_ring.proofs.RingSorts.{ring_sorts}
use Rattle.c11_ring.proofs.TreesSpelled.{spelled, spelled_are}
use Rattle.c11_ring.proofs.FaultlessItems.{ItemStands, include_stands, ring_line_stands, head_line_stands, tail_line_stands, producer_stands, consumer_stands, main_stands, size_of, plains_of}

-- items up to the end, one of which is `main`, and none of which has a fault
record RunStands (scope : Scope) (ts : Tokens) : Type 0 where
  items : List Item
  whole : Run ts items []
  walk : (items_walk items scope).faults ≡ []
  has : has_main items ≡ true

or_true : (b : Bool) → b || true ≡ true
or_true true = refl
or_true false = refl

last_stands : {scope after : Scope} {ts : Tokens} → ItemStands scope after true ts [] → RunStands scope ts
last_stands {scope = scope} one = record {
  items = one.item ∷ [];
  whole = g.Run.more one.whole g.Run.done;
  walk = ap (λ (w : Walked). (followed w (items_walk [])).faults) one.walk;
  has = ap (λ (b : Bool). b || false) one.is;
}

item_before : {scope after : Scope} {ts : Tokens} {more : List Sort} → (one : ItemStands scope after false ts more) → RunStands after (spelled more one.spots)
    → RunStands scope ts
item_before {scope = scope} one others = record {
  items = one.item ∷ others.items;
  whole = g.Run.more one.whole others.whole;
  walk = ap (λ (w : Walked). (followed w (items_walk others.items)).faults) one.walk ∙ others.walk;
  has = ap (λ (b : Bool). b || has_main others.items) one.is ∙ others.has;
}

-- the tokens are a program in which the checks find no fault
pub record RingStands (ts : Tokens) : Type 0 where
  pub items : List Item
  pub tree : IsProgram ts items
  pub faultless : HasNoFault (record { items = items })

run_stands : (number size : ℕ) (spots : List Spot) → RunStands file_scope (spelled (ring_sorts number size) spots)
run_stands number size spots =
    let threads = r.producer_sorts number size ++ (r.consumer_sorts number size ++ r.main_sorts number size) in
    let objects = r.ring_line number ++ (r.head_line ++ (r.tail_line ++ threads)) in
    let include : List Sort = sort.Mark m.Include ∷ [] in
    let one = include_stands file_scope (include ++ (include ++ (include ++ objects))) spots in
    let two = include_stands file_scope (include ++ (include ++ objects)) one.spots in
    let three = include_stands file_scope (include ++ objects) two.spots in
    let four = include_stands file_scope objects three.spots in
    let array = ring_line_stands number (r.head_line ++ (r.tail_line ++ threads)) four.spots in
    let head = head_line_stands number (r.tail_line ++ threads) array.spots in
    let tail = tail_line_stands number threads head.spots in
    let producer = producer_stands (size_of number) (plains_of number) number size (r.consumer_sorts number size ++ r.main_sorts number size) tail.spots in
    let consumer = consumer_stands (size_of number) (plains_of number) number size (r.main_sorts number size) producer.spots in
    let main = main_stands (size_of number) (plains_of number) number size consumer.spots in
    item_before one (item_before two (item_before three (item_before four (item_before array (item_before head (item_before tail
    (item_before producer (item_before consumer (last_stands main)))))))))

spelled_stands : (number size : ℕ) (spots : List Spot) → RingStands (spelled (ring_sorts number size) spots)
spelled_stands number size spots = let run = run_stands number size spots in record {
  items = run.items;
  tree = run.whole;
  faultless = ap (λ (b : Bool). when (not b) rule.NoMain (record { line = 1; column = 1 }) ++ (items_walk run.items file_scope).faults) run.has ∙ run.walk;
}

-- Tokens whose sorts are those of a ring are a program without a fault.
pub ring_stands : (number size : ℕ) (ts : Tokens) → map (λ (l : Lexeme). l.sort) ts ≡ ring_sorts number size → RingStands ts
ring_stands number size ts sorts =
    let spots = map (λ (l : Lexeme). l.spot) ts in
    subst RingStands (ap (λ (ss : List Sort). spelled ss spots) (sym sorts) ∙ spelled_are ts) (spelled_stands number size spots)
