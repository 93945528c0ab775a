-- How often outputs are listed: in a map before and after a change of one key, and in lists in order.
use Rattle.std.proofs.Common.{◌≡◌, ℕ, ◌+◌, ◌<◌, ◌≤◌, Bool, true, false, cond, List, [], ◌∷◌, Option, Some, None, Ordering, Vec, sym, refl, ap, ◌∙◌, subst, arith}
use Rattle.std.specs.declared.cmp.Ordering.TheVariants.{Less, Equal, Greater}
use Rattle.std.specs.BTreeMap.{is_at, insert_entry}
use Rattle.std.specs.Cmp.Lexicographic.{slice_cmp}
use Rattle.std.specs.List.{All, AllByRecursion}
use Rattle.std.specs.List.Sorted.{IsStrictlySortedBy}
use Rattle.std.specs.Map.{keys_of, values_of, lookup, set_value}
use Rattle.std.specs.Ordering.{nat_cmp, is_eq, match_ordering, ordering_reverse}
use Rattle.std.specs.Str.{bytes_eq}
use Rattle.std.proofs.lemmas.Cmp.{nat_list_cmp_total, nat_list_eq_equiv}
use Rattle.std.proofs.lemmas.List.Elements.{All-head, All-tail}
use Rattle.std.proofs.lemmas.List.Sums.{sum_by-cons}
use Rattle.std.proofs.lemmas.Map.Lookups.{exact_bytes}
use Rattle.std.proofs.lemmas.Map.Text.{is_eq-slice_cmp}
use Rattle.std.proofs.lemmas.Map.Views.{tells_apart, All-values-set_value, All-values-insert_entry}
use Rattle.c11_report.specs.Outputs.{AreInOrder}
use Rattle.c11_tally.specs.Pairs.{pairs_of, Raises}
use Rattle.c11_tally.specs.Tallies.{AreSome, listed}

-- what a pair adds to the count of the bytes
abbrev pub share : List ℕ → List ℕ × ℕ → ℕ
share bytes pair = cond (bytes_eq pair.0 bytes) pair.1 0

pub listed-cons : (pair : List ℕ × ℕ) (pairs : List (List ℕ × ℕ)) (bytes : List ℕ) → listed (pair ∷ pairs) bytes ≡ share bytes pair + listed pairs bytes
listed-cons pair pairs bytes = sum_by-cons (share bytes) pair pairs

-- how bytes, and keys, compare to a key
abbrev pub query : {Z : Type 0} → List ℕ → Vec ℕ Z → Ordering
query bytes key = slice_cmp nat_cmp bytes key.items

abbrev pub by_items : {Z : Type 0} → Vec ℕ Z → Vec ℕ Z → Ordering
by_items key other = slice_cmp nat_cmp key.items other.items

same_bytes : (bytes other : List ℕ) → is_eq (slice_cmp nat_cmp bytes other) ≡ true → bytes ≡ other
same_bytes bytes other is = tells_apart exact_bytes bytes other is

-- ---- a count that is raised

raise_share : (b : Bool) (a v by rest : ℕ) → a ≡ v → cond b (v + by) 0 + rest ≡ (cond b a 0 + rest) + cond b by 0
raise_share true a v by rest same = omega arith
raise_share false a v by rest same = omega arith

set_head : {Z : Type 0} (b : Bool) (bytes : List ℕ) (by v : ℕ) (e : Vec ℕ Z × ℕ) (es new : List (Vec ℕ Z × ℕ)) (found : Option ℕ) (other : List ℕ)
    → (b ≡ true → bytes ≡ e.0.items) → (found ≡ Some v → listed (pairs_of new) other ≡ listed (pairs_of es) other + cond (bytes_eq bytes other) by 0)
    → cond b (Some e.1) found ≡ Some v
    → listed (pairs_of (cond b ((e.0, v + by) ∷ es) (e ∷ new))) other ≡ listed (pairs_of (e ∷ es)) other + cond (bytes_eq bytes other) by 0
set_head true bytes by v e es new found other same more at =
    let value : e.1 ≡ v = cc in
    let is : bytes_eq bytes other ≡ bytes_eq e.0.items other = ap (λ (xs : List ℕ). bytes_eq xs other) (same refl) in
    let raised = raise_share (bytes_eq e.0.items other) e.1 v by (listed (pairs_of es) other) value in
    listed-cons (e.0.items, v + by) (pairs_of es) other ∙ (raised ∙ ap (λ n. n + cond (bytes_eq e.0.items other) by 0) (sym (listed-cons (e.0.items, e.1) (pairs_of es) other))
    ∙ ap (λ (b : Bool). listed (pairs_of (e ∷ es)) other + cond b by 0) (sym is))
set_head false bytes by v e es new found other same more at =
    let next = more at in let old = listed-cons (e.0.items, e.1) (pairs_of es) other in let now = listed-cons (e.0.items, e.1) (pairs_of new) other in omega arith

set_lists : {Z : Type 0} (bytes : List ℕ) (by v : ℕ) (es : List (Vec ℕ Z × ℕ)) (other : List ℕ) → lookup (is_at (query bytes)) es ≡ Some v
    → listed (pairs_of (set_value (is_at (query bytes)) es (v + by))) other ≡ listed (pairs_of es) other + cond (bytes_eq bytes other) by 0
set_lists bytes by v [] other at = absurd cc
set_lists bytes by v (e ∷ es) other at =
    set_head (is_at (query bytes) e.0) bytes by v e es (set_value (is_at (query bytes)) es (v + by)) (lookup (is_at (query bytes)) es) other
    (same_bytes bytes e.0.items) (set_lists bytes by v es other) at

-- the count is part of what is listed
pub found_share : (bytes key : List ℕ) (count : ℕ) → bytes ≡ key → cond (bytes_eq key bytes) count 0 ≡ count
found_share bytes key count same =
    let is : bytes_eq key bytes ≡ true = ap (λ (xs : List ℕ). bytes_eq xs bytes) (sym same) ∙ nat_list_eq_equiv.refl bytes in ap (λ (b : Bool). cond b count 0) is

found_head : {Z : Type 0} (b : Bool) (bytes : List ℕ) (v : ℕ) (e : Vec ℕ Z × ℕ) (es : List (Vec ℕ Z × ℕ)) (found : Option ℕ)
    → (b ≡ true → bytes ≡ e.0.items) → (found ≡ Some v → v ≤ listed (pairs_of es) bytes) → cond b (Some e.1) found ≡ Some v → v ≤ listed (pairs_of (e ∷ es)) bytes
found_head true bytes v e es found same more at =
    let value : e.1 ≡ v = cc in let here = found_share bytes e.0.items e.1 (same refl) in let all = listed-cons (e.0.items, e.1) (pairs_of es) bytes in omega arith
found_head false bytes v e es found same more at = let le = more at in let all = listed-cons (e.0.items, e.1) (pairs_of es) bytes in omega arith

pub found_le : {Z : Type 0} (bytes : List ℕ) (v : ℕ) (es : List (Vec ℕ Z × ℕ)) → lookup (is_at (query bytes)) es ≡ Some v → v ≤ listed (pairs_of es) bytes
found_le bytes v [] at = absurd cc
found_le bytes v (e ∷ es) at = found_head (is_at (query bytes) e.0) bytes v e es (lookup (is_at (query bytes)) es) (same_bytes bytes e.0.items) (found_le bytes v es) at

-- ---- an output that is put in

insert_head : {Z : Type 0} (o : Ordering) (key : Vec ℕ Z) (n : ℕ) (e : Vec ℕ Z × ℕ) (es new : List (Vec ℕ Z × ℕ)) (found : Option ℕ) (other : List ℕ)
    → (found ≡ None → listed (pairs_of new) other ≡ listed (pairs_of es) other + cond (bytes_eq key.items other) n 0)
    → cond (is_eq o) (Some e.1) found ≡ None
    → listed (pairs_of (match_ordering o ((key, n) ∷ e ∷ es) ((e.0, n) ∷ es) (e ∷ new))) other ≡ listed (pairs_of (e ∷ es)) other + cond (bytes_eq key.items other) n 0
insert_head Less key n e es new found other more at = let now = listed-cons (key.items, n) (pairs_of (e ∷ es)) other in omega arith
insert_head Equal key n e es new found other more at = absurd cc
insert_head Greater key n e es new found other more at =
    let next = more at in let old = listed-cons (e.0.items, e.1) (pairs_of es) other in let now = listed-cons (e.0.items, e.1) (pairs_of new) other in omega arith

insert_lists : {Z : Type 0} (key : Vec ℕ Z) (n : ℕ) (es : List (Vec ℕ Z × ℕ)) (other : List ℕ) → lookup (is_at (query key.items)) es ≡ None
    → listed (pairs_of (insert_entry by_items es key n)) other ≡ listed (pairs_of es) other + cond (bytes_eq key.items other) n 0
insert_lists key n [] other at = let now = listed-cons (key.items, n) [] other in omega arith
insert_lists key n (e ∷ es) other at =
    insert_head (by_items key e.0) key n e es (insert_entry by_items es key n) (lookup (is_at (query key.items)) es) other (insert_lists key n es other) at

-- ---- order, and counts above 0

all_keys : {Z : Type 0} (P : List ℕ → Type 0) (es : List (Vec ℕ Z × ℕ)) → AllByRecursion (λ (key : Vec ℕ Z). P key.items) (keys_of es) → AllByRecursion P (keys_of (pairs_of es))
all_keys P [] h = h
all_keys P (e ∷ es) h = (h.0, all_keys P es h.1)

pub pairs_in_order : {Z : Type 0} (es : List (Vec ℕ Z × ℕ)) → IsStrictlySortedBy by_items (keys_of es) → AreInOrder (pairs_of es)
unfolding IsStrictlySortedBy
pairs_in_order [] h = h
pairs_in_order (e ∷ es) h = (all_keys (λ key. slice_cmp nat_cmp e.0.items key ≡ Less) es h.0, pairs_in_order es h.1)

pub values-pairs_of : {Z : Type 0} (es : List (Vec ℕ Z × ℕ)) → values_of (pairs_of es) ≡ values_of es
values-pairs_of [] = refl
values-pairs_of (e ∷ es) = ap (λ (values : List ℕ). e.1 ∷ values) (values-pairs_of es)

pub some_values : {Z : Type 0} (es : List (Vec ℕ Z × ℕ)) → AreSome (pairs_of es) → All (λ count. 0 < count) (values_of es)
some_values es h = subst (λ (values : List ℕ). All (λ count. 0 < count) values) (values-pairs_of es) h

pub some_pairs : {Z : Type 0} (es : List (Vec ℕ Z × ℕ)) → All (λ count. 0 < count) (values_of es) → AreSome (pairs_of es)
some_pairs es h = subst (λ (values : List ℕ). All (λ count. 0 < count) values) (sym (values-pairs_of es)) h

-- ---- a change of one key

pub raised : {Z : Type 0} (bytes : List ℕ) (by v : ℕ) (old new : List (Vec ℕ Z × ℕ)) → lookup (is_at (query bytes)) old ≡ Some v → new ≡ set_value (is_at (query bytes)) old (v + by)
    → IsStrictlySortedBy by_items (keys_of new) → Raises bytes by (pairs_of old) (pairs_of new)
raised bytes by v old new at is sorted = record {
  ordered = λ _. pairs_in_order new sorted;
  some = λ lt h. subst (λ (es : List (Vec ℕ _ × ℕ)). AreSome (pairs_of es)) (sym is) (some_pairs (set_value (is_at (query bytes)) old (v + by))
      (All-values-set_value (is_at (query bytes)) (λ count. 0 < count) old (v + by) (some_values old h) (omega arith)));
  counts = λ other. ap (λ (es : List (Vec ℕ _ × ℕ)). listed (pairs_of es) other) is ∙ set_lists bytes by v old other at;
}

pub put_in : {Z : Type 0} (key : Vec ℕ Z) (n : ℕ) (old new : List (Vec ℕ Z × ℕ)) → lookup (is_at (query key.items)) old ≡ None → new ≡ insert_entry by_items old key n
    → IsStrictlySortedBy by_items (keys_of new) → Raises key.items n (pairs_of old) (pairs_of new)
put_in key n old new at is sorted = record {
  ordered = λ _. pairs_in_order new sorted;
  some = λ lt h. subst (λ (es : List (Vec ℕ _ × ℕ)). AreSome (pairs_of es)) (sym is) (some_pairs (insert_entry by_items old key n)
      (All-values-insert_entry by_items key n (λ count. 0 < count) old (some_values old h) lt));
  counts = λ other. ap (λ (es : List (Vec ℕ _ × ℕ)). listed (pairs_of es) other) is ∙ insert_lists key n old other at;
}

-- ---- lists in order that list the same

differ : (a b : List ℕ) → slice_cmp nat_cmp a b ≡ Less → bytes_eq b a ≡ false
differ a b less = nat_list_eq_equiv.symm b a ∙ (sym (is_eq-slice_cmp a b) ∙ ap is_eq less)

-- bytes below each output are not listed
below_none : (bytes : List ℕ) (pairs : List (List ℕ × ℕ)) → AllByRecursion (λ key. slice_cmp nat_cmp bytes key ≡ Less) (keys_of pairs) → listed pairs bytes ≡ 0
below_none bytes [] h = refl
below_none bytes (p ∷ ps) h =
    let here : share bytes p ≡ 0 = ap (λ (b : Bool). cond b p.1 0) (differ bytes p.0 h.0) in let rest = below_none bytes ps h.1 in let all = listed-cons p ps bytes in omega arith

pub first_only : (p : List ℕ × ℕ) (ps : List (List ℕ × ℕ)) → AreInOrder (p ∷ ps) → listed (p ∷ ps) p.0 ≡ p.1
unfolding IsStrictlySortedBy
first_only p ps h = let here = found_share p.0 p.0 p.1 refl in let rest = below_none p.0 ps h.0 in let all = listed-cons p ps p.0 in omega arith

all_above : (a b : List ℕ) (ps : List (List ℕ × ℕ)) → slice_cmp nat_cmp a b ≡ Less → AllByRecursion (λ key. slice_cmp nat_cmp b key ≡ Less) (keys_of ps) → AllByRecursion (λ key. slice_cmp nat_cmp a key ≡ Less) (keys_of ps)
all_above a b [] less h = h
all_above a b (p ∷ ps) less h = (nat_list_cmp_total.trans a b p.0 less h.0, all_above a b ps less h.1)

below_first : (bytes : List ℕ) (p : List ℕ × ℕ) (ps : List (List ℕ × ℕ)) → AreInOrder (p ∷ ps) → slice_cmp nat_cmp bytes p.0 ≡ Less → listed (p ∷ ps) bytes ≡ 0
unfolding IsStrictlySortedBy
below_first bytes p ps h less = below_none bytes (p ∷ ps) (less, all_above bytes p.0 ps less h.0)

pub rest_in_order : (p : List ℕ × ℕ) (ps : List (List ℕ × ℕ)) → AreInOrder (p ∷ ps) → AreInOrder ps
unfolding IsStrictlySortedBy
rest_in_order p ps h = h.1

first_some : (p : List ℕ × ℕ) (ps : List (List ℕ × ℕ)) → AreSome (p ∷ ps) → 0 < p.1
first_some p ps h = All-head (λ count. 0 < count) p.1 (values_of ps) h

rest_some : (p : List ℕ × ℕ) (ps : List (List ℕ × ℕ)) → AreSome (p ∷ ps) → AreSome ps
rest_some p ps h = All-tail (λ count. 0 < count) p.1 (values_of ps) h

same_first : (p q : List ℕ × ℕ) (ps qs : List (List ℕ × ℕ)) → AreInOrder (p ∷ ps) → AreInOrder (q ∷ qs) → AreSome (p ∷ ps) → AreSome (q ∷ qs)
    → ((bytes : List ℕ) → listed (p ∷ ps) bytes ≡ listed (q ∷ qs) bytes) → (o : Ordering) → slice_cmp nat_cmp p.0 q.0 ≡ o → p ≡ q
same_first p q ps qs a b h g same Less is =
    let none = below_first p.0 q qs b is in let one = first_only p ps a in let lt = first_some p ps h in let eq = same p.0 in absurd (omega arith)
same_first p q ps qs a b h g same Equal is =
    let bytes : p.0 ≡ q.0 = exact_bytes p.0 q.0 is in
    let one = first_only p ps a in let other = first_only q qs b in let eq = same p.0 in
    let moved : listed (q ∷ qs) p.0 ≡ listed (q ∷ qs) q.0 = ap (λ (xs : List ℕ). listed (q ∷ qs) xs) bytes in
    let count : p.1 ≡ q.1 = omega arith in λ i. (bytes i, count i)
same_first p q ps qs a b h g same Greater is =
    let less : slice_cmp nat_cmp q.0 p.0 ≡ Less = nat_list_cmp_total.antisymm q.0 p.0 ∙ ap ordering_reverse is in
    let none = below_first q.0 p ps a less in let one = first_only q qs b in let lt = first_some q qs g in let eq = same q.0 in absurd (omega arith)

pub outputs_are_one : (ps qs : List (List ℕ × ℕ)) → AreInOrder ps → AreInOrder qs → AreSome ps → AreSome qs → ((bytes : List ℕ) → listed ps bytes ≡ listed qs bytes) → ps ≡ qs
outputs_are_one [] [] a b h g same = refl
outputs_are_one [] (q ∷ qs) a b h g same = let one = first_only q qs b in let lt = first_some q qs g in let eq : 0 ≡ listed (q ∷ qs) q.0 = same q.0 in absurd (omega arith)
outputs_are_one (p ∷ ps) [] a b h g same = let one = first_only p ps a in let lt = first_some p ps h in let eq : listed (p ∷ ps) p.0 ≡ 0 = same p.0 in absurd (omega arith)
outputs_are_one (p ∷ ps) (q ∷ qs) a b h g same =
    let first = same_first p q ps qs a b h g same (slice_cmp nat_cmp p.0 q.0) refl in
    let rest = outputs_are_one ps qs (rest_in_order p ps a) (rest_in_order q qs b) (rest_some p ps h) (rest_some q qs g)
    (λ bytes. let all = listed-cons p ps bytes in let others = listed-cons q qs bytes in let part : share bytes p ≡ share bytes q = ap (share bytes) first in let eq = same bytes in omega arith) in
    λ i. first i ∷ rest i
