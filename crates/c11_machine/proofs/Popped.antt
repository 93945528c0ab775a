-- Values that are taken off a stack at once, and places that become 0.
use Rattle.std.proofs.Common.{◌≡◌, ℕ, zero, suc, ◌+◌, ◌-◌, ◌<◌, Bool, true, false, List, [], ◌∷◌, ◌++◌, length, reverse, take, drop, Some, None, refl, ap, sym, ◌∙◌, append_assoc, arith}
use Rattle.std.specs.Prelude.{ℤ, pos, slice_set}
use Rattle.std.proofs.lemmas.List.{reverse-append, append-nil, length-reverse}
use Rattle.c11_num.specs.Ranges.{TypedNumber}
use Rattle.c11_flat.specs.declared.slot.Slot.{Slot}
use Rattle.c11_flat.specs.declared.slot.Slot.TheVariants.{Value, Place}
use Rattle.c11_flat.specs.Flat.{Next, Halts, popping}
use Rattle.c11_machine.specs.Slots.{values_of, are_values, ValuesFrom}
use Rattle.c11_machine.specs.Steps.{zeros}
use Rattle.c11_machine.proofs.Stacks.{drop_reverse, parts, length_dropped}

reverse_onto : (x : Slot) (xs rest : List Slot) → reverse (x ∷ xs) ++ rest ≡ reverse xs ++ x ∷ rest
reverse_onto x xs rest = ap (λ (ys : List Slot). ys ++ rest) (reverse-append (x ∷ []) xs) ∙ append_assoc (reverse xs) (x ∷ []) rest

popped : (xs : List Slot) (k n : ℕ) (found : List TypedNumber) (rest : List Slot) (go : List TypedNumber → List Slot → Next) → k ≡ length xs + n → are_values xs ≡ true
    → popping k found (reverse xs ++ rest) go ≡ popping n (values_of xs ++ found) rest go
popped [] k n found rest go e all = let same : k ≡ n = omega (arith, e) in ap (λ (m : ℕ). popping m found rest go) same
popped (Value v ∷ xs) k n found rest go e all = ap (λ (s : List Slot). popping k found s go) (reverse_onto (Value v) xs rest)
    ∙ popped xs k (suc n) found (Value v ∷ rest) go (omega (arith, e)) all
popped (Place p ∷ xs) k n found rest go e all = absurd (cc all)

place_stops : (b : Bool) (p : ℕ) (xs : List Slot) (k n : ℕ) (found : List TypedNumber) (rest : List Slot) (go : List TypedNumber → List Slot → Next) → k ≡ length xs + suc n → are_values xs ≡ b
    → (b ≡ false → popping k found (reverse xs ++ Place p ∷ rest) go ≡ Halts) → popping k found (reverse xs ++ Place p ∷ rest) go ≡ Halts
place_stops true p xs k n found rest go e is others = popped xs k (suc n) found (Place p ∷ rest) go e is
place_stops false p xs k n found rest go e is others = others refl

unpopped : (xs : List Slot) (k n : ℕ) (found : List TypedNumber) (rest : List Slot) (go : List TypedNumber → List Slot → Next) → k ≡ length xs + n → are_values xs ≡ false
    → popping k found (reverse xs ++ rest) go ≡ Halts
unpopped [] k n found rest go e some = absurd (cc some)
unpopped (Value v ∷ xs) k n found rest go e some = ap (λ (s : List Slot). popping k found s go) (reverse_onto (Value v) xs rest)
    ∙ unpopped xs k (suc n) found (Value v ∷ rest) go (omega (arith, e)) some
unpopped (Place p ∷ xs) k n found rest go e some = ap (λ (s : List Slot). popping k found s go) (reverse_onto (Place p) xs rest)
    ∙ place_stops (are_values xs) p xs k n found rest go (omega (arith, e)) refl (λ is. unpopped xs k (suc n) found (Place p ∷ rest) go (omega (arith, e)) is)

reverse_parts : (items : List Slot) (b : ℕ) → reverse items ≡ reverse (drop b items) ++ reverse (take b items)
reverse_parts items b = ap (λ (ys : List Slot). reverse ys) (parts items b) ∙ reverse-append (take b items) (drop b items)

pub all_popped : (items : List Slot) (b count : ℕ) → b + count ≡ length items → are_values (drop b items) ≡ true → ValuesFrom (Some b) count items
all_popped items b count e all = (
  e,
  λ go. ap (λ (s : List Slot). popping count [] s go) (reverse_parts items b)
      ∙ (popped (drop b items) count 0 [] (reverse (take b items)) go (let len = length_dropped items b count e in omega (arith, len)) all
      ∙ (ap (λ (vs : List TypedNumber). go vs (reverse (take b items))) (append-nil (values_of (drop b items))) ∙ ap (λ (s : List Slot). go (values_of (drop b items)) s) (sym (drop_reverse items b count e)))),
)

pub not_popped : (items : List Slot) (b count : ℕ) → b + count ≡ length items → are_values (drop b items) ≡ false → ValuesFrom None count items
not_popped items b count e some go = ap (λ (s : List Slot). popping count [] s go) (reverse_parts items b)
    ∙ unpopped (drop b items) count 0 [] (reverse (take b items)) go (let len = length_dropped items b count e in omega (arith, len)) some

too_few : (n : ℕ) (found : List TypedNumber) (stack : List Slot) (go : List TypedNumber → List Slot → Next) → length stack < n → popping n found stack go ≡ Halts
too_few zero found stack go lt = absurd (omega (arith, lt))
too_few (suc n) found [] go lt = refl
too_few (suc n) found (Value v ∷ stack) go lt = too_few n (v ∷ found) stack go (omega (arith, lt))
too_few (suc n) found (Place p ∷ stack) go lt = refl

pub short_popped : (items : List Slot) (count : ℕ) → length items < count → ValuesFrom None count items
short_popped items count lt go = too_few count [] (reverse items) go (omega (arith, lt, length-reverse items))

pub zeros_more : (place i count : ℕ) (numbers : List ℤ) → i < count → zeros (place + (i + 1)) (count - (i + 1)) (slice_set numbers (place + i) (pos 0)) ≡ zeros (place + i) (count - i) numbers
zeros_more place i count numbers lt =
    let next : place + (i + 1) ≡ suc (place + i) = omega arith in
    let fewer : count - i ≡ suc (count - (i + 1)) = omega (arith, lt) in
    ap (λ (p : ℕ). zeros p (count - (i + 1)) (slice_set numbers (place + i) (pos 0))) next ∙ ap (λ (n : ℕ). zeros (place + i) n numbers) (sym fewer)
