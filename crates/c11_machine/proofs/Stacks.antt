-- Stacks, whose top is the last item.
use Rattle.std.proofs.Common.{◌≡◌, ℕ, zero, suc, ◌+◌, ◌-◌, ◌<◌, ◌≤◌, List, [], ◌∷◌, ◌++◌, length, reverse, take, drop, get_or, Some, None, refl, ap, sym, ◌∙◌, arith}
use Rattle.std.proofs.lemmas.List.{reverse-append, length-reverse}
use Rattle.c11_num.specs.Ranges.{TypedNumber}
use Rattle.c11_flat.specs.declared.instr.Place.{Place}
use Rattle.c11_flat.specs.declared.instr.Place.TheVariants.{At, OnStack}
use Rattle.c11_flat.specs.declared.slot.Slot.{Slot}
use Rattle.c11_flat.specs.declared.slot.Slot.TheVariants as slot
use Rattle.c11_flat.specs.Flat.{Next, on_value, on_place, at_place}
use Rattle.c11_machine.specs.Looks.{ValueIn}

pub drop_front : {A : Type 0} (a b : List A) (k : ℕ) → k ≡ length a → drop k (a ++ b) ≡ b
drop_front [] b zero e = refl
drop_front [] b (suc k) e = absurd (omega (arith, e))
drop_front (x ∷ a) b zero e = absurd (omega (arith, e))
drop_front (x ∷ a) b (suc k) e = drop_front a b k (omega (arith, e))

pub parts : {A : Type 0} (xs : List A) (b : ℕ) → xs ≡ take b xs ++ drop b xs
parts [] zero = refl
parts [] (suc b) = refl
parts (x ∷ xs) zero = refl
parts (x ∷ xs) (suc b) = ap (λ (ys : List _). x ∷ ys) (parts xs b)

pub length_dropped : {A : Type 0} (xs : List A) (b k : ℕ) → b + k ≡ length xs → k ≡ length (drop b xs)
length_dropped [] zero k e = omega (arith, e)
length_dropped [] (suc b) k e = absurd (omega (arith, e))
length_dropped (x ∷ xs) zero k e = omega (arith, e)
length_dropped (x ∷ xs) (suc b) k e = length_dropped xs b k (omega (arith, e))

-- below so many slots lie the items in front
pub drop_reverse : {A : Type 0} (xs : List A) (b k : ℕ) → b + k ≡ length xs → drop k (reverse xs) ≡ reverse (take b xs)
drop_reverse xs b k e = ap (λ (ys : List _). drop k (reverse ys)) (parts xs b) ∙ (ap (λ (ys : List _). drop k ys) (reverse-append (take b xs) (drop b xs))
    ∙ drop_front (reverse (drop b xs)) (reverse (take b xs)) k (length_dropped xs b k e ∙ sym (length-reverse (drop b xs))))

taken_more : {A : Type 0} (xs : List A) (i : ℕ) (d : A) → i < length xs → take (suc i) xs ≡ take i xs ++ get_or xs i d ∷ []
taken_more [] i d lt = absurd (omega (arith, lt))
taken_more (x ∷ xs) zero d lt = refl
taken_more (x ∷ xs) (suc i) d lt = ap (λ (ys : List _). x ∷ ys) (taken_more xs i d (omega (arith, lt)))

pub on_top : {A : Type 0} (xs : List A) (x : A) → reverse (xs ++ x ∷ []) ≡ x ∷ reverse xs
on_top xs x = reverse-append xs (x ∷ [])

-- the slot so far below the top
pub slot_below : {A : Type 0} (xs : List A) (k i : ℕ) (d : A) → suc (i + k) ≡ length xs → drop k (reverse xs) ≡ get_or xs i d ∷ drop (k + 1) (reverse xs)
slot_below xs k i d e = drop_reverse xs (suc i) k (omega (arith, e)) ∙ (ap (λ (ys : List _). reverse ys) (taken_more xs i d (omega (arith, e)))
    ∙ (on_top (take i xs) (get_or xs i d) ∙ ap (λ (ys : List _). get_or xs i d ∷ ys) (sym (drop_reverse xs i (k + 1) (omega (arith, e))))))

pub none_below : {A : Type 0} (xs : List A) (k : ℕ) → length xs ≤ k → drop k xs ≡ []
none_below [] zero le = refl
none_below [] (suc k) le = refl
none_below (x ∷ xs) zero le = absurd (omega (arith, le))
none_below (x ∷ xs) (suc k) le = none_below xs k (omega (arith, le))

-- ---- what a look tells

pub value_found : (v : TypedNumber) (stack rest : List Slot) → stack ≡ slot.Value v ∷ rest → ValueIn (Some v) stack rest
value_found v stack rest e go = ap (λ (s : List Slot). on_value s go) e

pub no_value : (n : ℕ) (stack rest rest' : List Slot) → stack ≡ slot.Place n ∷ rest → ValueIn None stack rest'
no_value n stack rest rest' e go = ap (λ (s : List Slot). on_value s go) e

pub no_value_left : (stack rest : List Slot) → stack ≡ [] → ValueIn None stack rest
no_value_left stack rest e go = ap (λ (s : List Slot). on_value s go) e

-- a place that stays on the stack is found as one that is taken
pub place_stays : (place : Place) (stack : List Slot) (go : ℕ → Next) → at_place place stack go ≡ on_place place stack (λ n rest. go n)
place_stays (At n) stack go = refl
place_stays OnStack [] go = refl
place_stays OnStack (slot.Value v ∷ stack) go = refl
place_stays OnStack (slot.Place n ∷ stack) go = refl

-- what is left of a stack of which so many were taken off
pub taken_off : {A : Type 0} (xs : List A) (k kept : ℕ) → kept ≡ length xs - k → reverse (take kept xs) ≡ drop k (reverse xs)
taken_off xs k zero e = sym (none_below (reverse xs) k (omega (arith, e, length-reverse xs)))
taken_off xs k (suc kept) e = sym (drop_reverse xs (suc kept) k (omega (arith, e)))
