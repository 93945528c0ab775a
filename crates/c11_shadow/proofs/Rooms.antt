-- Reads of different threads are at most as many as the threads, so a thread's first read finds room.
use Rattle.std.proofs.Common.{◌≡◌, ℕ, suc, ◌<◌, Bool, true, false, ◌||◌, List, [], ◌∷◌, Some, length, map, slice_get, sym, ap, ◌∙◌, refl, arith, inl, inr}
use Rattle.std.specs.List.{IsDistinct, AllByRecursion, list_any}
use Rattle.std.proofs.lemmas.Bool.Decides.{eqb_tells}
use Rattle.std.proofs.lemmas.Map.Steps.{length-le_from_distinct_below}
use Rattle.std.proofs.Math.Dec.{eqb}
use Rattle.std.proofs.lemmas.List.{length-map}
use Rattle.c11_shadow.specs.Epochs.{thread_of}
use Rattle.c11_shadow.specs.declared.cell.Kept.{Kept}
use Rattle.c11_shadow.specs.Kept.{IsSafe}

differs : (a b : ℕ) → (a ≡ b → ⊥) → eqb a b ≡ false
differs a b other = elim (eqb_tells a b) [ inl t ↦ absurd (other t.1) | inr f ↦ f.0 ]

all_apart : (thread : ℕ) (reads : List ℕ) → ((i e : ℕ) → slice_get reads i ≡ Some e → thread_of e ≡ thread → ⊥) → AllByRecursion (λ t. eqb thread t ≡ false) (map thread_of reads)
all_apart thread [] none = tt
all_apart thread (x ∷ xs) none = (differs thread (thread_of x) (λ e. none 0 x refl (sym e)), all_apart thread xs (λ i e g same. none (suc i) e g same))

distinct : (reads : List ℕ) → ((i j e f : ℕ) → slice_get reads i ≡ Some e → slice_get reads j ≡ Some f → thread_of e ≡ thread_of f → i ≡ j) → IsDistinct eqb (map thread_of reads)
unfolding IsDistinct
distinct [] once = tt
distinct (x ∷ xs) once = (
  all_apart (thread_of x) xs (λ i e g same. let clash : suc i ≡ 0 = once (suc i) 0 e x g refl same in omega arith),
  distinct xs (λ i j e f g h same. let s : suc i ≡ suc j = once (suc i) (suc j) e f g h same in omega arith),
)

member_below : (reads : List ℕ) (n : ℕ) → ((i e : ℕ) → slice_get reads i ≡ Some e → thread_of e < n) → (q : ℕ) → list_any (eqb q) (map thread_of reads) ≡ true → q < n
member_below [] n below q is = cc
member_below (x ∷ xs) n below q is = elim (eqb_tells q (thread_of x)) [
  | inl t ↦ omega (arith, below 0 x refl, t.1)
  | inr f ↦ member_below xs n (λ i e g. below (suc i) e g) q (ap (λ (b : Bool). b || list_any (eqb q) (map thread_of xs)) (sym f.0) ∙ is)
]

-- a thread without a read leaves room for one
pub leaves_room : (threads thread : ℕ) (kept : Kept) → IsSafe threads kept → thread < threads → ((i e : ℕ) → slice_get kept.reads.items i ≡ Some e → thread_of e ≡ thread → ⊥)
    → length kept.reads.items < threads
unfolding IsDistinct
leaves_room threads thread kept safe less none =
    let all : List ℕ = thread ∷ map thread_of kept.reads.items in
    let apart : IsDistinct eqb (thread ∷ map thread_of kept.reads.items) = (all_apart thread kept.reads.items none, distinct kept.reads.items safe.once) in
    let few = length-le_from_distinct_below (thread ∷ map thread_of kept.reads.items) threads apart (λ q is. elim (eqb_tells q thread) [
      | inl t ↦ omega (arith, t.1)
      | inr f ↦ member_below kept.reads.items threads (λ i e g. omega (arith, safe.within i e g)) q (ap (λ (b : Bool). b || list_any (eqb q) (map thread_of kept.reads.items)) (sym f.0) ∙ is)
    ]) in
    omega (arith, few, length-map kept.reads.items thread_of)
