-- The loops over the kept reads of a cell.
use Rattle.std.proofs.Common.{◌≡◌, ◌<◌, ◌≤◌, ◌+◌, ◌⊎◌, ℕ, zero, suc, Bool, true, false, cond, Option, None, List, [], ◌∷◌, Some, length, ◌++◌, slice_set, if◌then◌else◌, position, nat_eq, slice_get, max, refl, ap, sym, subst, ◌∙◌, inr, arith}
use Rattle.std.specs.List.{position_from}
use Rattle.std.proofs.lemmas.Bool.{eqb-true, eq-eqb}
use Rattle.std.proofs.lemmas.Iterator.Adapters.{position_from-zero}
use Rattle.std.proofs.lemmas.List.Quantifiers.{position-Some}
use Rattle.std.proofs.lemmas.Option.{get_or_from_slice_get, slice_get-get_or, slice_get_within}
use lib.ListN.{get_or}
use native.Mathlib.Decide.{ℕ_discrete, dec_le}
use mathlib.Core.Logic.{dite}
use Rattle.c11_shadow.specs.Epochs.{thread_of}
use Rattle.c11_shadow.specs.Kept.{apart_number, IsNewest, IsNoted, again, first}

-- the largest number among those of the first accesses
pub record NewestBelow (reads : List ℕ) (thread : ℕ) (clock : List ℕ) (count newest : ℕ) : Type 0 where
  pub above : (i e : ℕ) → i < count → slice_get reads i ≡ Some e → apart_number e thread clock ≤ newest
  pub one : (newest ≡ 0) ⊎ ((i : ℕ) × (e : ℕ) × (slice_get reads i ≡ Some e) × (newest ≡ apart_number e thread clock))

module _ (reads : List ℕ) (thread : ℕ) (clock : List ℕ) (count newest next : ℕ) where
  pub newest_more : count < length reads → NewestBelow reads thread clock count newest → next ≡ max (apart_number (get_or reads count 0) thread clock) newest
      → NewestBelow reads thread clock (count + 1) next
  newest_more less below is =
      let here : ℕ = get_or reads count 0 in
      let at : slice_get reads count ≡ Some here = slice_get-get_or reads count 0 less in
      record {
        above = λ i e lt g. dite (ℕ_discrete i count)
            (λ (same : i ≡ count). let found : get_or reads i 0 ≡ e = get_or_from_slice_get reads i e 0 g in
            let mine : apart_number (get_or reads count 0) thread clock ≡ apart_number e thread clock = ap (λ (n : ℕ). apart_number n thread clock) (ap (λ (j : ℕ). get_or reads j 0) (sym same) ∙ found) in
            omega arith)
            (λ (other : i ≡ count → ⊥). let old = below.above i e (omega arith) g in omega arith);
        one = dite (dec_le (apart_number here thread clock) newest)
            (λ (le : apart_number here thread clock ≤ newest). let same : next ≡ newest = omega arith in
            subst (λ (n : ℕ). (n ≡ 0) ⊎ ((i : ℕ) × (e : ℕ) × (slice_get reads i ≡ Some e) × (n ≡ apart_number e thread clock))) (sym same) below.one)
            (λ (no : apart_number here thread clock ≤ newest → ⊥). inr (count, here, at, omega arith));
      }

  pub newest_all : length reads ≤ count → NewestBelow reads thread clock count newest → IsNewest reads thread clock newest
  newest_all all below = record { above = λ i e g. below.above i e (let lt = slice_get_within reads i e g in omega arith) g; one = below.one }

-- where a list begins with what fails the test, the first that passes is searched in the rest
none_here : (b : Bool) (n : ℕ) (rest : Option ℕ) → cond b (Some n) rest ≡ None → (b ≡ false) × (rest ≡ None)
none_here true n rest p = cc
none_here false n rest p = (refl, p)

none_passes : (test : ℕ → Bool) (n : ℕ) (reads : List ℕ) → position_from test n reads ≡ None → (i e : ℕ) → slice_get reads i ≡ Some e → test e ≡ true → ⊥
none_passes test n [] p i e g passes = cc
none_passes test n (x ∷ xs) p zero e g passes =
    let here = (none_here (test x) n (position_from test (n + 1) xs) p).0 in let same : x ≡ e = cc in
    cc (ap test same)
none_passes test n (x ∷ xs) p (suc i) e g passes = none_passes test (n + 1) xs (none_here (test x) n (position_from test (n + 1) xs) p).1 i e g passes

-- a place that was found has a read of the thread
pub found : (reads : List ℕ) (thread i : ℕ) → position (λ e. nat_eq (thread_of e) thread) reads ≡ Some i → (e : ℕ) × (slice_get reads i ≡ Some e) × (thread_of e ≡ thread)
found reads thread i p =
    let at = position-Some (λ e. nat_eq (thread_of e) thread) reads i 0 p in
    (get_or reads i 0, slice_get-get_or reads i 0 at.0, eqb-true (thread_of (get_or reads i 0)) thread at.1)

-- where none was found no read is of the thread
pub not_found : (reads : List ℕ) (thread : ℕ) → position (λ e. nat_eq (thread_of e) thread) reads ≡ None → (i e : ℕ) → slice_get reads i ≡ Some e → thread_of e ≡ thread → ⊥
not_found reads thread p i e g same =
    let test = λ (n : ℕ). nat_eq (thread_of n) thread in
    none_passes test 0 reads (sym (position_from-zero test reads) ∙ p) i e g (eq-eqb (thread_of e) thread same)

-- a read is noted over the thread's earlier one
pub noted_again : (old same : List ℕ) (thread epoch i : ℕ) → same ≡ old → thread ≡ thread_of epoch → position (λ e. nat_eq (thread_of e) thread) same ≡ Some i
    → IsNoted old (slice_set old i epoch) epoch
noted_again old same thread epoch i e t p =
    let at = found same thread i p in
    again i at.0 (subst (λ (xs : List ℕ). slice_get xs i ≡ Some at.0) e at.1) (at.2 ∙ t) refl

-- a thread's first read is noted behind the others
pub noted_first : (old same new : List ℕ) (thread epoch count room : ℕ) (ok : Bool) → same ≡ old → thread ≡ thread_of epoch → position (λ e. nat_eq (thread_of e) thread) same ≡ None
    → (((i e : ℕ) → slice_get old i ≡ Some e → thread_of e ≡ thread_of epoch → ⊥) → count < room) → (count < room → ok ≡ true)
    → new ≡ (if ok then old ++ epoch ∷ [] else old) → IsNoted old new epoch
noted_first old same new thread epoch count room ok e t p fits succeeds is =
    let none : (i r : ℕ) → slice_get old i ≡ Some r → thread_of r ≡ thread_of epoch → ⊥ =
    λ i r g q. not_found same thread p i r (subst (λ (xs : List ℕ). slice_get xs i ≡ Some r) (sym e) g) (q ∙ sym t) in
    first none (is ∙ ap (λ (b : Bool). if b then old ++ epoch ∷ [] else old) (succeeds (fits none)))
