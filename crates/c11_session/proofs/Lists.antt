-- Sums, one changed place, and beginnings of lists.
use Rattle.std.proofs.Common.{◌≡◌, ◌≢◌, ℕ, zero, suc, ◌+◌, ◌*◌, ◌≤◌, List, [], ◌∷◌, ◌++◌, length, refl, sym, ap, ◌∙◌, subst, arith, ⊎_elim, append_assoc, append-nil, length-append}
use Rattle.std.specs.List.{AllByRecursion}
use Rattle.std.proofs.Math.ListN.{set}
use mathlib.Core.Option.{some, some-injective, some-ne-none}
use mathlib.Core.List.{IsPrefix}
use lib.ListN.{get_elem?}
use Rattle.atomic_table.proofs.Lists.{at_set, at_snoc}
use Rattle.c11_session.specs.Views.{total}

module _ {V : Type 0} where
  -- ---- sums

  pub total_set : (f : V → ℕ) (xs : List V) (id : ℕ) (v w : V) → get_elem? xs id ≡ some v → total f (set xs id w) + f v ≡ total f xs + f w
  total_set f [] id v w at = absurd (some-ne-none v (sym at))
  total_set f (x ∷ xs) zero v w at = let e : f x ≡ f v = ap f (some-injective x v at) in omega arith
  total_set f (x ∷ xs) (suc id) v w at = omega (arith, total_set f xs id v w at)

  pub total_snoc : (f : V → ℕ) (xs : List V) (w : V) → total f (xs ++ w ∷ []) ≡ total f xs + f w
  total_snoc f [] w = omega arith
  total_snoc f (x ∷ xs) w = omega (arith, total_snoc f xs w)

  pub total-append : (f : V → ℕ) (xs ys : List V) → total f (xs ++ ys) ≡ total f xs + total f ys
  total-append f [] ys = omega arith
  total-append f (x ∷ xs) ys = omega (arith, total-append f xs ys)

  pub total_part : (f : V → ℕ) (xs : List V) (id : ℕ) (v : V) → get_elem? xs id ≡ some v → f v ≤ total f xs
  total_part f [] id v at = absurd (some-ne-none v (sym at))
  total_part f (x ∷ xs) zero v at = let e : f x ≡ f v = ap f (some-injective x v at) in omega arith
  total_part f (x ∷ xs) (suc id) v at = omega (arith, total_part f xs id v at)

  -- two places hold no more than all
  pub total_two : (f : V → ℕ) (xs : List V) (i j : ℕ) (v w : V) → get_elem? xs i ≡ some v → get_elem? xs j ≡ some w → j ≢ i → f v + f w ≤ total f xs
  total_two f [] i j v w at_i at_j apart = absurd (some-ne-none v (sym at_i))
  total_two f (x ∷ xs) zero zero v w at_i at_j apart = absurd (apart refl)
  total_two f (x ∷ xs) zero (suc j) v w at_i at_j apart = let e : f x ≡ f v = ap f (some-injective x v at_i) in omega (arith, total_part f xs j w at_j)
  total_two f (x ∷ xs) (suc i) zero v w at_i at_j apart = let e : f x ≡ f w = ap f (some-injective x w at_j) in omega (arith, total_part f xs i v at_i)
  total_two f (x ∷ xs) (suc i) (suc j) v w at_i at_j apart = omega (arith, total_two f xs i j v w at_i at_j (λ e. apart (ap suc e)))

  -- f is at most g and 10,001 times h at each place, so also in all
  pub total_le : (f g h : V → ℕ) (xs : List V) → ((id : ℕ) (v : V) → get_elem? xs id ≡ some v → f v ≤ g v + 10001 * h v) → total f xs ≤ total g xs + 10001 * total h xs
  total_le f g h [] each = omega arith
  total_le f g h (x ∷ xs) each = let here = each 0 x refl in let rest = total_le f g h xs (λ id v at. each (suc id) v at) in omega (arith, here, rest)

  pub total_le_sum : (f g h : V → ℕ) (xs : List V) → ((v : V) → f v ≤ g v + h v) → total f xs ≤ total g xs + total h xs
  total_le_sum f g h [] each = omega arith
  total_le_sum f g h (x ∷ xs) each = let here = each x in let rest = total_le_sum f g h xs each in omega (arith, here, rest)

  pub total_none : (f : V → ℕ) (xs : List V) → ((x : V) → f x ≤ 0) → total f xs ≤ 0
  total_none f [] each = omega arith
  total_none f (x ∷ xs) each = let here = each x in let rest = total_none f xs each in omega (arith, here, rest)

  -- ---- one changed place, or one more

  -- what holds of each but one, and of the new one there
  pub all_set : (F : ℕ → V → Type 0) (xs : List V) (id : ℕ) (w : V) → F id w → ((j : ℕ) (u : V) → j ≢ id → get_elem? xs j ≡ some u → F j u)
      → (j : ℕ) (u : V) → get_elem? (set xs id w) j ≡ some u → F j u
  all_set F xs id w here others j u e = ⊎_elim (λ (x : (j ≡ id) × (w ≡ u)). subst (λ (y : ℕ × V). F y.0 y.1) (λ i. (sym x.0 i, x.1 i)) here)
      (λ (x : (j ≢ id) × (get_elem? xs j ≡ some u)). others j u x.0 x.1) (at_set xs id j w u e)

  pub all_snoc : (F : V → Type 0) (xs : List V) (w : V) → F w → ((j : ℕ) (u : V) → get_elem? xs j ≡ some u → F u)
      → (j : ℕ) (u : V) → get_elem? (xs ++ w ∷ []) j ≡ some u → F u
  all_snoc F xs w here others j u e = ⊎_elim (λ (x : get_elem? xs j ≡ some u). others j u x) (λ (x : w ≡ u). subst F x here) (at_snoc xs w u j e)

  -- one stands at a place
  pub same_at : (xs : List V) (id : ℕ) (v w : V) → get_elem? xs id ≡ some v → get_elem? xs id ≡ some w → v ≡ w
  same_at xs id v w a b = some-injective v w (sym a ∙ b)

  pub same_place : (xs : List V) (i j : ℕ) (v w : V) → get_elem? xs i ≡ some v → get_elem? xs j ≡ some w → i ≡ j → v ≡ w
  same_place xs i j v w a b same = same_at xs j v w (subst (λ (k : ℕ). get_elem? xs k ≡ some v) same a) b

  pub set_there : (xs : List V) (id : ℕ) (v w : V) → get_elem? xs id ≡ some v → get_elem? (set xs id w) id ≡ some w
  set_there [] id v w at = absurd (some-ne-none v (sym at))
  set_there (x ∷ xs) zero v w at = refl
  set_there (x ∷ xs) (suc id) v w at = set_there xs id v w at

  -- ---- each of a list

  pub every_map : {P Q : V → Type 0} (xs : List V) → ((x : V) → P x → Q x) → AllByRecursion P xs → AllByRecursion Q xs
  every_map [] f all = tt
  every_map (x ∷ xs) f all = (f x all.0, every_map xs f all.1)

  pub every_both : (P Q : V → Type 0) (xs : List V) → AllByRecursion P xs → AllByRecursion Q xs → AllByRecursion (λ x. P x × Q x) xs
  every_both P Q [] p q = tt
  every_both P Q (x ∷ xs) p q = ((p.0, q.0), every_both P Q xs p.1 q.1)

  pub every-append : (P : V → Type 0) (xs ys : List V) → AllByRecursion P xs → AllByRecursion P ys → AllByRecursion P (xs ++ ys)
  every-append P [] ys a b = b
  every-append P (x ∷ xs) ys a b = (a.0, every-append P xs ys a.1 b)

  pub every_front : (P : V → Type 0) (xs ys : List V) → AllByRecursion P (xs ++ ys) → AllByRecursion P xs
  every_front P [] ys h = tt
  every_front P (x ∷ xs) ys h = (h.0, every_front P xs ys h.1)

  pub every_back : (P : V → Type 0) (xs ys : List V) → AllByRecursion P (xs ++ ys) → AllByRecursion P ys
  every_back P [] ys h = h
  every_back P (x ∷ xs) ys h = every_back P xs ys h.1

  -- ---- beginnings of one list

  pub prefix_self : (xs : List V) → IsPrefix xs xs
  prefix_self xs = ([], append-nil xs)

  pub prefix_trans : (xs ys zs : List V) → IsPrefix xs ys → IsPrefix ys zs → IsPrefix xs zs
  prefix_trans xs ys zs p q = (p.0 ++ q.0, sym (append_assoc xs p.0 q.0) ∙ (ap (λ w. w ++ q.0) p.1 ∙ q.1))

  pub prefix_length : (xs ys : List V) → IsPrefix xs ys → length xs ≤ length ys
  prefix_length xs ys p = omega (arith, sym (ap length p.1) ∙ length-append xs p.0)

  -- a beginning as long as the whole is the whole
  pub prefix_whole : (xs ys : List V) → IsPrefix xs ys → length ys ≤ length xs → xs ≡ ys
  prefix_whole [] [] p le = refl
  prefix_whole [] (y ∷ ys) p le = absurd (omega arith)
  prefix_whole (x ∷ xs) [] p le = absurd (cc (p.1))
  prefix_whole (x ∷ xs) (y ∷ ys) p le =
      let rest = prefix_whole xs ys (p.0, cc (p.1)) (omega arith) in cc (p.1, rest)
