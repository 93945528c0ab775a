-- Tables of relations.
use Rattle.std.proofs.Common.{◌≡◌, ℕ, ◌+◌, ◌*◌, ◌/◌, ◌%◌, ◌<◌, ◌≤◌, Bool, true, false, List, Some, slice_get, get_or, length, vec_len, arith, subst, sym, refl, ◌⊎◌, inl, inr, Result, Ok, Err, IfOk, IsTrue, not, ◌↔◌}
use Rattle.c11_num.specs.declared.memory.NoMemory.{NoMemory}
use native.Mathlib.Decide.{ℕ_discrete}
use mathlib.Core.Logic.{dite}
use Rattle.std.proofs.lemmas.Nat.{div-mul-add, mod-mul-add}
use Rattle.std.proofs.lemmas.Option.{slice_get-get_or}
use Rattle.c11_events.proofs.Count.{digits_less}
use Rattle.c11_events.specs.Closure.{Closure}
use Rattle.c11_events.proofs.Prefix.{closure_map}
use Rattle.c11_plain.specs.Parts.{Joined}
use Rattle.c11_plain.specs.declared.pairs.Pairs.{Pairs}
use Rattle.c11_plain.specs.Pairs.{Holds, IsTableOf, Tabulates, Selects, AllPass, FindsBelow}

module _ (n : ℕ) (test : ℕ → ℕ → Bool → Type 0) where
  -- what the loop over all places leaves
  abbrev pub Filled : List Bool → ℕ → Type 0
  Filled items count = (j : ℕ) (bit : Bool) → j < count → slice_get items j ≡ Some bit → test (j / n) (j % n) bit

  in_square : (a b : ℕ) → a < n → b < n → a * n + b < n * n
  in_square a b la lb = let k = digits_less n a b n 0 la lb in omega arith

  at_place : (items : List Bool) (a b : ℕ) (bit : Bool) → a < n → b < n → Filled items (n * n) → slice_get items (a * n + b) ≡ Some bit → test a b bit
  at_place items a b bit la lb filled is =
      let t = filled (a * n + b) bit (in_square a b la lb) is in
      subst (λ (z : ℕ). test a z bit) (mod-mul-add a n b lb) (subst (λ (z : ℕ). test z ((a * n + b) % n) bit) (div-mul-add a n b lb) t)

  by_bit : (table : Pairs) (a b : ℕ) (bit : Bool) → table.count ≡ n → a < n → b < n → Filled table.bits.items (n * n) → slice_get table.bits.items (a * n + b) ≡ Some bit
      → Holds table a b ⊎ test a b false
  by_bit table a b true same la lb filled is =
      inl (record { first = omega arith; second = omega arith; bit = subst (λ (z : ℕ). slice_get table.bits.items (a * z + b) ≡ Some true) (sym same) is })
  by_bit table a b false same la lb filled is = inr (at_place table.bits.items a b false la lb filled is)

  pub tabulates : (table : Pairs) (count : ℕ) → table.count ≡ n → n * n ≤ count → Filled table.bits.items count → Tabulates n test table
  tabulates table count same enough all_filled =
      let items = table.bits.items in
      let filled : Filled items (n * n) = λ j bit lt is. all_filled j bit (omega arith) is in
      record {
        only = λ a b h. let la : a < n = omega (arith, h.first) in let lb : b < n = omega (arith, h.second) in
            (la, lb, at_place items a b true la lb filled (subst (λ (z : ℕ). slice_get items (a * z + b) ≡ Some true) same h.bit));
        all = λ a b la lb.
            let square : vec_len table.bits ≡ table.count * table.count = table.square in
            let size : length items ≡ n * n = omega (arith, table.bits.ok, subst (λ (z : ℕ). vec_len table.bits ≡ z * z) same square) in
            let inside : a * n + b < length items = omega (arith, in_square a b la lb) in
            by_bit table a b (get_or items (a * n + b) true) same la lb filled (slice_get-get_or items (a * n + b) true inside);
      }

  -- the table of a test that decides a relation
  pub table_of : (table : Pairs) (R : ℕ → ℕ → Type 0) → Tabulates n test table → ((a b : ℕ) → R a b → (a < n) × (b < n))
      → ((a b : ℕ) → a < n → b < n → test a b true → R a b) → ((a b : ℕ) → a < n → b < n → test a b false → R a b → ⊥) → IsTableOf table R
  table_of table R t ends sound complete = record {
    sound = λ a b h. let k = t.only a b h in sound a b k.0 k.1 k.2;
    complete = λ a b r. let e = ends a b r in elim (t.all a b e.0 e.1) [ inl h ↦ h | inr f ↦ absurd (complete a b e.0 e.1 f r) ];
  }

  pub made : (r : Result Pairs NoMemory) (R : ℕ → ℕ → Type 0) → IfOk r (λ table. Tabulates n test table) → ((a b : ℕ) → R a b → (a < n) × (b < n))
      → ((a b : ℕ) → a < n → b < n → test a b true → R a b) → ((a b : ℕ) → a < n → b < n → test a b false → R a b → ⊥) → IfOk r (λ table. IsTableOf table R)
  made (Ok table) R t ends sound complete = table_of table R t ends sound complete
  made (Err e) R t ends sound complete = tt

-- one row more
pub next_row : (R T : ℕ → ℕ → Type 0) (a : ℕ) → ((x b : ℕ) → x < a → R x b → T x b) → ((b : ℕ) → R a b → T a b) → (x b : ℕ) → x < a + 1 → R x b → T x b
next_row R T a rows row x b lt r =
    dite (ℕ_discrete x a)
    (λ (same : x ≡ a). subst (λ (z : ℕ). R z b → T z b) (sym same) (row b) r)
    (λ (differ : x ≡ a → ⊥). rows x b (omega arith) r)

-- what a search below a bound says
pub some_of : (found : Bool) (n : ℕ) (test : ℕ → Bool → Type 0) (R : ℕ → Type 0) → FindsBelow n test found
    → ((k : ℕ) → R k → k < n) → ((k : ℕ) → k < n → test k true → R k) → ((k : ℕ) → k < n → test k false → R k → ⊥) → IsTrue found ↔ ((k : ℕ) × R k)
some_of true n test R f bound sound complete = (λ _. let s = f.some refl in (s.0, sound s.0 s.1.0 s.1.1), λ _. refl)
some_of false n test R f bound sound complete = (λ h. cc, λ s. absurd (complete s.0 (bound s.0 s.1) (f.none refl s.0 (bound s.0 s.1)) s.1))

-- what a search that shall find nothing says
pub none_of : (found : Bool) (n : ℕ) (test : ℕ → Bool → Type 0) (R : ℕ → Type 0) → FindsBelow n test found
    → ((k : ℕ) → k < n → test k true → R k) → ((k : ℕ) → k < n → test k false → R k → ⊥) → IsTrue (not found) ↔ ((k : ℕ) → k < n → R k → ⊥)
none_of true n test R f sound complete = (λ h. cc, λ none. let s = f.some refl in absurd (none s.0 s.1.0 (sound s.0 s.1.0 s.1.1)))
none_of false n test R f sound complete = (λ _ k lt. complete k lt (f.none refl k lt), λ _. refl)

-- the pairs of a table that pass a test
pub selects : (table : Pairs) (test inner : ℕ → ℕ → Bool → Type 0) (r : Result Pairs NoMemory) → IfOk r (λ kept. Tabulates table.count inner kept)
    → ((a b : ℕ) → a < table.count → b < table.count → inner a b true → Holds table a b × test a b true)
    → ((a b : ℕ) → a < table.count → b < table.count → inner a b false → Holds table a b → test a b false) → IfOk r (λ kept. Selects table test kept)
selects table test inner (Err e) t sound complete = tt
selects table test inner (Ok kept) t sound complete = record {
  only = λ a b h. let k = t.only a b h in sound a b k.0 k.1 k.2;
  all = λ a b h. elim (t.all a b h.first h.second) [ inl k ↦ inl k | inr f ↦ inr (complete a b h.first h.second f h) ];
}

pub selected : (table kept : Pairs) (test : ℕ → ℕ → Bool → Type 0) (R P : ℕ → ℕ → Type 0) → Selects table test kept → IsTableOf table R
    → ((a b : ℕ) → Holds table a b → test a b true → P a b) → ((a b : ℕ) → Holds table a b → test a b false → P a b → ⊥) → IsTableOf kept (λ a b. R a b × P a b)
selected table kept test R P s t sound complete = record {
  sound = λ a b h. let k = s.only a b h in (t.sound a b k.0, sound a b k.0 k.1);
  complete = λ a b r. let k = t.complete a b r.0 in elim (s.all a b k) [ inl h ↦ h | inr f ↦ absurd (complete a b k f r.1) ];
}

pub if_ok : {A : Type 0} (r : Result A NoMemory) {P Q : A → Type 0} → IfOk r P → ((x : A) → P x → Q x) → IfOk r Q
if_ok (Ok x) p f = f x p
if_ok (Err e) p f = tt

pub same_of : {t : Pairs} {R S : ℕ → ℕ → Type 0} → IsTableOf t R → ((a b : ℕ) → R a b → S a b) → ((a b : ℕ) → S a b → R a b) → IsTableOf t S
same_of i f g = record { sound = λ a b h. f a b (i.sound a b h); complete = λ a b s. i.complete a b (g a b s) }

-- a table is that of its own relation
pub same_table : (t : Pairs) → IsTableOf t (Holds t)
same_table t = record { sound = λ a b h. h; complete = λ a b h. h }

-- the pairs of a table that a fact of the second number keeps
pub kept_of : {x t : Pairs} {R : ℕ → ℕ → Type 0} {P : ℕ → Type 0} → IsTableOf x R → IsTableOf t (λ a b. Holds x a b × P b) → IsTableOf t (λ a b. R a b × P b)
kept_of i k = same_of k (λ a b h. (i.sound a b h.0, h.1)) (λ a b h. (i.complete a b h.0, h.1))

pub or_of : {x y t : Pairs} {R S : ℕ → ℕ → Type 0} → IsTableOf x R → IsTableOf y S → IsTableOf t (λ a b. Holds x a b ⊎ Holds y a b) → IsTableOf t (λ a b. R a b ⊎ S a b)
or_of i j k = same_of k
    (λ a b h. elim h [ inl p ↦ inl (i.sound a b p) | inr p ↦ inr (j.sound a b p) ])
    (λ a b h. elim h [ inl p ↦ inl (i.complete a b p) | inr p ↦ inr (j.complete a b p) ])

pub then_of : {x y t : Pairs} {R S : ℕ → ℕ → Type 0} → IsTableOf x R → IsTableOf y S → IsTableOf t (Joined (Holds x) (Holds y)) → IsTableOf t (Joined R S)
then_of i j k = same_of k
    (λ a b h. (h.0, (i.sound a h.0 h.1.0, j.sound h.0 b h.1.1)))
    (λ a b h. (h.0, (i.complete a h.0 h.1.0, j.complete h.0 b h.1.1)))

pub closure_of : {x t : Pairs} {R : ℕ → ℕ → Type 0} → IsTableOf x R → IsTableOf t (Closure (Holds x)) → IsTableOf t (Closure R)
closure_of {x = x} {R = R} i k = same_of k (closure_map (Holds x) R i.sound) (closure_map R (Holds x) i.complete)

-- the same, with the bound in the answer
pub found_below : (found : Bool) (n : ℕ) (test : ℕ → Bool → Type 0) (R : ℕ → Type 0) → FindsBelow n test found
    → ((k : ℕ) → k < n → test k true → R k) → ((k : ℕ) → k < n → test k false → R k → ⊥) → IsTrue found ↔ ((k : ℕ) × ((k < n) × R k))
found_below true n test R f sound complete = (λ _. let s = f.some refl in (s.0, (s.1.0, sound s.0 s.1.0 s.1.1)), λ _. refl)
found_below false n test R f sound complete = (λ h. cc, λ s. absurd (complete s.0 s.1.0 (f.none refl s.0 s.1.0) s.1.1))

pub all_of : (passed : Bool) (table : Pairs) (test : ℕ → ℕ → Bool → Type 0) (G : ℕ → ℕ → Type 0) → AllPass table test passed
    → ((a b : ℕ) → Holds table a b → test a b true → G a b) → ((a b : ℕ) → Holds table a b → test a b false → G a b → ⊥) → IsTrue passed ↔ ((a b : ℕ) → Holds table a b → G a b)
all_of true table test G p sound complete = (λ _ a b h. sound a b h (p.each refl a b h), λ _. refl)
all_of false table test G p sound complete = (λ h. cc, λ all. let s = p.some refl in absurd (complete s.0 s.1 s.2.0 s.2.1 (all s.0 s.1 s.2.0)))

pub each_of : (found : Bool) (n : ℕ) (test : ℕ → Bool → Type 0) (G : ℕ → Type 0) → FindsBelow n test found
    → ((k : ℕ) → k < n → test k false → G k) → ((k : ℕ) → k < n → test k true → G k → ⊥) → IsTrue (not found) ↔ ((k : ℕ) → k < n → G k)
each_of true n test G f sound complete = (λ h. cc, λ all. let s = f.some refl in absurd (complete s.0 s.1.0 s.1.1 (all s.0 s.1.0)))
each_of false n test G f sound complete = (λ _ k lt. sound k lt (f.none refl k lt), λ _. refl)

pub not_iff : (b : Bool) (P : Type 0) → (IsTrue b ↔ P) → IsTrue (not b) ↔ (P → ⊥)
not_iff true P e = (λ h. cc, λ n. absurd (n (e.0 refl)))
not_iff false P e = (λ _ p. let h : IsTrue false = e.1 p in cc, λ _. refl)
