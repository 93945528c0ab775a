-- What is kept of names stays right where one is declared, and where the last one is forgotten.
use Rattle.std.proofs.Common.{◌≡◌, ℕ, zero, suc, ◌+◌, ◌<◌, ◌≤◌, Bool, true, false, List, [], ◌∷◌, ◌++◌, length, take, Option, Some, None, refl, sym, ap, ◌∙◌, subst, slice_get, arith, true≢false}
use Rattle.std.specs.Prelude.{if◌then◌else◌, Result, Ok, Err, OnOk, OnErr, is_err, is_ok}
use Rattle.std.specs.Str.{bytes_eq}
use Rattle.std.proofs.lemmas.List.{map-append, length-map, take-append-le}
use Rattle.std.proofs.lemmas.Option.{slice_get_within, none-some}
use Rattle.std.proofs.lemmas.Slice.Eq.{bytes_eq-Decides}
use Rattle.c11_check.specs.declared.scopes.Binding.{Binding}
use Rattle.c11_check.specs.Scopes.{Named}
use Rattle.c11_check.specs.Table.{Table, entry_at, place_at, flat, last_place, or_place}
use Rattle.c11_check.specs.Bound.{named_of, names_of, AreLinked}
use Rattle.c11_check.proofs.Places.{place_append}

pub on_ok : {T E P : Type 0} (result : Result T E) → is_err result ≡ false → OnOk result P → P
on_ok (Ok x) is p = p
on_ok (Err e) is p = absurd (true≢false is)

pub on_present : {T E P : Type 0} (result : Result T E) (entry : Option (Option ℕ)) (place : ℕ) → OnErr result (entry ≡ None) → flat entry ≡ Some place → OnOk result P → P
on_present (Ok x) entry place absent there p = p
on_present (Err e) entry place absent there p = absurd (none-some place (sym (ap flat absent) ∙ there))

abbrev pub Placed : List Binding → Table → Type 0
Placed bs table = (name : List ℕ) → place_at name table ≡ last_place 0 (names_of bs) name

-- the table with a name's place changed
abbrev pub Changed : List ℕ → Option ℕ → Table → Table → Type 0
Changed name place table after = (other : List ℕ) → entry_at other after ≡ (if bytes_eq other name then Some place else entry_at other table)

flat_if : (same : Bool) (place : Option ℕ) (entry : Option (Option ℕ)) → flat (if same then Some place else entry) ≡ (if same then place else flat entry)
flat_if true place entry = refl
flat_if false place entry = refl

changed_place : (name : List ℕ) (place : Option ℕ) (table after : Table) → Changed name place table after → (other : List ℕ) (same : Bool) → bytes_eq other name ≡ same
    → place_at other after ≡ (if same then place else place_at other table)
changed_place name place table after changed other same is = ap flat (changed other ∙ ap (λ (b : Bool). if b then Some place else entry_at other table) is) ∙ flat_if same place (entry_at other table)

or_if : (same : Bool) (n : ℕ) (rest : Option ℕ) → or_place (if same then Some (0 + n) else None) rest ≡ (if same then Some n else rest)
or_if true n rest = ap Some (omega arith)
or_if false n rest = refl

-- the last of the names
last_of : (xs : List Named) (x : Named) (name : List ℕ) (same : Bool) → bytes_eq name x.name ≡ same
    → last_place 0 (xs ++ x ∷ []) name ≡ (if same then Some (length xs) else last_place 0 xs name)
last_of xs x name same is = place_append 0 xs (x ∷ []) name
    ∙ (ap (λ (b : Bool). or_place (if b then Some (0 + length xs) else None) (last_place 0 xs name)) is ∙ or_if same (length xs) (last_place 0 xs name))

names_pushed : (bs : List Binding) (b : Binding) → names_of (bs ++ b ∷ []) ≡ names_of bs ++ named_of b ∷ []
names_pushed bs b = map-append named_of bs (b ∷ [])

last_pushed : (bs : List Binding) (b : Binding) (name : List ℕ) (same : Bool) → bytes_eq name b.name.now ≡ same
    → last_place 0 (names_of (bs ++ b ∷ [])) name ≡ (if same then Some (length bs) else last_place 0 (names_of bs) name)
last_pushed bs b name same is = ap (λ (xs : List Named). last_place 0 xs name) (names_pushed bs b) ∙ (last_of (names_of bs) (named_of b) name same is
    ∙ ap (λ (n : ℕ). if same then Some n else last_place 0 (names_of bs) name) (length-map bs named_of))

pub placed_push : (bs : List Binding) (b : Binding) (table after : Table) → Placed bs table → Changed b.name.now (Some (length bs)) table after → Placed (bs ++ b ∷ []) after
placed_push bs b table after placed changed name = changed_place b.name.now (Some (length bs)) table after changed name (bytes_eq name b.name.now) refl
    ∙ (ap (λ (o : Option ℕ). if bytes_eq name b.name.now then Some (length bs) else o) (placed name) ∙ sym (last_pushed bs b name (bytes_eq name b.name.now) refl))

-- an element of a longer list is the last or was there before
pub data Pushed (bs : List Binding) (b : Binding) (i : ℕ) (x : Binding) : Type 0 where
  last : i ≡ length bs → b ≡ x → Pushed bs b i x
  before : i < length bs → slice_get bs i ≡ Some x → Pushed bs b i x

pushed_more : (c : Binding) (bs : List Binding) (b : Binding) (i : ℕ) (x : Binding) → Pushed bs b i x → Pushed (c ∷ bs) b (suc i) x
pushed_more c bs b i x (last at is) = last (omega (arith, at)) is
pushed_more c bs b i x (before within is) = before (omega (arith, within)) is

pushed_at : (bs : List Binding) (b : Binding) (i : ℕ) (x : Binding) → slice_get (bs ++ b ∷ []) i ≡ Some x → Pushed bs b i x
pushed_at [] b zero x is = last refl cc
pushed_at [] b (suc i) x is = absurd cc
pushed_at (c ∷ bs) b zero x is = before (omega arith) is
pushed_at (c ∷ bs) b (suc i) x is = pushed_more c bs b i x (pushed_at bs b i x is)

get_before : (bs : List Binding) (b : Binding) (i : ℕ) (x : Binding) → slice_get bs i ≡ Some x → slice_get (bs ++ b ∷ []) i ≡ Some x
get_before [] b i x is = absurd cc
get_before (c ∷ bs) b zero x is = is
get_before (c ∷ bs) b (suc i) x is = get_before bs b i x is

get_last : (bs : List Binding) (b : Binding) → slice_get (bs ++ b ∷ []) (length bs) ≡ Some b
get_last [] b = refl
get_last (c ∷ bs) b = get_last bs b

taken_before : (bs : List Binding) (b : Binding) (i : ℕ) → i ≤ length bs → take i (names_of (bs ++ b ∷ [])) ≡ take i (names_of bs)
taken_before bs b i within = ap (take i) (names_pushed bs b) ∙ take-append-le i (names_of bs) (named_of b ∷ []) (let e = length-map bs named_of in omega (arith, e))

take_all : (xs : List Named) → take (length xs) xs ≡ xs
take_all [] = refl
take_all (x ∷ xs) = ap (λ (ys : List Named). x ∷ ys) (take_all xs)

taken_all : (bs : List Binding) (b : Binding) → take (length bs) (names_of (bs ++ b ∷ [])) ≡ names_of bs
taken_all bs b = taken_before bs b (length bs) (omega arith) ∙ (ap (λ (n : ℕ). take n (names_of bs)) (sym (length-map bs named_of)) ∙ take_all (names_of bs))

linked_last : (bs : List Binding) (b : Binding) → AreLinked bs → b.hides ≡ last_place 0 (names_of bs) b.name.now → (i : ℕ) (x : Binding) → Pushed bs b i x
    → x.hides ≡ last_place 0 (take i (names_of (bs ++ b ∷ []))) x.name.now
linked_last bs b linked hides i x (last at same) = subst (λ (y : Binding). y.hides ≡ last_place 0 (take i (names_of (bs ++ b ∷ []))) y.name.now) same
    (hides ∙ ap (λ (xs : List Named). last_place 0 xs b.name.now) (sym (ap (λ (n : ℕ). take n (names_of (bs ++ b ∷ []))) at ∙ taken_all bs b)))
linked_last bs b linked hides i x (before within is) = linked i x is ∙ ap (λ (xs : List Named). last_place 0 xs x.name.now) (sym (taken_before bs b i (omega (arith, within))))

pub linked_push : (bs : List Binding) (b : Binding) → AreLinked bs → b.hides ≡ last_place 0 (names_of bs) b.name.now → AreLinked (bs ++ b ∷ [])
linked_push bs b linked hides i x is = linked_last bs b linked hides i x (pushed_at bs b i x is)

-- ---- the last one is forgotten

-- what the last binding hides
hidden : (bs : List Binding) (b : Binding) → AreLinked (bs ++ b ∷ []) → b.hides ≡ last_place 0 (names_of bs) b.name.now
hidden bs b linked = linked (length bs) b (get_last bs b) ∙ ap (λ (xs : List Named). last_place 0 xs b.name.now) (taken_all bs b)

placed_each : (bs : List Binding) (b : Binding) (name : List ℕ) (table : Table) (same : Bool) → bytes_eq name b.name.now ≡ same → AreLinked (bs ++ b ∷ []) → Placed (bs ++ b ∷ []) table
    → (if same then b.hides else place_at name table) ≡ last_place 0 (names_of bs) name
placed_each bs b name table true is linked placed = hidden bs b linked ∙ ap (last_place 0 (names_of bs)) (sym ((bytes_eq-Decides name b.name.now).0 is))
placed_each bs b name table false is linked placed = placed name ∙ last_pushed bs b name false is

pub placed_pop : (bs : List Binding) (b : Binding) (table after : Table) → AreLinked (bs ++ b ∷ []) → Placed (bs ++ b ∷ []) table → Changed b.name.now b.hides table after → Placed bs after
placed_pop bs b table after linked placed changed name = changed_place b.name.now b.hides table after changed name (bytes_eq name b.name.now) refl
    ∙ placed_each bs b name table (bytes_eq name b.name.now) refl linked placed

pub linked_pop : (bs : List Binding) (b : Binding) → AreLinked (bs ++ b ∷ []) → AreLinked bs
linked_pop bs b linked i x is = linked i x (get_before bs b i x is) ∙ ap (λ (xs : List Named). last_place 0 xs x.name.now) (taken_before bs b i (let e = slice_get_within bs i x is in omega (arith, e)))

-- the last name has its place
pub last_placed : (bs : List Binding) (b : Binding) (table : Table) → Placed (bs ++ b ∷ []) table → flat (entry_at b.name.now table) ≡ Some (length bs)
last_placed bs b table placed = placed b.name.now ∙ last_pushed bs b b.name.now true ((bytes_eq-Decides b.name.now b.name.now).1 refl)

pub names_popped : (bs : List Binding) (b : Binding) → take (length bs) (names_of (bs ++ b ∷ [])) ≡ names_of bs
names_popped = taken_all

pub pushed_items : {T E : Type 0} (result : Result T E) (longer same : List Binding) {items : List Binding} → is_err result ≡ false → items ≡ (if is_ok result then longer else same) → items ≡ longer
pushed_items (Ok x) longer same is e = e
pushed_items (Err x) longer same is e = absurd (true≢false is)

abbrev pub Kept : List Binding → Table → Type 0
Kept bs table = Placed bs table × AreLinked bs

pub kept_push : (bs : List Binding) (b : Binding) (table after : Table) (items : List Binding) (n : ℕ) → Kept bs table → items ≡ bs ++ b ∷ [] → n ≡ length bs
    → b.hides ≡ place_at b.name.now table → Changed b.name.now (Some n) table after → Kept items after
kept_push bs b table after items n kept is at hides changed = subst (λ (xs : List Binding). Kept xs after) (sym is)
    (placed_push bs b table after kept.0 (subst (λ (k : ℕ). Changed b.name.now (Some k) table after) at changed), linked_push bs b kept.1 (hides ∙ kept.0 b.name.now))

pub kept_pop : (bs : List Binding) (b : Binding) (table after : Table) (items : List Binding) → Kept items table → items ≡ bs ++ b ∷ [] → Changed b.name.now b.hides table after → Kept bs after
kept_pop bs b table after items kept is changed = let all : Kept (bs ++ b ∷ []) table = subst (λ (xs : List Binding). Kept xs table) is kept in
    (placed_pop bs b table after all.1 all.0 changed, linked_pop bs b all.1)

-- the name of the last binding has an entry
pub has_entry : (bs : List Binding) (b : Binding) (table : Table) (items : List Binding) → Kept items table → items ≡ bs ++ b ∷ [] → flat (entry_at b.name.now table) ≡ Some (length bs)
has_entry bs b table items kept is = last_placed bs b table (subst (λ (xs : List Binding). Placed xs table) is kept.0)
