-- The map's entries, and the table that they are seen as.
use Rattle.std.proofs.Common.{◌≡◌, ℕ, Bool, true, false, cond, List, [], ◌∷◌, map, Option, Some, refl, sym, ap, ◌∙◌, subst, Bor, true≢false}
use Rattle.std.specs.Str.{bytes_eq}
use Rattle.std.specs.Map.{lookup}
use Rattle.indexmap.specs.IndexMap.{insert_entry}
use Rattle.std.proofs.lemmas.Slice.Eq.{bytes_eq-Decides}
use Rattle.c11_check.specs.Table.{Table, entry_at, flat, place_at}

abbrev pub Entries : Type 0
Entries = List (Bor (List ℕ) × Option ℕ)

abbrev pub table_of : Entries → Table
table_of es = map (λ (e : Bor (List ℕ) × Option ℕ). (e.0.now, e.1)) es

abbrev pub key_eq : Bor (List ℕ) → Bor (List ℕ) → Bool
key_eq x y = bytes_eq x.now y.now

pub entry_looked_up : (name : List ℕ) (es : Entries) → lookup (λ k. bytes_eq name k.now) es ≡ entry_at name (table_of es)
entry_looked_up name [] = refl
entry_looked_up name (e ∷ es) = ap (λ (o : Option (Option ℕ)). cond (bytes_eq name e.0.now) (Some e.1) o) (entry_looked_up name es)

pub place_looked_up : (name : List ℕ) (es : Entries) (found : Option (Option ℕ)) → found ≡ lookup (λ k. bytes_eq name k.now) es → flat found ≡ place_at name (table_of es)
place_looked_up name es found is = ap flat (is ∙ entry_looked_up name es)

twice : (x : Bool) (v w : Option ℕ) (rest : Option (Option ℕ)) → cond x (Some v) rest ≡ cond x (Some v) (cond x (Some w) rest)
twice true v w rest = refl
twice false v w rest = refl

apart : (x y : Bool) (v w : Option ℕ) (rest : Option (Option ℕ)) → (x ≡ true → y ≡ true → ⊥) → cond x (Some w) (cond y (Some v) rest) ≡ cond y (Some v) (cond x (Some w) rest)
apart true true v w rest never = absurd (never refl refl)
apart true false v w rest never = refl
apart false true v w rest never = refl
apart false false v w rest never = refl

inserted_at : (name : List ℕ) (e : Bor (List ℕ) × Option ℕ) (es : Entries) (k : Bor (List ℕ)) (v : Option ℕ) (same : Bool) → bytes_eq k.now e.0.now ≡ same
    → entry_at name (table_of (insert_entry key_eq es k v)) ≡ cond (bytes_eq name k.now) (Some v) (entry_at name (table_of es))
    → entry_at name (table_of (cond same ((e.0, v) ∷ es) (e ∷ insert_entry key_eq es k v))) ≡ cond (bytes_eq name k.now) (Some v) (entry_at name (table_of (e ∷ es)))
inserted_at name e es k v true is rest = let one : k.now ≡ e.0.now = (bytes_eq-Decides k.now e.0.now).0 is in
    subst (λ (n : List ℕ). cond (bytes_eq name e.0.now) (Some v) (entry_at name (table_of es)) ≡ cond (bytes_eq name n) (Some v) (entry_at name (table_of (e ∷ es)))) (sym one)
    (twice (bytes_eq name e.0.now) v e.1 (entry_at name (table_of es)))
inserted_at name e es k v false is rest = ap (λ (o : Option (Option ℕ)). cond (bytes_eq name e.0.now) (Some e.1) o) rest
    ∙ apart (bytes_eq name e.0.now) (bytes_eq name k.now) v e.1 (entry_at name (table_of es))
    (λ x y. let a : name ≡ e.0.now = (bytes_eq-Decides name e.0.now).0 x in let b : name ≡ k.now = (bytes_eq-Decides name k.now).0 y in
    true≢false (sym ((bytes_eq-Decides k.now e.0.now).1 (sym b ∙ a)) ∙ is))

pub entry_inserted : (name : List ℕ) (es : Entries) (k : Bor (List ℕ)) (v : Option ℕ)
    → entry_at name (table_of (insert_entry key_eq es k v)) ≡ cond (bytes_eq name k.now) (Some v) (entry_at name (table_of es))
entry_inserted name [] k v = refl
entry_inserted name (e ∷ es) k v = inserted_at name e es k v (bytes_eq k.now e.0.now) refl (entry_inserted name es k v)
