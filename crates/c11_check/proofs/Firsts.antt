-- The fault that is kept along all faults is the first of them.
use Rattle.std.proofs.Common.{◌≡◌, ℕ, zero, suc, Bool, true, false, List, [], ◌∷◌, Option, Some, None, refl, sym, ap, ◌∙◌, subst, slice_get, arith, true≢false, get_or, ◌⊎◌, inl, inr}
use Rattle.std.specs.Prelude.{if◌then◌else◌, nat_lt, ◌==◌, ◌||◌, ◌&&◌}
use Rattle.std.proofs.lemmas.Option.{same_Some, none-some}
use Rattle.c11_check.specs.declared.fault.Fault.{Fault}
use Rattle.c11_check.specs.declared.fault.Rule.{Rule}
use Rattle.c11_check.specs.declared.fault.Rule.TheVariants as rule
use Rattle.c11_check.specs.Programs.{keep, precedes, IsFirst, number_of}

-- ---- the order of faults, one number at a time

abbrev lower : ℕ → ℕ → Bool → Bool
lower x y t = nat_lt x y || ((x == y) && t)

lower_itself : (x : ℕ) (t : Bool) → t ≡ false → lower x x t ≡ false
lower_itself x true e = absurd (true≢false e)
lower_itself x false e = grind arith

-- neither y is before x nor z before y: nor is z before x
lower_kept : (x y z : ℕ) (t u v : Bool) → lower y x t ≡ false → lower z y u ≡ false → (t ≡ false → u ≡ false → v ≡ false) → lower z x v ≡ false
lower_kept x y z t u v one another rest = grind arith

lower_back : (x y : ℕ) (t u : Bool) → lower x y t ≡ true → (t ≡ true → u ≡ false) → lower y x u ≡ false
lower_back x y t u before rest = grind arith

lt_itself : (x : ℕ) → nat_lt x x ≡ false
lt_itself x = grind arith

lt_kept : (x y z : ℕ) → nat_lt y x ≡ false → nat_lt z y ≡ false → nat_lt z x ≡ false
lt_kept x y z one another = grind arith

lt_back : (x y : ℕ) → nat_lt x y ≡ true → nat_lt y x ≡ false
lt_back x y before = grind arith

not_itself : (a : Fault) → precedes a a ≡ false
not_itself a = lower_itself a.spot.line _ (lower_itself a.spot.column _ (lt_itself (number_of a.rule)))

kept_too : (a b c : Fault) → precedes b a ≡ false → precedes c b ≡ false → precedes c a ≡ false
kept_too a b c one another = lower_kept a.spot.line b.spot.line c.spot.line _ _ _ one another
    (λ e f. lower_kept a.spot.column b.spot.column c.spot.column _ _ _ e f (λ g h. lt_kept (number_of a.rule) (number_of b.rule) (number_of c.rule) g h))

not_back : (a b : Fault) → precedes a b ≡ true → precedes b a ≡ false
not_back a b before = lower_back a.spot.line b.spot.line _ _ before (λ e. lower_back a.spot.column b.spot.column _ _ e (λ f. lt_back (number_of a.rule) (number_of b.rule) f))

-- ---- along the faults

-- this is the first of the kept fault and these
record Kept (k : Fault) (xs : List Fault) (f : Fault) : Type 0 where
  member : (i : ℕ) × (slice_get (k ∷ xs) i ≡ Some f)
  kept : precedes k f ≡ false
  first : (i : ℕ) (other : Fault) → slice_get xs i ≡ Some other → precedes other f ≡ false

behind : (k x : Fault) (xs : List Fault) (f : Fault) → (i : ℕ) × (slice_get (x ∷ xs) i ≡ Some f) → (i : ℕ) × (slice_get (k ∷ x ∷ xs) i ≡ Some f)
behind k x xs f at = (suc at.0, at.1)

skipping : (k x : Fault) (xs : List Fault) (f : Fault) (i : ℕ) → slice_get (k ∷ xs) i ≡ Some f → (j : ℕ) × (slice_get (k ∷ x ∷ xs) j ≡ Some f)
skipping k x xs f zero is = (zero, is)
skipping k x xs f (suc i) is = (suc (suc i), is)

all_of : (x : Fault) (xs : List Fault) (f : Fault) → precedes x f ≡ false → ((i : ℕ) (other : Fault) → slice_get xs i ≡ Some other → precedes other f ≡ false)
    → (i : ℕ) (other : Fault) → slice_get (x ∷ xs) i ≡ Some other → precedes other f ≡ false
all_of x xs f one rest zero other is = subst (λ (y : Fault). precedes y f ≡ false) (same_Some x other is) one
all_of x xs f one rest (suc i) other is = rest i other is

kept_step : (k x : Fault) (xs : List Fault) (before : Bool) → precedes x k ≡ before
    → ((y : Fault) → (f : Fault) × (keep (Some y) xs ≡ Some f) × Kept y xs f) → (f : Fault) × (keep (Some k) (x ∷ xs) ≡ Some f) × Kept k (x ∷ xs) f
kept_step k x xs true is rest = let r = rest x in (
  r.0,
  ap (λ (b : Bool). keep (if b then Some x else Some k) xs) is ∙ r.1,
  record {
    member = behind k x xs r.0 r.2.member;
    kept = kept_too r.0 x k r.2.kept (not_back x k is);
    first = all_of x xs r.0 r.2.kept r.2.first;
  },
)
kept_step k x xs false is rest = let r = rest k in (
  r.0,
  ap (λ (b : Bool). keep (if b then Some x else Some k) xs) is ∙ r.1,
  record {
    member = skipping k x xs r.0 r.2.member.0 r.2.member.1;
    kept = r.2.kept;
    first = all_of x xs r.0 (kept_too r.0 k x r.2.kept is) r.2.first;
  },
)

kept_first : (xs : List Fault) (k : Fault) → (f : Fault) × (keep (Some k) xs ≡ Some f) × Kept k xs f
kept_first [] k = (k, refl, record { member = (zero, refl); kept = not_itself k; first = λ i other is. absurd (none-some other is) })
kept_first (x ∷ xs) k = kept_step k x xs (precedes x k) refl (kept_first xs)

first_from : (x : Fault) (xs : List Fault) (f : Fault) → keep (Some x) xs ≡ Some f → (g : Fault) × (keep (Some x) xs ≡ Some g) × Kept x xs g → IsFirst (x ∷ xs) f
first_from x xs f is r = let same : r.0 ≡ f = same_Some r.0 f (sym r.1 ∙ is) in
    subst (λ (g : Fault). IsFirst (x ∷ xs) g) same (record { member = r.2.member; first = all_of x xs r.0 r.2.kept r.2.first })

pub first_is : (xs : List Fault) (f : Fault) → keep None xs ≡ Some f → IsFirst xs f
first_is [] f is = absurd (none-some f is)
first_is (x ∷ xs) f is = first_from x xs f is (kept_first xs x)

pub none_is : (xs : List Fault) → keep None xs ≡ None → xs ≡ []
none_is [] is = refl
none_is (x ∷ xs) is = absurd (none-some (kept_first xs x).0 (sym is ∙ (kept_first xs x).1))

-- ---- there is one first fault at most, and one where there are faults

abbrev rules_by_number : List Rule
rules_by_number = rule.Unknown ∷ rule.Unknown ∷ rule.Twice ∷ rule.Kind ∷ rule.Arguments ∷ rule.Order ∷ rule.NoMain ∷ rule.Size ∷ rule.TooMany ∷ rule.Typing ∷ []

rule_back : (r : Rule) → get_or rules_by_number (number_of r) rule.Unknown ≡ r
rule_back rule.Unknown = refl
rule_back rule.Twice = refl
rule_back rule.Kind = refl
rule_back rule.Arguments = refl
rule_back rule.Order = refl
rule_back rule.NoMain = refl
rule_back rule.Size = refl
rule_back rule.TooMany = refl
rule_back rule.Typing = refl

same_rule : (r s : Rule) → number_of r ≡ number_of s → r ≡ s
same_rule r s e = sym (rule_back r) ∙ (ap (λ (n : ℕ). get_or rules_by_number n rule.Unknown) e ∙ rule_back s)

lower_same : (x y : ℕ) (t u : Bool) → lower x y t ≡ false → lower y x u ≡ false → x ≡ y
lower_same x y t u one another = grind arith

lower_rest : (x y : ℕ) (t : Bool) → lower x y t ≡ false → x ≡ y → t ≡ false
lower_rest x y true one e = grind arith
lower_rest x y false one e = refl

lt_same : (x y : ℕ) → nat_lt x y ≡ false → nat_lt y x ≡ false → x ≡ y
lt_same x y one another = grind arith

same_parts : (a b : Fault) → a.rule ≡ b.rule → a.spot.line ≡ b.spot.line → a.spot.column ≡ b.spot.column → a ≡ b
same_parts a b rule line column = λ i. record { rule = rule i; spot = record { line = line i; column = column i } }

neither : (a b : Fault) → precedes a b ≡ false → precedes b a ≡ false → a ≡ b
neither a b one another =
    let line = lower_same a.spot.line b.spot.line _ _ one another in
    let t = lower_rest a.spot.line b.spot.line _ one line in
    let u = lower_rest b.spot.line a.spot.line _ another (sym line) in
    let column = lower_same a.spot.column b.spot.column _ _ t u in
    let v = lower_rest a.spot.column b.spot.column _ t column in
    let w = lower_rest b.spot.column a.spot.column _ u (sym column) in
    same_parts a b (same_rule a.rule b.rule (lt_same (number_of a.rule) (number_of b.rule) v w)) line column

pub one_is_first : (faults : List Fault) (one another : Fault) → IsFirst faults one → IsFirst faults another → one ≡ another
one_is_first faults one another a b = neither one another (b.first a.member.0 one a.member.1) (a.first b.member.0 another b.member.1)

pub some_is_first : (faults : List Fault) → (faults ≡ []) ⊎ ((fault : Fault) × IsFirst faults fault)
some_is_first [] = inl refl
some_is_first (x ∷ xs) = let r = kept_first xs x in inr (r.0, first_is (x ∷ xs) r.0 r.1)
