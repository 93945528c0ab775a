-- The tallies of runs.
use Rattle.std.proofs.Common.{◌≡◌, ℕ, ◌+◌, ◌<◌, ◌≤◌, ◌↔◌, Bool, true, false, cond, List, [], ◌∷◌, ◌++◌, Option, Some, None, length, count_by, slice_index_or, sym, refl, ap, ◌∙◌, subst, inl, inr, ◌⊎◌, ⊎_elim, arith, add-zero}
use Rattle.std.specs.List.{Contains}
use Rattle.std.specs.List.Sorted.{IsPermutation}
use Rattle.std.proofs.lemmas.List.Elements.{Contains-append_left, Contains-append_right, Contains-append_cases, Contains-push_cases, Contains-get_or}
use Rattle.std.proofs.lemmas.List.Sorted.{Contains-permutation, IsPermutation-sym, sum_by-IsPermutation}
use Rattle.std.proofs.lemmas.List.Sums.{sum_by-append, sum_by-cons, get_or-le-sum_by, sum_by-le}
use Rattle.std.proofs.lemmas.Bool.{cases_lt}
use Rattle.c11_events.specs.declared.verdict.Verdict.{Verdict}
use Rattle.c11_events.specs.declared.verdict.Verdict.TheVariants as verdict
use Rattle.c11_report.specs.declared.tally.Tally.{Tally}
use Rattle.c11_report.specs.declared.tally.Tallies.{Tallies}
use Rattle.c11_report.specs.Summaries.{HasLeast, HaveLeasts}
use Rattle.c11_tally.specs.Joined.{least_of, joined, joined_tallies, no_tally, no_tallies, with_run}
use Rattle.c11_tally.specs.Tallies.{Ran, Word, done, bound, race, assert, fault, local, deadlock, has_word, tally_at, Ended, IsLeastSeed, IsTallyOf, AreTalliesOf, runs}

-- ---- runs among two lists

ended_split : (word : Word) (xs ys : List Ran) (ran : Ran) → Ended word (xs ++ ys) ran → Ended word xs ran ⊎ Ended word ys ran
ended_split word xs ys ran e =
    ⊎_elim (λ (c : Contains xs ran). inl (record { among = c; ends = e.ends })) (λ (c : Contains ys ran). inr (record { among = c; ends = e.ends })) (Contains-append_cases xs ys ran e.among)

ended_left : (word : Word) (xs ys : List Ran) (ran : Ran) → Ended word xs ran → Ended word (xs ++ ys) ran
ended_left word xs ys ran e = record { among = Contains-append_left xs ys ran e.among; ends = e.ends }

ended_right : (word : Word) (xs ys : List Ran) (ran : Ran) → Ended word ys ran → Ended word (xs ++ ys) ran
ended_right word xs ys ran e = record { among = Contains-append_right xs ys ran e.among; ends = e.ends }

least_join : (word : Word) (xs ys : List Ran) (a b : Option ℕ) → IsLeastSeed word xs a → IsLeastSeed word ys b → IsLeastSeed word (xs ++ ys) (least_of a b)
least_join word xs ys None None p q = λ ran e. ⊎_elim (p ran) (q ran) (ended_split word xs ys ran e)
least_join word xs ys None (Some b) p q =
    ((q.0.0, ended_right word xs ys q.0.0 q.0.1, q.0.2), λ ran e. ⊎_elim (λ (l : Ended word xs ran). absurd (p ran l)) (q.1 ran) (ended_split word xs ys ran e))
least_join word xs ys (Some a) None p q =
    ((p.0.0, ended_left word xs ys p.0.0 p.0.1, p.0.2), λ ran e. ⊎_elim (p.1 ran) (λ (r : Ended word ys ran). absurd (q ran r)) (ended_split word xs ys ran e))
least_join word xs ys (Some a) (Some b) p q = (
  ⊎_elim
      (λ (lt : a < b). (p.0.0, ended_left word xs ys p.0.0 p.0.1, omega (arith, p.0.2)))
      (λ (le : b ≤ a). (q.0.0, ended_right word xs ys q.0.0 q.0.1, omega (arith, q.0.2)))
      (cases_lt a b),
  λ ran e. ⊎_elim (λ (l : Ended word xs ran). omega (arith, p.1 ran l)) (λ (r : Ended word ys ran). omega (arith, q.1 ran r)) (ended_split word xs ys ran e),
)

tally_join : (word : Word) (xs ys : List Ran) (a b : Tally) → IsTallyOf word xs a → IsTallyOf word ys b → IsTallyOf word (xs ++ ys) (joined a b)
tally_join word xs ys a b p q = record {
  count = omega (arith, p.count, q.count, sum_by-append (λ (ran : Ran). cond (has_word word ran.verdict) 1 0) xs ys);
  least = least_join word xs ys a.least b.least p.least q.least;
}

pub tallies_join : (xs ys : List Ran) (a b : Tallies) → AreTalliesOf xs a → AreTalliesOf ys b → AreTalliesOf (xs ++ ys) (joined_tallies a b)
tallies_join xs ys a b p q done = tally_join done xs ys a.done b.done (p done) (q done)
tallies_join xs ys a b p q bound = tally_join bound xs ys a.bound b.bound (p bound) (q bound)
tallies_join xs ys a b p q race = tally_join race xs ys a.race b.race (p race) (q race)
tallies_join xs ys a b p q assert = tally_join assert xs ys a.assert_ b.assert_ (p assert) (q assert)
tallies_join xs ys a b p q fault = tally_join fault xs ys a.fault b.fault (p fault) (q fault)
tallies_join xs ys a b p q local = tally_join local xs ys a.local b.local (p local) (q local)
tallies_join xs ys a b p q deadlock = tally_join deadlock xs ys a.deadlock b.deadlock (p deadlock) (q deadlock)

-- ---- no run, and one

among_none : (ran : Ran) → Contains [] ran → ⊥
among_none ran c = let lt : c.0 < 0 = c.1 in omega arith

none_of : (word : Word) → IsTallyOf word [] no_tally
none_of word = record { count = refl; least = λ ran e. among_none ran e.among }

pub tallies_none : AreTalliesOf [] no_tallies
tallies_none done = none_of done
tallies_none bound = none_of bound
tallies_none race = none_of race
tallies_none assert = none_of assert
tallies_none fault = none_of fault
tallies_none local = none_of local
tallies_none deadlock = none_of deadlock

abbrev one_tally : ℕ → Bool → Tally
one_tally seed true = record { count = 1; least = Some seed }
one_tally seed false = no_tally

among_one : (x ran : Ran) → Contains (x ∷ []) ran → x ≡ ran
among_one x ran c = ⊎_elim (λ (none : Contains [] ran). absurd (among_none ran none)) (λ (e : x ≡ ran). e) (Contains-push_cases [] x ran c)

one_of : (word : Word) (x : Ran) (b : Bool) → has_word word x.verdict ≡ b → IsTallyOf word (x ∷ []) (one_tally x.seed b)
one_of word x true is = record {
  count = ap (λ b. 0 + cond b 1 0) (sym is);
  least = (
    (x, record { among = (0, omega arith, refl); ends = is }, refl),
    λ ran e. let same : x.seed ≡ ran.seed = ap (λ (r : Ran). r.seed) (among_one x ran e.among) in omega arith,
  );
}
one_of word x false is = record {
  count = ap (λ b. 0 + cond b 1 0) (sym is);
  least = λ ran e. let same : has_word word x.verdict ≡ has_word word ran.verdict = ap (λ (r : Ran). has_word word r.verdict) (among_one x ran e.among) in
      let ends = e.ends in let no : true ≡ false = sym ends ∙ (sym same ∙ is) in cc;
}

least_of_none : (a : Option ℕ) → least_of a None ≡ a
least_of_none None = refl
least_of_none (Some a) = refl

joined_none : (tally : Tally) → joined tally no_tally ≡ tally
joined_none tally = λ i. record { count = add-zero tally.count i; least = least_of_none tally.least i }

with_run_at : (word : Word) (v : Verdict) (tallies : Tallies) (seed : ℕ) → tally_at word (with_run tallies seed v) ≡ joined (tally_at word tallies) (one_tally seed (has_word word v))
with_run_at done verdict.Done tallies seed = refl
with_run_at bound verdict.Bound tallies seed = refl
with_run_at race (verdict.Race first second cell) tallies seed = refl
with_run_at assert verdict.Assert tallies seed = refl
with_run_at fault (verdict.Fault kind) tallies seed = refl
with_run_at local verdict.Local tallies seed = refl
with_run_at deadlock verdict.Deadlock tallies seed = refl
with_run_at word v tallies seed = sym (joined_none (tally_at word tallies))

pub tallies_more : (rans : List Ran) (tallies : Tallies) (x : Ran) → AreTalliesOf rans tallies → AreTalliesOf (rans ++ x ∷ []) (with_run tallies x.seed x.verdict)
tallies_more rans tallies x p word =
    subst (IsTallyOf word (rans ++ x ∷ [])) (sym (with_run_at word x.verdict tallies x.seed))
    (tally_join word rans (x ∷ []) (tally_at word tallies) (one_tally x.seed (has_word word x.verdict)) (p word) (one_of word x (has_word word x.verdict) refl))

-- ---- how many runs were counted

pub runs_with_run : (tallies : Tallies) (seed : ℕ) (v : Verdict) → runs (with_run tallies seed v) ≡ runs tallies + 1
runs_with_run tallies seed verdict.Done = omega arith
runs_with_run tallies seed verdict.Bound = omega arith
runs_with_run tallies seed (verdict.Race first second cell) = omega arith
runs_with_run tallies seed verdict.Assert = omega arith
runs_with_run tallies seed (verdict.Fault kind) = omega arith
runs_with_run tallies seed verdict.Local = omega arith
runs_with_run tallies seed verdict.Deadlock = omega arith

abbrev one_for : Word → Verdict → ℕ
one_for word v = cond (has_word word v) 1 0

one_word : (v : Verdict) → one_for done v + one_for bound v + one_for race v + one_for assert v + one_for fault v + one_for local v + one_for deadlock v ≡ 1
one_word verdict.Done = refl
one_word verdict.Bound = refl
one_word (verdict.Race first second cell) = refl
one_word verdict.Assert = refl
one_word (verdict.Fault kind) = refl
one_word verdict.Local = refl
one_word verdict.Deadlock = refl

abbrev ended : Word → List Ran → ℕ
ended word rans = count_by (λ (ran : Ran). has_word word ran.verdict) rans

ended-cons : (word : Word) (x : Ran) (rans : List Ran) → ended word (x ∷ rans) ≡ one_for word x.verdict + ended word rans
ended-cons word x rans = sum_by-cons (λ (ran : Ran). cond (has_word word ran.verdict) 1 0) x rans

all_ended : (rans : List Ran) → ended done rans + ended bound rans + ended race rans + ended assert rans + ended fault rans + ended local rans + ended deadlock rans ≡ length rans
all_ended [] = refl
all_ended (x ∷ rans) = omega (arith, all_ended rans, one_word x.verdict, ended-cons done x rans, ended-cons bound x rans, ended-cons race x rans, ended-cons assert x rans, ended-cons fault x rans, ended-cons local x rans, ended-cons deadlock x rans)

pub runs_are_counted : (rans : List Ran) (tallies : Tallies) → AreTalliesOf rans tallies → runs tallies ≡ length rans
runs_are_counted rans tallies p = omega (arith, all_ended rans, (p done).count, (p bound).count, (p race).count, (p assert).count, (p fault).count, (p local).count, (p deadlock).count)

-- ---- least seeds

leasts_at : (tallies : Tallies) → HaveLeasts tallies → (word : Word) → HasLeast (tally_at word tallies)
leasts_at tallies h done = h.done
leasts_at tallies h bound = h.bound
leasts_at tallies h race = h.race
leasts_at tallies h assert = h.assert_
leasts_at tallies h fault = h.fault
leasts_at tallies h local = h.local
leasts_at tallies h deadlock = h.deadlock

leasts_by : (tallies : Tallies) → ((word : Word) → HasLeast (tally_at word tallies)) → HaveLeasts tallies
leasts_by tallies h = record { done = h done; bound = h bound; race = h race; assert_ = h assert; fault = h fault; local = h local; deadlock = h deadlock }

least_counted : (a b : Option ℕ) (m n : ℕ) → ((a ≡ None) ↔ (m ≡ 0)) → ((b ≡ None) ↔ (n ≡ 0)) → (least_of a b ≡ None) ↔ (m + n ≡ 0)
least_counted None None m n h g = (λ _. omega (arith, h.0 refl, g.0 refl), λ _. refl)
least_counted None (Some b) m n h g = (λ e. absurd cc, λ e. g.1 (omega arith))
least_counted (Some a) None m n h g = (λ e. absurd cc, λ e. h.1 (omega arith))
least_counted (Some a) (Some b) m n h g = (λ e. absurd cc, λ e. let none : Some a ≡ None = h.1 (omega arith) in absurd cc)

joined_has_least : (a b : Tally) → HasLeast a → HasLeast b → HasLeast (joined a b)
joined_has_least a b h g = least_counted a.least b.least a.count b.count h g

one_has_least : (seed : ℕ) (b : Bool) → HasLeast (one_tally seed b)
one_has_least seed true = (λ e. absurd cc, λ e. absurd (omega arith))
one_has_least seed false = (λ _. refl, λ _. refl)

pub leasts_more : (tallies : Tallies) (seed : ℕ) (v : Verdict) → HaveLeasts tallies → HaveLeasts (with_run tallies seed v)
leasts_more tallies seed v h =
    leasts_by (with_run tallies seed v) (λ word. subst HasLeast (sym (with_run_at word v tallies seed))
    (joined_has_least (tally_at word tallies) (one_tally seed (has_word word v)) (leasts_at tallies h word) (one_has_least seed (has_word word v))))

pub leasts_join : (a b : Tallies) → HaveLeasts a → HaveLeasts b → HaveLeasts (joined_tallies a b)
leasts_join a b h g = record {
  done = joined_has_least a.done b.done h.done g.done;
  bound = joined_has_least a.bound b.bound h.bound g.bound;
  race = joined_has_least a.race b.race h.race g.race;
  assert_ = joined_has_least a.assert_ b.assert_ h.assert_ g.assert_;
  fault = joined_has_least a.fault b.fault h.fault g.fault;
  local = joined_has_least a.local b.local h.local g.local;
  deadlock = joined_has_least a.deadlock b.deadlock h.deadlock g.deadlock;
}

-- none of the runs is counted where none ended so
none_ended : (word : Word) (rans : List Ran) → ((ran : Ran) → Ended word rans ran → ⊥) → ended word rans ≡ 0
none_ended word rans none = omega (arith, sum_by-le (λ (ran : Ran). one_for word ran.verdict) 0 rans (λ k d lt. each (slice_index_or rans k d) (Contains-get_or rans k d lt)))
  where
    at : (ran : Ran) (b : Bool) → has_word word ran.verdict ≡ b → Contains rans ran → one_for word ran.verdict ≤ 0
    at ran true is c = absurd (none ran (record { among = c; ends = is }))
    at ran false is c = let zero : one_for word ran.verdict ≡ 0 = ap (λ b. cond b 1 0) is in omega arith

    each : (ran : Ran) → Contains rans ran → one_for word ran.verdict ≤ 0
    each ran c = at ran (has_word word ran.verdict) refl c

some_ended : (word : Word) (rans : List Ran) (ran : Ran) → Ended word rans ran → 1 ≤ ended word rans
some_ended word rans ran e =
    let le = get_or-le-sum_by (λ (ran : Ran). one_for word ran.verdict) rans e.among.0 ran e.among.1 in
    let here : one_for word (slice_index_or rans e.among.0 ran).verdict ≡ 1 = ap (λ (r : Ran). one_for word r.verdict) e.among.2 ∙ ap (λ b. cond b 1 0) e.ends in
    omega arith

tally_has_least : (word : Word) (rans : List Ran) (n : ℕ) (least : Option ℕ) → n ≡ ended word rans → IsLeastSeed word rans least → (least ≡ None) ↔ (n ≡ 0)
tally_has_least word rans n None is p = (λ _. is ∙ none_ended word rans p, λ _. refl)
tally_has_least word rans n (Some least) is p = (λ e. absurd cc, λ e. absurd (omega (arith, is, some_ended word rans p.0.0 p.0.1)))

pub tallies_have_leasts : (rans : List Ran) (tallies : Tallies) → AreTalliesOf rans tallies → HaveLeasts tallies
tallies_have_leasts rans tallies p = leasts_by tallies (λ word. tally_has_least word rans (tally_at word tallies).count (tally_at word tallies).least (p word).count (p word).least)

-- ---- another order

ended_permutation : (word : Word) (xs ys : List Ran) (ran : Ran) → IsPermutation xs ys → Ended word xs ran → Ended word ys ran
ended_permutation word xs ys ran p e = record { among = Contains-permutation xs ys ran p e.among; ends = e.ends }

least_permutation : (word : Word) (xs ys : List Ran) (least : Option ℕ) → IsPermutation xs ys → IsLeastSeed word xs least → IsLeastSeed word ys least
least_permutation word xs ys None p h = λ ran e. h ran (ended_permutation word ys xs ran (IsPermutation-sym xs ys p) e)
least_permutation word xs ys (Some least) p h =
    ((h.0.0, ended_permutation word xs ys h.0.0 p h.0.1, h.0.2), λ ran e. h.1 ran (ended_permutation word ys xs ran (IsPermutation-sym xs ys p) e))

pub tallies_permutation : (xs ys : List Ran) (tallies : Tallies) → IsPermutation xs ys → AreTalliesOf xs tallies → AreTalliesOf ys tallies
tallies_permutation xs ys tallies p h word = record {
  count = (h word).count ∙ sym (sum_by-IsPermutation (λ (ran : Ran). one_for word ran.verdict) xs ys p);
  least = least_permutation word xs ys (tally_at word tallies).least p (h word).least;
}

-- ---- one tally

least_is_one : (word : Word) (rans : List Ran) (a b : Option ℕ) → IsLeastSeed word rans a → IsLeastSeed word rans b → a ≡ b
least_is_one word rans None None p q = refl
least_is_one word rans None (Some b) p q = absurd (p q.0.0 q.0.1)
least_is_one word rans (Some a) None p q = absurd (q p.0.0 p.0.1)
least_is_one word rans (Some a) (Some b) p q =
    let le : a ≤ b = omega (arith, p.1 q.0.0 q.0.1, q.0.2) in let back : b ≤ a = omega (arith, q.1 p.0.0 p.0.1, p.0.2) in
    let same : a ≡ b = omega arith in ap Some same

tally_is_one : (word : Word) (rans : List Ran) (a b : Tally) → IsTallyOf word rans a → IsTallyOf word rans b → a ≡ b
tally_is_one word rans a b p q =
    let count : a.count ≡ b.count = p.count ∙ sym q.count in let least = least_is_one word rans a.least b.least p.least q.least in
    λ i. record { count = count i; least = least i }

pub tallies_are_one : (rans : List Ran) (a b : Tallies) → AreTalliesOf rans a → AreTalliesOf rans b → a ≡ b
tallies_are_one rans a b p q =
    let same = λ (word : Word). tally_is_one word rans (tally_at word a) (tally_at word b) (p word) (q word) in
    λ i. record { done = same done i; bound = same bound i; race = same race i; assert_ = same assert i; fault = same fault i; local = same local i; deadlock = same deadlock i }
