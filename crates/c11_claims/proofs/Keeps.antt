-- Each step keeps the rule, and the seat with all shares has each number below the word once.
use Rattle.std.proofs.Common.{◌≡◌, ℕ, ◌+◌, ◌-◌, ◌%◌, ◌^◌, ◌<◌, ◌≤◌, List, [], ◌∷◌, ◌++◌, refl, sym, ap, ◌∙◌, subst, arith, ⊎_elim, slice_index}
use Rattle.std.proofs.Math.ListN.{set}
use mathlib.Core.Option.{some, some-injective, some-ne-none}
use mathlib.Core.Logic.{dite}
use native.Mathlib.Decide.{dec_le, ℕ_discrete}
use lib.ListN.{get_elem?}
use Rattle.atomic_table.proofs.Lists.{at_set, at_snoc}
use Rattle.atomic_table.specs.Table.{State, keeps, Allows, Splits, Joins}
use Rattle.c11_claims.specs.declared.rule.View.{View}
use Rattle.c11_claims.specs.Claims.{times, beyond, once_below, total, Each, IsSpent, OneCount, IsClaimed, view_of, Gains, HoldsEachOnce}
use Rattle.c11_claims.proofs.Counts.{times-append, beyond-append, beyond_one, once_more, once_yes, once_all, once_few, reaches, span, span_none, span_le, span_once, span_beyond}
use Rattle.c11_claims.proofs.Totals.{total_set, total_snoc, total_part, total_le, total_span, total_whole}

one_word : (ws : List ℕ) (m : ℕ) → ws ≡ slice_index ws 0 ∷ [] → set ws 0 m ≡ slice_index (set ws 0 m) 0 ∷ []
one_word [] m e = cc
one_word (x ∷ []) m e = refl
one_word (x ∷ y ∷ zs) m e = cc

the_word : (ws : List ℕ) (m : ℕ) → ws ≡ slice_index ws 0 ∷ [] → slice_index (set ws 0 m) 0 ≡ m
the_word [] m e = cc
the_word (x ∷ zs) m e = refl

first_word : (ws : List ℕ) (n : ℕ) → get_elem? ws 0 ≡ some n → slice_index ws 0 ≡ n
first_word [] n at = absurd (some-ne-none n (sym at))
first_word (w ∷ ws) n at = some-injective w n at

-- a fact of each view, after a change of one and with one more
each_set : (P : View → Type 0) (views : List View) (id : ℕ) (w : View) → Each P views → P w → Each P (set views id w)
each_set P views id w each here j v at = ⊎_elim (λ e. subst P e.1 here) (λ e. each j v e.1) (at_set views id j w v at)

each_snoc : (P : View → Type 0) (views : List View) (w : View) → Each P views → P w → Each P (views ++ w ∷ [])
each_snoc P views w each here j v at = ⊎_elim (λ e. each j v e) (λ e. subst P e here) (at_snoc views w v j at)

-- the count of each view that is not spent
Counts : ℕ → View → Type 0
Counts c v = ¬ IsSpent v → v.count ≡ c

Within : View → Type 0
Within v = beyond v.count v.claimed ≤ v.shares

Empty : View → Type 0
Empty v = IsSpent v → v.claimed ≡ []

counts_of : (views : List View) (id : ℕ) (v : View) → get_elem? views id ≡ some v → 0 < v.shares → OneCount views → Each (Counts v.count) views
unfolding Counts
counts_of views id v at share one j u at_u other = one j u at_u id v at other (λ none. omega arith)

one_count : (c : ℕ) (views : List View) → Each (Counts c) views → OneCount views
unfolding Counts
one_count c views each i v at_v j w at_w v_share w_share = each i v at_v v_share ∙ sym (each j w at_w w_share)

-- what a view holds of the k numbers from c on is within its shares
part_fits : (c k : ℕ) (v : View) → Counts c v → Within v → Empty v → span (λ x. times x v.claimed) c k ≤ v.shares
unfolding Counts Within Empty
part_fits c k v count within empty =
    dite (ℕ_discrete v.shares 0)
    (λ (spent : v.shares ≡ 0). let none = ap (λ (xs : List ℕ). span (λ x. times x xs) c k) (empty spent) ∙ span_none c k in omega arith)
    (λ (share : v.shares ≡ 0 → ⊥). let same = ap (λ (m : ℕ). beyond m v.claimed) (count share) in omega (arith, span_beyond v.claimed c k))

-- where the word has passed the k numbers from c on, the shares are at least k
fits : (views : List View) (c n k : ℕ) → Each (Counts c) views → Each Within views → Each Empty views
    → ((x : ℕ) → total (λ v. times x v.claimed) views ≡ once_below x n) → c + k ≤ n → k ≤ total (λ v. v.shares) views
fits views c n k counts within empty once passed =
    let all = span_once n c k passed in
    let held = span_le (λ x. once_below x n) (λ x. total (λ v. times x v.claimed) views) c k (λ x. omega (arith, once x)) in
    let parts = total_le (λ v. span (λ x. times x v.claimed) c k) (λ v. v.shares) views (λ id v at. part_fits c k v (counts id v at) (within id v at) (empty id v at)) in
    omega (arith, all, held, total_span (λ x v. times x v.claimed) views c k, parts)

-- a word below which each number is held once is at most 64 above the count
word_less : (views : List View) (c n : ℕ) → Each (Counts c) views → Each Within views → Each Empty views → ((x : ℕ) → total (λ v. times x v.claimed) views ≡ once_below x n)
    → total (λ v. v.shares) views ≡ 64 → n < c + 65
word_less views c n counts within empty once shares =
    dite (dec_le (c + 65) n)
    (λ (passed : c + 65 ≤ n). absurd (let enough : 65 ≤ total (λ u. u.shares) views = fits views c n 65 counts within empty once passed in omega (arith, shares)))
    (λ (no : c + 65 ≤ n → ⊥). omega arith)

-- the word is at most 64 above the count
word_near : {S : Type 0} (s : State S View) (id : ℕ) (v : View) → IsClaimed s → get_elem? s.views id ≡ some v → 0 < v.shares → slice_index s.words 0 < v.count + 65
unfolding Within Empty
word_near s id v h at share =
    word_less s.views v.count (slice_index s.words 0) (counts_of s.views id v at share h.count) h.within h.empty h.once h.shares

-- a view holds each number below the word at most once, and no other
held_once : {S : Type 0} (s : State S View) (id : ℕ) (v : View) → IsClaimed s → get_elem? s.views id ≡ some v → (x : ℕ) → times x v.claimed ≤ once_below x (slice_index s.words 0)
held_once s id v h at x = omega (arith, total_part (λ u. times x u.claimed) s.views id v at, h.once x)

pub gains : {S : Type 0} (slots id : ℕ) (v : View) (held : List (ℕ × S)) → 0 < v.shares → beyond v.count v.claimed ≡ 0 → v.count ≤ 1000000
    → Allows (IsClaimed {S = S}) slots id (v, held) 0 (λ n. (n + 1) % 2 ^ 64) (Gains (v, held))
unfolding Counts Within Empty
gains slots id v held share going small s h homes at range =
    let n = slice_index s.words 0 in
    let w = view_of v.count v.shares (v.claimed ++ n ∷ []) in
    let near = word_near s id v h at share in
    let next : (n + 1) % 2 ^ 64 ≡ n + 1 = omega arith in
    let word : slice_index (set s.words 0 ((n + 1) % 2 ^ 64)) 0 ≡ n + 1 = the_word s.words _ h.words ∙ next in
    let counts = counts_of s.views id v at share h.count in
    let room : beyond v.count (v.claimed ++ n ∷ []) ≤ v.shares = omega (arith, beyond-append v.count v.claimed (n ∷ []), beyond_one v.count n) in
    let views = set s.views id w in
    let same = each_set (Counts v.count) s.views id w counts (λ _. refl) in
    let within = each_set Within s.views id w h.within room in
    let empty = each_set Empty s.views id w h.empty (λ spent. absurd (omega arith)) in
    let each : (x : ℕ) → total (λ u. times x u.claimed) views ≡ once_below x (n + 1) =
    λ x. omega (arith, total_set (λ u. times x u.claimed) s.views id v w at, h.once x, times-append x v.claimed (n ∷ []), once_more x n)
    in
    let all : total (λ u. u.shares) views ≡ 64 = omega (arith, total_set (λ u. u.shares) s.views id v w at, h.shares) in
    let once = held_once s id v h at in (
      w,
      keeps,
      tt,
      record {
        words = one_word s.words _ h.words;
        count = one_count v.count views same;
        once = λ x. rw word (each x);
        shares = all;
        within = within;
        empty = empty;
      },
      record {
        share = λ spent. omega arith;
        going = going;
        gained = refl;
        larger = once_all v.claimed n once;
        fewer = once_few v.claimed n once;
        near = omega (arith, word_less views v.count (n + 1) same within empty each all);
      },
    )

pub splits : {S : Type 0} (id : ℕ) (v : View) → 2 ≤ v.shares → beyond v.count v.claimed < v.shares
    → Splits (IsClaimed {S = S}) id v (view_of v.count (v.shares - 1) v.claimed) (view_of v.count 1 [])
unfolding Counts Within Empty
splits id v two room s h at =
    let left = view_of v.count (v.shares - 1) v.claimed in
    let right = view_of v.count 1 [] in
    let views = set s.views id left in
    let counts = counts_of s.views id v at (omega arith) h.count in
    record {
      words = h.words;
      count = one_count v.count (views ++ right ∷ []) (each_snoc (Counts v.count) views right (each_set (Counts v.count) s.views id left counts (λ _. refl)) (λ _. refl));
      once = λ x. omega (arith, total_snoc (λ u. times x u.claimed) views right, total_set (λ u. times x u.claimed) s.views id v left at, h.once x);
      shares = omega (arith, total_snoc (λ u. u.shares) views right, total_set (λ u. u.shares) s.views id v left at, h.shares);
      within = each_snoc Within views right (each_set Within s.views id left h.within (omega arith)) (omega arith);
      empty = each_snoc Empty views right (each_set Empty s.views id left h.empty (λ spent. absurd (omega arith))) (λ _. refl);
    }

pub joins : {S : Type 0} (id : ℕ) (v : View) (other : ℕ) (w : View) → 0 < v.shares → 0 < w.shares
    → Joins (IsClaimed {S = S}) id v other w (view_of v.count (v.shares + w.shares) (v.claimed ++ w.claimed)) (view_of 0 0 [])
unfolding Counts Within Empty
joins id v other w share other_share s h at apart at_other =
    let both = view_of v.count (v.shares + w.shares) (v.claimed ++ w.claimed) in
    let spent = view_of 0 0 [] in
    let views = set s.views id both in
    let before : get_elem? s.views other ≡ some w = ⊎_elim (λ e. absurd (apart e.0)) (λ e. e.1) (at_set s.views id other both w at_other) in
    let counts = counts_of s.views id v at share h.count in
    let same = ap (λ (m : ℕ). beyond m w.claimed) (counts other w before (λ none. omega arith)) in
    let room : beyond v.count (v.claimed ++ w.claimed) ≤ v.shares + w.shares = omega (arith, beyond-append v.count v.claimed w.claimed, h.within id v at, h.within other w before) in
    record {
      words = h.words;
      count = one_count v.count (set views other spent) (each_set (Counts v.count) views other spent (each_set (Counts v.count) s.views id both counts (λ _. refl)) (λ some. absurd (some refl)));
      once = λ x. omega (arith, total_set (λ u. times x u.claimed) views other w spent at_other, total_set (λ u. times x u.claimed) s.views id v both at, h.once x, times-append x v.claimed w.claimed);
      shares = omega (arith, total_set (λ u. u.shares) views other w spent at_other, total_set (λ u. u.shares) s.views id v both at, h.shares);
      within = each_set Within views other spent (each_set Within s.views id both h.within room) (omega arith);
      empty = each_set Empty views other spent (each_set Empty s.views id both h.empty (λ none. absurd (omega arith))) (λ _. refl);
    }

-- the seat with all shares, which holds some number not below the count, holds each below it once
pub settles : {S : Type 0} (s : State S View) (id : ℕ) (v : View) → IsClaimed s → get_elem? s.views id ≡ some v → v.shares ≡ 64 → 0 < beyond v.count v.claimed → HoldsEachOnce v.count v.claimed
settles s id v h at all ended x below =
    let n = slice_index s.words 0 in
    let passed = reaches v.claimed v.count n (once_all v.claimed n (held_once s id v h at)) ended in
    let whole = total_whole (λ u. times x u.claimed) (λ u. u.shares) s.views id v at
    (λ j u at_u none. ap (times x) (h.empty j u at_u none)) (omega (arith, h.shares)) in
    sym whole ∙ (h.once x ∙ once_yes x n (omega arith))
