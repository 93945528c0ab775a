-- A graph with further pairs: what its clocks say is what is reached.
use Rattle.std.proofs.Common.{◌≡◌, ℕ, zero, suc, ◌<◌, ◌≤◌, ◌+◌, List, [], ◌∷◌, ◌++◌, Some, None, Bool, true, false, nat_eq, max, length, slice_get, slice_index, slice_set, take, sym, ap, ◌∙◌, subst, refl, arith, append-nil, append_assoc, ◌⊎◌, inl, inr}
use Rattle.std.proofs.lemmas.Option.{slice_get_within, slice_get-get_or}
use Rattle.std.proofs.lemmas.Bool.{eq-eqb}
use Rattle.std.proofs.lemmas.List.{take_more}
use native.Mathlib.Decide.{ℕ_discrete}
use mathlib.Core.Logic.{dite}
use lib.ListN.{get_or}
use Rattle.c11_clock.specs.Clocks.{joined}
use Rattle.c11_clock.proofs.Joined.{joined-each}
use Rattle.c11_mograph.specs.declared.kept.Kept.{Kept}
use Rattle.c11_mograph.specs.Clocks.{IsInto, IsLargest, LeadsOn, IsLed}
use Rattle.c11_mograph.specs.Made.{AreRising, OfOneCell, Pair, Made, IsAdded, Chain, IsPair, Links, Ordered, pairs_into, with_pairs}
use Rattle.c11_mograph.specs.Parts.{SpreadsFrom, TakesIn, Gathers, IsHeadOf}
use Rattle.c11_mograph.specs.Spread.{Table, row, number_in, IsSpread}
use Rattle.c11_mograph.specs.Words.{Words, WellMade, Tracks}
use Rattle.c11_mograph.proofs.Chains.{chain_head}
use Rattle.c11_mograph.proofs.Clocked.{into_linked_less, into_linked_keeps, into_linked_more, into_linked_same, largest_either, largest_same}
use Rattle.c11_mograph.proofs.Found.{same_number, chain_at, cell_at, thread_at, head_at, kept_there, number_at, rising}
use Rattle.c11_mograph.proofs.Orders.{into_one, into_has, pair_cases, pair_more, pair_behind, ordered_less, into_cases, linked_less, linked_same, linked_keeps}
use Rattle.c11_mograph.proofs.Places.{set_cases}
use Rattle.c11_mograph.proofs.Spreading.{nothing_raised, all_raised, fresh_spread, spread_always}
use Rattle.c11_mograph.proofs.Tables.{row_at, row_else, joined_same}

-- what is well made stays so
pub still_well : (made : Made) (prior : List ℕ) (x : ℕ) → WellMade made → OfOneCell made.stores prior x → Ordered (with_pairs made prior x) → WellMade (with_pairs made prior x)
still_well made prior x well one_cell ordered = record {
  rises = well.rises;
  earlier = well.earlier;
  once = well.once;
  of_cell = well.of_cell;
  positive = well.positive;
  paired = λ a b p. elim (pair_cases made.pairs (pairs_into prior x) a b p) [
    | inl old ↦ well.paired a b old
    | inr new ↦ let q = into_cases prior x a b new in
        subst (λ (y : ℕ). IsAdded made.stores a (λ s. IsAdded made.stores y (λ t. s.cell ≡ t.cell))) (sym q.0) (one_cell q.1.1.place a q.1.1.is)
  ];
  ordered = ordered;
}

-- one after the other
into_append : (ps qs : List ℕ) (x : ℕ) → pairs_into (ps ++ qs) x ≡ pairs_into ps x ++ pairs_into qs x
into_append [] qs x = refl
into_append (p ∷ ps) qs x = ap (λ (rest : List Pair). into_one (nat_eq p x) p x ++ rest) (into_append ps qs x) ∙ sym (append_assoc (into_one (nat_eq p x) p x) (pairs_into ps x) (pairs_into qs x))

pub one_more : (made : Made) (prior : List ℕ) (x count : ℕ) → count < length prior
    → with_pairs (with_pairs made (take count prior) x) (get_or prior count 0 ∷ []) x ≡ with_pairs made (take (count + 1) prior) x
one_more made prior x count lt =
    ap (λ (ps : List Pair). record made { pairs = ps })
    (append_assoc made.pairs (pairs_into (take count prior) x) (pairs_into (get_or prior count 0 ∷ []) x)
    ∙ ap (λ (ps : List Pair). made.pairs ++ ps) (sym (into_append (take count prior) (get_or prior count 0 ∷ []) x) ∙ ap (λ (qs : List ℕ). pairs_into qs x) (sym (take_more prior count 0 lt))))

among_take : (prior : List ℕ) (count i p : ℕ) → slice_get (take count prior) i ≡ Some p → slice_get prior i ≡ Some p
among_take [] zero i p at = cc
among_take [] (suc count) i p at = cc
among_take (q ∷ prior) zero i p at = cc
among_take (q ∷ prior) (suc count) zero p at = at
among_take (q ∷ prior) (suc count) (suc i) p at = among_take prior count i p at

-- what is no store is linked with nothing
pub none_linked : (words : Words) (made : Made) (prior : List ℕ) (x : ℕ) → Tracks words made → (AreRising words.numbers → (i : ℕ) → slice_get words.numbers i ≡ Some x → ⊥) → OfOneCell made.stores prior x
    → Tracks words (with_pairs made prior x)
none_linked words made [] x tracks none one_cell = subst (λ (ps : List Pair). Tracks words (record made { pairs = ps })) (sym (append-nil made.pairs)) tracks
none_linked words made (p ∷ prior) x tracks none one_cell =
    let t = one_cell 0 p refl in
    let at = number_at words made tracks x (λ u. t.store.cell ≡ u.cell) t.holds in
    absurd (none (rising words made tracks) at.0 at.1)

module _ (old : Words) (made : Made) (tracks : Tracks old made) (x to h : ℕ) (head : IsHeadOf old x to h) where
  -- the chain of x begins with h
  chain_x : (k : ℕ) × Chain made.stores h k x
  chain_x =
      let c = chain_at old made tracks head.place x head.kept head.at head.is in
      let both : Some c.0 ≡ Some h = sym c.1.0 ∙ (ap (λ (n : ℕ). slice_get old.numbers n) head.head ∙ head.number) in
      let same : c.0 ≡ h = cc in
      (head.kept.rank, subst (λ (n : ℕ). Chain made.stores n head.kept.rank x) same c.1.1)

  -- nothing is linked yet
  pub nothing_gathered : (prior : List ℕ) → Gathers old old made (with_pairs made (take 0 prior) x) to h false
  nothing_gathered prior = subst (λ (ps : List Pair). Gathers old old made (record made { pairs = ps }) to h false) (sym (append-nil made.pairs)) (record {
    rest = refl;
    well = tracks.well;
    grown = record { less = λ u y a t. inl t; keeps = λ u y a t. t; leads = λ y w. w; led = λ y w. inr w };
    others = λ place _. refl;
    largest = λ u. tracks.clocks to h head.number u;
    fresh = tracks.fresh;
    same = λ _. refl;
  })

  module _ (pairs : List Pair) (p : ℕ) (one_cell : OfOneCell made.stores (p ∷ []) x) (ordered : Ordered (with_pairs (record { stores = made.stores; pairs = pairs }) (p ∷ []) x)) where
    abbrev so_far : Made
    so_far = record { stores = made.stores; pairs = pairs }

    abbrev linked : Made
    linked = with_pairs (record { stores = made.stores; pairs = pairs }) (p ∷ []) x

    at_p : (i : ℕ) × (slice_get old.numbers i ≡ Some p)
    at_p = let t = one_cell 0 p refl in number_at old made tracks p (λ s. IsAdded made.stores x (λ t. s.cell ≡ t.cell)) t

    kept_p : (k : Kept) × (slice_get old.kept at_p.0 ≡ Some k)
    kept_p = kept_there old made tracks at_p.0 p at_p.1

    abbrev from : ℕ
    from = kept_p.0.head

    chain_p : (n : ℕ) × ((slice_get old.numbers from ≡ Some n) × Chain made.stores n kept_p.0.rank p)
    chain_p = chain_at old made tracks at_p.0 p kept_p.0 at_p.1 kept_p.1

    abbrev ha : ℕ
    ha = chain_p.0

    heads : from ≡ to → ha ≡ h
    heads same = let both : Some ha ≡ Some h = sym chain_p.1.0 ∙ (ap (λ (n : ℕ). slice_get old.numbers n) same ∙ head.number) in cc

    places : ha ≡ h → from ≡ to
    places same = same_number old made tracks from to ha chain_p.1.0 (head.number ∙ ap (λ (n : ℕ). Some n) (sym same))

    module _ (table : Table) (raised : Bool) (g : Gathers old (record old { clocks = table }) made (record { stores = made.stores; pairs = pairs }) to h raised) where
      abbrev mid : Words
      mid = record old { clocks = table }

      -- x itself is not linked
      own : p ≡ x → Gathers old (record old { clocks = table }) made (with_pairs (record { stores = made.stores; pairs = pairs }) (p ∷ []) x) to h raised
      own same =
          let none : pairs_into (p ∷ []) x ≡ [] = ap (λ (c : Bool). into_one c p x ++ []) (eq-eqb p x same) in
          subst (λ (ps : List Pair). Gathers old mid made (record { stores = made.stores; pairs = ps }) to h raised) (sym (ap (λ (ps : List Pair). pairs ++ ps) none ∙ append-nil pairs)) g

      own_place : p ≡ x → from ≡ to
      own_place same =
          let place : at_p.0 ≡ head.place = same_number old made tracks at_p.0 head.place p at_p.1 (head.at ∙ ap (λ (n : ℕ). Some n) (sym same)) in
          let both : Some kept_p.0 ≡ Some head.kept = sym kept_p.1 ∙ (ap (λ (n : ℕ). slice_get old.kept n) place ∙ head.is) in
          let is : kept_p.0 ≡ head.kept = cc in
          ap (λ (k : Kept). k.head) is ∙ head.head

      module _ (other : p ≡ x → ⊥) where
        well_linked : WellMade (with_pairs (record { stores = made.stores; pairs = pairs }) (p ∷ []) x)
        well_linked = still_well so_far (p ∷ []) x g.well one_cell ordered

        less : (u y a : ℕ) → IsInto linked u y a → IsInto so_far u y a ⊎ (((h ≡ y) ⊎ Links so_far h y) × IsInto so_far u ha a)
        less = into_linked_less so_far g.well p x ha h kept_p.0.rank chain_x.0 other chain_p.1.1 chain_x.1

        keeps : (u y a : ℕ) → IsInto so_far u y a → IsInto linked u y a
        keeps = into_linked_keeps so_far g.well p x ha h kept_p.0.rank chain_x.0 other chain_p.1.1 chain_x.1

        still : (y z : ℕ) → Links so_far y z → Links linked y z
        still = linked_keeps so_far g.well p x ha h kept_p.0.rank chain_x.0 other chain_p.1.1 chain_x.1

        -- in the chain of x itself nothing changes
        in_chain : from ≡ to → Gathers old (record old { clocks = table }) made (with_pairs (record { stores = made.stores; pairs = pairs }) (p ∷ []) x) to h raised
        in_chain same = record {
          rest = refl;
          well = well_linked;
          grown = record {
            less = λ u y a t. elim (g.grown.less u y a (no_more u y a t)) [ inl before ↦ inl before | inr new ↦ inr (new.0, keeps u h a new.1) ];
            keeps = λ u y a t. keeps u y a (g.grown.keeps u y a t);
            leads = λ y w. still h y (g.grown.leads y w);
            led = λ y w. g.grown.led y (no_link h y w);
          };
          others = g.others;
          largest = λ u. largest_same (IsInto so_far u h) (IsInto linked u h) (number_in table.rows to u) (g.largest u) (λ a t. no_more u h a t) (λ a t. keeps u h a t);
          fresh = λ l y at flag z w. g.fresh l y at flag z (no_link y z w);
          same = g.same;
        }
          where
            no_more : (u y a : ℕ) → IsInto linked u y a → IsInto so_far u y a
            no_more = into_linked_same so_far g.well p x ha h kept_p.0.rank chain_x.0 other chain_p.1.1 chain_x.1 (heads same)

            no_link : (y z : ℕ) → Links linked y z → Links so_far y z
            no_link = linked_same so_far g.well p x ha h kept_p.0.rank chain_x.0 other chain_p.1.1 chain_x.1 (heads same)

        -- the clock of the chain of p is taken over
        across : (raised' : Bool) → (differ : from ≡ to → ⊥) → to < length table.rows → (raised' ≡ false → (raised ≡ false) × (joined (row table.rows to) (row table.rows from) ≡ row table.rows to))
            → Gathers old (record old { clocks = record { rows = slice_set table.rows to (joined (row table.rows to) (row table.rows from)); leads = slice_set table.leads from true } }) made
            (with_pairs (record { stores = made.stores; pairs = pairs }) (p ∷ []) x) to h raised'
        across raised' differ within nothing = record {
          rest = refl;
          well = well_linked;
          grown = record {
            less = λ u y a t. elim (less u y a t) [
              | inl before ↦ elim (g.grown.less u y a before) [ inl old ↦ inl old | inr new ↦ inr (new.0, keeps u h a new.1) ]
              | inr new ↦ inr (led_before y new.0, on_to_h u a new.1)
            ];
            keeps = λ u y a t. keeps u y a (g.grown.keeps u y a t);
            leads = λ y w. still h y (g.grown.leads y w);
            led = λ y w. led_before y (elim (links h y w) [ inl before ↦ inr before | inr new ↦ new.1 ]);
          };
          others = λ place elsewhere. row_else table.rows to (joined (row table.rows to) (row table.rows from)) place elsewhere ∙ g.others place elsewhere;
          largest = λ u. subst (λ (n : ℕ). IsLargest (IsInto linked u h) n) (sym (at_to u))
              (largest_either (IsInto so_far u h) (IsInto made u ha) (IsInto linked u h) (number_in table.rows to u) (number_in old.clocks.rows from u) (g.largest u) (tracks.clocks from ha chain_p.1.0 u)
              (λ a t. elim (less u h a t) [ inl before ↦ inl before | inr new ↦ elim (g.grown.less u ha a new.1) [ inl first ↦ inr first | inr back ↦ inl back.1 ] ])
              (λ a t. keeps u h a t) (λ a t. on_to_h u a (g.grown.keeps u ha a t)));
          fresh = λ l y at flag z w. elim (set_cases table.leads from l true false flag) [
            | inl here ↦ absurd (let clash : true ≡ false = here.1 in cc)
            | inr there ↦ elim (links y z w) [
              | inl before ↦ g.fresh l y at there.1 z before
              | inr new ↦ elim new.0 [
                | inl e ↦ there.0 (same_number old made tracks l from y at (chain_p.1.0 ∙ ap (λ (n : ℕ). Some n) (sym e)))
                | inr v ↦ g.fresh l y at there.1 ha v
              ]
            ]
          ];
          same = λ is. let none = nothing is in row_at table.rows to (joined (row table.rows to) (row table.rows from)) within ∙ (none.1 ∙ g.same none.0);
        }
          where
            links : (y z : ℕ) → Links linked y z → Links so_far y z ⊎ (((y ≡ ha) ⊎ Links so_far y ha) × ((h ≡ z) ⊎ Links so_far h z))
            links = linked_less so_far g.well p x ha h kept_p.0.rank chain_x.0 other chain_p.1.1 chain_x.1

            led_before : (y : ℕ) → (h ≡ y) ⊎ Links so_far h y → IsLed made h y
            led_before y (inl e) = inl e
            led_before y (inr w) = g.grown.led y w

            on_to_h : (u a : ℕ) → IsInto so_far u ha a → IsInto linked u h a
            on_to_h u a t = into_linked_more so_far g.well p x ha h kept_p.0.rank chain_x.0 other chain_p.1.1 chain_x.1 (λ e. differ (places e)) u h a (inl refl) t

            at_to : (u : ℕ) → number_in (slice_set table.rows to (joined (row table.rows to) (row table.rows from))) to u ≡ max (number_in table.rows to u) (number_in old.clocks.rows from u)
            at_to u = ap (λ (r : List ℕ). slice_index r u) (row_at table.rows to (joined (row table.rows to) (row table.rows from)) within)
                ∙ (joined-each (row table.rows to) (row table.rows from) u ∙ ap (λ (r : List ℕ). max (number_in table.rows to u) (slice_index r u)) (g.others from differ))

      taken_in : (new : Words) (rose raised' : Bool) → TakesIn (record old { clocks = table }) new p to rose → (raised' ≡ false → (raised ≡ false) × (rose ≡ false))
          → Gathers old new made (with_pairs (record { stores = made.stores; pairs = pairs }) (p ∷ []) x) to h raised'
      taken_in new rose raised' takes both =
          let joins = takes.joins (rising old made tracks) at_p.0 kept_p.0 at_p.1 kept_p.1 in
          dite (ℕ_discrete from to)
          (λ (same : from ≡ to).
          let g' = dite (ℕ_discrete p x) (λ (e : p ≡ x). own e) (λ (other : p ≡ x → ⊥). in_chain other same) in
          subst (λ (w : Words). Gathers old w made linked to h raised') (sym (joins.same same).0)
          (record { rest = g'.rest; well = g'.well; grown = g'.grown; others = g'.others; largest = g'.largest; fresh = g'.fresh; same = λ is. g'.same (both is).0 }))
          (λ (differ : from ≡ to → ⊥). subst (λ (w : Words). Gathers old w made linked to h raised') (sym (joins.joins differ))
          (across (λ e. differ (own_place e)) raised' differ (let w = slice_get_within old.numbers to h head.number in omega (arith, (joins.sized differ).few))
          (λ is. let b = both is in (
            b.0,
            joined_same (row table.rows to) (row table.rows from) (wide_row from ha chain_p.1.0 (joins.sized differ).few (joins.sized differ).wide ∙ sym (wide_row to h head.number (joins.sized differ).few (joins.sized differ).wide))
                (λ below. let rises = (joins.raises differ).1 below in let clash : true ≡ false = sym rises ∙ b.1 in cc),
          ))))
        where
          wide_row : (l y : ℕ) → slice_get old.numbers l ≡ Some y → length old.numbers ≤ length table.rows → ((place : ℕ) → place < length table.rows → length (row table.rows place) ≡ old.threads)
              → length (row table.rows l) ≡ old.threads
          wide_row l y at few wide = wide l (let w = slice_get_within old.numbers l y at in omega arith)

  -- with one more prior store
  pub gather_step : (mid new : Words) (prior : List ℕ) (count : ℕ) (raised rose raised' : Bool) → count < length prior → OfOneCell made.stores prior x → Ordered (with_pairs made prior x)
      → Gathers old mid made (with_pairs made (take count prior) x) to h raised → TakesIn mid new (get_or prior count 0) to rose → (raised' ≡ false → (raised ≡ false) × (rose ≡ false))
      → Gathers old new made (with_pairs made (take (count + 1) prior) x) to h raised'
  gather_step mid new prior count raised rose raised' lt one_cell ordered g takes both =
      let fewer : Ordered (with_pairs made (take (count + 1) prior) x) = ordered_less made.stores (made.pairs ++ pairs_into (take (count + 1) prior) x) (made.pairs ++ pairs_into prior x)
      (λ a b p. elim (pair_cases made.pairs (pairs_into (take (count + 1) prior) x) a b p) [
        | inl before ↦ pair_more made.pairs (pairs_into prior x) a b before
        | inr q ↦ let c = into_cases (take (count + 1) prior) x a b q in
            subst (λ (y : ℕ). IsPair (made.pairs ++ pairs_into prior x) a y) (sym c.0)
            (pair_behind made.pairs (pairs_into prior x) a x (into_has prior x a (record { place = c.1.1.place; is = among_take prior (count + 1) c.1.1.place a c.1.1.is }) c.1.0))
      ]) ordered in
      subst (λ (m : Made). Gathers old new made m to h raised') (one_more made prior x count lt)
      (taken_in (made.pairs ++ pairs_into (take count prior) x) (get_or prior count 0) lone_cell (subst (λ (m : Made). Ordered m) (sym (one_more made prior x count lt)) fewer) mid.clocks raised
      (subst (λ (w : Words). Gathers old w made (with_pairs made (take count prior) x) to h raised) g.rest g) new rose raised' (subst (λ (w : Words). TakesIn w new (get_or prior count 0) to rose) g.rest takes) both)
    where
      lone_cell : (i p : ℕ) → slice_get (get_or prior count 0 ∷ []) i ≡ Some p → IsAdded made.stores p (λ s. IsAdded made.stores x (λ t. s.cell ≡ t.cell))
      lone_cell zero p among = one_cell count p (slice_get-get_or prior count 0 lt ∙ among)
      lone_cell (suc i) p among = cc

  -- what was gathered is spread, or there is nothing to spread
  module _ (prior : List ℕ) (mid : Words) (raised : Bool) (g : Gathers old mid made (with_pairs made prior x) to h raised) (leads_on : LeadsOn made h) where
    own_kept : (k : Kept) × (slice_get old.kept to ≡ Some k)
    own_kept = kept_there old made tracks to h head.number

    begins : IsAdded made.stores h (λ s. s.after ≡ None)
    begins = chain_head made.stores h chain_x.0 x chain_x.1

    tracks_with : (rows : List (List ℕ)) → ((l y : ℕ) → slice_get old.numbers l ≡ Some y → (u : ℕ) → IsLargest (IsInto (with_pairs made prior x) u y) (number_in rows l u))
        → ((l : ℕ) → length old.numbers ≤ l → row rows l ≡ row old.clocks.rows l) → Tracks (record old { clocks = record { rows = rows; leads = mid.clocks.leads } }) (with_pairs made prior x)
    tracks_with rows exact clear = record {
      well = g.well;
      count = tracks.count;
      each = λ place store at. let k = tracks.each place store at in
          record { number = k.number; kept = k.kept; is = k.is; cell = k.cell; thread = k.thread; head = k.head; head_is = k.head_is; chain = k.chain; ends = k.ends };
      lists = tracks.lists;
      lasts = tracks.lasts;
      clocks = exact;
      clear = λ l out u. ap (λ (r : List ℕ). slice_index r u) (clear l out) ∙ tracks.clear l out u;
      fresh = g.fresh;
    }

    cells : (l y : ℕ) (e : Kept) → slice_get old.numbers l ≡ Some y → slice_get old.kept l ≡ Some e → (u : ℕ) → 0 < number_in old.clocks.rows l u → IsAdded made.stores y (λ t. t.cell ≡ e.cell)
    cells l y e at kept u _ = cell_at old made tracks l y e at kept

    behind : (l : ℕ) → length old.numbers ≤ l → l ≡ to → ⊥
    behind l out e = let w = slice_get_within old.numbers to h head.number in omega arith

    not_spread : raised ≡ false → Tracks mid (with_pairs made prior x)
    not_spread none = subst (λ (w : Words). Tracks w (with_pairs made prior x)) (sym g.rest)
        (tracks_with mid.clocks.rows
        (nothing_raised made tracks.well old.numbers old.kept old.clocks.rows (same_number old made tracks) (kept_there old made tracks) tracks.clocks cells (head_at old made tracks) to h own_kept.0 head.number own_kept.1
        begins (thread_at old made tracks to h own_kept.0 head.number own_kept.1) (cell_at old made tracks to h own_kept.0 head.number own_kept.1) leads_on
        mid.clocks.rows g.others (with_pairs made prior x) g.well g.grown g.largest (g.same none))
        (λ l out. g.others l (behind l out)))

    is_spread : (new : Words) → SpreadsFrom (record old { clocks = mid.clocks }) new to → Tracks new (with_pairs made prior x)
    is_spread new s =
        let number_is : s.number ≡ h = let both : Some s.number ≡ Some h = sym s.at ∙ head.number in cc in
        let kept_is : s.kept ≡ own_kept.0 = let both : Some s.kept ≡ Some own_kept.0 = sym s.is ∙ own_kept.1 in cc in
        let to_own = λ (rows : List (List ℕ)) (t : IsSpread old.kept mid.clocks.rows rows 0 to s.kept.cell s.kept.thread s.number).
        subst (λ (k : Kept). IsSpread old.kept mid.clocks.rows rows 0 to k.cell k.thread h) kept_is (subst (λ (n : ℕ). IsSpread old.kept mid.clocks.rows rows 0 to s.kept.cell s.kept.thread n) number_is t) in
        let from_own = λ (rows : List (List ℕ)) (t : IsSpread old.kept mid.clocks.rows rows 0 to own_kept.0.cell own_kept.0.thread h).
        subst (λ (n : ℕ). IsSpread old.kept mid.clocks.rows rows 0 to s.kept.cell s.kept.thread n) (sym number_is) (subst (λ (k : Kept). IsSpread old.kept mid.clocks.rows rows 0 to k.cell k.thread h) (sym kept_is) t) in
        let spread = to_own new.clocks.rows (spread_always (record old { clocks = mid.clocks }) new to s (λ flag. from_own mid.clocks.rows
        (fresh_spread made tracks.well old.numbers old.kept old.clocks.rows (same_number old made tracks) (kept_there old made tracks) tracks.clocks cells (head_at old made tracks) to h own_kept.0 head.number own_kept.1
        begins (thread_at old made tracks to h own_kept.0 head.number own_kept.1) (cell_at old made tracks to h own_kept.0 head.number own_kept.1) leads_on
        mid.clocks.rows g.others s.sized.each (λ y w. g.fresh to h head.number flag y (g.grown.leads y w))))) in
        subst (λ (w : Words). Tracks w (with_pairs made prior x)) (sym s.rest)
        (tracks_with new.clocks.rows
        (all_raised made tracks.well old.numbers old.kept old.clocks.rows (same_number old made tracks) (kept_there old made tracks) tracks.clocks cells (head_at old made tracks) to h own_kept.0 head.number own_kept.1
        begins (thread_at old made tracks to h own_kept.0 head.number own_kept.1) (cell_at old made tracks to h own_kept.0 head.number own_kept.1) leads_on
        mid.clocks.rows g.others (with_pairs made prior x) g.well g.grown g.largest new.clocks.rows spread)
        (λ l out. spread.left l (inr (inr (λ c. let w = slice_get_within old.kept l c.head.here c.head.is in omega (arith, s.sized.each)))) ∙ g.others l (behind l out)))

-- the head of the chain of a store
pub head_of : (words : Words) (made : Made) → Tracks words made → (place x : ℕ) (k : Kept) → slice_get words.numbers place ≡ Some x → slice_get words.kept place ≡ Some k → (h : ℕ) × IsHeadOf words x k.head h
head_of words made tracks place x k at is = let c = chain_at words made tracks place x k at is in (c.0, record { place = place; kept = k; at = at; is = is; head = refl; number = c.1.0 })

module _ (old mid : Words) (made : Made) (tracks : Tracks old made) (prior : List ℕ) (x to h : ℕ) (raised : Bool) (head : IsHeadOf old x to h) (leads_on : (n i : ℕ) → Chain made.stores n i x → LeadsOn made n)
    (g : Gathers old mid made (with_pairs made prior x) to h raised) where
  leads : LeadsOn made h
  leads = let c = chain_x old made tracks x to h head in leads_on h c.0 c.1

  -- the clock of the chain of x grew, and was spread
  pub linked_spread : (new : Words) → SpreadsFrom mid new to → Tracks new (with_pairs made prior x)
  linked_spread new s = is_spread old made tracks x to h head prior mid raised g leads new (subst (λ (w : Words). SpreadsFrom w new to) g.rest s)

  -- it did not grow
  pub linked_still : raised ≡ false → Tracks mid (with_pairs made prior x)
  linked_still none = not_spread old made tracks x to h head prior mid raised g leads none
