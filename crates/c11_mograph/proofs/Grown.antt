-- Room alone changes nothing that a graph stands for.
use Rattle.std.proofs.Common.{◌≡◌, ℕ, ◌<◌, List, Some, Bool, true, All, length, slice_get, vec_len, vec_capacity, sym, ap, ◌∙◌, subst, arith, inl, inr}
use Rattle.std.specs.Global.{Vec}
use Rattle.std.proofs.lemmas.Option.{slice_get_cases, slice_get_within, get_or_from_slice_get}
use Rattle.c11_mograph.specs.Clocks.{IsInto, IsLargest}
use Rattle.c11_mograph.specs.Lists.{HaveGrown, HaveRoomBut}
use Rattle.c11_mograph.specs.Made.{Made}
use Rattle.c11_mograph.specs.Spread.{MayGain}
use Rattle.c11_mograph.specs.Words.{Words, AreSafe, StandsFor}
use Rattle.c11_mograph.proofs.Tables.{gained_same, gained_wide, gained_more}

module _ (old new : List (Vec ℕ)) (count : length new ≡ length old) (grown : HaveGrown old new) where
  -- the list that a cell had
  had : (cell : ℕ) (b : Vec ℕ) → slice_get new cell ≡ Some b → (a : Vec ℕ) × (slice_get old cell ≡ Some a)
  had cell b at = elim (slice_get_cases old cell).1 [
    | inl p ↦ (p.0, p.2)
    | inr p ↦ absurd (omega (arith, p.0, slice_get_within new cell b at))
  ]

  -- what had room has it still
  has_room : (cell : ℕ) (a b : Vec ℕ) → slice_get old cell ≡ Some a → slice_get new cell ≡ Some b → vec_len a < vec_capacity a → vec_len b < vec_capacity b
  has_room cell a b was at room =
      let more = grown.room cell a b was at in
      let items = ap (λ (xs : List ℕ). length xs) (grown.items cell a b was at) in
      omega (arith, b.ok.0, a.ok.0)

  pub still_room_but : (cell : ℕ) → HaveRoomBut cell old → HaveRoomBut cell new
  still_room_but cell h = record {
    within = omega (arith, h.within, count);
    room = λ other b apart at. let a = had other b at in has_room other a.0 b a.1 at (h.room other a.0 apart a.1);
  }

  module _ (words : Words) (lists : words.lists ≡ old) (rows : List (List ℕ)) (gained : MayGain words.threads words.clocks.rows rows) (ready : Bool) where
    abbrev after : Words
    after = record words { lists = new; clocks = record words.clocks { rows = rows }; ready = ready }

    was : (cell : ℕ) (b : Vec ℕ) → slice_get new cell ≡ Some b → (a : Vec ℕ) × ((slice_get old cell ≡ Some a) × (slice_get words.lists cell ≡ Some a))
    was cell b at = let h = had cell b at in (h.0, (h.1, subst (λ (xs : List (Vec ℕ)). slice_get xs cell ≡ Some h.0) (sym lists) h.1))

    pub still_stands : (made : Made) → StandsFor words made → StandsFor (record words { lists = new; clocks = record words.clocks { rows = rows }; ready = ready }) made
    still_stands made stands = record {
      well = stands.well;
      count = stands.count;
      each = λ place store at. let k = stands.each place store at in
          record { number = k.number; kept = k.kept; is = k.is; cell = k.cell; thread = k.thread; head = k.head; head_is = k.head_is; chain = k.chain; ends = k.ends };
      lists = λ cell b at. let a = was cell b at in grown.items cell a.0 b a.1.0 at ∙ stands.lists cell a.0 a.1.1;
      lasts = λ cell thread less. stands.lasts cell thread (omega (arith, count, ap (λ (ls : List (Vec ℕ)). length ls) lists));
      clocks = λ place x at thread. subst (λ (n : ℕ). IsLargest (IsInto made thread x) n) (sym (gained_same words.threads words.clocks.rows rows gained place thread)) (stands.clocks place x at thread);
      clear = λ place out thread. gained_same words.threads words.clocks.rows rows gained place thread ∙ stands.clear place out thread;
      fresh = stands.fresh;
      own = stands.own;
    }

    safe_with : AreSafe words → (ready ≡ true → length words.numbers < length rows) → (ready ≡ true → (cell : ℕ) (b : Vec ℕ) → slice_get new cell ≡ Some b → vec_len b < vec_capacity b) → AreSafe after
    safe_with safe spare room = record {
      few = safe.few;
      each = safe.each;
      leads = safe.leads;
      rows = omega (arith, safe.rows, gained_more words.threads words.clocks.rows rows gained);
      spare = spare;
      wide = gained_wide words.threads words.clocks.rows rows gained safe.wide;
      lasts = omega (arith, safe.lasts, count, ap (λ (ls : List (Vec ℕ)). length ls) lists);
      wide_lasts = safe.wide_lasts;
      small = safe.small;
      heads = safe.heads;
      ranks = safe.ranks;
      within = safe.within;
      cells = λ place k at. omega (arith, safe.cells place k at, count, ap (λ (ls : List (Vec ℕ)). length ls) lists);
      room = room;
    }

    pub still_safe : ready ≡ words.ready → AreSafe words → AreSafe (record words { lists = new; clocks = record words.clocks { rows = rows }; ready = ready })
    still_safe same safe = safe_with safe (λ is. omega (arith, safe.spare (sym same ∙ is), gained_more words.threads words.clocks.rows rows gained))
        (λ is cell b at. let a = was cell b at in has_room cell a.0 b a.1.0 at (safe.room (sym same ∙ is) cell a.0 a.1.1))

    pub made_safe : length words.numbers < length rows → All (λ (list : Vec ℕ). vec_len list < vec_capacity list) new → AreSafe words → AreSafe (record words { lists = new; clocks = record words.clocks { rows = rows }; ready = ready })
    made_safe spare all safe = safe_with safe (λ is. spare) (λ is cell b at.
        subst (λ (list : Vec ℕ). vec_len list < vec_capacity list) (get_or_from_slice_get new cell b b at) (all cell b (slice_get_within new cell b at)))
