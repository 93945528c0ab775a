-- Fresh seats.
use Rattle.std.proofs.Common.{◌≡◌, ℕ, zero, suc, ◌+◌, ◌<◌, inl, true, false, List, [], ◌∷◌, Some, None, refl, sym, ap, ◌∙◌, subst, arith}
use Rattle.std.specs.Prelude.{◌↔◌, IsTrue, slice_get}
use Rattle.atomic_table.specs.declared.shared.Seat.{Seat}
use Rattle.atomic_table.specs.Table.{Me}
use Rattle.c11_events.specs.declared.entry.Entry.{Entry}
use Rattle.c11_events.specs.Replies.{thread_limit}
use Rattle.c11_events.specs.Steps.{init_entries, own_steps}
use Rattle.c11_flat.specs.Code.{Whole}
use Rattle.c11_machine.specs.Stands.{Standing, Stands}
use Rattle.c11_turn.specs.declared.terms.Terms.{Terms}
use Rattle.c11_turn.specs.Asking.{IsOver}
use Rattle.c11_turn.specs.Hand.{FollowsTerms, program_in}
use Rattle.c11_session.specs.declared.place.Place.{Place}
use Rattle.c11_session.specs.declared.place.Rest.TheVariants.{Ready}
use Rattle.c11_session.specs.declared.rule.Account.{Account}
use Rattle.c11_session.specs.declared.rule.View.{View}
use Rattle.c11_session.specs.Places.{IsSeated, sitting_of}
use Rattle.c11_session.specs.Seats.{Sitting, code_in, replies_of}
use Rattle.c11_session.specs.Sessions.{Sharing, IsFresh, fresh_account, fresh_view, with_numbers_below}
use Rattle.c11_session.specs.Steps.{all_but_one}
use Rattle.c11_session.specs.Turns.{Held}
use Rattle.c11_session.specs.Views.{countdown}
use Rattle.c11_session.proofs.Dealing.{init_own}

-- ---- one seat

abbrev pub placed : Seat Held View → Terms → Standing → Place
placed chair terms thread = record { chair = chair; terms = terms; thread = thread; ask = None; over = false; rest = Ready }

module _ (chair : Seat Held View) (terms : Terms) (thread : Standing) (number : ℕ) (is : chair.me ≡ (fresh_view terms number, [])) (started : (code : Whole) → Stands code thread []) (is_number : thread.number ≡ number) where
  mine_is : chair.me.0.mine ≡ fresh_account terms number
  mine_is = ap (λ (m : Me Held View). m.0.mine) is

  pub fresh_seated : number < thread_limit → FollowsTerms terms (init_entries (program_in terms).setting.atomic) → IsSeated (placed chair terms thread)
  fresh_seated below follows =
      let a = chair.me.0.mine in
      let made : [] ≡ a.made = ap (λ (x : Account). x.made) (sym mine_is) in
      let seen : init_entries (program_in terms).setting.atomic ≡ a.seen = ap (λ (x : Account). x.seen) (sym mine_is) in
      let waited : a.waited ≡ 0 = ap (λ (x : Account). x.waited) mine_is in
      record {
        empty = ap (λ (m : Me Held View). m.1) is;
        idle = ap (λ (m : Me Held View). m.0.stage) is;
        alone = ap (λ (m : Me Held View). m.0.gathered) is;
        part = record {
          one = ap (λ (x : Account). x.numbers) mine_is ∙ (λ i. sym is_number i ∷ []);
          below = omega (arith, is_number, below);
          carried = ap (λ (x : Account). x.terms) mine_is;
          follows = subst (λ (es : List Entry). FollowsTerms terms es) seen follows;
          own = ap (λ (es : List Entry). own_steps es thread.number) (sym seen) ∙ (init_own 0 thread.number (program_in terms).setting.atomic ∙ made);
          stands = subst (λ (es : List Entry). Stands (code_in terms) thread (replies_of es)) made (started (code_in terms));
        };
        asked = λ ask some_ask. absurd (let clash : None ≡ Some ask = some_ask in cc);
        over = subst (λ (es : List Entry). IsTrue false ↔ IsOver es) made (λ h. absurd (let clash : false ≡ true = h in cc), λ h. absurd h);
        holds = (ap (λ (x : Account). x.given_up) mine_is, inl (omega (arith, waited)));
      }

  pub fresh_is : number < thread_limit → FollowsTerms terms (init_entries (program_in terms).setting.atomic)
      → IsFresh (record { table = chair.table_id; terms = terms }) number (sitting_of (placed chair terms thread))
  fresh_is below follows = record {
    table = refl;
    terms = refl;
    account = mine_is;
    number = is_number;
    stands = started;
    part = (fresh_seated below follows).part;
    asks_nothing = refl;
    is_well = refl;
  }

-- ---- the numbers

pub two_left : (n : ℕ) → 0 < n → (a b : ℕ) × (more : List ℕ) × (countdown (n + 1) ≡ a ∷ b ∷ more)
two_left zero some_number = absurd (omega arith)
two_left (suc n) some_number = (suc n, n, countdown n, (let e : suc n + 1 ≡ suc (suc n) = omega arith in ap countdown e))

pub rest_left : (terms : Terms) (n : ℕ) → all_but_one (with_numbers_below terms (n + 1)) ≡ with_numbers_below terms n
rest_left terms n = let e : n + 1 ≡ suc n = omega arith in ap (λ (k : ℕ). all_but_one (with_numbers_below terms k)) e

-- ---- the seats of the numbers from this one on

abbrev pub FreshFrom : Sharing → ℕ → List Sitting → Type 0
FreshFrom session first seats = (u : ℕ) (s : Sitting) → slice_get seats u ≡ Some s → IsFresh session (first + u) s

pub fresh_more : (session : Sharing) (n : ℕ) (x : Sitting) (seats : List Sitting) → IsFresh session n x → FreshFrom session (n + 1) seats → FreshFrom session n (x ∷ seats)
fresh_more session n x seats here rest zero s at =
    let same : x ≡ s = cc in
    let e : n ≡ n + 0 = omega arith in
    subst (λ (k : ℕ). IsFresh session k s) e (subst (λ (y : Sitting). IsFresh session n y) same here)
fresh_more session n x seats here rest (suc u) s at =
    let e : n + 1 + u ≡ n + suc u = omega arith in
    subst (λ (k : ℕ). IsFresh session k s) e (rest u s at)

-- ---- terms

pub same_terms : (a b : Terms) → a.program.value ≡ b.program.value → a.seed ≡ b.seed → a.bound ≡ b.bound → a ≡ b
same_terms a b program seed bound = λ i. record { program = record { marker = a.program.marker; value = program i }; seed = seed i; bound = bound i }
