-- What is said of the events noted, without their texts, said of the events.
use Rattle.std.proofs.Common.{◌≡◌, ℕ, ◌↔◌, Bool, IsTrue, List, map, sym, subst}
use Rattle.c11_events.specs.declared.event.Event.{Event}
use Rattle.c11_events.specs.Events.{IsStore}
use Rattle.c11_events.specs.HappensBefore.{HappensBefore}
use Rattle.c11_happens.specs.Covers.{UpTo, CoversExactly, HasNoEvent, IsLastOf, IsCreateOf}
use Rattle.c11_happens.specs.Trace.{textless}
use Rattle.c11_happens.proofs.Texts.{texts_do_not_matter}

module _ (noted events : List Event) (is : noted ≡ map textless events) where
  pub before_as : (a b : ℕ) (answer : Bool) → IsTrue answer ↔ HappensBefore noted a b → IsTrue answer ↔ HappensBefore events a b
  before_as a b answer h =
      let t = subst (λ (l : List Event). IsTrue answer ↔ HappensBefore l a b) is h in
      let s = (texts_do_not_matter events).before a b in
      (λ yes'. s.0 (t.0 yes'), λ k. t.1 (s.1 k))

  pub store_as : (cell x : ℕ) → IsStore events cell x → IsStore noted cell x
  store_as cell x s = subst (λ (l : List Event). IsStore l cell x) (sym is) (((texts_do_not_matter events).stores cell x).1 s)

  pub last_as : (thread : ℕ) (clock : List ℕ) → ((b : ℕ) → IsLastOf noted thread b → CoversExactly noted clock (UpTo noted b))
      → (b : ℕ) → IsLastOf events thread b → CoversExactly events clock (UpTo events b)
  last_as thread clock h b last =
      let t = subst (λ (l : List Event). (b : ℕ) → IsLastOf l thread b → CoversExactly l clock (UpTo l b)) is h in
      let same = texts_do_not_matter events in
      (same.covers clock b).0 (t b ((same.last thread b).1 last))

  pub started_as : (thread : ℕ) (clock : List ℕ) → ((c : ℕ) → HasNoEvent noted thread → IsCreateOf noted thread c → CoversExactly noted clock (UpTo noted c))
      → (c : ℕ) → HasNoEvent events thread → IsCreateOf events thread c → CoversExactly events clock (UpTo events c)
  started_as thread clock h c none create =
      let t = subst (λ (l : List Event). (c : ℕ) → HasNoEvent l thread → IsCreateOf l thread c → CoversExactly l clock (UpTo l c)) is h in
      let same = texts_do_not_matter events in
      (same.covers clock c).0 (t c ((same.none thread).1 none) ((same.creates thread c).1 create))

  pub unborn_as : (thread : ℕ) (clock : List ℕ) → (HasNoEvent noted thread → ((c : ℕ) → IsCreateOf noted thread c → ⊥) → CoversExactly noted clock (λ a. ⊥))
      → HasNoEvent events thread → ((c : ℕ) → IsCreateOf events thread c → ⊥) → CoversExactly events clock (λ a. ⊥)
  unborn_as thread clock h none none' =
      let t = subst (λ (l : List Event). HasNoEvent l thread → ((c : ℕ) → IsCreateOf l thread c → ⊥) → CoversExactly l clock (λ a. ⊥)) is h in
      let same = texts_do_not_matter events in
      (same.nothing clock).0 (t ((same.none thread).1 none) (λ c k. none' c ((same.creates thread c).0 k)))
