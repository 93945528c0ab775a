-- The states of threads, mutexes and plain cells after one event more.
use Rattle.std.proofs.Common.{◌≡◌, ℕ, zero, suc, ◌+◌, Bool, true, false, cond, ◌&&◌, ◌||◌, List, [], ◌∷◌, ◌++◌, Option, Some, None, ℤ, pos, length, slice_get, nat_eq, unwrap_or, if◌then◌else◌, zero-add, refl, ap, ◌∙◌, arith}
use Rattle.std.specs.List.{filter, filter_map, list_any, cons_option}
use Rattle.std.specs.Option.{option_map_or}
use Rattle.std.proofs.lemmas.List.Elements.{filter-append, filter_map-append}
use Rattle.std.proofs.lemmas.List.Recursion.{or_push}
use Rattle.std.proofs.lemmas.List.Sums.{length-filter, sum_by-append}
use Rattle.std.proofs.lemmas.List.{append-nil}
use Rattle.std.proofs.lemmas.Bool.{or_parts}
use Rattle.c11_num.specs.Ranges.{TypedNumber}
use Rattle.c11_events.specs.declared.event.Event.{Event}
use Rattle.c11_events.specs.declared.event.EventKind.{EventKind}
use Rattle.c11_events.specs.declared.event.EventKind.TheVariants.{End}
use Rattle.c11_events.specs.declared.reply.Reply.TheVariants.{Done}
use Rattle.c11_events.specs.Events.{initialised_mutex, is_create, is_end, joined_thread}
use Rattle.c11_events.specs.Threads.{option_is, created, has_ended, is_joined, is_initialised, holder_from, holder_next}
use Rattle.c11_events.specs.Replies.{Setting, began, told_by, last_or, written_to, plain_value, ended_with, end_value}
use Rattle.c11_events.proofs.Longer.{get_last}

last_of_both : {X : Type 0} (first : X) (xs ys : List X) → last_or first (xs ++ ys) ≡ last_or (last_or first xs) ys
last_of_both first [] ys = refl
last_of_both first (x ∷ xs) ys = last_of_both x xs ys

last_more : {X Y : Type 0} (h : X → Option Y) (first : Y) (xs : List X) (x : X) → last_or first (filter_map h (xs ++ x ∷ [])) ≡ unwrap_or (h x) (last_or first (filter_map h xs))
last_more {X} {Y} h first xs x = ap (λ (ys : List Y). last_or first ys) (filter_map-append h xs (x ∷ [])) ∙ (last_of_both first (filter_map h xs) (filter_map h (x ∷ [])) ∙ last_one (last_or first (filter_map h xs)))
  where
    last_one : (before : Y) → last_or before (filter_map h (x ∷ [])) ≡ unwrap_or (h x) before
    last_one before = elim (h x) as (λ (o : Option Y). last_or before (cons_option o []) ≡ unwrap_or o before) [ None ↦ refl | Some y ↦ refl ]

front_same : {X : Type 0} (xs : List X) (y : X) (n : ℕ) → (length xs ≡ n → ⊥) → slice_get (xs ++ y ∷ []) n ≡ slice_get xs n
front_same [] y zero differ = absurd (differ refl)
front_same [] y (suc n) differ = refl
front_same (x ∷ xs) y zero differ = refl
front_same (x ∷ xs) y (suc n) differ = front_same xs y n (λ same. differ (ap suc same))

module _ (events : List Event) (e : Event) where
  pub ended_more : (u : ℕ) → has_ended (events ++ e ∷ []) u ≡ (has_ended events u || (nat_eq e.thread u && is_end e.kind))
  ended_more u = let test : Event → Bool = λ f. nat_eq f.thread u && is_end f.kind in or_push (λ (es : List Event). list_any test es) test refl (λ f es. refl) events e

  pub joined_more : (u : ℕ) → is_joined (events ++ e ∷ []) u ≡ (is_joined events u || option_is (joined_thread e.kind) u)
  joined_more u = let test : Event → Bool = λ f. option_is (joined_thread f.kind) u in or_push (λ (es : List Event). list_any test es) test refl (λ f es. refl) events e

  pub initialised_more : (mutex : ℕ) → is_initialised (events ++ e ∷ []) mutex ≡ (is_initialised events mutex || option_is (initialised_mutex e.kind) mutex)
  initialised_more mutex = let test : Event → Bool = λ f. option_is (initialised_mutex f.kind) mutex in or_push (λ (es : List Event). list_any test es) test refl (λ f es. refl) events e

  pub end_value_more : (u : ℕ) → end_value (events ++ e ∷ []) u ≡ unwrap_or (if nat_eq e.thread u then ended_with e.kind else None) (end_value events u)
  end_value_more u = last_more (λ (f : Event). if nat_eq f.thread u then ended_with f.kind else None) (pos 0) events e

  pub plain_value_more : (cell : ℕ) (first : TypedNumber) → plain_value cell first (events ++ e ∷ []) ≡ unwrap_or (written_to cell e.kind) (plain_value cell first events)
  plain_value_more cell first = last_more (λ (f : Event). written_to cell f.kind) first events e

  pub created_more : created (events ++ e ∷ []) ≡ created events + cond (is_create e.kind) 1 0
  created_more = sum_by-append (λ (f : Event). cond (is_create f.kind) 1 0) events (e ∷ []) ∙ ap (λ (n : ℕ). created events + n) (zero-add (cond (is_create e.kind) 1 0))

  abbrev creates : List Event → List Event
  creates es = filter (λ (f : Event). is_create f.kind) es

  creates_more : creates (events ++ e ∷ []) ≡ creates events ++ cond (is_create e.kind) (e ∷ []) []
  creates_more = filter-append (λ (f : Event). is_create f.kind) events (e ∷ [])

  creates_other : is_create e.kind ≡ false → creates (events ++ e ∷ []) ≡ creates events
  creates_other is = creates_more ∙ (ap (λ (b : Bool). creates events ++ cond b (e ∷ []) []) is ∙ append-nil (creates events))

  creates_one : is_create e.kind ≡ true → creates (events ++ e ∷ []) ≡ creates events ++ e ∷ []
  creates_one is = creates_more ∙ ap (λ (b : Bool). creates events ++ cond b (e ∷ []) []) is

  count_creates : length (creates events) ≡ created events
  count_creates = length-filter (λ (f : Event). is_create f.kind) events

  module _ (setting : Setting) where
    pub began_other : (u : ℕ) → is_create e.kind ≡ false → began setting (events ++ e ∷ []) u ≡ began setting events u
    began_other zero is = refl
    began_other (suc n) is = ap (λ (es : List Event). option_map_or (λ (f : Event). told_by f.kind) (slice_get es n) Done) (creates_other is)

    -- a Create tells only the thread that it makes
    pub began_elsewhere : (u : ℕ) → is_create e.kind ≡ true → (created events + 1 ≡ u → ⊥) → began setting (events ++ e ∷ []) u ≡ began setting events u
    began_elsewhere zero is differ = refl
    began_elsewhere (suc n) is differ =
        ap (λ (es : List Event). option_map_or (λ (f : Event). told_by f.kind) (slice_get es n) Done) (creates_one is)
        ∙ ap (λ (o : Option Event). option_map_or (λ (f : Event). told_by f.kind) o Done) (front_same (creates events) e n (λ same. differ (omega (arith, count_creates))))

    pub began_new : (u : ℕ) → is_create e.kind ≡ true → created events + 1 ≡ u → began setting (events ++ e ∷ []) u ≡ told_by e.kind
    began_new zero is same = absurd (omega arith)
    began_new (suc n) is same =
        let last : n ≡ length (creates events) = omega (arith, count_creates) in
        ap (λ (es : List Event). option_map_or (λ (f : Event). told_by f.kind) (slice_get es n) Done) (creates_one is)
        ∙ (ap (λ (k : ℕ). option_map_or (λ (f : Event). told_by f.kind) (slice_get (creates events ++ e ∷ []) k) Done) last
        ∙ ap (λ (o : Option Event). option_map_or (λ (f : Event). told_by f.kind) o Done) (get_last (creates events) e))

-- who holds a mutex
pub holder_more : (held : Option ℕ) (mutex : ℕ) (events : List Event) (e : Event) → holder_from held mutex (events ++ e ∷ []) ≡ holder_next (holder_from held mutex events) mutex e
holder_more held mutex [] e = refl
holder_more held mutex (f ∷ events) e = holder_more (holder_next held mutex f) mutex events e

-- a thread that has not ended has no value

no_value_now : (b : Bool) (kind : EventKind) → (b && is_end kind) ≡ false → (if b then ended_with kind else None) ≡ None
no_value_now true (End value) is = cc
no_value_now true _ is = refl
no_value_now false kind is = refl

pub no_end_value : (events : List Event) (u : ℕ) → has_ended events u ≡ false → end_value events u ≡ pos 0
no_end_value [] u going = refl
no_end_value (f ∷ events) u going =
    let parts = or_parts (nat_eq f.thread u && is_end f.kind) (has_ended events u) going in
    ap (λ (o : Option ℤ). last_or (pos 0) (cons_option o (filter_map (λ (g : Event). if nat_eq g.thread u then ended_with g.kind else None) events))) (no_value_now (nat_eq f.thread u) f.kind parts.0) ∙ no_end_value events u parts.1
