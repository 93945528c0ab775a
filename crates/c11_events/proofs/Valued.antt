-- The value of a store does not depend on the bound.
use Rattle.std.proofs.Common.{◌≡◌, ℕ, zero, suc, ◌<◌, List, Option, Some, None, refl, ap, ◌∙◌, arith}
use Rattle.c11_num.specs.Ranges.{TypedNumber}
use Rattle.c11_events.specs.declared.event.EventKind.{EventKind}
use Rattle.c11_events.specs.declared.event.EventKind.TheVariants.{Rmw}
use Rattle.c11_events.specs.declared.event.Event.{Event}
use Rattle.c11_events.specs.Events.{event_at, loaded_cell, ReadsEarlier}
use Rattle.c11_events.specs.Values.{written, written_by, value_within, value_of}
use Rattle.c11_events.specs.Laws.{ValueByRead}

written_same : (kind : EventKind) (o : Option ℕ) (v w : TypedNumber) → loaded_cell kind ≡ o → ((cell : ℕ) → loaded_cell kind ≡ Some cell → v ≡ w) → written kind v ≡ written kind w
written_same (Rmw cell order kind operand) o v w is same = ap (written (Rmw cell order kind operand)) (same cell refl)
written_same _ o v w is same = refl

module _ (events : List Event) (reads : ReadsEarlier events) where
  by_event : (o : Option Event) (x : ℕ) (f g : ℕ → TypedNumber) → event_at events x ≡ o → ((y : ℕ) → y < x → f y ≡ g y) → written_by o f ≡ written_by o g
  by_event None x f g is same = refl
  by_event (Some e) x f g is same = written_same e.kind (loaded_cell e.kind) (f e.from) (g e.from) refl
      (λ cell loads. same e.from (reads cell x e.from (record { event = e; is = is; holds = (loads, refl) })).1)

  bound_free : (m n x : ℕ) → x < m → x < n → value_within m events x ≡ value_within n events x
  bound_free zero n x lt less = absurd (omega arith)
  bound_free (suc m) zero x lt less = absurd (omega arith)
  bound_free (suc m) (suc n) x lt less = by_event (event_at events x) x (λ y. value_within m events y) (λ y. value_within n events y) refl (λ y below. bound_free m n y (omega arith) (omega arith))

pub value_by_read : ValueByRead
value_by_read events x e reads is =
    ap (λ (o : Option Event). written_by o (λ y. value_within x events y)) is ∙
    by_event events reads (Some e) x (λ y. value_within x events y) (value_of events) is (λ y below. bound_free events reads x (suc y) y below (omega arith))
