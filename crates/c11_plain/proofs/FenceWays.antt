-- Ways through seq_cst fences.
use Rattle.std.proofs.Common.{ℕ, List, ◌⊎◌, inl, inr}
use Rattle.c11_events.specs.declared.event.Event.{Event}
use Rattle.c11_events.specs.HappensBefore.{ProgramOrder, SeqCstBefore}
use Rattle.c11_events.specs.Lawful.{IsFence, IsFencedBefore, IsFencedAfter, IsFencedBetween, Fenced, before, after, between}
use Rattle.c11_plain.specs.Parts.{Joined}

module _ (events : List Event) where
  -- to a fence, by the order of the seq_cst events or in a thread
  abbrev pub OrderFence : ℕ → ℕ → Type 0
  OrderFence a f = SeqCstBefore events a f × IsFence events f

  abbrev pub ThreadFence : ℕ → ℕ → Type 0
  ThreadFence a f = ProgramOrder events a f × IsFence events f

  pub before_way : (a n : ℕ) → Joined OrderFence (ProgramOrder events) a n → IsFencedBefore events a n
  before_way a n t = record { f = t.0; fence = t.1.0.1; first = t.1.0.0; second = t.1.1 }

  pub way_before : (a n : ℕ) → IsFencedBefore events a n → Joined OrderFence (ProgramOrder events) a n
  way_before a n w = (w.f, ((w.first, w.fence), w.second))

  pub after_way : (a n : ℕ) → Joined ThreadFence (SeqCstBefore events) a n → IsFencedAfter events a n
  after_way a n t = record { f = t.0; fence = t.1.0.1; first = t.1.0.0; second = t.1.1 }

  pub way_after : (a n : ℕ) → IsFencedAfter events a n → Joined ThreadFence (SeqCstBefore events) a n
  way_after a n w = (w.f, ((w.first, w.fence), w.second))

  pub between_way : (a n : ℕ) → Joined (Joined ThreadFence OrderFence) (ProgramOrder events) a n → IsFencedBetween events a n
  between_way a n t = let s = t.1.0 in record { f = s.0; g = t.0; fence = s.1.0.1; other = s.1.1.1; first = s.1.0.0; between = s.1.1.0; second = t.1.1 }

  pub way_between : (a n : ℕ) → IsFencedBetween events a n → Joined (Joined ThreadFence OrderFence) (ProgramOrder events) a n
  way_between a n w = (w.g, ((w.f, ((w.first, w.fence), (w.between, w.other))), w.second))

  abbrev pub AnyWay : ℕ → ℕ → Type 0
  AnyWay a n = IsFencedBefore events a n ⊎ (IsFencedAfter events a n ⊎ IsFencedBetween events a n)

  pub any_fenced : (a n : ℕ) → AnyWay a n → Fenced events a n
  any_fenced a n (inl w) = before w
  any_fenced a n (inr (inl w)) = after w
  any_fenced a n (inr (inr w)) = between w

  pub fenced_any : (a n : ℕ) → Fenced events a n → AnyWay a n
  fenced_any a n (before w) = inl w
  fenced_any a n (after w) = inr (inl w)
  fenced_any a n (between w) = inr (inr w)
