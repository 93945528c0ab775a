-- Chains, what must precede what, and the links between chains (this project's own).
use Rattle.std.specs.Prelude.{ℕ, ◌≡◌, ◌<◌, List, None, ◌⊎◌}
use Rattle.c11_events.specs.declared.event.Event.{Event}
use Rattle.c11_events.specs.Events.{At, IsStore, IsLoad, IsRmw, ReadsEarlier, loaded_cell}
use Rattle.c11_events.specs.Closure.{Closure}
use Rattle.c11_events.specs.HappensBefore.{ReleaseSequence, HappensBefore, SeqCstBefore}
use Rattle.c11_events.specs.Lawful.{Fenced, SeqCstReads}

-- x is in the chain that begins with head; the rank counts the read-modify-writes in it up to x, x among them
pub record IsRanked (events : List Event) (cell head rank x : ℕ) : Type 0 where
  pub chain : ReleaseSequence events cell head rank x
  pub first : At events head (λ e. loaded_cell e.kind ≡ None)

-- why the store a must precede the store b
pub data Cause (events : List Event) (cell a b : ℕ) : Type 0 where
  write_write : HappensBefore events a b → Cause events cell a b
  write_read : {l : ℕ} → HappensBefore events a l → IsLoad events cell l b → Cause events cell a b
  read_write : {l : ℕ} → IsLoad events cell l a → HappensBefore events l b → Cause events cell a b
  read_read : {l k : ℕ} → IsLoad events cell l a → IsLoad events cell k b → HappensBefore events l k → Cause events cell a b
  seq_cst : SeqCstBefore events a b → Cause events cell a b
  fenced_read : {l : ℕ} → Fenced events a l → IsLoad events cell l b → Cause events cell a b
  fenced_write : Fenced events a b → Cause events cell a b

pub record MustPrecede (events : List Event) (cell a b : ℕ) : Type 0 where
  pub first : IsStore events cell a
  pub second : IsStore events cell b
  pub differ : a ≡ b → ⊥
  pub cause : Cause events cell a b

-- a member of the chain h must precede a member of another, k
pub record Link (events : List Event) (cell h k : ℕ) : Type 0 where
  pub differ : h ≡ k → ⊥
  pub a : ℕ
  pub b : ℕ
  pub i : ℕ
  pub j : ℕ
  pub first : IsRanked events cell h i a
  pub second : IsRanked events cell k j b
  pub must : MustPrecede events cell a b

abbrev pub Links : List Event → ℕ → ℕ → ℕ → Type 0
Links events cell = Closure (Link events cell)

-- links lead from a's chain to b's, or they are of one chain and a comes first in it
pub record Reach (events : List Event) (cell a b : ℕ) : Type 0 where
  pub h : ℕ
  pub k : ℕ
  pub i : ℕ
  pub j : ℕ
  pub first : IsRanked events cell h i a
  pub second : IsRanked events cell k j b
  pub leads : ((h ≡ k → ⊥) × Links events cell h k) ⊎ ((h ≡ k) × (i < j))

pub record ChainLawful (events : List Event) : Type 0 where
  pub reads : ReadsEarlier events
  pub acyclic : (cell h : ℕ) → Links events cell h h → ⊥
  pub ranked : (cell a b head i j : ℕ) → MustPrecede events cell a b → IsRanked events cell head i a → IsRanked events cell head j b → j < i → ⊥
  pub once : (cell b c x : ℕ) → IsRmw events cell b x → IsRmw events cell c x → b ≡ c
  pub seq_cst_read : (cell : ℕ) → SeqCstReads events cell
