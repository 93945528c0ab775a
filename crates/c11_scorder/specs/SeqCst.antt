-- Stores and fences in the order of the seq_cst events (C11 7.17.3; that this is the order of the numbers is this project's own).
use Rattle.std.specs.Prelude.{ℕ, ◌≡◌, ◌≤◌, List, Option, MatchOption, ◌⊎◌}
use Rattle.c11_events.specs.declared.event.Event.{Event}
use Rattle.c11_events.specs.Events.{At, IsStore}
use Rattle.c11_events.specs.HappensBefore.{ProgramOrder, IsSeqCst, SeqCstBefore}
use Rattle.c11_events.specs.Lawful.{IsFence}

-- x is the last for which P holds
pub record IsLast (P : ℕ → Type 0) (x : ℕ) : Type 0 where
  pub is : P x
  pub last : (y : ℕ) → P y → y ≤ x

-- the answer is the last for which P holds; none where it holds for none
abbrev pub Answers : (ℕ → Type 0) → Option ℕ → Type 0
Answers P answer = MatchOption answer ((x : ℕ) → P x → ⊥) (IsLast P)

abbrev pub IsOf : List Event → ℕ → ℕ → Type 0
IsOf events thread x = At events x (λ e. e.thread ≡ thread)

-- x is a store of the cell by the thread
abbrev pub IsStoreOf : List Event → ℕ → ℕ → ℕ → Type 0
IsStoreOf events cell thread x = IsStore events cell x × IsOf events thread x

abbrev pub IsSeqCstStore : List Event → ℕ → ℕ → Type 0
IsSeqCstStore events cell x = IsStore events cell x × IsSeqCst events x

abbrev pub IsSeqCstFence : List Event → ℕ → Type 0
IsSeqCstFence events f = IsFence events f × IsSeqCst events f

-- f is a seq_cst fence of the thread
abbrev pub IsSeqCstFenceOf : List Event → ℕ → ℕ → Type 0
IsSeqCstFenceOf events thread f = IsSeqCstFence events f × IsOf events thread f

-- the thread's store a of the cell is seq_cst and before the fence, or in its thread before a seq_cst fence g that is this fence or
-- before it
pub data IsBeforeFence (events : List Event) (cell thread fence a : ℕ) : Type 0 where
  seq_cst : IsStoreOf events cell thread a → SeqCstBefore events a fence → IsBeforeFence events cell thread fence a
  fenced : {g : ℕ} → IsStoreOf events cell thread a → ProgramOrder events a g → IsSeqCstFence events g → (g ≡ fence) ⊎ SeqCstBefore events g fence
      → IsBeforeFence events cell thread fence a
