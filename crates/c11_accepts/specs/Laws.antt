-- The laws of what becomes of a text.
use Rattle.std.specs.Prelude.{ℕ, ◌≡◌, ◌⊎◌, ◌↔◌, List, IsTrue}
use Rattle.c11_ast.specs.declared.item.Program.{Program}
use Rattle.c11_report.specs.declared.refusal.Refusal.{Refusal}
use Rattle.c11_report.specs.Refusals.{has_place, HasSome}
use Rattle.c11_accepts.specs.Texts.{Accepts, IsRefusedAs}

-- A text is accepted as one program at most.
abbrev pub OneProgram : Type 0
OneProgram = (text : List ℕ) (one other : Program) → Accepts text one → Accepts text other → one ≡ other

-- A text is refused in one way at most.
abbrev pub OneRefusal : Type 0
OneRefusal = (text : List ℕ) (one other : Refusal) → IsRefusedAs text one → IsRefusedAs text other → one ≡ other

-- No text is accepted and refused.
abbrev pub NotBoth : Type 0
NotBoth = (text : List ℕ) (program : Program) (refusal : Refusal) → Accepts text program → IsRefusedAs text refusal → ⊥

-- Each text is accepted or refused.
abbrev pub OneOfBoth : Type 0
OneOfBoth = (text : List ℕ) → ((program : Program) × Accepts text program) ⊎ ((refusal : Refusal) × IsRefusedAs text refusal)

-- A refusal has a place exactly where its word is printed with one.
abbrev pub PlacesFit : Type 0
PlacesFit = (text : List ℕ) (refusal : Refusal) → IsRefusedAs text refusal → IsTrue (has_place refusal.word) ↔ HasSome refusal.place
