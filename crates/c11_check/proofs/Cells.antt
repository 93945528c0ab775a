-- The cells of an array are added one by one.
use Rattle.std.proofs.Common.{◌≡◌, ℕ, zero, suc, ◌+◌, ◌-◌, ◌<◌, List, [], ◌∷◌, ◌++◌, sym, ap, ◌∙◌, append_assoc, arith}
use Rattle.c11_num.specs.declared.value.CType.{CType}
use Rattle.c11_ast.specs.declared.item.Start.{Start}
use Rattle.c11_events.specs.declared.cells.CellInfo.{CellInfo}
use Rattle.c11_check.specs.Scopes.{Scope}
use Rattle.c11_check.specs.Tables.{element_cells, initial, cell}
use Rattle.std.specs.Prelude.{Some}

cells_first : (s : Scope) (name : List ℕ) (ctype : CType) (start : Start) (place n : ℕ) → 0 < n
    → element_cells s name ctype start place n ≡ cell name (Some place) (initial s ctype start place) ∷ element_cells s name ctype start (place + 1) (n - 1)
cells_first s name ctype start place zero some = absurd (omega arith)
cells_first s name ctype start place (suc n) some =
    ap (λ (k : ℕ). cell name (Some place) (initial s ctype start place) ∷ element_cells s name ctype start (place + 1) k) (omega arith)

-- one more element
pub cell_more : (s : Scope) (name : List ℕ) (ctype : CType) (start : Start) (place count : ℕ) (before after whole : List CellInfo) → place < count
    → after ≡ before ++ cell name (Some place) (initial s ctype start place) ∷ []
    → before ++ element_cells s name ctype start place (count - place) ≡ whole → after ++ element_cells s name ctype start (place + 1) (count - (place + 1)) ≡ whole
cell_more s name ctype start place count before after whole less is leads = let rest = element_cells s name ctype start (place + 1) (count - (place + 1)) in
    ap (λ (xs : List CellInfo). xs ++ rest) is ∙ (append_assoc before (cell name (Some place) (initial s ctype start place) ∷ []) rest
    ∙ (sym (ap (λ (xs : List CellInfo). before ++ xs) (cells_first s name ctype start place (count - place) (omega arith)
    ∙ ap (λ (n : ℕ). cell name (Some place) (initial s ctype start place) ∷ element_cells s name ctype start (place + 1) n) (omega arith))) ∙ leads))
