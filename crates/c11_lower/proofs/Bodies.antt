-- Functions, and one behind the other.
use Rattle.std.proofs.Common.{◌≡◌, ℕ, ◌+◌, ◌<◌, List, [], ◌∷◌, ◌++◌, length, false, ap, ◌∙◌, sym, arith, append_assoc, drop, get_or}
use Rattle.std.proofs.lemmas.List.{length-append}
use Rattle.c11_num.specs.declared.value.CType.{CType}
use Rattle.c11_ast.specs.declared.stmt.Block.{Block}
use Rattle.c11_ast.specs.declared.item.Function.{Function}
use Rattle.c11_ast.specs.declared.item.Item.{Item}
use Rattle.c11_check.specs.declared.around.Around.{Around}
use Rattle.c11_check.specs.Scopes.{Scope, with_function, left_for}
use Rattle.c11_check.specs.Statements.{Walk, walk_of_block}
use Rattle.c11_check.specs.Programs.{item_walk, function_walk}
use Rattle.c11_meaning.specs.Objects.{nothing}
use Rattle.c11_meaning.specs.Statements.{Run, nothing_around}
use Rattle.c11_meaning.specs.Asks.{Runnable, runnable, inner_scope, functions_of_item, functions_from}
use Rattle.c11_flat.specs.declared.instr.Instr.TheVariants as i
use Rattle.c11_flat.specs.Code.{Laying, Start, strip_of_block, function_code, function_size, start_of, types_of, instrs_from, starts_from}
use Rattle.c11_lower.specs.Lowered.{passed_all}
use Rattle.c11_lower.proofs.Lists as lists
use Rattle.c11_lower.proofs.Walks.{block_is_walk, behind_all}
use Rattle.c11_lower.proofs.Stmts.{block_of_is}
use Rattle.c11_lower.proofs.Sized.{block_sized}
use Rattle.c11_lower.proofs.Codes.{Code}

-- whatever is around, the scope behind a body is the one behind its statements
pub walked_body : (block : Block) (a : Around) (s : Scope) → (walk_of_block block a s).scope ≡ passed_all block.items s
walked_body block a s = let is = block_is_walk block in
    sym (ap (λ (w : Walk). (w a s).scope) is.checked) ∙ (is.steady.same a nothing_around s
    ∙ (ap (λ (r : Run Laying). (r.walk nothing_around s).scope) (block_of_is block) ∙ behind_all block.items s))

pub places_of : (f : Function) (inner : Scope) → (runnable f inner).places ≡ (passed_all f.body.items inner).counts.places
places_of f inner = ap (λ (s : Scope). s.counts.places) (walked_body f.body nothing_around inner)

pub function_passed : (f : Function) (s : Scope) → (function_walk f s).scope ≡ left_for (with_function s f) (passed_all f.body.items (inner_scope f s))
function_passed f s = ap (λ (m : Scope). left_for (with_function s f) m) (walked_body f.body (record { answers = f.answers; in_loop = false }) (inner_scope f s))

-- ---- one function behind the other

function_sized : (r : Runnable) (b : ℕ) → length (function_code r b) ≡ function_size r
function_sized r b = let body = (strip_of_block r.function.body).run r.scope in let end = b + body.size in
    omega (arith, length-append (body.code b end end) (i.Push nothing ∷ i.Return r.function.body.close.line ∷ []), block_sized r.function.body r.scope b end end)

abbrev next_after : ℕ → List Runnable → ℕ
next_after b rs = b + length (instrs_from b rs)

next_more : (b : ℕ) (r : Runnable) (rs : List Runnable) → next_after (b + function_size r) rs ≡ next_after b (r ∷ rs)
next_more b r rs = omega (arith, length-append (function_code r b) (instrs_from (b + function_size r) rs), function_sized r b)

instrs_both : (b : ℕ) (rs qs : List Runnable) → instrs_from b (rs ++ qs) ≡ instrs_from b rs ++ instrs_from (next_after b rs) qs
instrs_both b [] qs = ap (λ (n : ℕ). instrs_from n qs) (omega arith)
instrs_both b (r ∷ rs) qs = let m = b + function_size r in ap (λ (x : Code). function_code r b ++ x) (instrs_both m rs qs)
    ∙ (sym (append_assoc (function_code r b) (instrs_from m rs) (instrs_from (next_after m rs) qs))
    ∙ ap (λ (n : ℕ). instrs_from b (r ∷ rs) ++ instrs_from n qs) (next_more b r rs))

starts_both : (b : ℕ) (rs qs : List Runnable) → starts_from b (rs ++ qs) ≡ starts_from b rs ++ starts_from (next_after b rs) qs
starts_both b [] qs = ap (λ (n : ℕ). starts_from n qs) (omega arith)
starts_both b (r ∷ rs) qs = let m = b + function_size r in ap (λ (x : List Start). start_of b r ∷ x) (starts_both m rs qs)
    ∙ ap (λ (n : ℕ). starts_from b (r ∷ rs) ++ starts_from n qs) (next_more b r rs)

-- an item, and then the rest
module _ (xs : List Item) (n : ℕ) (x : Item) (s : Scope) (c : Code) {d : Code} {after : Scope} (less : n < length xs) (at : x ≡ get_or xs n x) (is : after ≡ (item_walk x s).scope)
    (w : d ≡ c ++ instrs_from (length c) (functions_of_item x s)) where
  abbrev one : List Runnable
  one = functions_of_item x s

  abbrev rest : List Runnable
  rest = functions_from (drop (n + 1) xs) (item_walk x s).scope

  all : functions_from (drop n xs) s ≡ one ++ rest
  all = ap (λ (ys : List Item). functions_from ys s) (lists.first_of xs n x less at)

  long : length d ≡ next_after (length c) one
  long = ap length w ∙ length-append c (instrs_from (length c) one)

  pub item_instrs : d ++ instrs_from (length d) (functions_from (drop (n + 1) xs) after) ≡ c ++ instrs_from (length c) (functions_from (drop n xs) s)
  item_instrs = ap (λ (m : Scope). d ++ instrs_from (length d) (functions_from (drop (n + 1) xs) m)) is
      ∙ (ap (λ (m : ℕ). d ++ instrs_from m rest) long ∙ (ap (λ (y : Code). y ++ instrs_from (next_after (length c) one) rest) w
      ∙ (append_assoc c (instrs_from (length c) one) (instrs_from (next_after (length c) one) rest)
      ∙ (sym (ap (λ (y : Code). c ++ y) (instrs_both (length c) one rest)) ∙ sym (ap (λ (rs : List Runnable). c ++ instrs_from (length c) rs) all)))))

  pub item_starts : (ss : List Start) {ts : List Start} → ts ≡ ss ++ starts_from (length c) (functions_of_item x s)
      → ts ++ starts_from (length d) (functions_from (drop (n + 1) xs) after) ≡ ss ++ starts_from (length c) (functions_from (drop n xs) s)
  item_starts ss {ts} v = ap (λ (m : Scope). ts ++ starts_from (length d) (functions_from (drop (n + 1) xs) m)) is
      ∙ (ap (λ (m : ℕ). ts ++ starts_from m rest) long ∙ (ap (λ (y : List Start). y ++ starts_from (next_after (length c) one) rest) v
      ∙ (append_assoc ss (starts_from (length c) one) (starts_from (next_after (length c) one) rest)
      ∙ (sym (ap (λ (y : List Start). ss ++ y) (starts_both (length c) one rest)) ∙ sym (ap (λ (rs : List Runnable). ss ++ starts_from (length c) rs) all)))))

abbrev pub start_with : Function → ℕ → List CType → ℕ → Start
start_with f place types places = record { place = place; params = types; places = places; answers = f.answers }

pub start_is : (f : Function) (inner : Scope) {place b places : ℕ} {types : List CType} → place ≡ b → types ≡ types_of f.params → places ≡ (passed_all f.body.items inner).counts.places
    → start_with f place types places ≡ start_of b (runnable f inner)
start_is f inner {place} {b} {places} {types} place_is types_are places_are =
    ap (λ (n : ℕ). start_with f n types places) place_is ∙ (ap (λ (ts : List CType). start_with f b ts places) types_are
    ∙ ap (λ (n : ℕ). start_with f b (types_of f.params) n) (places_are ∙ sym (places_of f inner)))
