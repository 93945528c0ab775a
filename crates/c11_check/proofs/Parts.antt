-- The parts of an expression, and the first fault along them.
use Rattle.std.proofs.Common.{Bool, ◌≡◌, ℕ, zero, suc, ◌+◌, ◌<◌, length, get_or, arith, add-one, List, [], ◌∷◌, ◌++◌, map, drop, Option, Some, None, refl, sym, ap, ◌∙◌}
use Rattle.c11_ast.specs.declared.place.Spot.{Spot}
use Rattle.c11_num.specs.declared.kind.BinaryOp.{BinaryOp}
use Rattle.c11_ast.specs.declared.expr.Expr.{Expr, roll-Expr, map-Expr}
use Rattle.c11_ast.specs.declared.expr.Arg.{Arg}
use Rattle.c11_ast.specs.declared.expr.Target.{Target, out-Target, roll-Target}
use Rattle.c11_ast.specs.declared.expr.Expr.TheVariants as e
use Rattle.c11_ast.specs.declared.expr.Link.{Link}
use Rattle.c11_ast.specs.declared.expr.Arg.TheOpen.{Expr-F}
use Rattle.c11_ast.specs.declared.expr.Arg.TheFolds.{fold-roll-Expr, fold-roll-Target, fold_out-Target, fold_out-Link, map-Target}
use Rattle.c11_ast.specs.declared.place.Word.{Word}
use Rattle.std.specs.Prelude.{is_some}
use Rattle.c11_check.specs.declared.library.Want.{Want}
use Rattle.c11_check.specs.declared.library.Want.TheVariants as want
use Rattle.c11_check.specs.declared.fault.Fault.{Fault}
use Rattle.c11_check.specs.Faults.{unvalued}
use Rattle.c11_check.specs.Scopes.{Scope}
use Rattle.c11_check.specs.Expressions.{Part, Named, part_of, part_of_arg, faults_of_link, named_by, arg_part, expr_part, link_part, target_part, links, used, argument, arguments}
use Rattle.c11_check.specs.Chains.{behind, links_behind, want_at}
use Rattle.c11_check.specs.Programs.{keep}
use Rattle.c11_check.proofs.Keeps.{keep_append, keep_unvalued}

-- one list of faults after the other
pub both : (k : Option Fault) {l m : Option Fault} (xs ys : List Fault) → l ≡ keep k xs → m ≡ keep l ys → m ≡ keep k (xs ++ ys)
both k xs ys one another = another ∙ (ap (λ (o : Option Fault). keep o ys) one ∙ sym (keep_append k xs ys))

pub both_voids : (k : Option Fault) {l m : Option Fault} (xs ys : List Spot) → l ≡ keep k (unvalued xs) → m ≡ keep l (unvalued ys) → m ≡ keep k (unvalued (xs ++ ys))
both_voids k xs ys one another = another ∙ (ap (λ (o : Option Fault). keep o (unvalued ys)) one ∙ sym (keep_unvalued k xs ys))

abbrev rolled : (x : Expr-F Arg Expr Link Target) → part_of (roll-Expr x) ≡ expr_part (map-Expr Arg Expr Link Target Part Part (Scope → List Fault) Named part_of_arg part_of faults_of_link named_by x)
rolled = fold-roll-Expr Part Part (Scope → List Fault) Named arg_part expr_part link_part target_part

-- each kind of expression, by its parts
pub part_assign : (expr : Expr) (target : Target) (op : Option BinaryOp) (spot : Spot) (value : Expr) → expr ≡ e.Assign target op spot value
    → part_of expr ≡ expr_part (Expr-F.Assign (named_by target) op spot (part_of value))
part_assign expr target op spot value is = ap part_of (is ∙ sym (e.rolls-Assign target op spot value)) ∙ rolled (Expr-F.Assign target op spot value)

pub part_cond : (expr test one another : Expr) → expr ≡ e.Cond test one another → part_of expr ≡ expr_part (Expr-F.Cond (part_of test) (part_of one) (part_of another))
part_cond expr test one another is = ap part_of (is ∙ sym (e.rolls-Cond test one another)) ∙ rolled (Expr-F.Cond test one another)

pub part_chain : (expr first : Expr) (rest : List Link) → expr ≡ e.Chain first rest → part_of expr ≡ expr_part (Expr-F.Chain (part_of first) (map faults_of_link rest))
part_chain expr first rest is = ap part_of (is ∙ sym (e.rolls-Chain first rest)) ∙ rolled (Expr-F.Chain first rest)

pub part_step : (expr : Expr) (spot op_spot : Spot) (target : Target) (up before : Bool) → expr ≡ e.Step spot op_spot target up before
    → part_of expr ≡ expr_part (Expr-F.Step spot op_spot (named_by target) up before)
part_step expr spot op_spot target up before is = ap part_of (is ∙ sym (e.rolls-Step spot op_spot target up before)) ∙ rolled (Expr-F.Step spot op_spot target up before)

pub chain_behind : (expr first : Expr) (rest : List Link) (s : Scope) → expr ≡ e.Chain first rest → links_behind expr s ≡ links (map faults_of_link rest) s
chain_behind expr first rest s is = ap (λ (x : Expr). links_behind x s) is ∙ ap (λ (x : Expr-F Arg Expr Link Target). behind x s) (e.outs-Chain first rest)

pub named_is : (target : Target) → named_by target ≡ target_part (map-Target Arg Expr Link Target Part Part (Scope → List Fault) Named part_of_arg part_of faults_of_link named_by (out-Target target))
named_is = fold_out-Target Part Part (Scope → List Fault) Named arg_part expr_part link_part target_part

pub named_word : (target : Target) → (named_by target).word ≡ target.word
named_word target = ap (λ (n : Named). n.word) (named_is target)

indexed_of : (word : Word) (index : Option Expr) → (named_by (roll-Target (record { word = word; index = index }))).indexed ≡ is_some index
indexed_of word None = ap (λ (n : Named). n.indexed) (fold-roll-Target Part Part (Scope → List Fault) Named arg_part expr_part link_part target_part (record { word = word; index = None }))
indexed_of word (Some index) = ap (λ (n : Named). n.indexed) (fold-roll-Target Part Part (Scope → List Fault) Named arg_part expr_part link_part target_part (record { word = word; index = Some index }))

pub named_indexed : (target : Target) → (named_by target).indexed ≡ is_some target.index
named_indexed target = indexed_of target.word target.index

pub link_faults : (link : Link) → faults_of_link link ≡ used (part_of link.right)
link_faults link = fold_out-Link Part Part (Scope → List Fault) Named arg_part expr_part link_part target_part link

-- ---- along lists

links_first : (xs : List Link) (i : ℕ) (link : Link) (s : Scope) → i < length xs → link ≡ get_or xs i link
    → links (map faults_of_link (drop i xs)) s ≡ used (part_of link.right) s ++ links (map faults_of_link (drop (suc i) xs)) s
links_first [] i link s less is = absurd (omega (arith, less))
links_first (x ∷ xs) zero link s less is = ap (λ (f : Scope → List Fault). f s ++ links (map faults_of_link xs) s) (link_faults x)
    ∙ ap (λ (y : Link). used (part_of y.right) s ++ links (map faults_of_link xs) s) (sym is)
links_first (x ∷ xs) (suc i) link s less is = links_first xs i link s (omega (arith, less)) is

-- the rest of a chain after one link
pub links_more : (k : Option Fault) {l : Option Fault} (rest : List Link) (i : ℕ) (link : Link) (s : Scope) → i < length rest → link ≡ get_or rest i link
    → l ≡ keep k (used (part_of link.right) s) → keep l (links (map faults_of_link (drop (i + 1) rest)) s) ≡ keep k (links (map faults_of_link (drop i rest)) s)
links_more k {l} rest i link s less is one = let after = links (map faults_of_link (drop (suc i) rest)) s in
    ap (λ (n : ℕ). keep l (links (map faults_of_link (drop n rest)) s)) (add-one i)
    ∙ (both k (used (part_of link.right) s) after one refl ∙ sym (ap (keep k) (links_first rest i link s less is)))

drop_none : (n : ℕ) → drop {A = Want} n [] ≡ []
drop_none zero = refl
drop_none (suc n) = refl

values_first : (word : Word) (xs : List Arg) (i : ℕ) (arg : Arg) (s : Scope) → i < length xs → arg ≡ get_or xs i arg
    → arguments word [] (map part_of_arg (drop i xs)) s ≡ argument word want.Value (part_of_arg arg) s ++ arguments word [] (map part_of_arg (drop (suc i) xs)) s
values_first word [] i arg s less is = absurd (omega (arith, less))
values_first word (x ∷ xs) zero arg s less is = ap (λ (y : Arg). argument word want.Value (part_of_arg y) s ++ arguments word [] (map part_of_arg xs) s) (sym is)
values_first word (x ∷ xs) (suc i) arg s less is = values_first word xs i arg s (omega (arith, less)) is

arguments_first : (word : Word) (wants : List Want) (xs : List Arg) (i : ℕ) (arg : Arg) (s : Scope) → i < length xs → arg ≡ get_or xs i arg
    → arguments word (drop i wants) (map part_of_arg (drop i xs)) s
    ≡ argument word (want_at wants i) (part_of_arg arg) s ++ arguments word (drop (suc i) wants) (map part_of_arg (drop (suc i) xs)) s
arguments_first word wants [] i arg s less is = absurd (omega (arith, less))
arguments_first word [] (x ∷ xs) i arg s less is = ap (λ (ws : List Want). arguments word ws (map part_of_arg (drop i (x ∷ xs))) s) (drop_none i)
    ∙ values_first word (x ∷ xs) i arg s less is
arguments_first word (w ∷ wants) (x ∷ xs) zero arg s less is = ap (λ (y : Arg). argument word w (part_of_arg y) s ++ arguments word wants (map part_of_arg xs) s) (sym is)
arguments_first word (w ∷ wants) (x ∷ xs) (suc i) arg s less is = arguments_first word wants xs i arg s (omega (arith, less)) is

-- the rest of the arguments after one
pub arguments_more : (k : Option Fault) {l : Option Fault} (word : Word) (wants : List Want) (args : List Arg) (i : ℕ) (arg : Arg) (s : Scope) → i < length args → arg ≡ get_or args i arg
    → l ≡ keep k (argument word (want_at wants i) (part_of_arg arg) s)
    → keep l (arguments word (drop (i + 1) wants) (map part_of_arg (drop (i + 1) args)) s) ≡ keep k (arguments word (drop i wants) (map part_of_arg (drop i args)) s)
arguments_more k {l} word wants args i arg s less is one = let after = arguments word (drop (suc i) wants) (map part_of_arg (drop (suc i) args)) s in
    ap (λ (n : ℕ). keep l (arguments word (drop n wants) (map part_of_arg (drop n args)) s)) (add-one i)
    ∙ (both k (argument word (want_at wants i) (part_of_arg arg) s) after one refl ∙ sym (ap (keep k) (arguments_first word wants args i arg s less is)))
