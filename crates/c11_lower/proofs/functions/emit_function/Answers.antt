use Rattle.std.proofs.Common.{rules, ◌≡◌, [], ◌∷◌, ◌++◌, length, ap, ◌∙◌, sym}
use Rattle.c11_check.specs.Scopes.{Scope, with_function, left_for}
use Rattle.c11_meaning.specs.Asks.{inner_scope}
use Rattle.c11_flat.specs.Code.{Start, types_of}
use Rattle.c11_lower.specs.Lowered.{passed_all}
use Rattle.c11_lower.proofs.Bodies.{start_with, start_is, function_passed}
use Rattle.c11_lower.proofs.functions.emit_function.Goals as goal

pub returns-clause-starts : goal.returns-clause-starts
returns-clause-starts c =
    let f = c.args.function.now in
    let s = c.args.scopes.now in
    let mid : c.params.new.scopes ≡ inner_scope f s = search rules in
    let behind : c.emit_function_body.new.scopes ≡ passed_all f.body.items c.params.new.scopes = search rules in
    let places : c.counts-places.result.places ≡ c.emit_function_body.new.scopes.counts.places = search rules in
    let types : c.in_ok-types.types.items ≡ types_of f.params = search rules in
    let place : c.len-place.result ≡ length c.args.instrs.now.items = search rules in
    let pushed : c.push.new.self.items ≡ c.args.starts.now.items ++ start_with f c.len-place.result c.in_ok-types.types.items c.counts-places.result.places ∷ [] = search rules in
    let behind' = behind ∙ ap (λ (m : Scope). passed_all f.body.items m) mid in
    pushed ∙ ap (λ (x : Start). c.args.starts.now.items ++ x ∷ []) (start_is f (inner_scope f s) place types (places ∙ ap (λ (m : Scope). m.counts.places) behind'))

pub returns-clause-passed : goal.returns-clause-passed
returns-clause-passed c =
    let f = c.args.function.now in
    let s = c.args.scopes.now in
    let mid : c.params.new.scopes ≡ inner_scope f s = search rules in
    let behind : c.emit_function_body.new.scopes ≡ passed_all f.body.items c.params.new.scopes = search rules in
    let left : c.leave.new.self ≡ left_for (with_function s f) c.emit_function_body.new.scopes = search rules in
    left ∙ (ap (λ (m : Scope). left_for (with_function s f) m) (behind ∙ ap (λ (m : Scope). passed_all f.body.items m) mid) ∙ sym (function_passed f s))
