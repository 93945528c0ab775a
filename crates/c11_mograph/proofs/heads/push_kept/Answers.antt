use Rattle.std.proofs.Common.{◌≡◌, ◌+◌, ℕ, List, length, slice_index, slice_set, subst, sym, ◌∙◌, arith}
use Rattle.std.proofs.lemmas.Option.{slice_get-get_or}
use Rattle.c11_mograph.specs.declared.kept.Kept.{Kept}
use Rattle.c11_mograph.specs.Heads.{AreLinked}
use Rattle.c11_mograph.proofs.Newest.{goes_on_linked, begins_linked}
use Rattle.c11_mograph.proofs.heads.push_kept.Goals as goal
use Rattle.c11_mograph.proofs.heads.push_kept.Goals.{then-store-place, else-store-place}

pub returns-clause-linked : goal.returns-clause-linked
returns-clause-linked c =
    let store : Kept = record c.args.store { older = slice_index c.args.newest.now c.args.store.cell } in
    let own = slice_get-get_or c.args.newest.now c.args.store.cell 0 c.requires.cell in
    let place : c.len-place.result ≡ length c.args.kept.now.items = omega (arith, c.len-place.ensures, c.args.kept.now.ok.0) in
    elim c.if-store-place.branch [
      | then-store-place w ↦ subst (λ (n : List ℕ). AreLinked c.put.new.list.items n) (sym w.newest-is)
          (subst (λ (n : ℕ). AreLinked c.put.new.list.items (slice_set c.args.newest.now c.args.store.cell (n + 1))) (sym place)
          (begins_linked c.args.kept.now.items c.put.new.list.items c.args.newest.now store c.put.ensures.items c.requires.linked own (w.if-store-place.true ∙ place)))
      | else-store-place w ↦ subst (λ (n : List ℕ). AreLinked c.put.new.list.items n) (sym w.newest-is)
          (goes_on_linked c.args.kept.now.items c.put.new.list.items c.args.newest.now store c.put.ensures.items c.requires.linked own (λ e. w.if-store-place.false (e ∙ sym place)))
    ]
