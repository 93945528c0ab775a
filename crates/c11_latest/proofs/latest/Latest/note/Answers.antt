use Rattle.std.proofs.Common.{◌≡◌, ◌<◌, ◌+◌, ◌∙◌, ℕ, List, [], ◌∷◌, ◌++◌, Option, Some, length, ap, sym, subst, if◌then◌else◌, arith}
use Rattle.std.proofs.lemmas.List.{length-append}
use Rattle.c11_latest.specs.declared.latest.Note.{Note}
use Rattle.c11_latest.specs.declared.links.Link.{Link}
use Rattle.c11_latest.specs.Notes.{Notes, note, IsNoted}
use Rattle.c11_latest.specs.Linked.{last_in, same_pair, IsLinkAfter, IsLinked}
use Rattle.c11_latest.proofs.Linking.{noted}
use Rattle.c11_latest.proofs.latest.Latest.note.Goals as goal

pub invariant_of-self : goal.invariant_of-self
invariant_of-self c =
    let notes = c.self.inside.notes.items in
    let cell = c.args.cell in
    let thread = c.args.thread in
    let place_is : c.len-place.result ≡ length notes = omega (arith, c.len-place.ensures, c.self.inside.notes.ok.0) in
    let longer : length (notes ++ note cell thread c.args.number ∷ []) ≡ length notes + 1 = length-append notes (note cell thread c.args.number ∷ []) in
    let after : IsLinkAfter c.self.inside.links.items (last_in c.self.inside.last cell thread) c.link_after-link.result =
    subst (λ (p : List Link × Option ℕ). IsLinkAfter p.0 p.1 c.link_after-link.result) (λ i. (c.deref.ensures.value i, c.last_place-before.ensures i)) c.link_after-link.ensures.link in
    let rise : (y : ℕ) → IsNoted notes cell thread y → y < c.args.number =
    subst (λ (n : Notes). (y : ℕ) → IsNoted n.notes cell thread y → y < c.args.number) (sym c.self.view_is) c.requires.rises in
    let linked = noted notes c.self.inside.links.items (last_in c.self.inside.last) c.self.invariant.linked cell thread c.args.number rise c.link_after-link.result after (last_in c.put_last.new.last)
    (λ d u. c.put_last.ensures.last d u ∙ ap (λ (p : ℕ). if same_pair (cell, thread) (d, u) then Some p else last_in c.self.inside.last d u) place_is) in
    record {
      linked = subst (λ (p : List Note × List Link). IsLinked p.0 p.1 (last_in c.put_last.new.last)) (λ i. (sym c.put.ensures.items i, sym c.put-2.ensures.items i)) linked;
      notes_left = omega (arith, c.self.invariant.notes_left, c.put.ensures.capacity);
      links_left = omega (arith, c.self.invariant.links_left, c.put-2.ensures.capacity);
      spare_left = let is = ap (λ (l : List Note). length l) c.put.ensures.items in omega (arith, is, longer, c.self.invariant.spare_left, c.put_last.ensures.spare);
    }
