-- Code that grows by one piece after the other.
use Rattle.std.proofs.Common.{◌≡◌, ℕ, ◌+◌, List, [], ◌∷◌, ◌++◌, length, sym, ap, ◌∙◌, arith, append_assoc, length-append}
use Rattle.std.proofs.lemmas.List.{append-nil}
use Rattle.c11_flat.specs.declared.instr.Instr.{Instr}
use Rattle.c11_flat.specs.declared.instr.Instr.TheVariants as i
use Rattle.c11_flat.specs.Pieces.{Piece, plain, joined, chosen}
use Rattle.c11_pieces.specs.Growth.{Grows}

-- one piece, and then another
pub grows_joined : {old mid new : List Instr} {p q : Piece} → Grows old mid p → Grows mid new q → Grows old new (joined p q)
grows_joined {old} {mid} {new} {p} {q} first then = record {
  code = then.code ∙ (ap (λ (n : ℕ). mid ++ q.code n) first.size ∙ (ap (λ (xs : List Instr). xs ++ q.code (length old + p.size)) first.code
      ∙ append_assoc old (p.code (length old)) (q.code (length old + p.size))));
  size = omega (arith, first.size, then.size);
}

-- nothing
pub grows_none : (old : List Instr) → Grows old old (plain [])
grows_none old = record { code = sym (append-nil old); size = omega arith }

-- instructions, and then others
pub grows_plain : {old mid new : List Instr} {xs ys : List Instr} → Grows old mid (plain xs) → Grows mid new (plain ys) → Grows old new (plain (xs ++ ys))
grows_plain {old} {mid} {new} {xs} {ys} first then = record {
  code = then.code ∙ (ap (λ (zs : List Instr). zs ++ ys) first.code ∙ append_assoc old xs ys);
  size = omega (arith, first.size, then.size, length-append xs ys);
}

-- an instruction, and then others
pub grows_cons : {old mid new : List Instr} {x : Instr} {ys : List Instr} → Grows old mid (plain (x ∷ [])) → Grows mid new (plain ys) → Grows old new (plain (x ∷ ys))
grows_cons {old} {mid} {new} {x} {ys} first then = grows_plain first then

-- the same piece in another form
pub grows_same : {old new : List Instr} {p : Piece} (q : Piece) → p.size ≡ q.size → p.code (length old) ≡ q.code (length old) → Grows old new p → Grows old new q
grows_same {old} {new} {p} q size code g = record { code = g.code ∙ ap (λ (xs : List Instr). old ++ xs) code; size = omega (arith, g.size, size) }

-- two pieces that are written one after the other, and a third
pub grows_on : {old mid new : List Instr} (p q : Piece) {r : Piece} → Grows old mid (joined p q) → Grows mid new r → Grows old new (joined p (joined q r))
grows_on {old} {mid} {new} p q {r} first then =
    let n = length old + p.size in
    let at : length old + (p.size + q.size) ≡ n + q.size = omega arith in
    grows_same (joined p (joined q r)) (omega arith)
    (append_assoc (p.code (length old)) (q.code n) (r.code (length old + (p.size + q.size))) ∙ ap (λ (k : ℕ). p.code (length old) ++ (q.code n ++ r.code k)) at)
    (grows_joined first then)

-- three, and a fourth
pub grows_on_two : {old mid new : List Instr} (p q r : Piece) {s : Piece} → Grows old mid (joined p (joined q r)) → Grows mid new s → Grows old new (joined p (joined q (joined r s)))
grows_on_two {old} {mid} {new} p q r {s} first then =
    let n = length old + p.size in
    let at : n + (q.size + r.size) ≡ n + q.size + r.size = omega arith in
    grows_same (joined p (joined q (joined r s))) (omega arith)
    (ap (λ (xs : List Instr). p.code (length old) ++ xs) (append_assoc (q.code n) (r.code (n + q.size)) (s.code (n + (q.size + r.size))) ∙ ap (λ (k : ℕ). q.code n ++ (r.code (n + q.size) ++ s.code k)) at))
    (grows_on p (joined q r) first then)

-- a choice: two jumps whose places are known, and a piece behind each
pub grows_chosen : {old a b c new : List Instr} {p q : Piece} {other end : ℕ} → other ≡ length old + p.size + 2 → end ≡ other + q.size
    → Grows old a (plain (i.JumpIfZero other ∷ [])) → Grows a b p → Grows b c (plain (i.Jump end ∷ [])) → Grows c new q → Grows old new (chosen p q)
grows_chosen {old} {a} {b} {c} {new} {p} {q} {other} {end} at_other at_end jump one over another =
    let to = length old + 1 + p.size + 1 in
    let first : other ≡ to = omega arith in
    let second : end ≡ to + q.size = omega arith in
    grows_same (chosen p q) (omega arith)
    (ap (λ (n : ℕ). i.JumpIfZero n ∷ (p.code (length old + 1) ++ (i.Jump end ∷ q.code to))) first
    ∙ ap (λ (n : ℕ). i.JumpIfZero to ∷ (p.code (length old + 1) ++ (i.Jump n ∷ q.code to))) second)
    (grows_joined jump (grows_joined one (grows_joined over another)))
