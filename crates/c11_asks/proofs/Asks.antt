-- What the tests need to know of threads that ask.
use Rattle.std.proofs.Common.{◌≡◌, ℕ, ℤ, ◌<◌, List, [], length, Some, slice_get, IsTrue, nat_lt, refl, subst, sym, inl, inr, arith}
use Rattle.std.proofs.lemmas.Bool.Decides.{nat_tests}
use Rattle.std.proofs.lemmas.Option.{slice_get_cases}
use Rattle.c11_ast.specs.declared.item.Program.{Program}
use Rattle.c11_events.specs.declared.op.Op.{Op}
use Rattle.c11_events.specs.declared.op.Op.TheVariants.{Begin}
use Rattle.c11_events.specs.declared.reply.Reply.{Reply}
use Rattle.c11_events.specs.declared.reply.Reply.TheVariants.{Began}
use Rattle.c11_check.specs.Lies.{signatures_in}
use Rattle.c11_flat.specs.Code.{Whole, whole_of}
use Rattle.c11_meaning.specs.Outcome.{with_reply}
use Rattle.c11_meaning.specs.Progress.{IsBegun, IsReplyTo}
use Rattle.c11_machine.specs.Stands.{AsksWhereWanted, CanAsk, Standing, Stands}
use Rattle.c11_asks.specs.Asking.{IsAsking}

pub may_ask : AsksWhereWanted → (program : Program) (code : Whole) (thread : Standing) → code ≡ whole_of program → IsAsking program thread → CanAsk code thread
may_ask law program code thread is asking =
    subst (λ (c : Whole). CanAsk c thread) (sym is) (law program asking.1.replies asking.0 thread asking.1.asks asking.1.stands)

-- a thread that was told nothing asks for its Begin
pub begins : (program : Program) (thread : Standing) → ((code : Whole) → Stands code thread []) → IsAsking program thread
unfolding with_reply
begins program thread stands = (record { line = 0; op = Begin }, record { replies = []; stands = stands (whole_of program); asks = refl })

-- of so many elements there is each
there : {A : Type 0} (xs : List A) (n i : ℕ) → n ≡ length xs → i < n → (x : A) × (slice_get xs i ≡ Some x)
there {A} xs n i count within = elim (slice_get_cases xs i).1 [
  | inl p ↦ (p.0, p.2)
  | inr p ↦ absurd (omega (arith, p.0, count, within))
]

below : (i n : ℕ) → IsTrue (nat_lt i n) → i < n
below i n is = grind (arith, nat_tests)

-- a Began of one of so many functions is a reply to a Begin
pub begun_fits : (op : Op) (reply : Reply) (n function : ℕ) (argument : ℤ) → op ≡ Begin → reply ≡ Began function argument → IsTrue (nat_lt function n) → (program : Program)
    → n ≡ length (signatures_in program.items) → IsReplyTo (signatures_in program.items) op reply
begun_fits op reply n function argument is tells small program count =
    subst (λ (o : Op). IsReplyTo (signatures_in program.items) o reply) (sym is)
    (subst (λ (r : Reply). IsBegun (signatures_in program.items) r) (sym tells) (there (signatures_in program.items) n function count (below function n small)))
