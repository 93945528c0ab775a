use Rattle.c11_plain.proofs.direct.is_first.Goals as goal

pub returns-then-is_of_thread : goal.returns-then-is_of_thread
returns-then-is_of_thread c = (
  λ h. record { own = c.is_of_thread.ensures.0 c.if-is_of_thread.true; first = c.has_no_earlier.ensures.0 h },
  λ f. c.has_no_earlier.ensures.1 f.first,
)
