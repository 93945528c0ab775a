-- The values of a text are counted byte by byte.
use Rattle.std.proofs.Common.{◌≡◌, ℕ, ◌+◌, List, ◌∷◌, Option, Some, None, refl, ap, ◌∙◌, arith}
use Rattle.std.specs.Prelude.{is_some, if◌then◌else◌}
use Rattle.c11_num.specs.declared.value.CType.{CType}
use Rattle.c11_check.specs.declared.format.Within.{Within}
use Rattle.c11_check.specs.declared.format.Within.TheVariants as w
use Rattle.c11_check.specs.Formats.{format_step, with_step, with_type, conversions, how_many}

-- so many values and those of the rest
abbrev pub and_more : ℕ → Option ℕ → Option ℕ
and_more n None = None
and_more n (Some more) = Some (n + more)

counted : (n : ℕ) (asked : Option CType) (types : Option (List CType)) → and_more n (how_many (with_type asked types)) ≡ and_more (n + (if is_some asked then 1 else 0)) (how_many types)
counted n None None = refl
counted n None (Some types) = ap Some (omega arith)
counted n (Some ctype) None = refl
counted n (Some ctype) (Some types) = ap Some (omega arith)

pub one_step : (n : ℕ) (within : Within) (b : ℕ) (bs : List ℕ) (step : Within × Option CType) → format_step within b ≡ Some step
    → and_more n (how_many (conversions within (b ∷ bs))) ≡ and_more (n + (if is_some step.1 then 1 else 0)) (how_many (conversions step.0 bs))
one_step n w.Plain b bs step is = ap (λ (o : Option (Within × Option CType)). and_more n (how_many (with_step o (λ next. conversions next bs)))) is ∙ counted n step.1 (conversions step.0 bs)
one_step n w.AfterPercent b bs step is = ap (λ (o : Option (Within × Option CType)). and_more n (how_many (with_step o (λ next. conversions next bs)))) is ∙ counted n step.1 (conversions step.0 bs)
one_step n w.AfterLong b bs step is = ap (λ (o : Option (Within × Option CType)). and_more n (how_many (with_step o (λ next. conversions next bs)))) is ∙ counted n step.1 (conversions step.0 bs)

pub no_step : (n : ℕ) (within : Within) (b : ℕ) (bs : List ℕ) → format_step within b ≡ None → and_more n (how_many (conversions within (b ∷ bs))) ≡ None
no_step n w.Plain b bs is = ap (λ (o : Option (Within × Option CType)). and_more n (how_many (with_step o (λ next. conversions next bs)))) is
no_step n w.AfterPercent b bs is = ap (λ (o : Option (Within × Option CType)). and_more n (how_many (with_step o (λ next. conversions next bs)))) is
no_step n w.AfterLong b bs is = ap (λ (o : Option (Within × Option CType)). and_more n (how_many (with_step o (λ next. conversions next bs)))) is
