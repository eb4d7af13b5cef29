-- What an outcome tells of a type that has a measure.
use Rattle.std.proofs.Common.{◌≡◌, ℕ, List, sym, subst, ◌∙◌}
use Rattle.chw_types.specs.declared.declarations.Data.{Data}
use Rattle.chw_types.specs.TypeTree.{TypeTree}
use Rattle.chw_layout.specs.declared.outcome.NoLayout.{NoLayout}
use Rattle.chw_layout.specs.declared.outcome.NoLayout.TheVariants.{NotRepresentable, Scalar as OverScalar, Data as OverData, Length as OverLength}
use Rattle.chw_layout.specs.declared.outcome.Outcome.{Outcome}
use Rattle.chw_layout.specs.declared.outcome.Outcome.TheVariants.{Number, Fits, TooWide}
use Rattle.chw_layout.specs.Measured.{Measure, fits, too_wide, Measured, HasWidth}
use Rattle.chw_layout.specs.Outcomes.{laid}
use Rattle.chw_layout.specs.Refusals.{IsRefusal}
use Rattle.chw_layout.proofs.Measures.{measured_limit}
use Rattle.chw_layout.proofs.Loops.{fits_laid}

pub width_told : (datas : List Data) (t : TypeTree) (m : Measure) (o : Outcome) (w : ℕ) → Measured datas t m → o ≡ laid m → o ≡ Fits w → HasWidth datas t w
width_told datas t m o w d e f = subst (Measured datas t) (fits_laid w m (sym f ∙ e)) d

passed_laid : (e : NoLayout) (m : Measure) → TooWide e ≡ laid m → m ≡ too_wide e
passed_laid e (fits w) p = absurd (cc)
passed_laid e (too_wide x) p = cc

refusal_of : (datas : List Data) (t : TypeTree) (e : NoLayout) → Measured datas t (too_wide e) → IsRefusal datas t e
refusal_of datas t NotRepresentable d = absurd (measured_limit d)
refusal_of datas t (OverScalar w) d = d
refusal_of datas t (OverData w) d = d
refusal_of datas t (OverLength n) d = d

pub refusal_told : (datas : List Data) (t : TypeTree) (m : Measure) (o : Outcome) (x : NoLayout) → Measured datas t m → o ≡ laid m → o ≡ TooWide x → IsRefusal datas t x
refusal_told datas t m o x d e f = refusal_of datas t x (subst (Measured datas t) (passed_laid x m (sym f ∙ e)) d)

number_laid : (n : ℕ) (m : Measure) → Number n ≡ laid m → ⊥
number_laid n (fits w) p = absurd (cc)
number_laid n (too_wide x) p = absurd (cc)

pub number_not_told : (m : Measure) (o : Outcome) (n : ℕ) → o ≡ laid m → o ≡ Number n → ⊥
number_not_told m o n e f = number_laid n m (sym f ∙ e)
