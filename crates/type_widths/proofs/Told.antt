-- What is told of an outcome.
use Rattle.std.proofs.Common.{◌≡◌, ℕ, List, Result, IfOk, sym, subst}
use Rattle.chw_base.specs.Outcome.{IfFault}
use Rattle.chw_base.specs.declared.outcome.Or.{Or}
use Rattle.chw_types.specs.declared.declarations.Data.{Data}
use Rattle.chw_types.specs.TypeTree.{TypeTree}
use Rattle.chw_layout.specs.Measured.{Measured, HasWidth}
use Rattle.chw_layout.specs.Refusals.{IsRefusal, RepresentableIsMeasured}
use Rattle.chw_layout.specs.declared.outcome.NoLayout.{NoLayout}
use Rattle.type_widths.specs.declared.outcome.Limit.TheVariants.{Scalar, Data as Whole, Length}
use Rattle.type_widths.specs.declared.outcome.Outcome.{Outcome}
use Rattle.type_widths.specs.declared.outcome.Outcome.TheVariants.{Number, Fits, TooWide}
use Rattle.type_widths.specs.Outcomes.{told_of, Lays, Comes}

width_of : (datas : List Data) (t : TypeTree) (o : Outcome) → Lays (Measured datas t) o → IfOk (told_of o) (HasWidth datas t)
width_of datas t (Number n) x = tt
width_of datas t (Fits w) x = x
width_of datas t (TooWide l n) x = tt

-- the width that is told is that of the type
pub width_told : (datas : List Data) (t : TypeTree) (o : Outcome) (r : Result ℕ (Or NoLayout)) → Comes datas t o → r ≡ told_of o → IfOk r (HasWidth datas t)
width_told datas t o r comes is = subst (λ r. IfOk r (HasWidth datas t)) (sym is) (width_of datas t o comes.as_layout)

refusal_of : RepresentableIsMeasured → (datas : List Data) (t : TypeTree) (o : Outcome) → Lays (Measured datas t) o → IfFault (told_of o) (IsRefusal datas t)
refusal_of there datas t (Number n) x = λ r. let m = there datas t r in x m.0 m.1
refusal_of there datas t (Fits w) x = tt
refusal_of there datas t (TooWide Scalar n) x = x
refusal_of there datas t (TooWide Whole n) x = x
refusal_of there datas t (TooWide Length n) x = x

-- and the reason is the reason
pub refusal_told : RepresentableIsMeasured → (datas : List Data) (t : TypeTree) (o : Outcome) (r : Result ℕ (Or NoLayout)) → Comes datas t o → r ≡ told_of o → IfFault r (IsRefusal datas t)
refusal_told there datas t o r comes is = subst (λ r. IfFault r (IsRefusal datas t)) (sym is) (refusal_of there datas t o comes.as_layout)
