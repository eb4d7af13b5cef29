-- A type with a width is refused for no reason.
use Rattle.std.proofs.Common.{◌≡◌, List}
use Rattle.chw_base.specs.Outcome.{OfFault}
use Rattle.chw_base.specs.declared.outcome.Or.{Or}
use Rattle.chw_base.specs.declared.outcome.Or.TheVariants.{Memory, Fault}
use Rattle.chw_types.specs.declared.declarations.Data.{Data}
use Rattle.chw_types.specs.TypeTree.{TypeTree}
use Rattle.chw_layout.specs.Measured.{fits, too_wide}
use Rattle.chw_layout.specs.Refusals.{IsRefusal}
use Rattle.chw_layout.specs.declared.outcome.NoLayout.{NoLayout}
use Rattle.chw_layout.specs.declared.outcome.NoLayout.TheVariants.{NotRepresentable, Scalar as OverScalar, Data as OverData, Length as OverLength}
use Rattle.chw_layout.proofs.Measures.{measured_once, measured_representable}
use Rattle.value_build.specs.ReadyParts.{IsMeasured}

no_refusal : (datas : List Data) (t : TypeTree) (e : NoLayout) → IsMeasured datas t → IsRefusal datas t e → ⊥
no_refusal datas t NotRepresentable f h = h (measured_representable f.1)
no_refusal datas t (OverScalar w) f h = let p : fits f.0 ≡ too_wide (OverScalar w) = measured_once f.1 h in cc
no_refusal datas t (OverData w) f h = let p : fits f.0 ≡ too_wide (OverData w) = measured_once f.1 h in cc
no_refusal datas t (OverLength w) f h = let p : fits f.0 ≡ too_wide (OverLength w) = measured_once f.1 h in cc

pub no_fault : (datas : List Data) (t : TypeTree) (r : Or NoLayout) → IsMeasured datas t → OfFault r (IsRefusal datas t) → OfFault r (λ _. ⊥)
no_fault datas t Memory m h = tt
no_fault datas t (Fault e) m h = no_refusal datas t e m h
