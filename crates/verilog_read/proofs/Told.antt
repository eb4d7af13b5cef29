-- Faults that are told by their codes and places.
use Rattle.std.proofs.Common.{◌≡◌, ℕ, List, sym, subst}
use Rattle.chw_base.specs.Outcome.{OfFault}
use Rattle.chw_base.specs.declared.outcome.Or.{Or}
use Rattle.chw_base.specs.declared.outcome.Or.TheVariants.{Fault}
use Rattle.verilog_rules.specs.Faults.{IsVFault, fault_at}
use Rattle.verilog_rules.specs.declared.fault.VCode.{VCode}
use Rattle.verilog_rules.specs.declared.fault.VFault.{VFault}

-- what is promised of a fault holds of it
pub of_fault : {E : Type 0} (P : E → Type 0) (r : Or E) (f : E) → r ≡ Fault f → OfFault r P → P f
of_fault P r f e h = subst (λ x. OfFault x P) e h

-- the fault of a code at a place is what is wrong with the text
pub told : (text : List ℕ) (r : Or VFault) (code : VCode) (at : ℕ)
    → r ≡ Fault (fault_at code at) → IsVFault text (fault_at code at) → OfFault r (IsVFault text)
told text r code at e h = subst (λ x. OfFault x (IsVFault text)) (sym e) h
