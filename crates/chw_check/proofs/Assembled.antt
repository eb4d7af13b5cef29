-- A program in which nothing is at fault is typed.
use Rattle.std.proofs.Common.{Result, Ok, Err, OnOk}
use Rattle.chw_check.proofs.Complete.{complete as complete_term}
use Rattle.chw_check.proofs.FittingPrograms.{declared_closed}
use Rattle.chw_check.specs.Bodies.{AllHaveTheirTypes}
use Rattle.chw_check.specs.Fits.{AllDeclarationsFit}
use Rattle.chw_check.specs.Incomplete.{AllKeep}
use Rattle.chw_check.specs.Tops.{TopIsOfPorts}
use Rattle.chw_terms.specs.Tidy.{IsTidy}
use Rattle.chw_terms.specs.declared.program.Program.{Program}
use Rattle.chw_typing.specs.Programs.{IsTyped}

pub all_typed : (p : Program) → IsTidy p → AllDeclarationsFit p → AllHaveTheirTypes p → AllKeep p → TopIsOfPorts p → IsTyped p
all_typed p tidy fit have keep top = record {
  fields = λ d it t is field. fit.datas d it is t field;
  types = declared_closed p fit;
  bodies = have;
  complete = λ d it is. complete_term (have d it is).has (λ sought. keep sought d it is);
  data_acyclic = tidy.data_acyclic;
  defs_acyclic = tidy.defs_acyclic;
  top = top;
}

-- where a call went well, what follows from its promise
pub on_ok : {T E : Type 0} {P Q : Type 0} (r : Result T E) → (P → Q) → OnOk r P → OnOk r Q
on_ok (Ok x) f h = f h
on_ok (Err e) f h = tt
