-- Programs whose declarations fit, and typed programs.
use Rattle.std.proofs.Common.{[], subst}
use Rattle.chw_check.proofs.TypedFits.{typed_fits}
use Rattle.chw_check.specs.Fits.{AllDeclarationsFit}
use Rattle.chw_terms.specs.Tidy.{IsTidy}
use Rattle.chw_terms.specs.declared.program.Program.{Program}
use Rattle.chw_typing.proofs.Lists.{found_before_map, found_in_map}
use Rattle.chw_typing.specs.Programs.{AreClosed, IsSound, IsTyped, setting_of}
use Rattle.chw_typing.specs.Scopes.{IsTermType}

-- the types of declarations that fit are of terms
pub declared_closed : (p : Program) → AllDeclarationsFit p → AreClosed (setting_of p) (setting_of p).defs
declared_closed p fit x t is =
    let at = found_before_map (λ d. d.ty) p.defs x t is in
    subst (IsTermType (setting_of p) []) at.2 (fit.defs x at.0 at.1).ty

-- what the terms of such a program are typed over is sound, if the program is tidy
pub fits_sound : (p : Program) → IsTidy p → AllDeclarationsFit p → IsSound (setting_of p)
fits_sound p tidy fit = record {
  begins = tidy.begins;
  kinds = tidy.kinds;
  fields = λ d it t e f. fit.datas d it e t f;
  defs = declared_closed p fit;
  made = λ x t e. absurd (cc);
}

-- the declarations of a typed program fit
pub typed_program_fits : (p : Program) → IsTyped p → AllDeclarationsFit p
typed_program_fits p typed = record {
  datas = λ d it e t f. typed.fields d it t e f;
  defs = λ d it e. record {
    ty = typed.types d it.ty (found_in_map (λ d. d.ty) p.defs d it e);
    body = typed_fits (typed.bodies d it e).has;
  };
}
