use Rattle.std.proofs.Common.{◌∙◌, ap}
use Rattle.chw_terms.specs.declared.term.Arg.TheVariants.{OfType}
use Rattle.chw_terms.specs.declared.term.Head.TheVariants.{TyLam}
use Rattle.chw_terms.specs.Evaluated.{put_type_in}
use Rattle.rewriting.specs.Functions.{ty_beta}
use Rattle.flow_functions.proofs.Firsts.{at_first_same}
use Rattle.flow_functions.proofs.functions.ty_beta.Goals as goal

pub returns : goal.returns
returns c o at =
    at_first_same {k = TyLam c.in-TyLam.field-0 c.in-TyLam.body} {b = OfType c.in-OfType.ty} ty_beta c.in-TyLam.is c.in-OfType.is
    (c.in_ok-put_type_in.ensures ∙ ap (λ e. put_type_in e c.in-OfType.ty) c.deref.ensures)
