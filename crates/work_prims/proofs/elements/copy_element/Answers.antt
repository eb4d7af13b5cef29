use Rattle.std.proofs.Common.{◌∙◌, ap, sym, refl, length, Some}
use Rattle.std.proofs.lemmas.Option.{slice_get_read, slice_get_past}
use Rattle.work_prims.proofs.Lists.{element_is}
use Rattle.work_prims.proofs.elements.copy_element.Goals as goal

pub returns-in_ok-copy-in-Some-clause-some : goal.returns-in_ok-copy-in-Some-clause-some
returns-in_ok-copy-in-Some-clause-some c =
    element_is c.args.es.now c.args.at
    ∙ slice_get_read c.args.es.now (length c.args.es.now) c.args.at c.in-Some.e.now refl c.in-Some.ensures.lookup.3.0 c.in-Some.ensures.lookup.1
    ∙ ap Some (sym c.in_ok-copy-in-Some.ensures)

pub returns-in-None-clause-none : goal.returns-in-None-clause-none
returns-in-None-clause-none c = element_is c.args.es.now c.args.at ∙ slice_get_past c.args.es.now c.args.at c.in-None.ensures.lookup.3
