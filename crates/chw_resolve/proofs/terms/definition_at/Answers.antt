use Rattle.std.proofs.Common.{◌∙◌, ap}
use Rattle.chw_terms.specs.TermTree.{global}
use Rattle.chw_resolve.proofs.Definitions.{a_primitive, behind_all}
use Rattle.chw_resolve.proofs.terms.definition_at.Goals as goal

pub returns-in-Some : goal.returns-in-Some
returns-in-Some c = c.prim_of.ensures ∙ a_primitive c.args.place c.in-Some.primitive.now c.in-Some.ensures.lookup.3.0 c.in-Some.ensures.lookup.1

pub returns-in-None : goal.returns-in-None
returns-in-None c = c.global.ensures ∙ ap global c.behind_primitives.ensures ∙ behind_all c.args.place c.in-None.ensures.lookup.3
