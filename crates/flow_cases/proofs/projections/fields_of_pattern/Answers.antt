use Rattle.std.proofs.Common.{◌∙◌, ap, sym}
use Rattle.chw_types.specs.TypeView.{tree_of}
use Rattle.con_places.specs.Constructing.{constructor_of}
use Rattle.flow_cases.proofs.Makings.{pattern_there}
use Rattle.flow_cases.proofs.projections.fields_of_pattern.Goals as goal

pub returns : goal.returns
returns c =
    pattern_there c.args.constructors.now (constructor_of c.in-Some.it) c.args.at c.args.names c.in-DataOf.of.number c.in-DataOf.args.items c.as_slice.result.now c.as_slice-fields.result.now c.args.ty.now
    c.in-Some.ensures.is c.if-of-it.false c.as_slice-fields.ensures c.if-fields-names.false c.as_slice.ensures.value (ap tree_of (sym c.in-DataOf.is) ∙ c.ty.view_is)
