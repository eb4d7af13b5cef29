use Rattle.std.proofs.Common.{◌∙◌}
use Rattle.chw_names.proofs.Primitives.{is_found}
use Rattle.chw_names.proofs.unknowns.is_primitive.Goals as goal

pub returns : goal.returns
returns c = c.is_some.ensures ∙ is_found c.all_are_all.ensures c.named.result c.args.name.now c.named.ensures.found c.named.ensures.unknown
