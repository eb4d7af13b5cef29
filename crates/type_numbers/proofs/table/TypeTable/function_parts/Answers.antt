use Rattle.std.proofs.Common.{◌∙◌, sym, subst, ap}
use Rattle.std.specs.Option.{option_copied}
use Rattle.type_numbers.specs.Nodes.{HasNoFunction}
use Rattle.type_numbers.proofs.Functions.{nothing_there}
use Rattle.type_numbers.proofs.table.TypeTable.function_parts.Goals as goal

pub returns-in-None-clause-none : goal.returns-in-None-clause-none
returns-in-None-clause-none c =
    let there = sym c.get_index.ensures.key ∙ ap option_copied c.in-None.is in
    subst (λ ts. HasNoFunction ts c.args.number) c.self.view_is (nothing_there c.self.inside.nodes.keys c.args.number there)
