use Rattle.std.proofs.Common.{◌∙◌}
use Rattle.chw_resolve.proofs.DeclarationMade.{data_type_made}
use Rattle.chw_resolve.proofs.declarations.data_type_in.Goals as goal

pub returns : goal.returns
returns c =
    data_type_made c.args.globals.now c.args.word.now c.args.parameters.now c.args.constructors.now c.in_ok-name.ensures (c.from.ensures ∙ c.in_ok-params.ensures) (c.from-2.ensures ∙ c.in_ok-cons.ensures)
