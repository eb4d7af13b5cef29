use Rattle.chw_resolve.proofs.DeclarationMade.{definition_made}
use Rattle.chw_resolve.proofs.declarations.definition_in.Goals as goal

pub returns : goal.returns
returns c =
    definition_made c.args.globals.now c.args.word.now c.args.ty.now c.args.body.now c.in_ok-name.ensures c.in_ok-ty.ensures c.in_ok-body.ensures
