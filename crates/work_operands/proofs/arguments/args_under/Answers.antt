use Rattle.chw_types.specs.TypeMoves.{raised}
use Rattle.chw_terms.proofs.TermMoved.{all_done}
use Rattle.chw_typing.specs.Groups.{rename_arg}
use Rattle.work_operands.proofs.arguments.args_under.Goals as goal

pub returns : goal.returns
returns c =
    all_done (rename_arg (raised 0 1)) c.args.args.now c.loop-arg.made.items c.loop-arg.arg-index
    c.loop-arg.invariant c.loop-arg-test.false
