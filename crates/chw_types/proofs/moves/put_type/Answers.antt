use Rattle.std.proofs.Common.{ap, ◌∙◌}
use Rattle.std.specs.Prelude.{reverse}
use Rattle.chw_types.specs.Arguments.{given}
use Rattle.chw_types.specs.TypeMoves.{sub, up_by}
use Rattle.chw_types.proofs.TypeMoved.{put_filled}
use Rattle.chw_types.proofs.moves.put_type.Goals as goal

pub returns-clause-is : goal.returns-clause-is
returns-clause-is c =
    c.in_ok-fill_within.ensures.is
    ∙ ap (λ us. sub c.args.into.now (up_by c.args.at.number (given (reverse us)))) c.from_ref.ensures.value
    ∙ put_filled c.args.into.now c.args.at.number c.args.arg.now
