use Rattle.std.proofs.Common.{sym, subst}
use Rattle.chw_types.specs.SameTypes.{SameTypes}
use Rattle.chw_types.specs.Kinds.{KindOf}
use Rattle.chw_typing.proofs.KindsLeft.{kind_left, same_left}
use Rattle.chw_typing.proofs.leaving.without_zeros.Goals as goal

pub returns-clause-same : goal.returns-clause-same
returns-clause-same c = subst (SameTypes c.args.t.now) (sym c.in_ok-leave.ensures) (same_left c.args.t.now)

pub returns-clause-kind : goal.returns-clause-kind
returns-clause-kind c datas domains scope u k of h d = subst (λ w. KindOf datas domains scope w k) (sym c.in_ok-leave.ensures) (kind_left h of d)
