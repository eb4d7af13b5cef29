use Rattle.std.proofs.Common.{◌≡◌, sym, ap, ◌∙◌, subst}
use Rattle.std.specs.Prelude.{reverse}
use Rattle.chw_types.specs.Arguments.{given, arguments}
use Rattle.chw_types.specs.TypeMoves.{sub}
use Rattle.chw_types.specs.TypeTree.{TypeTree}
use Rattle.chw_types.specs.TypeView.{trees_of}
use Rattle.term_spines.proofs.Waiting.{put_waiting}
use Rattle.term_spines.proofs.spines.filled.Goals as goal

pub returns-then-stays : goal.returns-then-stays
returns-then-stays c = sym (subst (λ (t : TypeTree). sub t (given (reverse c.args.waiting.now)) ≡ t) c.ty.ensures (c.stays.ensures c.if-stays.true))

pub returns : goal.returns
returns c =
    c.made.ensures ∙ c.in_ok-put_arguments.ensures.is ∙ ap (λ t. sub t (arguments (trees_of c.args.waiting.now))) c.ty-2.ensures ∙ put_waiting c.args.seen c.args.waiting.now
