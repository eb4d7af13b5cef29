use Rattle.std.proofs.Common.{◌≡◌, sym, ap, ◌∙◌, subst}
use Rattle.chw_types.specs.Arguments.{arguments}
use Rattle.chw_types.specs.TypeMoves.{sub}
use Rattle.chw_types.specs.TypeView.{tree_of, trees_of}
use Rattle.term_frames.proofs.FieldsPut.{parameter_put}
use Rattle.term_frames.proofs.fields.argument.Goals as goal

pub returns-then-number-args : goal.returns-then-number-args
returns-then-number-args c =
    let args = c.args.args.now in
    let found = c.index-args-args.result in
    subst (λ f. found ≡ sub f (arguments (trees_of args))) (ap tree_of (sym c.in-Var.is) ∙ c.field.view_is)
    (parameter_put args c.in-Var.at.number found c.if-number-args.true c.index-args-args.is)
