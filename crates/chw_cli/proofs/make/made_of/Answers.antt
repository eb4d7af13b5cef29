use Rattle.std.proofs.Common.{Ok, sym, subst}
use Rattle.std.proofs.lemmas.Result.{IfErr-weaker, IfOk-weaker, err_from_is_err_and}
use Rattle.chw_cli.specs.Descriptions.{HasProgram}
use Rattle.chw_cli.specs.Making.MadeAnswer.{typed}
use Rattle.chw_cli.proofs.Making.{tally_refuses_made, text_refuses_made}
use Rattle.chw_cli.proofs.make.made_of.Goals as goal

pub returns-in_err-tree-clause-refused : goal.returns-in_err-tree-clause-refused
returns-in_err-tree-clause-refused c =
    let p = err_from_is_err_and c.from_residual.result c.from_residual.ensures.1 in
    rw (p.1, p.2) (text_refuses_made c.args.text.now c.args.stimulus.now c.in_err-tree.field-0.0 c.in_err-tree.ensures.refused)

pub returns-clause-made : goal.returns-clause-made
returns-clause-made c =
    let has = subst (HasProgram c.in_ok-tree.tree) (sym c.program.ensures.program) c.in_ok-tree.ensures.program in
    IfOk-weaker c.tallied.result _ _
    (λ bytes a. typed c.in_ok-tree.tree c.program.result.now (Ok bytes.items) c.in_ok-tree.ensures.typed has a)
    c.tallied.ensures.tallied

pub returns-clause-refused : goal.returns-clause-refused
returns-clause-refused c =
    let has = subst (HasProgram c.in_ok-tree.tree) (sym c.program.ensures.program) c.in_ok-tree.ensures.program in
    IfErr-weaker c.tallied.result _ _
    (λ r w. tally_refuses_made c.args.text.now c.args.stimulus.now c.in_ok-tree.tree c.program.result.now r c.in_ok-tree.ensures.typed has w)
    c.tallied.ensures.refused
