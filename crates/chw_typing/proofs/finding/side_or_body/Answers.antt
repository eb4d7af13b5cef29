use Rattle.std.proofs.Common.{ap, ◌∙◌, arith}
use Rattle.chw_typing.specs.Paths.{part_of_group}
use Rattle.chw_terms.specs.TermView.{group_of}
use Rattle.chw_typing.proofs.PartChildren.{side_there, body_there, nothing_there}
use Rattle.chw_typing.proofs.finding.side_or_body.Goals as goal

pub returns-then-at-bindings : goal.returns-then-at-bindings
returns-then-at-bindings c = side_there c.args.bindings.now c.args.body.now c.args.i c.index-bindings-at.result c.if-at-bindings.true

pub returns-then-at-bindings-2 : goal.returns-then-at-bindings-2
returns-then-at-bindings-2 c =
    ap (part_of_group (group_of c.args.bindings.now) c.args.body.now) c.if-at-bindings-2.true ∙ body_there c.args.bindings.now c.args.body.now

pub returns-else-at-bindings-2 : goal.returns-else-at-bindings-2
returns-else-at-bindings-2 c = nothing_there c.args.bindings.now c.args.body.now c.args.i (omega arith)
