use Rattle.std.proofs.Common.{sym, subst}
use Rattle.std.proofs.lemmas.Result.{err_from_is_err_and}
use Rattle.chw_cli.specs.Descriptions.{HasProgram}
use Rattle.chw_cli.proofs.Reasons.{names_refuse, reading_refuses, types_refuse, was_read}
use Rattle.chw_cli.proofs.describe.typed_tree.Goals as goal

pub returns-in_err-tree-clause-refused : goal.returns-in_err-tree-clause-refused
returns-in_err-tree-clause-refused c =
    let p = err_from_is_err_and c.from_residual.result c.from_residual.ensures.1 in
    rw (p.1, p.2) (reading_refuses c.args.text.now c.in_err-tree.field-0.0 c.in_err-tree.ensures.refused)

pub resolve-requires : goal.resolve-requires
resolve-requires c = was_read c.args.text.now c.in_ok-tree.tree c.in_ok-tree.ensures.tree

pub returns-in_err-program-clause-refused : goal.returns-in_err-program-clause-refused
returns-in_err-program-clause-refused c =
    let p = err_from_is_err_and c.from_residual-in_err-program.result c.from_residual-in_err-program.ensures.1 in
    rw (p.1, p.2) (names_refuse c.args.text.now c.in_ok-tree.tree c.in_err-program.field-0.0 c.in_ok-tree.ensures.tree c.in_err-program.ensures.fault)

pub returns-in_err-checked-clause-refused : goal.returns-in_err-checked-clause-refused
returns-in_err-checked-clause-refused c =
    let p = err_from_is_err_and c.from_residual-in_err-checked.result c.from_residual-in_err-checked.ensures.1 in
    rw (p.1, p.2)
    (types_refuse c.args.text.now c.in_ok-tree.tree c.in_ok-program.program c.in_err-checked.field-0.0 c.in_ok-tree.ensures.tree
    (record { named = c.in_ok-program.ensures.well_named; is = c.in_ok-program.ensures.program; tidy = c.in_ok-program.ensures.tidy })
    c.in_err-checked.ensures.fault)

pub returns-clause-typed : goal.returns-clause-typed
returns-clause-typed c = record {
  description = c.in_ok-tree.ensures.tree;
  program = c.in_ok-program.program;
  is = record { named = c.in_ok-program.ensures.well_named; is = c.in_ok-program.ensures.program; tidy = c.in_ok-program.ensures.tidy };
  typed = c.in_ok-checked.ensures.typed;
}

pub returns-clause-program : goal.returns-clause-program
returns-clause-program c =
    subst (HasProgram c.in_ok-tree.tree) (sym c.in_ok-checked.ensures.program)
    (record { named = c.in_ok-program.ensures.well_named; is = c.in_ok-program.ensures.program; tidy = c.in_ok-program.ensures.tidy })
