use Rattle.std.proofs.Common.{List, OnOk, subst, sym}
use Rattle.chw_types.specs.TypeTree.{TypeTree}
use Rattle.chw_terms.specs.TermTree.{TermTree}
use Rattle.chw_terms.specs.TermView.{tree_of}
use Rattle.net_built.specs.Bodies.{ValueCells}
use Rattle.value_build.specs.Added.{Adds, next}
use Rattle.value_build.specs.Arguments.{terms_in, types_in}
use Rattle.value_build.specs.InScope.{in_scope}
use Rattle.net_ready.specs.Ready.{ValueReady}
use Rattle.value_build.proofs.Ready.{head_ready}
use Rattle.value_build.proofs.Spines.{of_whole}
use Rattle.value_build.proofs.sides.value_cells.Goals as goal

pub returns-clause-cells : goal.returns-clause-cells
returns-clause-cells c =
    let P : TermTree → List TypeTree → List TermTree → Type 0 = λ h ts es. OnOk c.applied_cells.result
    (Adds (ValueCells c.args.base.now (in_scope c.args.scope.now) (next c.args.into.now) c.args.w h ts es) c.args.into.now c.applied_cells.new.into) in
    of_whole P c.e.inside.head c.e.inside.args.items c.args.e.now c.e.view_is
    (subst (λ xs. P (tree_of c.e.inside.head) (types_in xs) (terms_in xs)) c.deref.ensures.value c.applied_cells.ensures.cells)

pub applied_cells-requires : goal.applied_cells-requires
applied_cells-requires c =
    let datas = c.args.base.now.datas in
    subst (λ xs. ValueReady datas (tree_of c.e.inside.head) xs) (sym c.deref.ensures.value)
    (head_ready datas c.e.inside.head c.e.inside.args.items c.args.e.now c.e.view_is c.requires)
