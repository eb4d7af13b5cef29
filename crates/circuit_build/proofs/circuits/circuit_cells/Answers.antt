use Rattle.std.proofs.Common.{◌∙◌, List, OnOk, sym, subst}
use Rattle.chw_types.specs.TypeTree.{TypeTree}
use Rattle.chw_terms.specs.TermTree.{TermTree}
use Rattle.chw_terms.specs.TermView.{tree_of}
use Rattle.net_built.specs.Circuits.{CircuitCells}
use Rattle.net_ready.specs.Ready.{types_on, CircuitReady}
use Rattle.value_build.specs.Added.{Adds, next}
use Rattle.value_build.specs.Arguments.{terms_in, types_in}
use Rattle.value_build.specs.InScope.{in_scope}
use Rattle.value_build.proofs.Spines.{of_whole}
use Rattle.circuit_build.specs.Views.{side_args}
use Rattle.circuit_build.proofs.Spines.{spine_holds}
use Rattle.circuit_build.proofs.circuits.circuit_cells.Goals as goal

pub circuit_side-side-requires : goal.circuit_side-side-requires
circuit_side-side-requires c =
    let datas = c.args.base.now.datas in
    let vars = types_on (in_scope c.args.scope.now) in (
      datas,
      vars,
      c.args.widths.now,
      subst (CircuitReady datas vars c.args.widths.now (tree_of c.e.inside.head)) (sym c.deref.ensures.value)
          (spine_holds (CircuitReady datas vars c.args.widths.now) c.e.inside.head c.e.inside.args.items c.args.e.now c.e.view_is c.requires.ready),
    )

pub side_cells-requires : goal.side_cells-requires
side_cells-requires c = let P = CircuitReady c.args.base.now.datas (types_on (in_scope c.args.scope.now)) c.args.widths.now in
    let side = c.circuit_side-side.result in
    record {
      ready = subst (λ h. P h (side_args side)) c.circuit_side-side.ensures.head
          (subst (P (tree_of c.e.inside.head)) (sym c.deref.ensures.value ∙ c.circuit_side-side.ensures.args)
          (spine_holds P c.e.inside.head c.e.inside.args.items c.args.e.now c.e.view_is c.requires.ready));
    }

pub returns-clause-cells : goal.returns-clause-cells
returns-clause-cells c =
    let P : TermTree → List TypeTree → List TermTree → Type 0 = λ h ts es. OnOk c.side_cells.result
    (Adds (CircuitCells c.args.base.now (in_scope c.args.scope.now) (next c.args.into.now) c.args.widths.now h ts es) c.args.into.now c.side_cells.new.into) in
    let side = c.circuit_side-side.result in
    of_whole P c.e.inside.head c.e.inside.args.items c.args.e.now c.e.view_is
    (subst (λ xs. P (tree_of c.e.inside.head) (types_in xs) (terms_in xs)) (sym c.circuit_side-side.ensures.args ∙ c.deref.ensures.value)
    (subst (λ h. P h (types_in (side_args side)) (terms_in (side_args side))) (sym c.circuit_side-side.ensures.head) c.side_cells.ensures.cells))
