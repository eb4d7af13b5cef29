use Rattle.std.proofs.Common.{◌∙◌, sym}
use Rattle.std.proofs.lemmas.Bool.{false≢true}
use Rattle.netlist.specs.declared.net.Module.{Module}
use Rattle.value_build.specs.InScope.{in_scope}
use Rattle.value_build.specs.declared.drafts.Draft.{Draft}
use Rattle.value_build.proofs.Passing.{module_settled, pass_changed}
use Rattle.value_build.proofs.passes.next_pass.Goals as goal

pub returns-then-not-are_found-clause-pass : goal.returns-then-not-are_found-clause-pass
returns-then-not-are_found-clause-pass c =
    let s : Draft = record { into = c.in_ok-into.into; found = c.new-found.result } in
    pass_changed c.args.base.now c.args.known.now (in_scope c.args.scope.now.items) c.args.inputs.now c.args.e.now c.in_ok-outputs.outputs s c.block.new.draft
    (c.in_ok-into.ensures, c.new-found.ensures.items) c.in_ok-outputs.ensures.drafted
    (λ same. false≢true (sym c.if-not-are_found.true ∙ c.are_found.ensures.1 (same ∙ sym c.deref.ensures.value)))

pub returns-clause-pass : goal.returns-clause-pass
returns-clause-pass c =
    let s : Draft = record { into = c.in_ok-into.into; found = c.new-found.result } in
    let built : Module = record { inputs = c.in_ok-count.count; widths = c.into_parts-widths.result.0; outputs = c.in_ok-outputs.outputs; cells = c.into_parts-widths.result.1 } in
    module_settled c.settled_drafts_are_built.ensures c.args.base.now c.args.known.now (in_scope c.args.scope.now.items) c.args.inputs.now c.args.e.now s c.block.new.draft built
    (c.in_ok-into.ensures, c.new-found.ensures.items) c.in_ok-outputs.ensures.drafted
    (c.are_found.ensures.0 c.if-not-are_found.false ∙ c.deref.ensures.value) c.in_ok-count.ensures.narrow
    c.into_parts-widths.ensures.widths c.into_parts-widths.ensures.cells
