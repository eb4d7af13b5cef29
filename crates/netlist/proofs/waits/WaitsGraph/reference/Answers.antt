use Rattle.std.proofs.Common.{◌≡◌, ◌∙◌, length, ap, refl, sym, Some, slice_get}
use Rattle.std.proofs.lemmas.Bool.{ltb-true}
use Rattle.std.proofs.lemmas.Option.{slice_get_read}
use Rattle.netlist.proofs.Waiting.{reference_here}
use Rattle.netlist.proofs.waits.WaitsGraph.reference.Goals as goal

pub returns : goal.returns
returns c =
    let cells = c.args.self.now.cells.now in
    let cell = c.in_ok-cell.cell.now in
    let read : slice_get cells c.args.node ≡ Some cell =
    slice_get_read cells (length cells) c.args.node cell refl (ltb-true _ _ (sym c.in_ok-cell.ensures.lookup.0)) c.in_ok-cell.ensures.lookup.1 in
    ap Some c.place_of.ensures
    ∙ reference_here c.args.self.now.inputs cells c.args.node cell c.args.left c.in_ok-wire.wire read c.requires.some c.requires.fits c.in_ok-wire.ensures
