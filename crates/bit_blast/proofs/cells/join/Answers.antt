use Rattle.std.proofs.Common.{ℕ, List, ap, arith}
use Rattle.std.specs.List.{flat_map}
use Rattle.std.proofs.lemmas.Option.{get_or_from_slice_get}
use Rattle.chw_base.specs.declared.index.WireId.{WireId}
use Rattle.netlist.specs.Sound.{width_of_all}
use Rattle.bit_laws.specs.Blast.{on_each, word}
use Rattle.bit_laws.specs.Gates.Gate.{buffer}
use Rattle.bit_blast.specs.Names.{lowest}
use Rattle.bit_blast.proofs.Places.{lowest_all}
use Rattle.bit_blast.proofs.Widths.{ok_as, width_within}
use Rattle.bit_blast.proofs.cells.join.Goals as goal

pub joined-requires-clause-within : goal.joined-requires-clause-within
joined-requires-clause-within c =
    let flat = c.args.flat.now in
    let w = c.args.w.number in
    omega (arith, width_within flat w c.requires.sound, get_or_from_slice_get flat.widths w (width_of_all flat.widths c.args.parts.now) 0 c.requires.fits.1)

pub returns : goal.returns
returns c =
    let flat = c.args.flat.now in
    let w = c.args.w.number in
    let parts = c.args.parts.now in
    let names = flat_map (λ (p : WireId). word flat p.number) parts in
    ok_as c.joined.result flat c.args.nodes.now.items c.joined.new.nodes.items
    (on_each buffer (lowest flat w (width_of_all flat.widths parts)) names) (on_each buffer (word flat w) names)
    (ap (λ (ws : List (List ℕ)). on_each buffer ws names) (lowest_all flat w (width_of_all flat.widths parts) c.requires.fits.1)) c.joined.ensures
