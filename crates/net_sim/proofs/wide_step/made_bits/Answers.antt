use Rattle.std.proofs.Common.{length, ap, arith}
use Rattle.net_sim.proofs.Wiring.{is_wire, one_fits, pair_fits, wire_limits}
use Rattle.net_sim.proofs.wide_step.made_bits.Goals as goal

pub bits_of_one-requires-clause-enough : goal.bits_of_one-requires-clause-enough
bits_of_one-requires-clause-enough c =
    let fits = rw c.in-Un.is at c.requires.fits.1 in
    let limits = wire_limits c.args.words.now c.in-Un.a c.requires.widths (one_fits _ c.in-Un.op c.in-Un.field-0 c.in-Un.a fits) in
    let enough = c.requires.enough in
    omega (arith, limits.1, ap length c.list.ensures, ap length c.word_at-in-Un.ensures)

pub made_of_wires-requires-clause-left : goal.made_of_wires-requires-clause-left
made_of_wires-requires-clause-left c =
    let fits = rw c.in-Bin.is at c.requires.fits.1 in (pair_fits c.args.words.now c.in-Bin.op c.in-Bin.field-0 c.in-Bin.a c.in-Bin.b fits).left

pub made_of_wires-requires-clause-right : goal.made_of_wires-requires-clause-right
made_of_wires-requires-clause-right c =
    let fits = rw c.in-Bin.is at c.requires.fits.1 in (pair_fits c.args.words.now c.in-Bin.op c.in-Bin.field-0 c.in-Bin.a c.in-Bin.b fits).right

pub made_of_wires-requires-clause-suit : goal.made_of_wires-requires-clause-suit
made_of_wires-requires-clause-suit c =
    let fits = rw c.in-Bin.is at c.requires.fits.1 in (pair_fits c.args.words.now c.in-Bin.op c.in-Bin.field-0 c.in-Bin.a c.in-Bin.b fits).suit

pub made_of_wires-requires-clause-some : goal.made_of_wires-requires-clause-some
made_of_wires-requires-clause-some c =
    let fits = rw c.in-Bin.is at c.requires.fits.1 in
    let pair = pair_fits c.args.words.now c.in-Bin.op c.in-Bin.field-0 c.in-Bin.a c.in-Bin.b fits in
    let limits = wire_limits c.args.words.now c.in-Bin.a c.requires.widths pair.left in
    omega (arith, limits.0)

pub made_of_wires-requires-clause-enough : goal.made_of_wires-requires-clause-enough
made_of_wires-requires-clause-enough c =
    let fits = rw c.in-Bin.is at c.requires.fits.1 in
    let pair = pair_fits c.args.words.now c.in-Bin.op c.in-Bin.field-0 c.in-Bin.a c.in-Bin.b fits in
    let limits = wire_limits c.args.words.now c.in-Bin.a c.requires.widths pair.left in
    let enough = c.requires.enough in
    omega (arith, limits.1)

pub chosen-requires-clause-first : goal.chosen-requires-clause-first
chosen-requires-clause-first c =
    let fits = rw c.in-Mux.is at c.requires.fits.1 in is_wire _ c.in-Mux.a _ fits.1.2

pub chosen-requires-clause-second : goal.chosen-requires-clause-second
chosen-requires-clause-second c =
    let fits = rw c.in-Mux.is at c.requires.fits.1 in is_wire _ c.in-Mux.b _ fits.1.3

pub lay_word-requires-in-Mux : goal.lay_word-requires-in-Mux
lay_word-requires-in-Mux c =
    let limits = wire_limits c.args.words.now c.chosen.result c.requires.widths c.chosen.ensures.wire in
    let enough = c.requires.enough in
    omega (arith, limits.1, ap length c.word_at-in-Mux.ensures)
