use Rattle.std.proofs.Common.{◌≡◌, refl, sym, ◌∙◌, arith}
use Rattle.std.proofs.lemmas.Result.{IfOk-weaker}
use Rattle.netlist.specs.declared.net.Cell.{Cell}
use Rattle.netlist.specs.Wires.{read_by}
use Rattle.net_share.specs.Making.{IsMade}
use Rattle.net_share.specs.Renaming.{renamed}
use Rattle.net_share.proofs.Looking.{listed, reads_exist}
use Rattle.net_share.proofs.Made.{made_constant, made_own}
use Rattle.net_share.proofs.making.made_cell.Goals as goal

pub is_known-requires : goal.is_known-requires
is_known-requires c = omega (arith, c.requires.classes.known_of_each, c.requires.wire)

pub bits-requires : goal.bits-requires
bits-requires c = omega (arith, c.requires.classes.bits_of_each, c.requires.wire)

pub cell_after-requires : goal.cell_after-requires
cell_after-requires c =
    let flat = c.args.flat.now in
    let cell = c.in-Some.cell.now in
    listed c.args.names.now flat.widths (read_by cell) c.requires.names (reads_exist flat c.args.w cell c.requires.sound c.in-Some.ensures.driven)

pub unreachable-requires : goal.unreachable-requires
unreachable-requires c = omega (arith, c.in-None.ensures.input, c.requires.after)

pub returns-then-is_known : goal.returns-then-is_known
returns-then-is_known c =
    made_constant c.args.flat.now c.args.classes.now c.args.names.now c.args.w c.args.number c.in_ok-bits.bits _ (sym c.is_known.ensures ∙ c.if-is_known.true)
    (c.in_ok-bits.ensures ∙ c.bits.ensures) refl

pub returns : goal.returns
returns c =
    let flat = c.args.flat.now in
    let cell = c.in-Some.cell.now in
    IfOk-weaker c.cell_after.result (λ (made : Cell). made ≡ renamed c.args.names.now c.args.number cell)
    (λ (made : Cell). IsMade flat c.args.classes.now c.args.names.now c.args.w c.args.number made)
    (λ made is. made_own flat c.args.classes.now c.args.names.now c.args.w c.args.number cell made (sym c.is_known.ensures ∙ c.if-is_known.false)
    c.in-Some.ensures.driven is)
    c.cell_after.ensures
