use Rattle.std.proofs.Common.{◌∙◌, sym, true, false}
use Rattle.bit_blast.proofs.Adding.{added_as}
use Rattle.bit_blast.proofs.Latches.{register_is}
use Rattle.bit_blast.proofs.registers.register.Goals as goal

pub returns-then-has_reset : goal.returns-then-has_reset
returns-then-has_reset c =
    let flat = c.args.flat.now in
    added_as flat c.args.nodes.now.items c.held_latches.new.nodes.items _ _
    (register_is flat c.args.w c.args.a c.args.domain c.args.initial.now true c.requires.fits (sym c.has_reset.ensures ∙ c.if-has_reset.true))
    (c.in_ok-held_latches.ensures flat)

pub returns : goal.returns
returns c =
    let flat = c.args.flat.now in
    added_as flat c.args.nodes.now.items c.latches.new.nodes.items _ _
    (register_is flat c.args.w c.args.a c.args.domain c.args.initial.now false c.requires.fits (sym c.has_reset.ensures ∙ c.if-has_reset.false))
    (c.in_ok-latches.ensures flat)
