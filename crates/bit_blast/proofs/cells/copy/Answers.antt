use Rattle.std.proofs.Common.{◌∙◌}
use Rattle.netlist.specs.declared.net.Flat.{Flat}
use Rattle.bit_laws.specs.Blast.{on_each, word}
use Rattle.bit_laws.specs.Gates.Gate.{buffer}
use Rattle.bit_blast.specs.Names.{names_of}
use Rattle.bit_blast.specs.declared.names.Word.TheVariants.{Part}
use Rattle.bit_blast.proofs.Widths.{as_wide, each_words, every_then}
use Rattle.bit_blast.proofs.cells.copy.Goals as goal

pub returns : goal.returns
returns c =
    let flat = c.args.flat.now in
    let w = c.args.w in
    let a = c.args.a in
    let n = c.width_of-width.result in
    let wide = c.width_of-width.ensures.width in
    let f = c.requires.fits in
    every_then c.on_each.result flat c.args.nodes.now.items c.on_each.new.nodes.items
    (λ (flat : Flat). on_each buffer (names_of flat (Part w 0) n) (names_of flat (Part a 0) n))
    (on_each buffer (word flat w.number) (word flat a.number))
    (each_words flat buffer w a n wide (wide ∙ as_wide flat w.number a.number f.0 f.1 f.2))
    c.on_each.ensures
