use Rattle.std.proofs.Common.{◌∙◌, ap, sym, refl, length, arith}
use Rattle.std.specs.List.{slice_get}
use Rattle.std.proofs.lemmas.Option.{slice_get_read, slice_get_within}
use Rattle.net_build.proofs.tops.top_of.Goals as goal

pub bounds-as_slice-program : goal.bounds-as_slice-program
bounds-as_slice-program c =
    let p = c.args.program.now in
    let within = slice_get_within p.defs p.top.«def».number c.requires.1.it c.requires.1.top.held in
    omega (arith, within, ap length c.as_slice.ensures)

pub returns : goal.returns
returns c =
    let p = c.args.program.now in
    let n = p.top.«def».number in
    let defs = c.as_slice.result.now in
    let within = slice_get_within p.defs n c.requires.1.it c.requires.1.top.held in
    ap (λ ds. slice_get ds n) (sym c.as_slice.ensures)
    ∙ slice_get_read defs (length defs) n c.index-as_slice-program.result refl (omega (arith, within, ap length c.as_slice.ensures)) c.index-as_slice-program.is
