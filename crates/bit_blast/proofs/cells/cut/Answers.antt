use Rattle.std.proofs.Common.{◌≡◌, ℕ, List, ap, ◌∙◌, arith}
use Rattle.netlist.specs.declared.net.Flat.{Flat}
use Rattle.std.proofs.Common.{◌<◌, ◌+◌, ◌-◌}
use Rattle.std.specs.Prelude.{slice_index}
use Rattle.std.proofs.lemmas.Option.{get_or_from_slice_get}
use Rattle.bit_laws.specs.Blast.{on_each, part_of, word}
use Rattle.bit_laws.specs.Gates.Gate.{buffer}
use Rattle.bit_blast.specs.Names.{lowest, names_of}
use Rattle.bit_blast.specs.declared.names.Word.TheVariants.{Part}
use Rattle.bit_blast.proofs.Joins.{part_names}
use Rattle.bit_blast.proofs.Places.{lowest_names}
use Rattle.bit_blast.proofs.Widths.{every_then, width_within}
use Rattle.bit_blast.proofs.cells.cut.Goals as goal

pub on_each-requires-clause-xs : goal.on_each-requires-clause-xs
on_each-requires-clause-xs c =
    let flat = c.args.flat.now in
    let f = c.requires.fits in
    omega (
      arith,
      f.0,
      f.2.1,
      get_or_from_slice_get flat.widths c.args.a.number f.2.0 0 f.2.2,
      width_within flat c.args.a.number c.requires.sound,
      c.width_of-width.ensures.width,
      get_or_from_slice_get flat.widths c.args.w.number (c.args.high - c.args.low + 1) 0 f.1,
    )

pub returns : goal.returns
returns c =
    let flat = c.args.flat.now in
    let w = c.args.w in
    let a = c.args.a in
    let high = c.args.high in
    let low = c.args.low in
    let n = c.width_of-width.result in
    let wide = c.width_of-width.ensures.width in
    let f = c.requires.fits in
    let count : n ≡ high - low + 1 = wide ∙ get_or_from_slice_get flat.widths w.number (high - low + 1) 0 f.1 in
    let within : high < slice_index flat.widths a.number = omega (arith, f.2.1, get_or_from_slice_get flat.widths a.number f.2.0 0 f.2.2) in
    every_then c.on_each.result flat c.args.nodes.now.items c.on_each.new.nodes.items
    (λ (flat : Flat). on_each buffer (names_of flat (Part w 0) n) (names_of flat (Part a low) n))
    (on_each buffer (word flat w.number) (part_of high low (word flat a.number)))
    (ap (λ (ws : List (List ℕ)). on_each buffer ws (names_of flat (Part a low) n))
    (lowest_names flat w n ∙ ap (λ (i : ℕ). lowest flat w.number i) wide)
    ∙ ap (λ (xs : List (List ℕ)). on_each buffer (word flat w.number) xs) (part_names flat a high low n f.0 within count))
    c.on_each.ensures
