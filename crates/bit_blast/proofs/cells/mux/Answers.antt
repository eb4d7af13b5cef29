use Rattle.std.proofs.Common.{ℕ, List, ap, ◌∙◌}
use Rattle.netlist.specs.declared.net.Flat.{Flat}
use Rattle.bit_laws.specs.Blast.{choices_by, word}
use Rattle.bit_blast.specs.Names.{lowest}
use Rattle.bit_blast.proofs.Places.{lowest_all}
use Rattle.bit_blast.proofs.Widths.{as_wide, every_then, words_of}
use Rattle.bit_blast.proofs.cells.mux.Goals as goal

pub returns : goal.returns
returns c =
    let flat = c.args.flat.now in
    let w = c.args.w in
    let k = c.args.c in
    let a = c.args.a in
    let b = c.args.b in
    let n = c.width_of-width.result in
    let wide = c.width_of-width.ensures.width in
    let f = c.requires.fits in
    every_then c.choices.result flat c.args.nodes.now.items c.choices.new.nodes.items
    (λ (flat : Flat). choices_by (lowest flat k.number 1) (lowest flat w.number n) (lowest flat a.number n) (lowest flat b.number n))
    (choices_by (word flat k.number) (word flat w.number) (word flat a.number) (word flat b.number))
    (words_of flat (λ ws xs ys. choices_by (lowest flat k.number 1) ws xs ys) w.number a.number b.number n n n wide
    (wide ∙ as_wide flat w.number a.number f.1.0 f.1.1 f.1.2) (wide ∙ as_wide flat w.number b.number f.1.0 f.1.1 f.1.3)
    ∙ ap (λ (cs : List (List ℕ)). choices_by cs (word flat w.number) (word flat a.number) (word flat b.number)) (lowest_all flat k.number 1 f.0))
    c.choices.ensures
