use Rattle.std.proofs.Common.{ℕ, List, ap, ◌∙◌}
use Rattle.netlist.specs.declared.net.Flat.{Flat}
use Rattle.bit_laws.specs.Blast.{on_each, reduction, word}
use Rattle.bit_laws.specs.Gates.Gate.{both, differing, either, inverse}
use Rattle.bit_blast.specs.Names.{lowest, names_of}
use Rattle.bit_blast.specs.declared.names.Word.TheVariants.{Part}
use Rattle.bit_blast.proofs.Places.{lowest_all}
use Rattle.bit_blast.proofs.Widths.{as_wide, each_words, every_then}
use Rattle.bit_blast.proofs.operations.unary.Goals as goal

pub returns-in-Not : goal.returns-in-Not
returns-in-Not c =
    let flat = c.args.flat.now in
    let w = c.args.w in
    let a = c.args.a in
    let n = c.width_of-width.result in
    let f = rw c.in-Not.is at c.requires.fits in
    rw c.in-Not.is
    (every_then c.on_each.result flat c.args.nodes.now.items c.on_each.new.nodes.items
    (λ (flat : Flat). on_each inverse (names_of flat (Part w 0) n) (names_of flat (Part a 0) n))
    (on_each inverse (word flat w.number) (word flat a.number))
    (each_words flat inverse w a n (c.width_of-width.ensures.width ∙ as_wide flat a.number w.number f.0 f.2 f.1) c.width_of-width.ensures.width)
    c.on_each.ensures)

pub reduction-requires : goal.reduction-requires
reduction-requires c =
    let f = rw c.in-RedAnd.is at c.requires.fits in
    c.width_of-width.ensures.some f.1

pub returns-in-RedAnd : goal.returns-in-RedAnd
returns-in-RedAnd c =
    let flat = c.args.flat.now in
    let w = c.args.w in
    let a = c.args.a in
    let n = c.width_of-width.result in
    let f = rw c.in-RedAnd.is at c.requires.fits in
    rw c.in-RedAnd.is
    (every_then c.reduction.result flat c.args.nodes.now.items c.reduction.new.nodes.items
    (λ (flat : Flat). reduction both w.number (lowest flat w.number 1) (lowest flat a.number n))
    (reduction both w.number (word flat w.number) (word flat a.number))
    (ap (λ (ws : List (List ℕ)). reduction both w.number ws (lowest flat a.number n)) (lowest_all flat w.number 1 f.0)
    ∙ ap (λ (i : ℕ). reduction both w.number (word flat w.number) (lowest flat a.number i)) c.width_of-width.ensures.width)
    c.reduction.ensures)

pub reduction-requires-in-RedOr : goal.reduction-requires-in-RedOr
reduction-requires-in-RedOr c =
    let f = rw c.in-RedOr.is at c.requires.fits in
    c.width_of-width.ensures.some f.1

pub returns-in-RedOr : goal.returns-in-RedOr
returns-in-RedOr c =
    let flat = c.args.flat.now in
    let w = c.args.w in
    let a = c.args.a in
    let n = c.width_of-width.result in
    let f = rw c.in-RedOr.is at c.requires.fits in
    rw c.in-RedOr.is
    (every_then c.reduction-in-RedOr.result flat c.args.nodes.now.items c.reduction-in-RedOr.new.nodes.items
    (λ (flat : Flat). reduction either w.number (lowest flat w.number 1) (lowest flat a.number n))
    (reduction either w.number (word flat w.number) (word flat a.number))
    (ap (λ (ws : List (List ℕ)). reduction either w.number ws (lowest flat a.number n)) (lowest_all flat w.number 1 f.0)
    ∙ ap (λ (i : ℕ). reduction either w.number (word flat w.number) (lowest flat a.number i)) c.width_of-width.ensures.width)
    c.reduction-in-RedOr.ensures)

pub reduction-requires-in-RedXor : goal.reduction-requires-in-RedXor
reduction-requires-in-RedXor c =
    let f = rw c.in-RedXor.is at c.requires.fits in
    c.width_of-width.ensures.some f.1

pub returns-in-RedXor : goal.returns-in-RedXor
returns-in-RedXor c =
    let flat = c.args.flat.now in
    let w = c.args.w in
    let a = c.args.a in
    let n = c.width_of-width.result in
    let f = rw c.in-RedXor.is at c.requires.fits in
    rw c.in-RedXor.is
    (every_then c.reduction-in-RedXor.result flat c.args.nodes.now.items c.reduction-in-RedXor.new.nodes.items
    (λ (flat : Flat). reduction differing w.number (lowest flat w.number 1) (lowest flat a.number n))
    (reduction differing w.number (word flat w.number) (word flat a.number))
    (ap (λ (ws : List (List ℕ)). reduction differing w.number ws (lowest flat a.number n)) (lowest_all flat w.number 1 f.0)
    ∙ ap (λ (i : ℕ). reduction differing w.number (word flat w.number) (lowest flat a.number i)) c.width_of-width.ensures.width)
    c.reduction-in-RedXor.ensures)
