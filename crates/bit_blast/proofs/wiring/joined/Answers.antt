use Rattle.std.proofs.Common.{◌≡◌, ℕ, ◌+◌, ◌-◌, ◌<◌, List, length, drop, get_or, ap, sym, ◌∙◌, subst, arith}
use Rattle.std.specs.List.{flat_map}
use Rattle.std.proofs.lemmas.List.{drop_all}
use Rattle.chw_base.specs.declared.index.WireId.{WireId}
use Rattle.netlist.specs.Sound.{width_of_all}
use Rattle.bit_laws.specs.Blast.{on_each, word}
use Rattle.bit_laws.specs.Gates.Gate.{buffer}
use Rattle.bit_blast.specs.Adding.{Adds}
use Rattle.bit_blast.specs.Names.{lowest}
use Rattle.bit_blast.proofs.Adding.{nothing_added}
use Rattle.bit_blast.proofs.Joins.{joined_more, joins_more, last_more, width_of_last}
use Rattle.bit_blast.proofs.wiring.joined.Goals as goal

pub loop-i-init : goal.loop-i-init
loop-i-init c =
    let parts = c.args.parts.now in
    let none = drop_all (length parts - 0) parts (omega arith) in
    let flat = c.args.flat.now in
    record {
      wide = ap (λ (ps : List WireId). width_of_all flat.widths ps) (sym none);
      adds = subst (λ (ps : List WireId). Adds flat c.args.nodes.now.items c.args.nodes.now.items
          (on_each buffer (lowest flat c.args.w.number 0) (flat_map (λ (p : WireId). word flat p.number) ps))) (sym none)
          (nothing_added flat c.args.nodes.now.items);
    }

pub on_each-requires-clause-outs : goal.on_each-requires-clause-outs
on_each-requires-clause-outs c =
    let flat = c.args.flat.now in
    let parts = c.args.parts.now in
    let i = c.loop-i.i in
    let d : WireId = record { number = 0 } in
    let less : i < length parts = omega arith in
    let more = joined_more flat.widths parts i d c.loop-i.low c.width_of-width.result less c.loop-i.invariant.wide c.width_of-width.ensures.width in
    omega (arith, more, width_of_last flat.widths parts (length parts - (i + 1)), c.requires.within)

pub overflow_add-low : goal.overflow_add-low
overflow_add-low c =
    let flat = c.args.flat.now in
    let parts = c.args.parts.now in
    let i = c.loop-i.i in
    let d : WireId = record { number = 0 } in
    let less : i < length parts = omega arith in
    let more = joined_more flat.widths parts i d c.loop-i.low c.width_of-width.result less c.loop-i.invariant.wide c.width_of-width.ensures.width in
    omega (arith, more, width_of_last flat.widths parts (length parts - (i + 1)), c.requires.within)

pub loop-i-preserved : goal.loop-i-preserved
loop-i-preserved c =
    let flat = c.args.flat.now in
    let parts = c.args.parts.now in
    let i = c.loop-i.i in
    let d : WireId = record { number = 0 } in
    let less : i < length parts = omega arith in
    let part = get_or parts (length parts - 1 - i) d in
    let rest = drop (length parts - i) parts in
    let next = last_more parts i d less in
    let n = c.width_of-width.result in
    record {
      wide = joined_more flat.widths parts i d c.loop-i.low n less c.loop-i.invariant.wide c.width_of-width.ensures.width;
      adds = subst (λ (ps : List WireId). Adds flat c.args.nodes.now.items c.on_each.new.nodes.items
          (on_each buffer (lowest flat c.args.w.number (c.loop-i.low + n)) (flat_map (λ (p : WireId). word flat p.number) ps))) (sym next)
          (joins_more flat c.args.nodes.now.items c.loop-i.nodes.items c.on_each.new.nodes.items c.args.w part rest c.loop-i.low n
          c.width_of-width.ensures.width c.loop-i.invariant.wide c.loop-i.invariant.adds (c.in_ok-on_each.ensures flat));
    }

pub returns : goal.returns
returns c =
    let flat = c.args.flat.now in
    let parts = c.args.parts.now in
    let none : length parts - c.loop-i.i ≡ 0 = omega arith in
    let wide : c.loop-i.low ≡ width_of_all flat.widths parts =
    c.loop-i.invariant.wide ∙ ap (λ (k : ℕ). width_of_all flat.widths (drop k parts)) none in
    subst (λ (k : ℕ). Adds flat c.args.nodes.now.items c.loop-i.nodes.items
    (on_each buffer (lowest flat c.args.w.number k) (flat_map (λ (p : WireId). word flat p.number) parts))) wide
    (subst (λ (k : ℕ). Adds flat c.args.nodes.now.items c.loop-i.nodes.items
    (on_each buffer (lowest flat c.args.w.number c.loop-i.low) (flat_map (λ (p : WireId). word flat p.number) (drop k parts)))) none c.loop-i.invariant.adds)
