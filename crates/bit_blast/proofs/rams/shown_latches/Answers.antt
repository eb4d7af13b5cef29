use Rattle.std.proofs.Common.{◌≡◌, ◌≤◌, ℕ, false, replicate, arith, subst}
use Rattle.bit_laws.specs.Bitnet.{clock_of}
use Rattle.bit_laws.specs.Blast.{register_nodes}
use Rattle.bit_blast.specs.Adding.{Adds}
use Rattle.bit_blast.specs.Names.{lowest}
use Rattle.bit_blast.specs.Numbering.{spaced}
use Rattle.bit_blast.proofs.Adding.{nothing_added}
use Rattle.bit_blast.proofs.ByPlaces.{nth_below}
use Rattle.bit_blast.proofs.RamWords.{shown_more}
use Rattle.bit_blast.proofs.rams.shown_latches.Goals as goal

pub loop-place-init : goal.loop-place-init
loop-place-init c = λ flat. nothing_added flat c.args.nodes.now.items

pub at-requires : goal.at-requires
at-requires c =
    let le : c.loop-place.place ≤ c.args.width = omega arith in
    nth_below c.args.shown c.loop-place.place c.args.width le c.requires

pub loop-place-preserved : goal.loop-place-preserved
loop-place-preserved c = λ flat.
    shown_more flat c.args.nodes.now.items c.loop-place.nodes.items c.push.new.self.items c.args.w c.args.domain c.args.shown c.loop-place.place
    c.at.result (c.loop-place.invariant flat) c.in_ok-push.ensures.items c.at.ensures

pub returns : goal.returns
returns c = λ flat.
    let same : c.loop-place.place ≡ c.args.width = omega arith in
    subst (λ (n : ℕ). Adds flat c.args.nodes.now.items c.loop-place.nodes.items
    (register_nodes (clock_of flat.ports c.args.domain) (lowest flat c.args.w.number n) (spaced c.args.w.number c.args.shown n) (replicate n false))) same
    (c.loop-place.invariant flat)
