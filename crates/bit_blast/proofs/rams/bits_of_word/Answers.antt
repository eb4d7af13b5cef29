use Rattle.std.proofs.Common.{◌≡◌, ◌≤◌, ◌+◌, ◌*◌, ℕ, sym, arith, subst}
use Rattle.bit_laws.specs.BitNames.{bit_name, further}
use Rattle.bit_laws.specs.Bitnet.{clock_of}
use Rattle.bit_blast.specs.Adding.{Adds}
use Rattle.bit_blast.specs.Latches.{kept_bit}
use Rattle.bit_blast.proofs.Adding.{added_as, nothing_added}
use Rattle.bit_blast.proofs.ByPlaces.{nth_below}
use Rattle.bit_blast.proofs.RamWords.{word_all, word_more}
use Rattle.bit_blast.proofs.rams.bits_of_word.Goals as goal

pub loop-place-init : goal.loop-place-init
loop-place-init c = λ flat. nothing_added flat c.args.nodes.now.items

pub at-requires : goal.at-requires
at-requires c =
    let le : c.loop-place.place ≤ c.args.memory.width = omega arith in
    nth_below c.args.shown c.loop-place.place c.args.memory.width le c.requires.shown

pub loop-place-preserved : goal.loop-place-preserved
loop-place-preserved c = λ flat.
    let k = c.args.memory.wire.number in
    let a = c.args.memory.inputs.value.number in
    let x = c.args.x in
    let j = c.loop-place.place in
    let bit = c.at-bit.result in
    word_more flat c.args.nodes.now.items c.loop-place.nodes.items c.one_bit.new.nodes.items k x a c.args.memory.domain c.args.shown c.args.bits.now
    c.args.memory.width j bit (sym c.requires.wide) c.loop-place-test.true (c.loop-place.invariant flat)
    (subst (λ (n : ℕ). Adds flat c.loop-place.nodes.items c.one_bit.new.nodes.items
    (kept_bit k x (x + (3 * j + 2)) (clock_of flat.ports c.args.memory.domain) (further k n) (bit_name flat.ports a j) bit)) c.at.ensures
    (c.in_ok-one_bit.ensures flat))
    c.at-bit.ensures

pub returns : goal.returns
returns c = λ flat.
    let same : c.loop-place.place ≡ c.args.memory.width = omega arith in
    added_as flat c.args.nodes.now.items c.loop-place.nodes.items _ _
    (word_all flat c.args.memory.wire.number c.args.x c.args.memory.inputs.value.number c.args.memory.domain c.args.shown c.args.bits.now
    c.args.memory.width c.loop-place.place same) (c.loop-place.invariant flat)
