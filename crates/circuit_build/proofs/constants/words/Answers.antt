use Rattle.std.proofs.Common.{◌∙◌, subst, sym, arith}
use Rattle.net_built.specs.Circuits.{Ground}
use Rattle.net_built.specs.Memories.{HasBits}
use Rattle.net_ready.specs.Ready.{HasSomeBits}
use Rattle.circuit_build.specs.Constants.{AreWords}
use Rattle.circuit_build.proofs.ConstantBits.{words_grown, words_whole}
use Rattle.circuit_build.proofs.ConstantParts.{word_at}
use Rattle.circuit_build.proofs.constants.words.Goals as goal

pub constant_bits-requires : goal.constant_bits-requires
constant_bits-requires c = let e = c.element-item.result in
    let have = c.requires.words in
    record {
      bits = subst (λ (g : Ground). HasSomeBits g.datas c.args.t.now e) (sym c.loop-element.invariant.1)
          (word_at c.args.elements.now c.loop-element.element-index e have.words have.denote have.encode c.loop-element-test.true c.element-item.is);
    }

pub loop-element-preserved : goal.loop-element-preserved
loop-element-preserved c =
    let so = c.loop-element.invariant in
    let e = c.element-item.result in
    let bits = c.in_ok-constant_bits.field-0 in (
      words_grown c.args.base.now.datas c.args.t.now c.args.elements.now c.loop-element.element-index e bits c.loop-element.words.items c.push.new.self.items
          c.loop-element-test.true c.element-item.is
          (subst (λ (g : Ground). HasBits g.datas c.args.t.now e bits) so.1 c.in_ok-constant_bits.ensures.bits) c.in_ok-push.ensures.items so.0,
      c.constant_bits.ensures.same ∙ so.1,
    )

pub returns-clause-words : goal.returns-clause-words
returns-clause-words c =
    subst (AreWords c.args.base.now.datas c.args.t.now c.args.elements.now) (sym c.from.ensures)
    (words_whole c.args.base.now.datas c.args.t.now c.args.elements.now c.loop-element.element-index c.loop-element.words.items
    (omega (arith, c.loop-element-test.false)) c.loop-element.invariant.0)
