use Rattle.std.proofs.Common.{◌∙◌, ◌-◌, ap, sym, subst, arith}
use Rattle.chw_terms.specs.declared.term.Alt.{Alt}
use Rattle.chw_terms.specs.TermView.{alts_of}
use Rattle.net_built.specs.Data.{word_of, words_of}
use Rattle.value_build.specs.ReadyParts.{IsPattern}
use Rattle.value_build.specs.Tests.{first_of}
use Rattle.value_build.proofs.Patterns.{words_grown, words_whole}
use Rattle.value_build.proofs.Ready.{alt_at}
use Rattle.value_build.proofs.cases.words.Goals as goal

pub loop-i-preserved : goal.loop-i-preserved
loop-i-preserved c =
    let first = first_of c.args.base.now.datas c.args.ty.now in
    words_grown c.args.bits first c.args.alts.now c.loop-i.i c.index-alts-i.result c.in_ok-word.field-0 c.loop-i.words.items c.push.new.self.items
    (words_of c.args.bits first (alts_of c.args.alts.now)) (omega (arith, c.loop-i.auto.i)) c.loop-i-test.true c.index-alts-i.is
    (c.in_ok-word.ensures ∙ ap (λ (a : Alt). word_of c.args.bits first a.pattern) (sym c.index-alts-i.is)) c.in_ok-push.ensures.items c.loop-i.invariant

pub returns : goal.returns
returns c =
    let first = first_of c.args.base.now.datas c.args.ty.now in
    words_whole c.args.bits first c.args.alts.now c.loop-i.i c.loop-i.words.items (words_of c.args.bits first (alts_of c.args.alts.now))
    (omega (arith, c.loop-i-test.false)) c.loop-i.invariant

pub word-requires : goal.word-requires
word-requires c =
    let it = alt_at c.args.alts.now (c.loop-i.i - 1) c.index-alts-i.result c.requires.1 (omega (arith, c.loop-i-test.true)) c.index-alts-i.is in
    subst (λ (a : Alt). IsPattern c.args.base.now.datas c.args.ty.now a.pattern) c.index-alts-i.is (it.pattern.fields, it.pattern.binds)
