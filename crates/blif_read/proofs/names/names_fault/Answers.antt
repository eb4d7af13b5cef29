use Rattle.std.proofs.Common.{◌≡◌, [], List, take, sym, ◌∙◌, subst, arith}
use Rattle.std.proofs.lemmas.Bool.{false≢true}
use Rattle.std.proofs.lemmas.List.{take_all}
use Rattle.name_tables.specs.Names.{AreDistinct}
use Rattle.blif_text.specs.BlifText.{EachIs, HasNames}
use Rattle.blif_read.specs.Shown.{all_said, statement_of}
use Rattle.blif_read.specs.declared.statement.Said.{Said as ReadSaid}
use Rattle.blif_read.proofs.Ruling.{driven_next, each_next, first_without, names_kept, names_right}
use Rattle.blif_read.proofs.names.names_fault.Goals as goal

pub loop-it-init : goal.loop-it-init
loop-it-init c = record {
  driven = c.new-driven.ensures;
  each = tt;
  distinct = subst AreDistinct (sym c.new-driven.ensures) tt;
}

pub returns-then-not-branch-clause-some : goal.returns-then-not-branch-clause-some
returns-then-not-branch-clause-some c =
    let l = c.loop-it in
    let all = all_said c.args.all.now in
    let earlier = all_said (take l.it-index c.args.all.now) in
    let it = c.it-item.result in
    first_without (HasNames all) c.args.all.now l.it-index it _ c.loop-it-test.true c.it-item.is l.invariant.each
    (λ right. false≢true (sym c.if-not-branch.true
    ∙ c.in_ok-keeps_names.ensures.keeps.1
    (names_kept all earlier c.in_ok-names.names l.driven (statement_of it.says) c.in_ok-names.ensures.inputs c.in_ok-names.ensures.given l.invariant.driven right)))

pub loop-it-preserved : goal.loop-it-preserved
loop-it-preserved c =
    let l = c.loop-it in
    let all = all_said c.args.all.now in
    let earlier = all_said (take l.it-index c.args.all.now) in
    let it = c.it-item.result in
    let names = c.in_ok-keeps_names.ensures.names c.if-not-branch.false in
    let keeps = c.in_ok-keeps_names.ensures.keeps.0 c.if-not-branch.false in
    record {
      driven = driven_next c.args.all.now l.it-index it _ l.driven c.keeps_names.new.driven c.loop-it-test.true c.it-item.is l.invariant.driven names;
      each = each_next (HasNames all) c.args.all.now l.it-index it _ c.loop-it-test.true c.it-item.is l.invariant.each
          (names_right all earlier c.in_ok-names.names l.driven (statement_of it.says) c.in_ok-names.ensures.inputs c.in_ok-names.ensures.given l.invariant.driven keeps);
      distinct = subst AreDistinct (sym names) keeps.once;
    }

pub returns-clause-none : goal.returns-clause-none
returns-clause-none c =
    let l = c.loop-it in
    subst (λ (xs : List ReadSaid). EachIs (HasNames (all_said c.args.all.now)) [] (all_said xs)) (take_all l.it-index c.args.all.now (omega (arith, c.loop-it-test.false)))
    l.invariant.each
