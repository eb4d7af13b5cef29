use Rattle.std.proofs.Common.{[], List, take, refl, sym, ◌∙◌, subst, arith}
use Rattle.std.proofs.lemmas.Bool.{false≢true}
use Rattle.std.proofs.lemmas.List.{take_all}
use Rattle.blif_text.specs.BlifText.{EachIs, HasLength}
use Rattle.blif_read.specs.Shown.{all_said, statement_of}
use Rattle.blif_read.specs.declared.statement.Said.{Said as ReadSaid}
use Rattle.blif_read.proofs.Ruling.{each_next, first_without, length_kept, length_right, width_next}
use Rattle.blif_read.proofs.lengths.length_fault.Goals as goal

pub returns-then-not-has_width-clause-some : goal.returns-then-not-has_width-clause-some
returns-then-not-has_width-clause-some c =
    let l = c.loop-it in
    let earlier = all_said (take l.it-index c.args.all.now) in
    let it = c.it-item.result in
    first_without HasLength c.args.all.now l.it-index it _ c.loop-it-test.true c.it-item.is l.invariant.each
    (λ right. false≢true (sym c.if-not-has_width.true ∙ c.has_width.ensures.1 (length_kept earlier l.width (statement_of it.says) l.invariant.width right)))

pub loop-it-preserved : goal.loop-it-preserved
loop-it-preserved c =
    let l = c.loop-it in
    let earlier = all_said (take l.it-index c.args.all.now) in
    let it = c.it-item.result in
    record {
      width = width_next c.args.all.now l.it-index it _ l.width _ c.loop-it-test.true c.it-item.is l.invariant.width c.width_with-width.ensures;
      each = each_next HasLength c.args.all.now l.it-index it _ c.loop-it-test.true c.it-item.is l.invariant.each
          (length_right earlier l.width (statement_of it.says) l.invariant.width (c.has_width.ensures.0 c.if-not-has_width.false));
    }

pub returns-clause-none : goal.returns-clause-none
returns-clause-none c =
    let l = c.loop-it in
    subst (λ (xs : List ReadSaid). EachIs HasLength [] (all_said xs)) (take_all l.it-index c.args.all.now (omega (arith, c.loop-it-test.false))) l.invariant.each
