use Rattle.std.proofs.Common.{Option, refl, subst, arith}
use Rattle.std.specs.Prelude.{MatchOption}
use Rattle.net_rules.specs.WellFormed.{EachRuleHolds, IsBrokenIn, no_module}
use Rattle.net_rules.specs.declared.well_formed.NetCode.{NetCode}
use Rattle.net_rules.proofs.EachItem.{item_at}
use Rattle.net_rules.proofs.FirstFault.{all_hold, earlier_more, few_modules, first_fault, no_items, some_item}
use Rattle.net_rules.proofs.well_formed.well_formed.Goals as goal

pub returns-then-is_empty-clause-fault : goal.returns-then-is_empty-clause-fault
returns-then-is_empty-clause-fault c =
    no_module _ (no_items c.as_slice-modules.result.now c.args.net.now.modules c.is_empty.result c.as_slice-modules.ensures c.is_empty.ensures c.if-is_empty.true) refl refl

pub returns-in-Some-clause-fault : goal.returns-in-Some-clause-fault
returns-in-Some-clause-fault c =
    let l = c.loop-m in
    let m = c.m-item.result in
    let here = item_at c.as_slice-modules.result.now c.args.net.now.modules l.m-index m _ c.as_slice-modules.ensures c.loop-m-test.true c.m-item.is in
    let told = subst (λ (r : Option NetCode). MatchOption r (EachRuleHolds c.args.net.now l.number m) (IsBrokenIn c.args.net.now l.number m)) c.in-Some.is c.in_ok-code.ensures in
    first_fault c.args.net.now l.m-index l.number m c.in-Some.code here l.invariant.number l.invariant.earlier told

pub loop-m-preserved : goal.loop-m-preserved
loop-m-preserved c =
    let l = c.loop-m in
    let m = c.m-item.result in
    let here = item_at c.as_slice-modules.result.now c.args.net.now.modules l.m-index m _ c.as_slice-modules.ensures c.loop-m-test.true c.m-item.is in
    let told = subst (λ (r : Option NetCode). MatchOption r (EachRuleHolds c.args.net.now l.number m) (IsBrokenIn c.args.net.now l.number m)) c.in-None.is c.in_ok-code.ensures in
    let rules = subst (λ n. EachRuleHolds c.args.net.now n m) l.invariant.number told in
    record {
      number = omega (arith, l.invariant.number);
      earlier = earlier_more c.args.net.now l.m-index m here l.invariant.earlier rules;
      few = λ _. few_modules c.args.net.now l.m-index m rules l.invariant.few;
    }

pub returns-clause-well_formed : goal.returns-clause-well_formed
returns-clause-well_formed c =
    let some = some_item c.as_slice-modules.result.now c.args.net.now.modules c.is_empty.result c.as_slice-modules.ensures c.is_empty.ensures c.if-is_empty.false in
    all_hold c.args.net.now c.as_slice-modules.result.now c.loop-m.m-index c.as_slice-modules.ensures some c.loop-m-test.false c.loop-m.invariant.earlier
