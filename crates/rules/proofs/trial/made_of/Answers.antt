use Rattle.std.specs.Prelude.{Option}
use Rattle.std.proofs.Common.{sym, subst}
use Rattle.chw_terms.specs.declared.rule.Rule.TheVariants.{Anf}
use Rattle.chw_terms.specs.TermTree.{TermTree}
use Rattle.rewriting.specs.Origins.{origins_of}
use Rattle.rewriting.specs.Spots.{spot_of}
use Rattle.seen_types.proofs.Matched.{ok_more}
use Rattle.rule_parts.specs.Cores.{IsInstanceAnswer}
use Rattle.work_operands.specs.Firsts.{AnswersWhole}
use Rattle.rules.proofs.Cored.{of_cores}
use Rattle.rules.proofs.Wholes.{are_instances}
use Rattle.rules.proofs.trial.made_of.Goals as goal

pub returns-in-Anf : goal.returns-in-Anf
returns-in-Anf c =
    let o = origins_of c.args.scene.now in
    let at = spot_of c.args.place.now in
    let e = c.args.at.now in
    ok_more c.try_operands.result (AnswersWhole o at Anf e) (IsInstanceAnswer o at c.args.rule e)
    (λ (answer : Option TermTree) a. subst (λ r. IsInstanceAnswer o at r e answer) (sym c.in-Anf.is) (are_instances o at Anf e answer c.requires.typed a))
    c.try_operands.ensures

pub made_of_core-requires-clause-core : goal.made_of_core-requires-clause-core
made_of_core-requires-clause-core c = of_cores c.args.rule c.requires.other c.in_default.not-Anf
