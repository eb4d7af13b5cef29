use Rattle.std.specs.Prelude.{Option}
use Rattle.chw_terms.specs.TermTree.{TermTree}
use Rattle.rewriting.specs.Origins.{origins_of}
use Rattle.rewriting.specs.Spots.{spot_of}
use Rattle.seen_types.proofs.Matched.{ok_more}
use Rattle.rule_parts.specs.Kept.{KeepsTypes}
use Rattle.rule_parts.specs.Cores.{IsInstanceAnswer}
use Rattle.rules.proofs.trial.try_typed.Goals as goal

pub returns-clause-types : goal.returns-clause-types
returns-clause-types g c =
    let o = origins_of c.args.scene.now in
    let at = spot_of c.args.place.now in
    let r = c.args.rule in
    let e = c.args.at.now in
    ok_more c.made_of.result (IsInstanceAnswer o at r e) (KeepsTypes c.args.scene.now at e)
    (λ (answer : Option TermTree) is. c.answers_of_typed_terms.ensures.kept c.args.scene.now at r e answer c.requires.other is) c.made_of.ensures
