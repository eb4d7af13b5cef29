use Rattle.std.proofs.Common.{[], reverse, sym, subst, arith}
use Rattle.chw_types.specs.TypeTree.{TypeTree}
use Rattle.chw_typing.specs.Typing.{HasType}
use Rattle.rewriting.specs.Origins.{origins_of}
use Rattle.rewriting.specs.Spots.{spot_of}
use Rattle.rules.proofs.Looked.{one_more_at_most}
use Rattle.rules.proofs.Tried.{found, none_yet}
use Rattle.rules.proofs.first.first_rule.Goals as goal

pub tried-requires-clause-typed : goal.tried-requires-clause-typed
tried-requires-clause-typed g c =
    subst (λ s. (t : TypeTree) × HasType s [] (reverse c.args.place.now.vars) c.args.at.now t) (sym (c.settings_of_scenes.ensures.setting c.args.scene.now))
    c.requires.typed

pub loop-rule-init : goal.loop-rule-init
loop-rule-init g c =
    let scene = c.args.scene.now in
    record {
      none = none_yet (origins_of scene) (spot_of c.args.place.now) c.args.at.now;
      looks = omega arith;
    }

pub returns-in-Some : goal.returns-in-Some
returns-in-Some g c =
    let scene = c.args.scene.now in
    record {
      first =
          found scene.program.now scene.made.now (spot_of c.args.place.now) c.args.at.now c.in-Some.trial
          c.loop-rule.rule-index _ c.in_ok-trial.field-0 c.loop-rule-test.true c.loop-rule.invariant.none
          c.in-Some.is c.in_ok-trial.ensures.exact;
      looks = omega (
        arith,
        one_more_at_most _ _ _ c.loop-rule.rule-index c.in_ok-trial.ensures.one_look
            c.loop-rule.invariant.looks,
        c.loop-rule-test.true,
      );
    }
