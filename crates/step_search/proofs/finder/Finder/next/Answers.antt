use Rattle.std.proofs.Common.{refl, subst}
use Rattle.std.specs.List.{each_same}
use Rattle.trials.specs.Trials.{built}
use Rattle.step_search.specs.FoundSteps.{FindsNext}
use Rattle.step_search.proofs.Stands.{first_of_all}
use Rattle.step_search.proofs.finder.Finder.next.Goals as goal

pub returns-in_err-found-clause-looks : goal.returns-in_err-found-clause-looks
returns-in_err-found-clause-looks g c = c.next_from.ensures.looks

pub returns-in_default : goal.returns-in_default
returns-in_default g c =
    let p = c.args.scene.now.program.now in
    let made = c.args.scene.now.made.now in
    record {
      first =
          subst (FindsNext built p made) c.in_default.is
          (first_of_all p made c.args.self.now c.in_ok-found.field-0 c.requires.suits
          c.in_ok-found.ensures.first);
      moves = refl;
      looks = c.next_from.ensures.looks;
    }

pub returns-in_err-path-clause-looks : goal.returns-in_err-path-clause-looks
returns-in_err-path-clause-looks g c = c.next_from.ensures.looks

pub returns : goal.returns
returns g c =
    let p = c.args.scene.now.program.now in
    let made = c.args.scene.now.made.now in
    let f = c.in-Some.found in
    record {
      first =
          subst (FindsNext built p made) c.in-Some.is
          (first_of_all p made c.args.self.now c.in_ok-found.field-0 c.requires.suits
          c.in_ok-found.ensures.first);
      moves =
          (refl, each_same f.at.path.items c.in_ok-path.path.items c.in_ok-path.ensures.cases.0);
      looks = c.next_from.ensures.looks;
    }
