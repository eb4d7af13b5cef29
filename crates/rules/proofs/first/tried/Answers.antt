use Rattle.std.proofs.Common.{sym, subst}
use Rattle.chw_terms.specs.declared.rule.Rule.TheVariants.{Flat, Spec}
use Rattle.rewriting.specs.Spots.{spot_of}
use Rattle.specialise.specs.Special.{AnswersSpecial}
use Rattle.rules.specs.Tried.{AnswersRule}
use Rattle.rules.proofs.Tried.{of_joined, of_plain, of_special}
use Rattle.rules.proofs.first.tried.Goals as goal

pub returns-in-Spec-clause-exact : goal.returns-in-Spec-clause-exact
returns-in-Spec-clause-exact g c =
    let p = c.args.scene.now.program.now in
    let made = c.args.scene.now.made.now in
    let at = spot_of c.args.place.now in
    let e = c.args.at.now in
    let special : AnswersSpecial p made at e c.in_ok-found.found =
    subst (λ ms. AnswersSpecial p ms at e c.in_ok-found.found) (sym c.requires.same)
    c.in_ok-found.ensures.special in
    subst (λ r. AnswersRule p made at r e c.special_trial.result) (sym c.in-Spec.is)
    (subst (AnswersRule p made at Spec e) (sym c.special_trial.ensures)
    (of_special p made at e c.in_ok-found.found special))

pub returns-in-Flat-clause-exact : goal.returns-in-Flat-clause-exact
returns-in-Flat-clause-exact g c =
    let p = c.args.scene.now.program.now in
    let made = c.args.scene.now.made.now in
    let at = spot_of c.args.place.now in
    let e = c.args.at.now in
    subst (λ r. AnswersRule p made at r e c.joined_trial.result) (sym c.in-Flat.is)
    (subst (AnswersRule p made at Flat e) (sym c.joined_trial.ensures)
    (of_joined p made at e c.joins_typed.result c.joins_typed.ensures.exact))

pub returns-clause-exact : goal.returns-clause-exact
returns-clause-exact g c =
    let scene = c.args.scene.now in
    subst (AnswersRule scene.program.now scene.made.now (spot_of c.args.place.now) c.args.rule c.args.at.now)
    (sym c.put_trial.ensures)
    (of_plain scene.program.now scene.made.now (spot_of c.args.place.now) c.args.rule c.args.at.now
    c.in_ok-found-2.found c.in_default.not-Spec c.in_ok-found-2.ensures.exact)
