use Rattle.std.proofs.Common.{IfOk, IfSome, IfNone, sym, subst, [], reverse}
use Rattle.chw_typing.specs.Finding.{Finds}
use Rattle.term_types.specs.Answers.{HasNoType}
use Rattle.specialise.proofs.lifted.type_at.Goals as goal

pub returns-clause-some : goal.returns-clause-some
returns-clause-some c =
    let e = c.args.term.now in
    subst (λ s. IfOk c.type_in_scope.result (λ r. IfSome r (λ t. Finds s [] (reverse c.args.place.now.vars) e t))) (sym (c.settings_of_scenes.ensures.setting c.args.scene.now)) c.type_in_scope.ensures.some

pub returns-clause-none : goal.returns-clause-none
returns-clause-none c =
    let e = c.args.term.now in
    subst (λ s. IfOk c.type_in_scope.result (λ r. IfNone r (HasNoType s [] (reverse c.args.place.now.vars) e))) (sym (c.settings_of_scenes.ensures.setting c.args.scene.now)) c.type_in_scope.ensures.none
