use Rattle.std.proofs.Common.{IfSome, IfNone, [], sym, subst}
use Rattle.chw_types.specs.TypeTree.{TypeTree}
use Rattle.chw_typing.specs.Scopes.{setting_in}
use Rattle.chw_typing.specs.Typing.{HasType}
use Rattle.normal_forms.specs.Blocked.{Passes}
use Rattle.rewriting.specs.Origins.{origins_of, setting_at}
use Rattle.rewriting.specs.Spots.{spot_of}
use Rattle.term_types.specs.Answers.{HasNoType}
use Rattle.chw_typing.specs.Finding.{Finds}
use Rattle.blocked_places.specs.Firsts.{FindsOf}
use Rattle.blocked_places.proofs.Results.{ok_more}
use Rattle.blocked_places.proofs.Turns.{type_passes}
use Rattle.blocked_places.proofs.limits.type_limit.Goals as goal

pub returns-in_default-clause-limit : goal.returns-in_default-clause-limit
returns-in_default-clause-limit c l p =
    let scene = c.args.scene.now in
    let s = setting_in scene in
    let o = origins_of scene in
    let at = spot_of c.args.place.now in
    let e = c.args.at.now in
    let none : HasNoType s [] at.vars e = subst (λ r. IfNone r (HasNoType s [] at.vars e)) c.in_default.is c.in_ok-ty.ensures.none in
    let has : HasType (setting_at o) [] at.vars e p.0 = c.found_is_type.ensures (setting_at o) [] at.vars e p.0 p.1 in
    none p.0 (subst (λ z. HasType z [] at.vars e p.0) (c.settings_of_scenes.ensures.setting scene) has)

pub returns-clause-limit : goal.returns-clause-limit
returns-clause-limit c =
    let scene = c.args.scene.now in
    let s = setting_in scene in
    let o = origins_of scene in
    let at = spot_of c.args.place.now in
    let e = c.args.at.now in
    let t = c.in-Some.ty in
    let setting = sym (c.settings_of_scenes.ensures.setting scene) in
    let found : Finds s [] at.vars e t = subst (λ r. IfSome r (λ t. Finds s [] at.vars e t)) c.in-Some.is c.in_ok-ty.ensures.some in
    let here : Finds (setting_at o) [] at.vars e t = subst (λ z. Finds z [] at.vars e t) setting found in
    ok_more c.passed.result _ _
    (λ answer h. type_passes c.one_found.ensures o at e t answer here
    (subst (λ datas. FindsOf TypeTree (Passes datas) t answer) c.requires.widths h))
    c.passed.ensures.limit
