use Rattle.std.proofs.Common.{◌↔◌, IfSome, IsTrue, [], sym, subst}
use Rattle.chw_types.specs.TypeTree.{TypeTree}
use Rattle.chw_typing.specs.Scopes.{setting_in}
use Rattle.chw_typing.specs.Typing.{HasType}
use Rattle.chw_typing.specs.Finding.{Finds}
use Rattle.rewriting.specs.Named.{IsNamed}
use Rattle.rewriting.specs.Origins.{origins_of, setting_at}
use Rattle.rewriting.specs.Spots.{spot_of}
use Rattle.term_types.specs.Answers.{IsReady}
use Rattle.flow_demanded.proofs.Unnamed.{each_named, decided}
use Rattle.flow_demanded.proofs.demands.is_unnamed.Goals as goal

pub returns : goal.returns
returns c =
    let s = setting_in c.args.scene.now in
    let o = origins_of c.args.scene.now in
    let at = spot_of c.args.place.now in
    let a = c.args.term.now in
    let t = c.in-Some.ty in
    let is = c.in_ok-is_named.field-0 in
    let setting = sym (c.settings_of_scenes.ensures.setting c.args.scene.now) in
    let found : Finds s [] at.vars a t = subst (λ r. IfSome r (λ t. Finds s [] at.vars a t)) c.in-Some.is c.in_ok-ty.ensures.some in
    let here : Finds (setting_at o) [] at.vars a t = subst (λ s. Finds s [] at.vars a t) setting found in
    let has : HasType (setting_at o) [] at.vars a t = c.found_is_type.ensures (setting_at o) [] at.vars a t here in
    let ready : IsReady (setting_at o) [] at.vars = subst (λ s. IsReady s [] at.vars) setting c.requires.ready in
    let named : IsTrue is ↔ IsNamed o.program.datas at.mode t = subst (λ datas. IsTrue is ↔ IsNamed datas at.mode t) c.as_slice-datas.ensures c.in_ok-is_named.ensures in
    let all : (u : TypeTree) → HasType (setting_at o) [] at.vars a u → IsNamed o.program.datas at.mode t → IsNamed o.program.datas at.mode u = λ u h n.
    each_named c.one_type.ensures c.types_are_term_types.ensures c.names_of_modes.ensures.kept (setting_at o) at.vars at.mode a t u ready has h n in
    decided o at a t is c.in_default.not-K has all named
