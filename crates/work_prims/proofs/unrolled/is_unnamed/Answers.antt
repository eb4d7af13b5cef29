use Rattle.std.proofs.Common.{◌↔◌, IfSome, IsTrue, subst}
use Rattle.std.specs.Prelude.{[]}
use Rattle.chw_typing.specs.Scopes.{setting_in}
use Rattle.chw_typing.specs.Finding.{Finds}
use Rattle.rewriting.specs.Named.{IsNamed}
use Rattle.rewriting.specs.Origins.{origins_of}
use Rattle.rewriting.specs.Spots.{spot_of}
use Rattle.work_prims.proofs.WrittenOut.{unnamed_is}
use Rattle.work_prims.proofs.unrolled.is_unnamed.Goals as goal

pub returns : goal.returns
returns c =
    let scene = c.args.scene.now in
    let place = c.args.place.now in
    let s = setting_in scene in
    let e = c.args.vector.now in
    let t = c.in-Some.ty in
    let named = c.in_ok-named.field-0 in
    let here : Finds s [] (spot_of place).vars e t = subst (λ r. IfSome r (λ t. Finds s [] (spot_of place).vars e t)) c.in-Some.is c.in_ok-ty.ensures.some in
    let is : IsTrue named ↔ IsNamed s.datas place.mode t = subst (λ datas. IsTrue named ↔ IsNamed datas place.mode t) c.as_slice.ensures c.in_ok-named.ensures in
    unnamed_is (origins_of scene) (spot_of place) s e t named c.found_is_type.ensures c.one_type.ensures c.types_are_term_types.ensures c.names_of_modes.ensures.kept (c.settings_of_scenes.ensures.setting scene) c.requires.ready here c.in_default.not-K is
