use Rattle.std.proofs.Common.{◌≡◌, Some, None, length, refl, sym, ap, ◌∙◌}
use Rattle.std.specs.Prelude.{reverse}
use Rattle.std.specs.List.{slice_get}
use Rattle.std.proofs.lemmas.Bool.{ltb-true, ltb-false}
use Rattle.std.proofs.lemmas.Option.{slice_get_read, slice_get_past}
use Rattle.chw_typing.proofs.Lists.{found_in_map}
use Rattle.chw_typing.specs.Scopes.{setting_in}
use Rattle.term_types.proofs.Plain.{made_told, made_missing, missing_in_map}
use Rattle.term_types.proofs.heads.made_definition.Goals as goal

pub returns-in-Some : goal.returns-in-Some
returns-in-Some c =
    let n = c.args.at.number in
    let items = c.args.scene.now.made.now in
    let read : slice_get items n ≡ Some c.in-Some.it.now = slice_get_read c.args.scene.now.made.now (length c.args.scene.now.made.now) n c.in-Some.it.now refl (ltb-true _ _ (sym c.in-Some.ensures.lookup.0)) c.in-Some.ensures.lookup.1 in
    let at = found_in_map (λ d. d.ty) items n c.in-Some.it.now read ∙ ap Some (sym c.written.ensures) in
    made_told (setting_in c.args.scene.now) (reverse c.args.kinds.now) c.args.vars.now.vars n c.written.result c.with_kind.result c.requires.0 at c.with_kind.ensures

pub returns-in-None : goal.returns-in-None
returns-in-None c =
    let n = c.args.at.number in
    let items = c.args.scene.now.made.now in
    let read : slice_get items n ≡ None = slice_get_past c.args.scene.now.made.now n (ltb-false _ _ (sym c.in-None.ensures.lookup.0)) in
    made_missing n (missing_in_map (λ d. d.ty) items n read)
