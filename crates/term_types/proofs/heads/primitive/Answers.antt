use Rattle.std.proofs.Common.{◌≡◌, None, length, refl, sym, ap, ◌∙◌}
use Rattle.std.specs.Prelude.{reverse}
use Rattle.std.specs.List.{slice_get}
use Rattle.std.proofs.lemmas.Bool.{ltb-true, ltb-false}
use Rattle.std.proofs.lemmas.Option.{slice_get_read, slice_get_past, same_Some}
use Rattle.chw_prims.specs.Schemas.{schema_type}
use Rattle.chw_typing.specs.Scopes.{setting_in}
use Rattle.term_frames.specs.Signatures.{head_type}
use Rattle.term_frames.specs.declared.signature.HeadType.{HeadType}
use Rattle.term_types.proofs.HeadsSigned.{head_kinded, primitive_answered}
use Rattle.term_frames.proofs.Signed.{primitive_placed}
use Rattle.term_types.proofs.heads.primitive.Goals as goal

pub returns-in-Some : goal.returns-in-Some
returns-in-Some c =
    let p = c.args.scene.now.program.now in
    let s = setting_in c.args.scene.now in
    let n = c.place_in_all.result in
    let it = c.in-Some.it.now in
    let ty = schema_type c.args.which in
    let items = c.as_slice.result.now in
    let placed = primitive_placed p items n c.args.which (c.as_slice.ensures.value ∙ c.requires.table.primitives) c.place_in_all.ensures in
    let read = slice_get_read items (length items) n it refl (ltb-true _ _ (sym c.in-Some.ensures.lookup.0)) c.in-Some.ensures.lookup.1 in
    let is : it ≡ head_type p ty = same_Some it (head_type p ty) (sym read ∙ placed) in
    primitive_answered s (reverse c.args.kinds.now) c.args.vars.now.vars c.args.which it.ty c.found_head.result c.requires.ready.0 (ap (λ (t : HeadType). t.ty) is)
    (head_kinded s it.ty it.kind c.found_head.result (ap (λ (t : HeadType). t.kind) is ∙ ap (λ (t : HeadType). (head_type p t.ty).kind) (sym is)) c.found_head.ensures)

pub returns-in-None : goal.returns-in-None
returns-in-None c =
    let p = c.args.scene.now.program.now in
    let n = c.place_in_all.result in
    let items = c.as_slice.result.now in
    let placed = primitive_placed p items n c.args.which (c.as_slice.ensures.value ∙ c.requires.table.primitives) c.place_in_all.ensures in
    let read : slice_get items n ≡ None = slice_get_past items n (ltb-false _ _ (sym c.in-None.ensures.lookup.0)) in
    absurd (cc)
