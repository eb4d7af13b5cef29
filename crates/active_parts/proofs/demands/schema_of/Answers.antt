use Rattle.std.proofs.Common.{◌≡◌, ◌∙◌, None, length, refl, sym, ap, slice_get}
use Rattle.std.proofs.lemmas.Bool.{ltb-true, ltb-false}
use Rattle.std.proofs.lemmas.Option.{slice_get_read, slice_get_past, same_Some}
use Rattle.chw_prims.specs.Schemas.{schema_type}
use Rattle.term_frames.specs.Signatures.{head_type}
use Rattle.term_frames.specs.declared.signature.HeadType.{HeadType}
use Rattle.term_frames.proofs.Signed.{primitive_placed}
use Rattle.active_parts.proofs.demands.schema_of.Goals as goal

pub unreachable-requires : goal.unreachable-requires
unreachable-requires c =
    let items = c.as_slice.result.now in
    let n = c.place_in_all.result in
    let all = c.as_slice.ensures.value ∙ c.requires.1.primitives in
    let placed = primitive_placed c.requires.0 items n c.args.which all c.place_in_all.ensures in
    let read : slice_get items n ≡ None = slice_get_past items n (ltb-false _ _ (sym c.in_default.ensures.lookup.0)) in
    absurd cc

pub returns : goal.returns
returns c =
    let p = c.requires.0 in
    let items = c.as_slice.result.now in
    let n = c.place_in_all.result in
    let it = c.in-Some.it.now in
    let ty = schema_type c.args.which in
    let all = c.as_slice.ensures.value ∙ c.requires.1.primitives in
    let placed = primitive_placed p items n c.args.which all c.place_in_all.ensures in
    let found = c.in-Some.ensures.lookup in
    let read = slice_get_read items (length items) n it refl (ltb-true _ _ (sym found.0)) found.1 in
    let is : it ≡ head_type p ty = same_Some it (head_type p ty) (sym read ∙ placed) in
    ap (λ (t : HeadType). t.ty) is
