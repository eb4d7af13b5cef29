use Rattle.std.proofs.Common.{◌≡◌, ◌+◌, [], ◌∷◌, ◌++◌, length, take, Some, sym, ap, subst, ◌∙◌, arith}
use Rattle.std.specs.List.{slice_get}
use Rattle.std.proofs.lemmas.List.{map-append, take_all, take_more}
use Rattle.std.proofs.lemmas.Result.{on_ok_weaker}
use Rattle.chw_types.specs.declared.declarations.Data.{Data}
use Rattle.chw_layout.specs.Measured.{HasWidth, closed_value, tag_width}
use Rattle.data_bits.specs.Encoding.{Fits}
use Rattle.data_bits.proofs.Encoded.{elements_fit}
use Rattle.chw_types.specs.Arguments.{arguments}
use Rattle.chw_types.specs.TypeMoves.{sub}
use Rattle.chw_types.specs.TypeTree.{vector}
use Rattle.chw_types.specs.TypeView.{tree_of, trees_of}
use Rattle.chw_types.proofs.Weights.{whole, whole_vector}
use Rattle.data_bits.proofs.Decoded.{data_known, read_at}
use Rattle.data_bits.proofs.Unfolded.{constructor_lighter, field_lighter, fields_whole}
use Rattle.data_forms.specs.declared.forms.Form.{Form}
use Rattle.data_forms.specs.declared.forms.Shape.TheVariants.{Row}
use Rattle.data_forms.specs.Forms.{AreConsAt, AreForms, AreTypesAt, IsShape, is_all, is_row, is_choice, is_decoded, fields_of}
use Rattle.data_forms.proofs.Shapes.{empty_takes}
use Rattle.data_forms.proofs.Tables.{con_fits, con_put, field_fits, forms_push, grown_none, ok_both, type_put, type_last}
use Rattle.data_forms.proofs.making.+making.Goals as goal

pub put_form-returns-clause-forms : goal.put_form-returns-clause-forms
put_form-returns-clause-forms t c =
    let forms = c.shape_of.new.forms.items in
    let f : Form = record { ty = c.args.t.now; width = c.in_ok-width.width; shape = c.in_ok-shape.shape } in
    on_ok_weaker c.push_form.result
    (λ (put : c.push_form.new.forms.items ≡ forms ++ f ∷ []).
    subst (AreForms c.args.datas.now) (sym put)
    (forms_push c.args.datas.now forms f c.in_ok-width.ensures c.in_ok-shape.ensures.shape c.in_ok-shape.ensures.forms))
    c.push_form.ensures.put

pub put_form-returns-clause-at : goal.put_form-returns-clause-at
put_form-returns-clause-at t c =
    let forms = c.shape_of.new.forms.items in
    let f : Form = record { ty = c.args.t.now; width = c.in_ok-width.width; shape = c.in_ok-shape.shape } in
    ok_both c.push_form.result (λ at place put. type_last forms c.push_form.new.forms.items f at put place) c.push_form.ensures.at c.push_form.ensures.put

pub data_shape-field_places-requires : goal.data_shape-field_places-requires
data_shape-field_places-requires t c =
    let datas = c.args.datas.now in
    let ts = trees_of c.args.args.now in
    let it = c.index-datas-at.result in
    let k = c.loop-con.con-index in
    let con = c.con-item.result in
    let known = read_at datas c.args.at it (data_known c.requires.fits.1) c.index-datas-at.is in
    let cons = c.as_slice-cons.ensures ∙ ap (λ (x : Data). x.cons) (sym c.index-datas-at.is) in
    let at = subst (λ cs. slice_get cs k ≡ Some con) cons (read_at c.as_slice-cons.result.now k con c.loop-con-test.true c.con-item.is) in
    let fields : c.as_slice.result.now ≡ con.fields = c.as_slice.ensures in
    let less = constructor_lighter datas c.requires.order c.args.at k it con ts known at in
    let same : fields_whole datas c.as_slice.result.now (arguments ts) ≡ fields_whole datas con.fields (arguments ts) = ap (λ fs. fields_whole datas fs (arguments ts)) fields in (
      omega (arith, c.decreases, less, same),
      (c.requires.order, (c.requires.inhabited, (con_fits datas c.args.at ts it k con c.as_slice.result.now known at fields c.requires.fits, c.loop-con.invariant.forms_are))),
    )

pub data_shape-loop-con-preserved : goal.data_shape-loop-con-preserved
data_shape-loop-con-preserved t c =
    let σ = arguments (trees_of c.args.args.now) in
    let l = c.loop-con in
    let cons = c.as_slice-cons.result.now in
    let con = c.con-item.result in
    let new = c.field_places.new.forms.items in
    let ps = c.in_ok-field_places.field-0 in
    let fields : c.as_slice.result.now ≡ con.fields = c.as_slice.ensures in
    let one = take_more cons l.con-index con c.loop-con-test.true ∙ ap (λ x. take l.con-index cons ++ x ∷ []) (sym c.con-item.is) in
    con_put c.args.datas.now c.args.forms.now.items l.forms.items new σ (take l.con-index cons) (take (l.con-index + 1) cons) l.places.items c.push.new.self.items con ps
    one c.in_ok-push.ensures.items c.in_ok-field_places.ensures.forms c.in_ok-field_places.ensures.grown
    (subst (λ fs. AreTypesAt new (length new) (fields_of fs σ) ps) fields c.in_ok-field_places.ensures.at) l.invariant

pub data_shape-returns-clause-shape : goal.data_shape-returns-clause-shape
data_shape-returns-clause-shape t c =
    let datas = c.args.datas.now in
    let ts = trees_of c.args.args.now in
    let l = c.loop-con in
    let forms = l.forms.items in
    let it = c.index-datas-at.result in
    let known = read_at datas c.args.at it (data_known c.requires.fits.1) c.index-datas-at.is in
    let cons = c.as_slice-cons.ensures ∙ ap (λ (x : Data). x.cons) (sym c.index-datas-at.is) in
    let all = take_all l.con-index c.as_slice-cons.result.now c.loop-con-test.false ∙ cons in
    let are = subst (λ cs. AreConsAt forms (length forms) (arguments ts) cs l.places.items) all l.invariant.at in
    is_choice known (c.tag_width.ensures ∙ ap (λ cs. tag_width (length cs)) cons) (subst (AreConsAt forms (length forms) (arguments ts) it.cons) (sym c.from.ensures) are)

pub field_places-put_field-requires : goal.field_places-put_field-requires
field_places-put_field-requires t c =
    let datas = c.args.datas.now in
    let σ = arguments (trees_of c.args.args.now) in
    let k = c.loop-field.field-index in
    let f = c.field-item.result in
    let less = field_lighter datas c.args.fields.now σ k f c.loop-field-test.true c.field-item.is in (
      omega (arith, c.decreases, less),
      (c.requires.order, (c.requires.inhabited, (field_fits datas c.args.fields.now σ k f c.loop-field-test.true c.field-item.is c.requires.fit, c.loop-field.invariant.forms_are))),
    )

pub field_places-loop-field-preserved : goal.field_places-loop-field-preserved
field_places-loop-field-preserved t c =
    let σ = arguments (trees_of c.args.args.now) in
    let l = c.loop-field in
    let fields = c.args.fields.now in
    let f = c.field-item.result in
    let one = take_more fields l.field-index f c.loop-field-test.true ∙ ap (λ x. take l.field-index fields ++ x ∷ []) (sym c.field-item.is) in
    type_put c.args.datas.now c.args.forms.now.items l.forms.items c.put_field.new.forms.items (fields_of (take l.field-index fields) σ) (fields_of (take (l.field-index + 1) fields) σ)
    l.places.items c.push.new.self.items (sub f σ) c.in_ok-put_field.field-0
    (ap (λ fs. fields_of fs σ) one ∙ map-append (λ g. sub g σ) (take l.field-index fields) (f ∷ []))
    c.in_ok-push.ensures.items c.in_ok-put_field.ensures.forms c.in_ok-put_field.ensures.grown c.in_ok-put_field.ensures.at l.invariant

pub shape_of-returns-then-width-eq0-clause-shape : goal.shape_of-returns-then-width-eq0-clause-shape
shape_of-returns-then-width-eq0-clause-shape t c =
    is_all (empty_takes c.zero_value.ensures c.args.datas.now c.args.t.now c.args.width c.requires.inhabited c.requires.width c.if-width-eq0.true)

pub shape_of-returns-then-is_plain-clause-shape : goal.shape_of-returns-then-is_plain-clause-shape
shape_of-returns-then-is_plain-clause-shape t c =
    let takes = rw c.if-is_plain.true at c.is_plain.ensures in
    is_all (takes c.args.datas.now)

pub shape_of-returns-then-len-ge-FORMS-clause-shape : goal.shape_of-returns-then-len-ge-FORMS-clause-shape
shape_of-returns-then-len-ge-FORMS-clause-shape t c = is_decoded

pub shape_of-put_form-requires : goal.shape_of-put_form-requires
shape_of-put_form-requires t c =
    let datas = c.args.datas.now in
    let n = c.in-Vec.len.value in
    let of = c.in-Vec.of.value in
    let e : vector n of ≡ c.args.t.now = ap tree_of (sym c.in-Vec.is) ∙ c.t.view_is in
    let own = subst (λ u. HasWidth datas u c.args.width) (sym e) c.requires.width in
    let a : whole datas c.deref-in-Vec.result.now ≡ whole datas of = ap (λ u. whole datas u) c.deref-in-Vec.ensures in
    let b = whole_vector datas n of in
    let d : whole datas (vector n of) ≡ whole datas c.args.t.now = ap (λ u. whole datas u) e in (
      omega (arith, c.decreases, a, b, d),
      (c.requires.order, (c.requires.inhabited, (subst (Fits datas) (sym c.deref-in-Vec.ensures) (elements_fit datas n of (c.args.width, own)), c.requires.forms))),
    )

pub shape_of-returns-in_ok-of-in-Vec-clause-shape : goal.shape_of-returns-in_ok-of-in-Vec-clause-shape
shape_of-returns-in_ok-of-in-Vec-clause-shape t c =
    let n = c.in-Vec.len.value in
    let of = c.in-Vec.of.value in
    let forms = c.put_form.new.forms.items in
    let e : vector n of ≡ c.args.t.now = ap tree_of (sym c.in-Vec.is) ∙ c.t.view_is in
    subst (λ u. IsShape c.args.datas.now forms (length forms) u (Row c.closed_number-count.result c.in_ok-of-in-Vec.of)) e
    (is_row (c.closed_number-count.ensures ∙ ap closed_value c.deref.ensures) c.in_ok-of-in-Vec.ensures.at.within (c.in_ok-of-in-Vec.ensures.at.is_type ∙ c.deref-in-Vec.ensures))

pub shape_of-returns-in_default : goal.shape_of-returns-in_default
shape_of-returns-in_default t c = record { forms = c.requires.forms; grown = grown_none c.args.forms.now.items; shape = is_decoded }
