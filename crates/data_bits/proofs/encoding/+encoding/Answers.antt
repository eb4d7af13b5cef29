use Rattle.std.proofs.Common.{◌<◌, ◌-◌, ◌++◌, false, length, sym, ap, subst, ◌∙◌, arith}
use Rattle.chw_types.specs.TypeView.{tree_of, trees_of}
use Rattle.std.specs.Prelude.{replicate}
use Rattle.chw_types.specs.TypeTree.{vector, data_of}
use Rattle.chw_layout.specs.Datum.{built, elements}
use Rattle.chw_layout.specs.Measured.{HasWidth}
use Rattle.chw_layout.specs.Encodes.{IsValueOf, AreElements, AreFields, Encodes, EncodesElements, EncodesFields}
use Rattle.data_bits.specs.Encoding.{Adds, Fits, FieldsFit}
use Rattle.chw_types.specs.Arguments.{arguments}
use Rattle.chw_layout.specs.DatumView.{datum_of, datums_of}
use Rattle.chw_layout.specs.DatumSize.{datum_size, data_size}
use Rattle.data_bits.proofs.Adding.{elements_more, element_at, size_at, fields_more, field_at, field_fits, as_many_fields, elements_whole, fields_whole, no_elements_added, no_fields_added}
use Rattle.data_bits.proofs.Encoded.{scalar_added, no_vector, vector_parts, elements_fit, vector_added, no_built, constructor_there, chosen_values, chosen_fit, tag_small, data_added, as_known, added_known, longer}
use Rattle.data_bits.proofs.encoding.+encoding.Goals as goal

pub encode_elements-loop-value-init : goal.encode_elements-loop-value-init
encode_elements-loop-value-init t c = no_elements_added c.args.datas.now c.args.of.now c.args.into.now.items

pub encode_elements-encode_into-requires : goal.encode_elements-encode_into-requires
encode_elements-encode_into-requires t c =
    let s = size_at c.args.values.now c.loop-value.value-index c.value-item.result c.loop-value-test.true c.value-item.is in (
      omega (arith, c.decreases, s),
      (c.requires.order, (element_at c.args.datas.now c.args.of.now c.args.values.now c.loop-value.value-index c.value-item.result c.loop-value-test.true c.value-item.is c.requires.values, c.requires.fits)),
    )

pub encode_elements-loop-value-preserved : goal.encode_elements-loop-value-preserved
encode_elements-loop-value-preserved t c =
    elements_more c.args.datas.now c.args.of.now c.args.values.now c.loop-value.value-index c.value-item.result c.args.into.now.items c.loop-value.into.items c.encode_into.new.into.items c.loop-value-test.true c.value-item.is c.loop-value.invariant c.in_ok-encode_into.ensures

pub encode_elements-returns : goal.encode_elements-returns
encode_elements-returns t c = elements_whole c.args.datas.now c.args.of.now c.args.values.now c.loop-value.value-index _ _ (omega (arith, c.loop-value-test.false)) c.loop-value.invariant

pub encode_fields-loop-i-init : goal.encode_fields-loop-i-init
encode_fields-loop-i-init t c = no_fields_added c.args.datas.now (arguments (trees_of c.args.args.now)) c.args.into.now.items

pub encode_fields-bounds-fields-i : goal.encode_fields-bounds-fields-i
encode_fields-bounds-fields-i t c = let n = as_many_fields c.args.datas.now c.args.fields.now (arguments (trees_of c.args.args.now)) c.args.values.now c.requires.values in omega arith

pub encode_fields-encode_into-requires : goal.encode_fields-encode_into-requires
encode_fields-encode_into-requires t c =
    let σ = arguments (trees_of c.args.args.now) in
    let many = as_many_fields c.args.datas.now c.args.fields.now σ c.args.values.now c.requires.values in
    let l : c.loop-i.i < length c.args.fields.now = omega (arith, c.loop-i-test.true) in
    let s = size_at c.args.values.now c.loop-i.i c.index-values-i.result c.loop-i-test.true c.index-values-i.is in (
      omega (arith, c.decreases, s),
      (
        c.requires.order,
        (
          subst (λ u. IsValueOf c.args.datas.now u c.index-values-i.result) (sym c.in_ok-of.ensures.is) (field_at c.args.datas.now c.args.fields.now σ c.args.values.now c.loop-i.i c.index-fields-i.result c.index-values-i.result l c.index-fields-i.is c.loop-i-test.true c.index-values-i.is c.requires.values),
          subst (Fits c.args.datas.now) (sym c.in_ok-of.ensures.is) (field_fits c.args.datas.now c.args.fields.now σ c.loop-i.i c.index-fields-i.result l c.index-fields-i.is c.requires.fits),
        ),
      ),
    )

pub encode_fields-loop-i-preserved : goal.encode_fields-loop-i-preserved
encode_fields-loop-i-preserved t c =
    let σ = arguments (trees_of c.args.args.now) in
    let many = as_many_fields c.args.datas.now c.args.fields.now σ c.args.values.now c.requires.values in
    let l : c.loop-i.i < length c.args.fields.now = omega (arith, c.loop-i-test.true) in
    fields_more c.args.datas.now c.args.fields.now σ c.args.values.now c.loop-i.i c.index-fields-i.result c.index-values-i.result c.args.into.now.items c.loop-i.into.items c.encode_into.new.into.items l c.index-fields-i.is c.loop-i-test.true c.index-values-i.is c.loop-i.invariant
    (subst (λ u. Adds (Encodes c.args.datas.now u c.index-values-i.result) c.loop-i.into.items c.encode_into.new.into.items) c.in_ok-of.ensures.is c.in_ok-encode_into.ensures)

pub encode_fields-returns : goal.encode_fields-returns
encode_fields-returns t c =
    let n = as_many_fields c.args.datas.now c.args.fields.now (arguments (trees_of c.args.args.now)) c.args.values.now c.requires.values in
    fields_whole c.args.datas.now c.args.fields.now (arguments (trees_of c.args.args.now)) c.args.values.now c.loop-i.i _ _ (omega (arith, c.loop-i-test.false)) (omega (arith, c.loop-i-test.false)) c.loop-i.invariant

pub encode_into-unreachable-requires : goal.encode_into-unreachable-requires
encode_into-unreachable-requires t c =
    no_vector c.args.datas.now c.args.t.now c.args.v.now c.t.inside.node (datums_of c.in-Vec.values.items) c.t.view_is (ap datum_of (sym c.in-Vec.is) ∙ c.v.view_is) c.in_default.not-Vec c.requires.value

pub encode_into-encode_elements-requires : goal.encode_into-encode_elements-requires
encode_into-encode_elements-requires t c =
    let e = ap tree_of (sym c.in-Vec-node.is) ∙ c.t.view_is in
    let f = ap datum_of (sym c.in-Vec.is) ∙ c.v.view_is in
    let n = c.in-Vec-node.field-0.value in
    let of = c.in-Vec-node.of.value in
    let vs = datums_of c.in-Vec.values.items in
    let p = vector_parts (as_known c.args.datas.now c.args.t.now (vector n of) c.args.v.now (elements vs) e f c.requires.value) in (
      omega (arith, c.decreases, ap datum_size f, ap (λ us. data_size (datums_of us)) c.deref.ensures.value),
      (
        c.requires.order,
        (
          subst (λ u. AreElements c.args.datas.now u (datums_of c.deref.result.now)) (sym c.deref-in-Vec.ensures) (subst (λ us. AreElements c.args.datas.now of (datums_of us)) (sym c.deref.ensures.value) p.are),
          subst (Fits c.args.datas.now) (sym c.deref-in-Vec.ensures) (elements_fit c.args.datas.now n of (subst (Fits c.args.datas.now) (sym e) c.requires.fits)),
        ),
      ),
    )

pub encode_into-unreachable-requires-in_default-node : goal.encode_into-unreachable-requires-in_default-node
encode_into-unreachable-requires-in_default-node t c =
    no_built c.args.datas.now c.args.t.now c.args.v.now c.t.inside.node c.in-Data.con.number (datums_of c.in-Data.values.items) c.t.view_is (ap datum_of (sym c.in-Data.is) ∙ c.v.view_is) c.in_default-node.not-DataOf c.requires.value

pub encode_into-constructor-requires : goal.encode_into-constructor-requires
encode_into-constructor-requires t c =
    let e = ap tree_of (sym c.in-DataOf.is) ∙ c.t.view_is in
    let f = ap datum_of (sym c.in-Data.is) ∙ c.v.view_is in
    let d = c.in-DataOf.at.number in
    let n = c.in-Data.con.number in
    let ts = trees_of c.in-DataOf.args.items in
    let vs = datums_of c.in-Data.values.items in
    let known = as_known c.args.datas.now c.args.t.now (data_of d ts) c.args.v.now (built n vs) e f c.requires.value in
    constructor_there known

pub encode_into-push_number-requires : goal.encode_into-push_number-requires
encode_into-push_number-requires t c =
    tag_small c.args.datas.now c.in-DataOf.at.number c.in-Data.con.number c.in_ok-found-in-Data.found.tag c.in_ok-found-in-Data.found.width c.in_ok-found-in-Data.found.fields.now c.in_ok-found-in-Data.ensures

pub encode_into-encode_fields-requires : goal.encode_into-encode_fields-requires
encode_into-encode_fields-requires t c =
    let e = ap tree_of (sym c.in-DataOf.is) ∙ c.t.view_is in
    let f = ap datum_of (sym c.in-Data.is) ∙ c.v.view_is in
    let d = c.in-DataOf.at.number in
    let n = c.in-Data.con.number in
    let ts = trees_of c.in-DataOf.args.items in
    let vs = datums_of c.in-Data.values.items in
    let known = as_known c.args.datas.now c.args.t.now (data_of d ts) c.args.v.now (built n vs) e f c.requires.value in
    let fields = c.in_ok-found-in-Data.found.fields.now in (
      omega (arith, c.decreases, ap datum_size f, ap (λ us. data_size (datums_of us)) c.deref-in-Data.ensures.value),
      (
        c.requires.order,
        (
          subst (λ xs. AreFields c.args.datas.now fields (arguments (trees_of xs)) (datums_of c.deref-in-Data.result.now)) (sym c.deref-in-Data-2.ensures.value)
              (subst (λ us. AreFields c.args.datas.now fields (arguments ts) (datums_of us)) (sym c.deref-in-Data.ensures.value) (chosen_values c.args.datas.now d n ts vs c.in_ok-found-in-Data.found.tag c.in_ok-found-in-Data.found.width fields known c.in_ok-found-in-Data.ensures)),
          subst (λ xs. FieldsFit c.args.datas.now fields (arguments (trees_of xs))) (sym c.deref-in-Data-2.ensures.value) (chosen_fit c.args.datas.now d n ts c.in_ok-found-in-Data.found.tag c.in_ok-found-in-Data.found.width fields (subst (Fits c.args.datas.now) (sym e) c.requires.fits) c.in_ok-found-in-Data.ensures),
        ),
      ),
    )

pub encode_into-fill-requires : goal.encode_into-fill-requires
encode_into-fill-requires t c =
    let x = c.in_ok-encode_fields-in-Data.ensures in
    let l = longer c.args.into.now.items c.push_number.new.into.items c.encode_fields.new.into.items _ x.0 c.in_ok-push_number-in-Data.ensures x.2 in
    omega (arith, l, c.len-from.ensures)

pub encode_into-returns-in_ok-extend_from_slice-in-Scalar : goal.encode_into-returns-in_ok-extend_from_slice-in-Scalar
encode_into-returns-in_ok-extend_from_slice-in-Scalar t c =
    scalar_added c.args.datas.now c.args.t.now c.args.v.now c.in-Scalar.bits c.args.into.now.items c.extend_from_slice.new.self.items (ap datum_of (sym c.in-Scalar.is) ∙ c.v.view_is) c.requires.value
    (c.in_ok-extend_from_slice-in-Scalar.ensures.items ∙ ap (λ xs. c.args.into.now.items ++ xs) c.as_slice.ensures.value)

pub encode_into-returns-in_ok-encode_elements-in-Vec : goal.encode_into-returns-in_ok-encode_elements-in-Vec
encode_into-returns-in_ok-encode_elements-in-Vec t c =
    let e = ap tree_of (sym c.in-Vec-node.is) ∙ c.t.view_is in
    let f = ap datum_of (sym c.in-Vec.is) ∙ c.v.view_is in
    let n = c.in-Vec-node.field-0.value in
    let of = c.in-Vec-node.of.value in
    let vs = datums_of c.in-Vec.values.items in
    let p = vector_parts (as_known c.args.datas.now c.args.t.now (vector n of) c.args.v.now (elements vs) e f c.requires.value) in
    let old = c.args.into.now.items in
    let new = c.encode_elements.new.into.items in
    added_known c.args.datas.now c.args.t.now (vector n of) c.args.v.now (elements vs) old new e f
    (vector_added c.args.datas.now n of vs old new p.many
    (subst (λ u. Adds (EncodesElements c.args.datas.now u vs) old new) c.deref-in-Vec.ensures
    (subst (λ us. Adds (EncodesElements c.args.datas.now c.deref-in-Vec.result.now (datums_of us)) old new) c.deref.ensures.value c.in_ok-encode_elements-in-Vec.ensures)))

pub encode_into-returns-in_ok-fill-in-Data : goal.encode_into-returns-in_ok-fill-in-Data
encode_into-returns-in_ok-fill-in-Data t c =
    let e = ap tree_of (sym c.in-DataOf.is) ∙ c.t.view_is in
    let f = ap datum_of (sym c.in-Data.is) ∙ c.v.view_is in
    let d = c.in-DataOf.at.number in
    let n = c.in-Data.con.number in
    let ts = trees_of c.in-DataOf.args.items in
    let vs = datums_of c.in-Data.values.items in
    let known = as_known c.args.datas.now c.args.t.now (data_of d ts) c.args.v.now (built n vs) e f c.requires.value in
    let old = c.args.into.now.items in
    let fields = c.in_ok-found-in-Data.found.fields.now in
    let a = c.push_number.new.into.items in
    let b = c.encode_fields.new.into.items in
    added_known c.args.datas.now c.args.t.now (data_of d ts) c.args.v.now (built n vs) old c.fill.new.into.items e f
    (data_added c.args.datas.now d n ts vs c.in_ok-found-in-Data.found.tag c.in_ok-found-in-Data.found.width fields c.in_ok-width-in-Data.width old a b c.fill.new.into.items c.in_ok-found-in-Data.ensures
    (subst (λ u. HasWidth c.args.datas.now u c.in_ok-width-in-Data.width) (sym e) c.in_ok-width-in-Data.ensures)
    c.in_ok-push_number-in-Data.ensures
    (subst (λ xs. Adds (EncodesFields c.args.datas.now fields (arguments (trees_of xs)) vs) a b) c.deref-in-Data-2.ensures.value
    (subst (λ us. Adds (EncodesFields c.args.datas.now fields (arguments (trees_of c.deref-in-Data-2.result.now)) (datums_of us)) a b) c.deref-in-Data.ensures.value c.in_ok-encode_fields-in-Data.ensures))
    (c.in_ok-fill-in-Data.ensures ∙ ap (λ m. b ++ replicate (c.in_ok-width-in-Data.width - (length b - m)) false) (c.len-from.ensures ∙ c.args.into.now.ok.0)))
