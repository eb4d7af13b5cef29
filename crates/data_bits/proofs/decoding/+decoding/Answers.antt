use Rattle.std.proofs.Common.{◌≡◌, ◌<◌, ◌≤◌, ◌^◌, ◌++◌, ◌+◌, length, refl, sym, ap, subst, ◌∙◌, arith, take, drop, length-append}
use Rattle.std.specs.Prelude.{Some, IfSome, IfNone}
use Rattle.std.specs.List.{slice_get}
use Rattle.std.proofs.lemmas.List.{take-append-drop}
use Rattle.chw_bits.specs.Bits.{number_of}
use Rattle.chw_types.specs.declared.declarations.ConDecl.{ConDecl}
use Rattle.chw_types.specs.declared.declarations.Data.{Data}
use Rattle.chw_types.specs.TypeView.{tree_of, trees_of}
use Rattle.chw_types.specs.TypeTree.{vector, data_of}
use Rattle.chw_types.specs.TypeMoves.{sub}
use Rattle.chw_types.specs.Arguments.{arguments}
use Rattle.chw_layout.specs.Datum.{Datum, word, elements, Datums}
use Rattle.chw_layout.specs.DatumView.{datums_of}
use Rattle.chw_layout.specs.Measured.{fits, closed_value, tag_width, HasWidth}
use Rattle.chw_layout.specs.Encodes.{Encodes}
use Rattle.data_bits.specs.Encoding.{Fits}
use Rattle.data_bits.specs.Decoding.{IsRow, ArePadded, FieldsWithin}
use Rattle.data_bits.proofs.Encoded.{elements_fit}
use Rattle.chw_types.proofs.Weights.{whole, whole_vector}
use Rattle.data_bits.proofs.Unfolded.{fields_whole, field_lighter, constructor_lighter}
use Rattle.data_bits.proofs.Decoded.{scalar_decoded, width_small, row_begins, row_room, row_goes_on, row_fails, row_ends, vector_decoded, vector_none, vector_length, fields_begin, field_has_width, field_room, fields_go_on, fields_fail, fields_done, fields_not_zero, data_known, tag_room, tag_narrow, data_fields, tag_fails, data_fails, data_decoded, bits_mean, length_first, read_at, none_of, value_some, row_some, padded_some, not_true}
use Rattle.data_bits.proofs.decoding.+decoding.Goals as goal

pub decode_data-bounds-datas-at : goal.decode_data-bounds-datas-at
decode_data-bounds-datas-at t c =
    data_known c.requires.width

pub decode_data-slice_bounds-number_in-end : goal.decode_data-slice_bounds-number_in-end
decode_data-slice_bounds-number_in-end t c =
    let ts = trees_of c.args.args.now in
    let bits = c.args.bits.now in
    let it = c.index-datas-at.result in
    let known = read_at c.args.datas.now c.args.at it (data_known c.requires.width) c.index-datas-at.is in
    let k = c.tag_width-width.result in
    let cons = c.as_slice-cons.ensures ∙ ap (λ (x : Data). x.cons) (sym c.index-datas-at.is) in
    let e : k ≡ tag_width (length it.cons) = c.tag_width-width.ensures ∙ ap (λ cs. tag_width (length cs)) cons in
    let room = tag_room c.args.datas.now c.args.at (length bits) k ts it known c.requires.width e in
    let l = length_first k bits room in
    sym l

pub decode_data-number_in-requires : goal.decode_data-number_in-requires
decode_data-number_in-requires t c =
    let ts = trees_of c.args.args.now in
    let bits = c.args.bits.now in
    let it = c.index-datas-at.result in
    let known = read_at c.args.datas.now c.args.at it (data_known c.requires.width) c.index-datas-at.is in
    let k = c.tag_width-width.result in
    let cons = c.as_slice-cons.ensures ∙ ap (λ (x : Data). x.cons) (sym c.index-datas-at.is) in
    let e : k ≡ tag_width (length it.cons) = c.tag_width-width.ensures ∙ ap (λ cs. tag_width (length cs)) cons in
    let room = tag_room c.args.datas.now c.args.at (length bits) k ts it known c.requires.width e in
    let l = length_first k bits room in
    let few : length c.as_slice-cons.result.now < 2 ^ 64 = omega arith in
    let n = tag_narrow (length c.as_slice-cons.result.now) k few c.tag_width-width.ensures in
    omega (arith, n, l)

pub decode_data-returns-then-tag-cons-clause-none : goal.decode_data-returns-then-tag-cons-clause-none
decode_data-returns-then-tag-cons-clause-none t c =
    let ts = trees_of c.args.args.now in
    let bits = c.args.bits.now in
    let it = c.index-datas-at.result in
    let known = read_at c.args.datas.now c.args.at it (data_known c.requires.width) c.index-datas-at.is in
    let k = c.tag_width-width.result in
    let cons = c.as_slice-cons.ensures ∙ ap (λ (x : Data). x.cons) (sym c.index-datas-at.is) in
    let e : k ≡ tag_width (length it.cons) = c.tag_width-width.ensures ∙ ap (λ cs. tag_width (length cs)) cons in
    let room = tag_room c.args.datas.now c.args.at (length bits) k ts it known c.requires.width e in
    let l = length_first k bits room in
    let past : length it.cons ≤ number_of (take k bits) = omega (arith, c.if-tag-cons.true, c.in_ok-tag.ensures, ap length cons) in
    tag_fails c.args.datas.now c.args.at k ts it bits (take k bits) (drop k bits) bits_mean known e l (sym (take-append-drop k bits)) past

pub decode_data-after-rest-requires : goal.decode_data-after-rest-requires
decode_data-after-rest-requires t c =
    let ts = trees_of c.args.args.now in
    let bits = c.args.bits.now in
    let it = c.index-datas-at.result in
    let known = read_at c.args.datas.now c.args.at it (data_known c.requires.width) c.index-datas-at.is in
    let k = c.tag_width-width.result in
    let cons = c.as_slice-cons.ensures ∙ ap (λ (x : Data). x.cons) (sym c.index-datas-at.is) in
    let e : k ≡ tag_width (length it.cons) = c.tag_width-width.ensures ∙ ap (λ cs. tag_width (length cs)) cons in
    let room = tag_room c.args.datas.now c.args.at (length bits) k ts it known c.requires.width e in
    let l = length_first k bits room in
    room

pub decode_data-decode_fields-requires : goal.decode_data-decode_fields-requires
decode_data-decode_fields-requires t c =
    let ts = trees_of c.args.args.now in
    let bits = c.args.bits.now in
    let it = c.index-datas-at.result in
    let known = read_at c.args.datas.now c.args.at it (data_known c.requires.width) c.index-datas-at.is in
    let k = c.tag_width-width.result in
    let cons = c.as_slice-cons.ensures ∙ ap (λ (x : Data). x.cons) (sym c.index-datas-at.is) in
    let e : k ≡ tag_width (length it.cons) = c.tag_width-width.ensures ∙ ap (λ cs. tag_width (length cs)) cons in
    let room = tag_room c.args.datas.now c.args.at (length bits) k ts it known c.requires.width e in
    let l = length_first k bits room in
    let tag = c.in_ok-tag.tag in
    let con = c.index-cons-tag.result in
    let below : tag < length c.as_slice-cons.result.now = omega (arith, c.if-tag-cons.false) in
    let at = subst (λ cs. slice_get cs tag ≡ Some con) cons (read_at c.as_slice-cons.result.now tag con below c.index-cons-tag.is) in
    let are = c.as_slice-fields.ensures ∙ ap (λ (x : ConDecl). x.fields) (sym c.index-cons-tag.is) in
    let fields = c.as_slice-fields.result.now in
    let rest = c.after-rest.result.now in
    let j : bits ≡ take k bits ++ rest = sym (take-append-drop k bits) ∙ ap (λ r. take k bits ++ r) (sym c.after-rest.ensures) in
    let m : length bits ≡ k + length rest = omega (arith, l, ap length j ∙ length-append (take k bits) rest) in
    let small = constructor_lighter c.args.datas.now c.requires.order c.args.at tag it con ts known at in
    let same : fields_whole c.args.datas.now fields (arguments ts) ≡ fields_whole c.args.datas.now con.fields (arguments ts) = ap (λ fs. fields_whole c.args.datas.now fs (arguments ts)) are in (
      omega (arith, c.decreases, small, same),
      (c.requires.order, subst (λ fs. FieldsWithin c.args.datas.now fs (arguments ts) (length rest)) (sym are) (data_fields c.args.datas.now c.args.at (length bits) k ts it tag con (length rest) known c.requires.width e at m)),
    )

pub decode_data-returns-in_default-clause-none : goal.decode_data-returns-in_default-clause-none
decode_data-returns-in_default-clause-none t c =
    let ts = trees_of c.args.args.now in
    let bits = c.args.bits.now in
    let it = c.index-datas-at.result in
    let known = read_at c.args.datas.now c.args.at it (data_known c.requires.width) c.index-datas-at.is in
    let k = c.tag_width-width.result in
    let cons = c.as_slice-cons.ensures ∙ ap (λ (x : Data). x.cons) (sym c.index-datas-at.is) in
    let e : k ≡ tag_width (length it.cons) = c.tag_width-width.ensures ∙ ap (λ cs. tag_width (length cs)) cons in
    let room = tag_room c.args.datas.now c.args.at (length bits) k ts it known c.requires.width e in
    let l = length_first k bits room in
    let tag = c.in_ok-tag.tag in
    let con = c.index-cons-tag.result in
    let below : tag < length c.as_slice-cons.result.now = omega (arith, c.if-tag-cons.false) in
    let at = subst (λ cs. slice_get cs tag ≡ Some con) cons (read_at c.as_slice-cons.result.now tag con below c.index-cons-tag.is) in
    let are = c.as_slice-fields.ensures ∙ ap (λ (x : ConDecl). x.fields) (sym c.index-cons-tag.is) in
    let fields = c.as_slice-fields.result.now in
    let rest = c.after-rest.result.now in
    let j : bits ≡ take k bits ++ rest = sym (take-append-drop k bits) ∙ ap (λ r. take k bits ++ r) (sym c.after-rest.ensures) in
    data_fails c.args.datas.now c.args.at k ts it bits (take k bits) rest tag con bits_mean known e l j c.in_ok-tag.ensures at
    (subst (λ fs. (vs : Datums) → ArePadded c.args.datas.now fs (arguments ts) rest vs → ⊥) are (none_of c.in_ok-values.field-0 c.in_default.not-Some c.in_ok-values.ensures.none))

pub decode_data-returns-clause-some : goal.decode_data-returns-clause-some
decode_data-returns-clause-some t c =
    let ts = trees_of c.args.args.now in
    let bits = c.args.bits.now in
    let it = c.index-datas-at.result in
    let known = read_at c.args.datas.now c.args.at it (data_known c.requires.width) c.index-datas-at.is in
    let k = c.tag_width-width.result in
    let cons = c.as_slice-cons.ensures ∙ ap (λ (x : Data). x.cons) (sym c.index-datas-at.is) in
    let e : k ≡ tag_width (length it.cons) = c.tag_width-width.ensures ∙ ap (λ cs. tag_width (length cs)) cons in
    let room = tag_room c.args.datas.now c.args.at (length bits) k ts it known c.requires.width e in
    let l = length_first k bits room in
    let tag = c.in_ok-tag.tag in
    let con = c.index-cons-tag.result in
    let below : tag < length c.as_slice-cons.result.now = omega (arith, c.if-tag-cons.false) in
    let at = subst (λ cs. slice_get cs tag ≡ Some con) cons (read_at c.as_slice-cons.result.now tag con below c.index-cons-tag.is) in
    let are = c.as_slice-fields.ensures ∙ ap (λ (x : ConDecl). x.fields) (sym c.index-cons-tag.is) in
    let fields = c.as_slice-fields.result.now in
    let rest = c.after-rest.result.now in
    let j : bits ≡ take k bits ++ rest = sym (take-append-drop k bits) ∙ ap (λ r. take k bits ++ r) (sym c.after-rest.ensures) in
    data_decoded c.args.datas.now c.args.at k c.in_ok-constructor_id.field-0.number ts it bits (take k bits) rest tag con (datums_of c.in-Some.values.items) known c.requires.width e l j c.in_ok-tag.ensures at c.in_ok-constructor_id.ensures
    (subst (λ fs. ArePadded c.args.datas.now fs (arguments ts) rest (datums_of c.in-Some.values.items)) are (padded_some c.args.datas.now fields (arguments ts) rest c.in_ok-values.field-0 c.in-Some.values c.in-Some.is c.in_ok-values.ensures.some))

pub decode_elements-loop-place-init : goal.decode_elements-loop-place-init
decode_elements-loop-place-init t c =
    row_begins c.args.datas.now c.args.of.now c.args.count c.args.width c.args.bits.now c.new-values.result.items c.new-values.ensures.items c.requires.length

pub decode_elements-slice_bounds-decode_value-end : goal.decode_elements-slice_bounds-decode_value-end
decode_elements-slice_bounds-decode_value-end t c =
    let of = c.args.of.now in
    let bits = c.args.bits.now in
    let n = c.args.count in
    let w = c.args.width in
    let i = c.loop-place._place in
    let values = c.loop-place.values.items in
    let rest = c.loop-place.rest.now in
    let room = row_room c.args.datas.now of n w bits i values rest c.loop-place-test.true c.loop-place.invariant in
    let l = length_first w rest room in
    sym l

pub decode_elements-decode_value-requires : goal.decode_elements-decode_value-requires
decode_elements-decode_value-requires t c =
    let of = c.args.of.now in
    let bits = c.args.bits.now in
    let n = c.args.count in
    let w = c.args.width in
    let i = c.loop-place._place in
    let values = c.loop-place.values.items in
    let rest = c.loop-place.rest.now in
    let room = row_room c.args.datas.now of n w bits i values rest c.loop-place-test.true c.loop-place.invariant in
    let l = length_first w rest room in
    (omega (arith, c.decreases), (c.requires.order, subst (HasWidth c.args.datas.now of) (sym l) c.requires.width))

pub decode_elements-returns-in_default-clause-none : goal.decode_elements-returns-in_default-clause-none
decode_elements-returns-in_default-clause-none t c =
    let of = c.args.of.now in
    let bits = c.args.bits.now in
    let n = c.args.count in
    let w = c.args.width in
    let i = c.loop-place._place in
    let values = c.loop-place.values.items in
    let rest = c.loop-place.rest.now in
    let room = row_room c.args.datas.now of n w bits i values rest c.loop-place-test.true c.loop-place.invariant in
    let l = length_first w rest room in
    row_fails c.args.datas.now of n w bits i values rest (take w rest) (drop w rest) c.loop-place-test.true c.requires.width l (sym (take-append-drop w rest)) (none_of c.in_ok-value.field-0 c.in_default.not-Some c.in_ok-value.ensures.none) c.loop-place.invariant

pub decode_elements-after-rest-requires : goal.decode_elements-after-rest-requires
decode_elements-after-rest-requires t c =
    let of = c.args.of.now in
    let bits = c.args.bits.now in
    let n = c.args.count in
    let w = c.args.width in
    let i = c.loop-place._place in
    let values = c.loop-place.values.items in
    let rest = c.loop-place.rest.now in
    let room = row_room c.args.datas.now of n w bits i values rest c.loop-place-test.true c.loop-place.invariant in
    let l = length_first w rest room in
    room

pub decode_elements-loop-place-preserved : goal.decode_elements-loop-place-preserved
decode_elements-loop-place-preserved t c =
    let of = c.args.of.now in
    let bits = c.args.bits.now in
    let n = c.args.count in
    let w = c.args.width in
    let i = c.loop-place._place in
    let values = c.loop-place.values.items in
    let rest = c.loop-place.rest.now in
    let room = row_room c.args.datas.now of n w bits i values rest c.loop-place-test.true c.loop-place.invariant in
    let l = length_first w rest room in
    let more = c.after-rest.result.now in
    let j : rest ≡ take w rest ++ more = sym (take-append-drop w rest) ∙ ap (λ r. take w rest ++ r) (sym c.after-rest.ensures) in
    row_goes_on c.args.datas.now of n w bits i values c.push.new.self.items rest (take w rest) more c.in-Some.value c.loop-place-test.true c.requires.width l j
    (value_some c.args.datas.now of (take w rest) c.in_ok-value.field-0 c.in-Some.value c.in-Some.is c.in_ok-value.ensures.some) c.in_ok-push.ensures.items c.loop-place.invariant

pub decode_elements-returns-clause-some : goal.decode_elements-returns-clause-some
decode_elements-returns-clause-some t c =
    let of = c.args.of.now in
    let bits = c.args.bits.now in
    let n = c.args.count in
    let w = c.args.width in
    let i = c.loop-place._place in
    let values = c.loop-place.values.items in
    let rest = c.loop-place.rest.now in
    row_ends c.args.datas.now of n w bits i values rest (omega (arith, c.loop-place-test.false)) c.loop-place.invariant

pub decode_fields-loop-field-init : goal.decode_fields-loop-field-init
decode_fields-loop-field-init t c =
    fields_begin c.args.datas.now c.args.fields.now (arguments (trees_of c.args.args.now)) c.args.bits.now c.new-values.result.items c.new-values.ensures.items c.requires.width

pub decode_fields-width_of-requires-clause-fits : goal.decode_fields-width_of-requires-clause-fits
decode_fields-width_of-requires-clause-fits t c =
    let fs = c.args.fields.now in
    let σ = arguments (trees_of c.args.args.now) in
    let bits = c.args.bits.now in
    let i = c.loop-field.field-index in
    let values = c.loop-field.values.items in
    let rest = c.loop-field.rest.now in
    let f = c.field-item.result in
    let k = c.loop-field-test.true in
    let d = c.field-item.is in
    let inv = c.loop-field.invariant in
    subst (Fits c.args.datas.now) (sym c.in_ok-of.ensures.is) (field_has_width c.args.datas.now fs σ bits i values rest f k d inv)

pub decode_fields-slice_bounds-decode_value-end : goal.decode_fields-slice_bounds-decode_value-end
decode_fields-slice_bounds-decode_value-end t c =
    let fs = c.args.fields.now in
    let σ = arguments (trees_of c.args.args.now) in
    let bits = c.args.bits.now in
    let i = c.loop-field.field-index in
    let values = c.loop-field.values.items in
    let rest = c.loop-field.rest.now in
    let f = c.field-item.result in
    let k = c.loop-field-test.true in
    let d = c.field-item.is in
    let inv = c.loop-field.invariant in
    let w = c.in_ok-width.field-0 in
    let wide = subst (λ u. HasWidth c.args.datas.now u w) c.in_ok-of.ensures.is c.in_ok-width.ensures in
    let room = field_room c.args.datas.now fs σ bits i values rest f w k d wide inv in
    let l = length_first w rest room in
    sym l

pub decode_fields-decode_value-requires : goal.decode_fields-decode_value-requires
decode_fields-decode_value-requires t c =
    let fs = c.args.fields.now in
    let σ = arguments (trees_of c.args.args.now) in
    let bits = c.args.bits.now in
    let i = c.loop-field.field-index in
    let values = c.loop-field.values.items in
    let rest = c.loop-field.rest.now in
    let f = c.field-item.result in
    let k = c.loop-field-test.true in
    let d = c.field-item.is in
    let inv = c.loop-field.invariant in
    let w = c.in_ok-width.field-0 in
    let wide = subst (λ u. HasWidth c.args.datas.now u w) c.in_ok-of.ensures.is c.in_ok-width.ensures in
    let room = field_room c.args.datas.now fs σ bits i values rest f w k d wide inv in
    let l = length_first w rest room in
    let small = field_lighter c.args.datas.now fs σ i f k d in
    let same : whole c.args.datas.now c.in_ok-of.of ≡ whole c.args.datas.now (sub f σ) = ap (λ u. whole c.args.datas.now u) c.in_ok-of.ensures.is in
    (omega (arith, c.decreases, small, same), (c.requires.order, subst (HasWidth c.args.datas.now c.in_ok-of.of) (sym l) c.in_ok-width.ensures))

pub decode_fields-returns-in_default-clause-none : goal.decode_fields-returns-in_default-clause-none
decode_fields-returns-in_default-clause-none t c =
    let fs = c.args.fields.now in
    let σ = arguments (trees_of c.args.args.now) in
    let bits = c.args.bits.now in
    let i = c.loop-field.field-index in
    let values = c.loop-field.values.items in
    let rest = c.loop-field.rest.now in
    let f = c.field-item.result in
    let k = c.loop-field-test.true in
    let d = c.field-item.is in
    let inv = c.loop-field.invariant in
    let w = c.in_ok-width.field-0 in
    let wide = subst (λ u. HasWidth c.args.datas.now u w) c.in_ok-of.ensures.is c.in_ok-width.ensures in
    let room = field_room c.args.datas.now fs σ bits i values rest f w k d wide inv in
    let l = length_first w rest room in
    fields_fail c.args.datas.now fs σ bits i values rest (take w rest) (drop w rest) f w k d wide l (sym (take-append-drop w rest))
    (subst (λ u. (v : Datum) → Encodes c.args.datas.now u v (take w rest) → ⊥) c.in_ok-of.ensures.is (none_of c.in_ok-value.field-0 c.in_default.not-Some c.in_ok-value.ensures.none)) inv

pub decode_fields-after-rest-requires : goal.decode_fields-after-rest-requires
decode_fields-after-rest-requires t c =
    let fs = c.args.fields.now in
    let σ = arguments (trees_of c.args.args.now) in
    let bits = c.args.bits.now in
    let i = c.loop-field.field-index in
    let values = c.loop-field.values.items in
    let rest = c.loop-field.rest.now in
    let f = c.field-item.result in
    let k = c.loop-field-test.true in
    let d = c.field-item.is in
    let inv = c.loop-field.invariant in
    let w = c.in_ok-width.field-0 in
    let wide = subst (λ u. HasWidth c.args.datas.now u w) c.in_ok-of.ensures.is c.in_ok-width.ensures in
    let room = field_room c.args.datas.now fs σ bits i values rest f w k d wide inv in
    let l = length_first w rest room in
    room

pub decode_fields-loop-field-preserved : goal.decode_fields-loop-field-preserved
decode_fields-loop-field-preserved t c =
    let fs = c.args.fields.now in
    let σ = arguments (trees_of c.args.args.now) in
    let bits = c.args.bits.now in
    let i = c.loop-field.field-index in
    let values = c.loop-field.values.items in
    let rest = c.loop-field.rest.now in
    let f = c.field-item.result in
    let k = c.loop-field-test.true in
    let d = c.field-item.is in
    let inv = c.loop-field.invariant in
    let w = c.in_ok-width.field-0 in
    let wide = subst (λ u. HasWidth c.args.datas.now u w) c.in_ok-of.ensures.is c.in_ok-width.ensures in
    let room = field_room c.args.datas.now fs σ bits i values rest f w k d wide inv in
    let l = length_first w rest room in
    let more = c.after-rest.result.now in
    let j : rest ≡ take w rest ++ more = sym (take-append-drop w rest) ∙ ap (λ r. take w rest ++ r) (sym c.after-rest.ensures) in
    fields_go_on c.args.datas.now fs σ bits i values c.push.new.self.items rest (take w rest) more f w c.in-Some.value k d wide l j
    (subst (λ u. Encodes c.args.datas.now u c.in-Some.value (take w rest)) c.in_ok-of.ensures.is (value_some c.args.datas.now c.in_ok-of.of (take w rest) c.in_ok-value.field-0 c.in-Some.value c.in-Some.is c.in_ok-value.ensures.some)) c.in_ok-push.ensures.items inv

pub decode_fields-returns-then-not-all_zero-clause-none : goal.decode_fields-returns-then-not-all_zero-clause-none
decode_fields-returns-then-not-all_zero-clause-none t c =
    let fs = c.args.fields.now in
    let σ = arguments (trees_of c.args.args.now) in
    let bits = c.args.bits.now in
    let i = c.loop-field.field-index in
    let values = c.loop-field.values.items in
    let rest = c.loop-field.rest.now in
    fields_not_zero c.args.datas.now fs σ bits i values rest (omega (arith, c.loop-field-test.false)) (λ z. not_true c.all_zero.result c.if-not-all_zero.true (c.all_zero.ensures.1 z)) c.loop-field.invariant

pub decode_fields-returns-clause-some : goal.decode_fields-returns-clause-some
decode_fields-returns-clause-some t c =
    let fs = c.args.fields.now in
    let σ = arguments (trees_of c.args.args.now) in
    let bits = c.args.bits.now in
    let i = c.loop-field.field-index in
    let values = c.loop-field.values.items in
    let rest = c.loop-field.rest.now in
    fields_done c.args.datas.now fs σ bits i values rest (omega (arith, c.loop-field-test.false)) (c.all_zero.ensures.0 c.if-not-all_zero.false) c.loop-field.invariant

pub decode_value-width_of-requires-clause-fits : goal.decode_value-width_of-requires-clause-fits
decode_value-width_of-requires-clause-fits t c =
    let n = c.in-Vec.len.value in
    let of = c.in-Vec.of.value in
    let bits = c.args.bits.now in
    let e : vector n of ≡ c.args.t.now = ap tree_of (sym c.in-Vec.is) ∙ c.t.view_is in
    let own = subst (λ u. HasWidth c.args.datas.now u (length bits)) (sym e) c.requires.width in
    subst (Fits c.args.datas.now) (sym c.deref.ensures) (elements_fit c.args.datas.now n of (length bits, own))

pub decode_value-decode_elements-requires : goal.decode_value-decode_elements-requires
decode_value-decode_elements-requires t c =
    let n = c.in-Vec.len.value in
    let of = c.in-Vec.of.value in
    let bits = c.args.bits.now in
    let e : vector n of ≡ c.args.t.now = ap tree_of (sym c.in-Vec.is) ∙ c.t.view_is in
    let own = subst (λ u. HasWidth c.args.datas.now u (length bits)) (sym e) c.requires.width in
    let count = c.closed_number-count.result in
    let many = c.closed_number-count.ensures ∙ ap closed_value c.deref-in-Vec.ensures in
    let w = c.in_ok-width-in-Vec.width in
    let o = c.deref-in-Vec-2.result.now in
    let wide = subst (λ u. HasWidth c.args.datas.now u w) c.deref.ensures c.in_ok-width-in-Vec.ensures in
    let a : whole c.args.datas.now o ≡ whole c.args.datas.now of = ap (λ u. whole c.args.datas.now u) c.deref-in-Vec-2.ensures in
    let b = whole_vector c.args.datas.now n of in
    let d : whole c.args.datas.now (vector n of) ≡ whole c.args.datas.now c.args.t.now = ap (λ u. whole c.args.datas.now u) e in (
      omega (arith, c.decreases, a, b, d),
      (c.requires.order, (subst (λ u. HasWidth c.args.datas.now u w) (sym c.deref-in-Vec-2.ensures) wide, vector_length c.args.datas.now n of count w (length bits) many own wide)),
    )

pub decode_value-returns-in_default-2-clause-none : goal.decode_value-returns-in_default-2-clause-none
decode_value-returns-in_default-2-clause-none t c =
    let n = c.in-Vec.len.value in
    let of = c.in-Vec.of.value in
    let bits = c.args.bits.now in
    let e : vector n of ≡ c.args.t.now = ap tree_of (sym c.in-Vec.is) ∙ c.t.view_is in
    let own = subst (λ u. HasWidth c.args.datas.now u (length bits)) (sym e) c.requires.width in
    let count = c.closed_number-count.result in
    let many = c.closed_number-count.ensures ∙ ap closed_value c.deref-in-Vec.ensures in
    let w = c.in_ok-width-in-Vec.width in
    let o = c.deref-in-Vec-2.result.now in
    subst (λ u. (v : Datum) → Encodes c.args.datas.now u v bits → ⊥) e
    (vector_none c.args.datas.now n of count bits many
    (subst (λ u. (vs : Datums) → IsRow c.args.datas.now u count bits vs → ⊥) c.deref-in-Vec-2.ensures (none_of c.in_ok-values-in-Vec.field-0 c.in_default-2.not-Some c.in_ok-values-in-Vec.ensures.none)))

pub decode_value-returns-in-Some-clause-some : goal.decode_value-returns-in-Some-clause-some
decode_value-returns-in-Some-clause-some t c =
    let n = c.in-Vec.len.value in
    let of = c.in-Vec.of.value in
    let bits = c.args.bits.now in
    let e : vector n of ≡ c.args.t.now = ap tree_of (sym c.in-Vec.is) ∙ c.t.view_is in
    let own = subst (λ u. HasWidth c.args.datas.now u (length bits)) (sym e) c.requires.width in
    let count = c.closed_number-count.result in
    let many = c.closed_number-count.ensures ∙ ap closed_value c.deref-in-Vec.ensures in
    let w = c.in_ok-width-in-Vec.width in
    let o = c.deref-in-Vec-2.result.now in
    let vs = datums_of c.in-Some.values.items in
    subst (λ u. Encodes c.args.datas.now u (elements vs) bits) e
    (vector_decoded c.args.datas.now n of count bits vs many
    (subst (λ u. IsRow c.args.datas.now u count bits vs) c.deref-in-Vec-2.ensures (row_some c.args.datas.now o count bits c.in_ok-values-in-Vec.field-0 c.in-Some.values c.in-Some.is c.in_ok-values-in-Vec.ensures.some)))

pub decode_value-decode_data-requires : goal.decode_value-decode_data-requires
decode_value-decode_data-requires t c =
    let bits = c.args.bits.now in
    let e : data_of c.in-DataOf.at.number (trees_of c.deref-in-DataOf.result.now) ≡ c.args.t.now = ap (λ us. data_of c.in-DataOf.at.number (trees_of us)) c.deref-in-DataOf.ensures.value ∙ ap tree_of (sym c.in-DataOf.is) ∙ c.t.view_is in
    let same : whole c.args.datas.now (data_of c.in-DataOf.at.number (trees_of c.deref-in-DataOf.result.now)) ≡ whole c.args.datas.now c.args.t.now = ap (λ u. whole c.args.datas.now u) e in
    (omega (arith, c.decreases, same), (c.requires.order, subst (λ u. HasWidth c.args.datas.now u (length bits)) (sym e) c.requires.width))

pub decode_value-returns-in_ok-decode_data-in-DataOf-clause-some : goal.decode_value-returns-in_ok-decode_data-in-DataOf-clause-some
decode_value-returns-in_ok-decode_data-in-DataOf-clause-some t c =
    let bits = c.args.bits.now in
    let e : data_of c.in-DataOf.at.number (trees_of c.deref-in-DataOf.result.now) ≡ c.args.t.now = ap (λ us. data_of c.in-DataOf.at.number (trees_of us)) c.deref-in-DataOf.ensures.value ∙ ap tree_of (sym c.in-DataOf.is) ∙ c.t.view_is in
    subst (λ u. IfSome c.in_ok-decode_data-in-DataOf.field-0 (λ v. Encodes c.args.datas.now u v bits)) e c.in_ok-decode_data-in-DataOf.ensures.some

pub decode_value-returns-in_ok-decode_data-in-DataOf-clause-none : goal.decode_value-returns-in_ok-decode_data-in-DataOf-clause-none
decode_value-returns-in_ok-decode_data-in-DataOf-clause-none t c =
    let bits = c.args.bits.now in
    let e : data_of c.in-DataOf.at.number (trees_of c.deref-in-DataOf.result.now) ≡ c.args.t.now = ap (λ us. data_of c.in-DataOf.at.number (trees_of us)) c.deref-in-DataOf.ensures.value ∙ ap tree_of (sym c.in-DataOf.is) ∙ c.t.view_is in
    subst (λ u. IfNone c.in_ok-decode_data-in-DataOf.field-0 ((v : Datum) → Encodes c.args.datas.now u v bits → ⊥)) e c.in_ok-decode_data-in-DataOf.ensures.none

pub decode_value-bits_of_slice-requires : goal.decode_value-bits_of_slice-requires
decode_value-bits_of_slice-requires t c =
    width_small (length c.args.bits.now) c.requires.width

pub decode_value-returns-in_ok-bits_of_slice-in_default : goal.decode_value-returns-in_ok-bits_of_slice-in_default
decode_value-returns-in_ok-bits_of_slice-in_default t c =
    let bits = c.args.bits.now in
    let x = scalar_decoded c.args.datas.now c.t.inside.node bits (fits (length bits)) refl c.in_default.not-Vec c.in_default.not-DataOf (subst (λ u. HasWidth c.args.datas.now u (length bits)) (sym c.t.view_is) c.requires.width) in
    record {
      some = subst (λ b. Encodes c.args.datas.now c.args.t.now (word b) bits) (sym c.in_ok-bits_of_slice-in_default.ensures) (subst (λ u. Encodes c.args.datas.now u (word bits) bits) c.t.view_is x);
      none = tt;
    }
