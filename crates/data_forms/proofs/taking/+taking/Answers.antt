use Rattle.std.proofs.Common.{◌≡◌, ◌<◌, ◌≤◌, ◌^◌, Some, length, map, get_or, take, refl, sym, subst, arith}
use Rattle.std.specs.Prelude.{IsTrue, ◌↔◌}
use Rattle.std.specs.List.{slice_get}
use Rattle.std.proofs.lemmas.List.{length-map}
use Rattle.std.proofs.lemmas.Option.{slice_get-get_or}
use Rattle.std.proofs.lemmas.Result.{IfOk-weaker}
use Rattle.chw_bits.specs.Bits.{number_of}
use Rattle.chw_types.specs.TypeTree.{ty_var}
use Rattle.chw_layout.specs.Datum.{Datums}
use Rattle.chw_layout.specs.Measured.{HasWidth}
use Rattle.data_bits.specs.Decoding.{ArePadded, IsRow}
use Rattle.data_bits.proofs.Decoded.{length_first, read_at}
use Rattle.data_forms.specs.Forms.{IsEncoding, type_at}
use Rattle.data_forms.proofs.Shapes.{all_of, choice_below, choice_first, choice_narrow, choice_of, choice_past, choice_room, choice_whole, choice_within, form_at, row_of, row_whole, row_width, type_got}
use Rattle.data_forms.proofs.Tables.{type_of}
use Rattle.data_forms.proofs.Walks.{above_within, all_within, below_above, field_part, fields_end_zero, fields_more, fields_start, fields_stop, never, row_is_whole, row_more, row_part, row_starts, row_stops, test_fails, within_at}
use Rattle.data_forms.proofs.taking.+taking.Goals as goal

-- ---- takes

pub takes-returns-in-All : goal.takes-returns-in-All
takes-returns-in-All t c =
    let datas = c.args.datas.now in
    let form = c.index-forms-at.result in
    let read = read_at c.args.forms.now c.args.at form c.requires.within c.index-forms-at.is in
    let ty = type_of c.args.forms.now c.args.at form read in
    let takes = all_of c.in-All.is (c.requires.forms c.args.at form read).shape in
    let has = subst (λ u. HasWidth datas u (length c.args.bits.now)) ty c.requires.width in
    (λ e. subst (λ u. IsEncoding datas u c.args.bits.now) (sym ty) (takes c.args.bits.now has), λ v. refl)

pub takes-takes_row-requires : goal.takes-takes_row-requires
takes-takes_row-requires t c =
    let datas = c.args.datas.now in
    let forms = c.args.forms.now in
    let form = c.index-forms-at.result in
    let read = read_at forms c.args.at form c.requires.within c.index-forms-at.is in
    let ty = type_of forms c.args.at form read in
    let r = row_of c.in-Row.count c.in-Row.of c.in-Row.is (c.requires.forms c.args.at form read).shape in
    let has = subst (λ u. HasWidth datas u (length c.args.bits.now)) ty c.requires.width in
    let below = r.below in
    let within = c.requires.within in (
      omega (arith, c.decreases, below),
      (c.requires.order, (c.requires.forms, (omega (arith, below, within), row_width c.in-Row.count c.in-Row.of r has))),
    )

pub takes-returns-in_ok-takes_row-in-Row : goal.takes-returns-in_ok-takes_row-in-Row
takes-returns-in_ok-takes_row-in-Row t c =
    let datas = c.args.datas.now in
    let forms = c.args.forms.now in
    let bits = c.args.bits.now in
    let form = c.index-forms-at.result in
    let read = read_at forms c.args.at form c.requires.within c.index-forms-at.is in
    let ty = type_of forms c.args.at form read in
    let r = row_of c.in-Row.count c.in-Row.of c.in-Row.is (c.requires.forms c.args.at form read).shape in
    let judged = c.in_ok-takes_row-in-Row.field-0 in
    subst (λ u. IsTrue judged ↔ IsEncoding datas u bits) (sym ty) (row_whole c.in-Row.count c.in-Row.of bits judged r c.in_ok-takes_row-in-Row.ensures)

pub takes-slice_bounds-chosen-end : goal.takes-slice_bounds-chosen-end
takes-slice_bounds-chosen-end t c =
    let datas = c.args.datas.now in
    let forms = c.args.forms.now in
    let bits = c.args.bits.now in
    let form = c.index-forms-at.result in
    let read = read_at forms c.args.at form c.requires.within c.index-forms-at.is in
    let ty = type_of forms c.args.at form read in
    let has = subst (λ u. HasWidth datas u (length bits)) ty c.requires.width in
    let ch = choice_of c.in-Choice.tag c.in-Choice.cons c.in-Choice.is (c.requires.forms c.args.at form read).shape in
    sym (choice_first datas forms c.args.at form.ty c.in-Choice.tag c.in-Choice.cons bits ch has)

pub takes-chosen-requires : goal.takes-chosen-requires
takes-chosen-requires t c =
    let datas = c.args.datas.now in
    let forms = c.args.forms.now in
    let bits = c.args.bits.now in
    let form = c.index-forms-at.result in
    let read = read_at forms c.args.at form c.requires.within c.index-forms-at.is in
    let ty = type_of forms c.args.at form read in
    let has = subst (λ u. HasWidth datas u (length bits)) ty c.requires.width in
    let ch = choice_of c.in-Choice.tag c.in-Choice.cons c.in-Choice.is (c.requires.forms c.args.at form read).shape in
    let few : length c.as_slice.result.now < 2 ^ 64 = omega arith in
    choice_narrow datas forms c.args.at form.ty c.in-Choice.tag c.in-Choice.cons bits ch has (subst (λ cs. length cs < 2 ^ 64) c.as_slice.ensures few)

pub takes-returns-in_default : goal.takes-returns-in_default
takes-returns-in_default t c =
    let datas = c.args.datas.now in
    let forms = c.args.forms.now in
    let bits = c.args.bits.now in
    let form = c.index-forms-at.result in
    let read = read_at forms c.args.at form c.requires.within c.index-forms-at.is in
    let ty = type_of forms c.args.at form read in
    let has = subst (λ u. HasWidth datas u (length bits)) ty c.requires.width in
    let ch = choice_of c.in-Choice.tag c.in-Choice.cons c.in-Choice.is (c.requires.forms c.args.at form read).shape in
    let past = c.in_default.ensures.none in
    never (IsEncoding datas (type_at forms c.args.at) bits)
    (λ v. choice_past datas forms c.args.at form.ty c.in-Choice.tag c.in-Choice.cons bits ch has (subst (λ cs. length cs ≤ number_of (take c.in-Choice.tag bits)) c.as_slice.ensures past)
    (subst (λ u. IsEncoding datas u bits) ty v))

pub takes-after-requires : goal.takes-after-requires
takes-after-requires t c =
    let datas = c.args.datas.now in
    let forms = c.args.forms.now in
    let bits = c.args.bits.now in
    let form = c.index-forms-at.result in
    let read = read_at forms c.args.at form c.requires.within c.index-forms-at.is in
    let ty = type_of forms c.args.at form read in
    let has = subst (λ u. HasWidth datas u (length bits)) ty c.requires.width in
    let ch = choice_of c.in-Choice.tag c.in-Choice.cons c.in-Choice.is (c.requires.forms c.args.at form read).shape in
    choice_room datas forms c.args.at form.ty c.in-Choice.tag c.in-Choice.cons bits ch has

pub takes-takes_fields-requires : goal.takes-takes_fields-requires
takes-takes_fields-requires t c =
    let datas = c.args.datas.now in
    let forms = c.args.forms.now in
    let bits = c.args.bits.now in
    let tag = c.in-Choice.tag in
    let cons = c.in-Choice.cons in
    let form = c.index-forms-at.result in
    let read = read_at forms c.args.at form c.requires.within c.index-forms-at.is in
    let ty = type_of forms c.args.at form read in
    let has = subst (λ u. HasWidth datas u (length bits)) ty c.requires.width in
    let ch = choice_of tag cons c.in-Choice.is (c.requires.forms c.args.at form read).shape in
    let places = c.in-Some.places.now in
    let at = subst (λ cs. slice_get cs (number_of (take tag bits)) ≡ Some places) c.as_slice.ensures c.in-Some.ensures.some in
    let below = choice_below datas forms c.args.at form.ty tag cons bits ch has places c.after.result.now at c.after.ensures in
    let least = above_within c.args.at places below in
    let within = c.requires.within in (
      omega (arith, c.decreases, least),
      (c.requires.order, (c.requires.forms, (all_within c.args.at (length forms) places (omega (arith, within)) below, choice_within datas forms c.args.at form.ty tag cons bits ch has places c.after.result.now at c.after.ensures))),
    )

pub takes-returns-in_ok-takes_fields-in-Choice : goal.takes-returns-in_ok-takes_fields-in-Choice
takes-returns-in_ok-takes_fields-in-Choice t c =
    let datas = c.args.datas.now in
    let forms = c.args.forms.now in
    let bits = c.args.bits.now in
    let tag = c.in-Choice.tag in
    let cons = c.in-Choice.cons in
    let form = c.index-forms-at.result in
    let read = read_at forms c.args.at form c.requires.within c.index-forms-at.is in
    let ty = type_of forms c.args.at form read in
    let has = subst (λ u. HasWidth datas u (length bits)) ty c.requires.width in
    let ch = choice_of tag cons c.in-Choice.is (c.requires.forms c.args.at form read).shape in
    let places = c.in-Some.places.now in
    let at = subst (λ cs. slice_get cs (number_of (take tag bits)) ≡ Some places) c.as_slice.ensures c.in-Some.ensures.some in
    let judged = c.in_ok-takes_fields-in-Choice.field-0 in
    subst (λ u. IsTrue judged ↔ IsEncoding datas u bits) (sym ty)
    (choice_whole datas forms c.args.at form.ty tag cons bits ch has places c.after.result.now at c.after.ensures judged c.in_ok-takes_fields-in-Choice.ensures)

pub takes-is_decoded-requires-clause-width : goal.takes-is_decoded-requires-clause-width
takes-is_decoded-requires-clause-width t c =
    let form = c.index-forms-at.result in
    let read = read_at c.args.forms.now c.args.at form c.requires.within c.index-forms-at.is in
    subst (λ u. HasWidth c.args.datas.now u (length c.args.bits.now)) (type_of c.args.forms.now c.args.at form read) c.requires.width

pub takes-returns-in-Decoded : goal.takes-returns-in-Decoded
takes-returns-in-Decoded t c =
    let datas = c.args.datas.now in
    let bits = c.args.bits.now in
    let form = c.index-forms-at.result in
    let read = read_at c.args.forms.now c.args.at form c.requires.within c.index-forms-at.is in
    let ty = type_of c.args.forms.now c.args.at form read in
    IfOk-weaker c.is_decoded.result (λ judged. IsTrue judged ↔ IsEncoding datas form.ty bits) (λ judged. IsTrue judged ↔ IsEncoding datas (type_at c.args.forms.now c.args.at) bits)
    (λ judged h. subst (λ u. IsTrue judged ↔ IsEncoding datas u bits) (sym ty) h) c.is_decoded.ensures

-- ---- rows

pub takes_row-loop-place-init : goal.takes_row-loop-place-init
takes_row-loop-place-init t c =
    let forms = c.args.forms.now in
    let w = (get_or forms c.args.of c.index-forms-of.result).width in
    let has = form_at c.args.datas.now forms c.args.of c.index-forms-of.result c.requires.forms c.requires.within in
    row_starts c.args.datas.now (type_at forms c.args.of) c.args.count w c.requires.width.width c.args.bits.now has c.requires.width.each c.requires.width.together

pub takes_row-takes-requires : goal.takes_row-takes-requires
takes_row-takes-requires t c =
    let forms = c.args.forms.now in
    let type = type_at forms c.args.of in
    let w = (get_or forms c.args.of c.index-forms-of.result).width in
    let rest = c.loop-place.rest.now in
    let room = row_part c.args.datas.now type c.args.count w c.args.bits.now c.loop-place._place rest c.loop-place-test.true c.loop-place.invariant in
    (omega (arith, c.decreases), (c.requires.order, (c.requires.forms, (c.requires.within, subst (HasWidth c.args.datas.now type) (sym (length_first w rest room)) c.loop-place.invariant.width))))

pub takes_row-returns-then-not-branch : goal.takes_row-returns-then-not-branch
takes_row-returns-then-not-branch t c =
    let datas = c.args.datas.now in
    let type = type_at c.args.forms.now c.args.of in
    let w = (get_or c.args.forms.now c.args.of c.index-forms-of.result).width in
    let rest = c.loop-place.rest.now in
    let fails = test_fails c.in_ok-takes.field-0 (IsEncoding datas type (take w rest)) c.if-not-branch.true c.in_ok-takes.ensures in
    never ((vs : Datums) × IsRow datas type c.args.count c.args.bits.now vs)
    (row_stops datas type c.args.count w c.args.bits.now c.loop-place._place rest c.loop-place-test.true fails c.loop-place.invariant)

pub takes_row-loop-place-preserved : goal.takes_row-loop-place-preserved
takes_row-loop-place-preserved t c =
    let type = type_at c.args.forms.now c.args.of in
    let w = (get_or c.args.forms.now c.args.of c.index-forms-of.result).width in
    row_more c.args.datas.now type c.args.count w c.args.bits.now c.loop-place._place c.loop-place.rest.now c.after-rest.result.now c.loop-place-test.true c.after-rest.ensures
    (c.in_ok-takes.ensures.0 c.if-not-branch.false) c.loop-place.invariant

pub takes_row-returns : goal.takes_row-returns
takes_row-returns t c =
    let type = type_at c.args.forms.now c.args.of in
    let w = (get_or c.args.forms.now c.args.of c.index-forms-of.result).width in
    (λ e. row_is_whole c.args.datas.now type c.args.count w c.args.bits.now c.loop-place._place c.loop-place.rest.now c.loop-place-test.false c.loop-place.invariant, λ r. refl)

-- ---- fields

pub takes_fields-loop-at-init : goal.takes_fields-loop-at-init
takes_fields-loop-at-init t c = fields_start c.args.datas.now (map (type_at c.args.forms.now) c.args.places.now) c.args.bits.now c.requires.width

pub takes_fields-slice_bounds-takes-end : goal.takes_fields-slice_bounds-takes-end
takes_fields-slice_bounds-takes-end t c =
    let datas = c.args.datas.now in
    let forms = c.args.forms.now in
    let bits = c.args.bits.now in
    let places = c.args.places.now in
    let types = map (type_at forms) places in
    let i = c.loop-at.at-index in
    let rest = c.loop-at.rest.now in
    let at = get_or places i 0 in
    let test = c.loop-at-test.true in
    let place = slice_get-get_or places i 0 test in
    let below = within_at (length forms) places i at c.requires.within place in
    let type = type_at forms at in
    let w = (get_or forms at c.index-forms-at.result).width in
    let has = form_at datas forms at c.index-forms-at.result c.requires.forms below in
    let n : length types ≡ length places = length-map places (type_at forms) in
    let within : i < length types = omega (arith, n, test) in
    let got = type_got forms places i test in
    let room = field_part datas types bits i rest type w within got has c.loop-at.invariant in
    sym (length_first w rest room)

pub takes_fields-takes-requires : goal.takes_fields-takes-requires
takes_fields-takes-requires t c =
    let datas = c.args.datas.now in
    let forms = c.args.forms.now in
    let bits = c.args.bits.now in
    let places = c.args.places.now in
    let types = map (type_at forms) places in
    let i = c.loop-at.at-index in
    let rest = c.loop-at.rest.now in
    let at = get_or places i 0 in
    let test = c.loop-at-test.true in
    let place = slice_get-get_or places i 0 test in
    let below = within_at (length forms) places i at c.requires.within place in
    let type = type_at forms at in
    let w = (get_or forms at c.index-forms-at.result).width in
    let has = form_at datas forms at c.index-forms-at.result c.requires.forms below in
    let n : length types ≡ length places = length-map places (type_at forms) in
    let within : i < length types = omega (arith, n, test) in
    let got = type_got forms places i test in
    let room = field_part datas types bits i rest type w within got has c.loop-at.invariant in
    let least = below_above places i at place in (
      omega (arith, c.decreases, least),
      (c.requires.order, (c.requires.forms, (below, subst (HasWidth datas type) (sym (length_first w rest room)) has))),
    )

pub takes_fields-returns-then-not-branch : goal.takes_fields-returns-then-not-branch
takes_fields-returns-then-not-branch t c =
    let datas = c.args.datas.now in
    let forms = c.args.forms.now in
    let bits = c.args.bits.now in
    let places = c.args.places.now in
    let types = map (type_at forms) places in
    let i = c.loop-at.at-index in
    let rest = c.loop-at.rest.now in
    let at = get_or places i 0 in
    let test = c.loop-at-test.true in
    let place = slice_get-get_or places i 0 test in
    let below = within_at (length forms) places i at c.requires.within place in
    let type = type_at forms at in
    let w = (get_or forms at c.index-forms-at.result).width in
    let has = form_at datas forms at c.index-forms-at.result c.requires.forms below in
    let n : length types ≡ length places = length-map places (type_at forms) in
    let within : i < length types = omega (arith, n, test) in
    let got = type_got forms places i test in
    let room = field_part datas types bits i rest type w within got has c.loop-at.invariant in
    let fails = test_fails c.in_ok-takes.field-0 (IsEncoding datas type (take w rest)) c.if-not-branch.true c.in_ok-takes.ensures in
    never ((vs : Datums) × ArePadded datas types ty_var bits vs) (fields_stop datas types bits i rest type w within got has fails c.loop-at.invariant)

pub takes_fields-after-rest-requires : goal.takes_fields-after-rest-requires
takes_fields-after-rest-requires t c =
    let datas = c.args.datas.now in
    let forms = c.args.forms.now in
    let bits = c.args.bits.now in
    let places = c.args.places.now in
    let types = map (type_at forms) places in
    let i = c.loop-at.at-index in
    let rest = c.loop-at.rest.now in
    let at = get_or places i 0 in
    let test = c.loop-at-test.true in
    let place = slice_get-get_or places i 0 test in
    let below = within_at (length forms) places i at c.requires.within place in
    let type = type_at forms at in
    let w = (get_or forms at c.index-forms-at.result).width in
    let has = form_at datas forms at c.index-forms-at.result c.requires.forms below in
    let n : length types ≡ length places = length-map places (type_at forms) in
    let within : i < length types = omega (arith, n, test) in
    let got = type_got forms places i test in
    let room = field_part datas types bits i rest type w within got has c.loop-at.invariant in
    room

pub takes_fields-loop-at-preserved : goal.takes_fields-loop-at-preserved
takes_fields-loop-at-preserved t c =
    let datas = c.args.datas.now in
    let forms = c.args.forms.now in
    let bits = c.args.bits.now in
    let places = c.args.places.now in
    let types = map (type_at forms) places in
    let i = c.loop-at.at-index in
    let rest = c.loop-at.rest.now in
    let at = get_or places i 0 in
    let test = c.loop-at-test.true in
    let place = slice_get-get_or places i 0 test in
    let below = within_at (length forms) places i at c.requires.within place in
    let type = type_at forms at in
    let w = (get_or forms at c.index-forms-at.result).width in
    let has = form_at datas forms at c.index-forms-at.result c.requires.forms below in
    let n : length types ≡ length places = length-map places (type_at forms) in
    let within : i < length types = omega (arith, n, test) in
    let got = type_got forms places i test in
    let room = field_part datas types bits i rest type w within got has c.loop-at.invariant in
    fields_more datas types bits i rest c.after-rest.result.now type w within got has c.after-rest.ensures (c.in_ok-takes.ensures.0 c.if-not-branch.false) c.loop-at.invariant

pub takes_fields-returns : goal.takes_fields-returns
takes_fields-returns t c =
    let places = c.args.places.now in
    let types = map (type_at c.args.forms.now) places in
    let n : length types ≡ length places = length-map places (type_at c.args.forms.now) in
    let past = c.loop-at-test.false in
    fields_end_zero c.args.datas.now types c.args.bits.now c.loop-at.at-index c.loop-at.rest.now c.all_zero.result (omega (arith, n, past)) c.all_zero.ensures c.loop-at.invariant
