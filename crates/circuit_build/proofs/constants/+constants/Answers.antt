-- Constants by their forms.
use Rattle.std.proofs.Common.{◌≡◌, ◌∙◌, ◌+◌, ◌-◌, ◌<◌, ◌∷◌, [], ◌++◌, drop, ap, sym, subst, arith, length, false, rules, Some, None}
use Rattle.std.specs.Prelude.{replicate}
use Rattle.std.proofs.lemmas.Result.{on_ok_weaker}
use Rattle.chw_terms.specs.Constructors.{Constructor}
use Rattle.chw_terms.specs.PartsFall.{arg_smaller, term_smaller}
use Rattle.chw_terms.specs.TermFalls.{applied_size}
use Rattle.chw_terms.specs.TermSize.{tree_size, args_size}
use Rattle.chw_terms.specs.TermTree.{TermTree, con}
use Rattle.chw_types.specs.Arguments.{arguments}
use Rattle.chw_types.specs.TypeMoves.{sub}
use Rattle.chw_types.specs.TypeView.{trees_of}
use Rattle.chw_layout.specs.Measured.{closed_value, tag_width}
use Rattle.con_places.specs.Constructing.{constructor_of}
use Rattle.net_built.specs.Circuits.{Ground}
use Rattle.net_built.proofs.Parts.{same_some}
use Rattle.net_ready.specs.Ready.{HasSomeBits}
use Rattle.value_build.specs.Arguments.{terms_in}
use Rattle.circuit_build.specs.Constants.{AddsBits, AddsFields, FieldsHaveBits, HaveBits}
use Rattle.circuit_build.specs.Views.{IsReadConstant}
use Rattle.circuit_build.proofs.ConstantBits.{elements_grown, elements_whole, fields_grown, fields_whole, vector_added, data_added, no_shorter}
use Rattle.circuit_build.proofs.ConstantParts.{bits_at, literal_added, vector_parts, is_vector, same_elements, same_count, data_parts, is_data, same_data, same_types, field_left, no_field_left, next_field_has, terms_left, none_left}
use Rattle.circuit_build.proofs.constants.+constants.Goals as goal

pub add_elements-add_bits-requires : goal.add_elements-add_bits-requires
add_elements-add_bits-requires t c =
    let e = c.element-item.result in
    let have = c.requires.bits in (
      omega (arith, c.decreases, term_smaller c.args.elements.now c.loop-element.element-index e _ c.loop-element-test.true c.element-item.is),
      subst (λ (g : Ground). HasSomeBits g.datas c.args.t.now e) (sym c.loop-element.invariant.1)
          (bits_at c.args.elements.now c.loop-element.element-index e have.denote have.encode c.loop-element-test.true c.element-item.is),
    )

pub add_elements-loop-element-preserved : goal.add_elements-loop-element-preserved
add_elements-loop-element-preserved t c =
    let so = c.loop-element.invariant in
    let e = c.element-item.result in
    let ty = c.args.t.now in
    let before = c.loop-element.into.items in
    let now = c.add_bits.new.into.items in (
      elements_grown c.args.base.now.datas ty c.args.elements.now c.loop-element.element-index e c.args.into.now.items before now
          c.loop-element-test.true c.element-item.is
          (subst (λ (g : Ground). AddsBits g.datas ty e before now) so.1 c.in_ok-add_bits.ensures.bits) so.0,
      c.add_bits.ensures.same ∙ so.1,
    )

pub add_elements-returns-clause-bits : goal.add_elements-returns-clause-bits
add_elements-returns-clause-bits t c =
    elements_whole c.args.base.now.datas c.args.t.now c.args.elements.now c.loop-element.element-index c.args.into.now.items c.loop-element.into.items
    (omega (arith, c.loop-element-test.false)) c.loop-element.invariant.0

pub add_bits-constant_of-requires : goal.add_bits-constant_of-requires
add_bits-constant_of-requires t c = (c.requires.bits.1.value, c.requires.bits.1.denotes)

pub add_bits-returns-in-Literal-clause-bits : goal.add_bits-returns-in-Literal-clause-bits
add_bits-returns-in-Literal-clause-bits t c =
    let read = subst (λ k. IsReadConstant k c.args.e.now) c.in-Literal.is c.constant_of.ensures in
    on_ok_weaker c.add_literal.result
    (λ added. literal_added c.args.base.now.datas c.args.t.now c.args.e.now read.0 c.in-Literal.bits.now c.args.into.now.items c.add_literal.new.into.items
    read.1 c.requires.bits added)
    c.add_literal.ensures

pub add_bits-element_type-requires : goal.add_bits-element_type-requires
add_bits-element_type-requires t c =
    let read = subst (λ k. IsReadConstant k c.args.e.now) c.in-Vector.is c.constant_of.ensures in
    let p = vector_parts c.args.base.now.datas c.args.t.now read.0 c.args.e.now c.in-Vector.elements.now read.1 c.requires.bits in
    is_vector c.args.t.now p.count p.of p.is

pub add_bits-add_elements-requires : goal.add_bits-add_elements-requires
add_bits-add_elements-requires t c =
    let datas = c.args.base.now.datas in
    let es = c.in-Vector.elements.now in
    let read = subst (λ k. IsReadConstant k c.args.e.now) c.in-Vector.is c.constant_of.ensures in
    let p = vector_parts datas c.args.t.now read.0 c.args.e.now es read.1 c.requires.bits in
    let r = c.element_type.ensures in (
      omega (arith, c.decreases, ap tree_size read.1),
      subst (λ u. HaveBits datas u es) (same_elements p.count r.0 p.of c.element_type.result.now (sym p.is ∙ r.1)) p.have,
    )

pub add_bits-returns-in-Vector-clause-bits : goal.add_bits-returns-in-Vector-clause-bits
add_bits-returns-in-Vector-clause-bits t c =
    let datas = c.args.base.now.datas in
    let es = c.in-Vector.elements.now in
    let read = subst (λ k. IsReadConstant k c.args.e.now) c.in-Vector.is c.constant_of.ensures in
    let p = vector_parts datas c.args.t.now read.0 c.args.e.now es read.1 c.requires.bits in
    let r = c.element_type.ensures in
    let many : length es ≡ closed_value r.0 = p.many ∙ ap closed_value (same_count p.count r.0 p.of c.element_type.result.now (sym p.is ∙ r.1)) in
    on_ok_weaker c.add_elements.result
    (λ added. vector_added datas c.args.t.now r.0 c.element_type.result.now read.0 c.args.e.now es c.args.into.now.items c.add_elements.new.into.items
    r.1 read.1 many added)
    c.add_elements.ensures.bits

pub add_bits-add_data-requires : goal.add_bits-add_data-requires
add_bits-add_data-requires t c =
    let read = subst (λ k. IsReadConstant k c.args.e.now) c.in-Data.is c.constant_of.ensures in (
      omega (arith, c.decreases, ap tree_size read, applied_size (con c.in-Data.c.number) c.in-Data.args.now),
      subst (HasSomeBits c.args.base.now.datas c.args.t.now) read c.requires.bits,
    )

pub add_bits-returns-in-Data-clause-bits : goal.add_bits-returns-in-Data-clause-bits
add_bits-returns-in-Data-clause-bits t c =
    let read = subst (λ k. IsReadConstant k c.args.e.now) c.in-Data.is c.constant_of.ensures in
    on_ok_weaker c.add_data.result
    (λ all. subst (λ (e : TermTree). AddsBits c.args.base.now.datas c.args.t.now e c.args.into.now.items c.add_data.new.into.items) (sym read) all)
    c.add_data.ensures.bits

pub add_data-unreachable-requires : goal.add_data-unreachable-requires
add_data-unreachable-requires t c =
    let laws = c.numbers_of_constructors.ensures in
    let p = data_parts c.args.base.now.datas c.args.t.now c.args.c c.args.args.now laws.places laws.one c.requires.bits in
    let both : Some p.it ≡ None = sym p.at ∙ c.in_default.ensures in
    absurd cc

pub add_data-width-requires : goal.add_data-width-requires
add_data-width-requires t c =
    let laws = c.numbers_of_constructors.ensures in
    let p = data_parts c.args.base.now.datas c.args.t.now c.args.c c.args.args.now laws.places laws.one c.requires.bits in
    (p.width, p.wide)

pub add_data-types_applied-requires : goal.add_data-types_applied-requires
add_data-types_applied-requires t c =
    let laws = c.numbers_of_constructors.ensures in
    let p = data_parts c.args.base.now.datas c.args.t.now c.args.c c.args.args.now laws.places laws.one c.requires.bits in
    is_data c.args.t.now p.it.of p.types p.is

pub add_data-add_fields-requires : goal.add_data-add_fields-requires
add_data-add_fields-requires t c =
    let datas = c.args.base.now.datas in
    let es = terms_in c.args.args.now in
    let laws = c.numbers_of_constructors.ensures in
    let p = data_parts datas c.args.t.now c.args.c c.args.args.now laws.places laws.one c.requires.bits in
    let r = c.types_applied.ensures in
    let types = trees_of c.types_applied.result.now in
    let same : p.it ≡ constructor_of c.in-Some.it = same_some p.at c.in-Some.ensures.is in
    let fields = ap (λ (k : Constructor). k.decl.fields) same ∙ sym c.as_slice.ensures in
    let have = subst (λ ts. FieldsHaveBits datas c.as_slice.result.now (arguments ts) es) (same_types p.it.of r.0 p.types types (sym p.is ∙ r.1))
    (subst (λ fs. FieldsHaveBits datas fs (arguments p.types) es) fields p.have) in (
      omega (arith, c.decreases),
      subst (λ (g : Ground). FieldsHaveBits g.datas c.as_slice.result.now (arguments types) es) (sym c.width.ensures.same) have,
    )

pub add_data-fill-requires : goal.add_data-fill-requires
add_data-fill-requires t c =
    let added = c.in_ok-add_fields.ensures.bits in
    let l = no_shorter c.args.into.now.items c.add_number.new.into.items c.add_fields.new.into.items _ added.bits c.in_ok-add_number.ensures added.are in
    omega (arith, l, c.len-first.ensures)

pub add_data-returns-clause-bits : goal.add_data-returns-clause-bits
add_data-returns-clause-bits t c =
    let datas = c.args.base.now.datas in
    let k = c.args.c in
    let it = constructor_of c.in-Some.it in
    let types = trees_of c.types_applied.result.now in
    let fields = c.as_slice.result.now in
    let before = c.args.into.now.items in
    let a = c.add_number.new.into.items in
    let b = c.add_fields.new.into.items in
    let laws = c.numbers_of_constructors.ensures in
    let p = data_parts datas c.args.t.now k c.args.args.now laws.places laws.one c.requires.bits in
    let r = c.types_applied.ensures in
    let same : p.it ≡ it = same_some p.at c.in-Some.ensures.is in
    let of : it.of ≡ r.0 = ap (λ (x : Constructor). x.of) (sym same) ∙ same_data p.it.of r.0 p.types types (sym p.is ∙ r.1) in
    let first : c.len-first.result ≡ length before = c.len-first.ensures ∙ c.args.into.now.ok.0 in
    let added = subst (λ (g : Ground). AddsFields g.datas fields (arguments types) (terms_in c.args.args.now) a b) c.width.ensures.same c.in_ok-add_fields.ensures.bits in
    on_ok_weaker c.fill.result
    (λ padded. data_added datas c.args.t.now types r.0 k c.args.args.now it c.in-Some.it.place c.in_ok-width.width c.tag_width.result
    fields before a b c.fill.new.into.items laws.one (sym r.1) c.in-Some.ensures.is ((laws.places datas k.number it).0 c.in-Some.ensures.is) of
    c.in-Some.ensures.number c.as_slice.ensures (c.tag_width.ensures ∙ ap tag_width c.len.ensures) c.in_ok-width.ensures.width c.in_ok-add_number.ensures added
    (padded ∙ ap (λ m. b ++ replicate (c.in_ok-width.width - (length b - m)) false) first))
    c.fill.ensures

pub add_field-add_bits-added-requires : goal.add_field-add_bits-added-requires
add_field-add_bits-added-requires t c = (
  omega (arith, c.decreases),
  subst (λ u. HasSomeBits c.args.base.now.datas u c.args.e.now) (sym c.in_ok-t.ensures.is) c.requires.bits,
)

pub add_field-returns-clause-bits : goal.add_field-returns-clause-bits
add_field-returns-clause-bits t c =
    let datas = c.args.base.now.datas in
    let before = c.args.into.now.items in
    let later = c.add_bits-added.new.into.items in
    on_ok_weaker c.add_bits-added.result
    (λ all. subst (λ u. AddsBits datas u c.args.e.now before later) c.in_ok-t.ensures.is all)
    c.add_bits-added.ensures.bits

pub add_fields-bounds-fields-next : goal.add_fields-bounds-fields-next
add_fields-bounds-fields-next t c =
    let datas = c.args.base.now.datas in
    let σ = arguments (trees_of c.args.types.now) in
    let args = c.args.args.now in
    let i = c.loop-arg.arg-index in
    let e = c.in-OfTerm.e in
    field_left datas σ c.args.fields.now c.loop-arg.next e (terms_in (drop (i + 1) args))
    (subst (FieldsHaveBits datas (drop c.loop-arg.next c.args.fields.now) σ) (terms_left args i c.arg-item.result e c.loop-arg-test.true c.arg-item.is c.in-OfTerm.is)
    c.loop-arg.invariant.1)

pub add_fields-offset_bounds-fields-next : goal.add_fields-offset_bounds-fields-next
add_fields-offset_bounds-fields-next t c =
    let datas = c.args.base.now.datas in
    let σ = arguments (trees_of c.args.types.now) in
    let args = c.args.args.now in
    let i = c.loop-arg.arg-index in
    let e = c.in-OfTerm.e in
    let l : c.loop-arg.next < length c.args.fields.now = field_left datas σ c.args.fields.now c.loop-arg.next e (terms_in (drop (i + 1) args))
    (subst (FieldsHaveBits datas (drop c.loop-arg.next c.args.fields.now) σ) (terms_left args i c.arg-item.result e c.loop-arg-test.true c.arg-item.is c.in-OfTerm.is)
    c.loop-arg.invariant.1) in
    first_of (omega arith, grind arith, search rules)

pub add_fields-overflow_add-next : goal.add_fields-overflow_add-next
add_fields-overflow_add-next t c =
    let datas = c.args.base.now.datas in
    let σ = arguments (trees_of c.args.types.now) in
    let args = c.args.args.now in
    let i = c.loop-arg.arg-index in
    let e = c.in-OfTerm.e in
    let l : c.loop-arg.next < length c.args.fields.now = field_left datas σ c.args.fields.now c.loop-arg.next e (terms_in (drop (i + 1) args))
    (subst (FieldsHaveBits datas (drop c.loop-arg.next c.args.fields.now) σ) (terms_left args i c.arg-item.result e c.loop-arg-test.true c.arg-item.is c.in-OfTerm.is)
    c.loop-arg.invariant.1) in
    first_of (omega arith, grind arith, search rules)

pub add_fields-add_field-requires : goal.add_fields-add_field-requires
add_fields-add_field-requires t c =
    let so = c.loop-arg.invariant in
    let datas = c.args.base.now.datas in
    let σ = arguments (trees_of c.args.types.now) in
    let args = c.args.args.now in
    let fields = c.args.fields.now in
    let i = c.loop-arg.arg-index in
    let e = c.in-OfTerm.e in
    let f = c.index-fields-next.result in
    let es = terms_in (drop (i + 1) args) in
    let left = subst (FieldsHaveBits datas (drop c.loop-arg.next fields) σ) (terms_left args i c.arg-item.result e c.loop-arg-test.true c.arg-item.is c.in-OfTerm.is) so.1 in
    let l = field_left datas σ fields c.loop-arg.next e es left in (
      omega (
        arith,
        c.decreases,
        arg_smaller args i c.arg-item.result _ c.loop-arg-test.true c.arg-item.is,
        ap (λ a. args_size (a ∷ [])) c.in-OfTerm.is,
      ),
      subst (λ (g : Ground). HasSomeBits g.datas (sub f σ) e) (sym so.2) (next_field_has datas σ fields c.loop-arg.next f e es l c.index-fields-next.is left).0,
    )

pub add_fields-loop-arg-preserved : goal.add_fields-loop-arg-preserved
add_fields-loop-arg-preserved t c =
    let so = c.loop-arg.invariant in
    let datas = c.args.base.now.datas in
    let σ = arguments (trees_of c.args.types.now) in
    let args = c.args.args.now in
    let fields = c.args.fields.now in
    let i = c.loop-arg.arg-index in
    let a = c.arg-item.result in
    let e = c.in-OfTerm.e in
    let f = c.index-fields-next.result in
    let es = terms_in (drop (i + 1) args) in
    let left = subst (FieldsHaveBits datas (drop c.loop-arg.next fields) σ) (terms_left args i a e c.loop-arg-test.true c.arg-item.is c.in-OfTerm.is) so.1 in
    let l = field_left datas σ fields c.loop-arg.next e es left in
    let before = c.loop-arg.into.items in
    let now = c.add_field.new.into.items in (
      fields_grown datas fields σ args i c.loop-arg.next a e f c.args.into.now.items before now c.loop-arg-test.true c.arg-item.is c.in-OfTerm.is
          l c.index-fields-next.is (subst (λ (g : Ground). AddsBits g.datas (sub f σ) e before now) so.2 c.in_ok-add_field.ensures.bits) so.0,
      (next_field_has datas σ fields c.loop-arg.next f e es l c.index-fields-next.is left).1,
      c.add_field.ensures.same ∙ so.2,
    )

pub add_fields-returns-clause-bits : goal.add_fields-returns-clause-bits
add_fields-returns-clause-bits t c =
    let datas = c.args.base.now.datas in
    let σ = arguments (trees_of c.args.types.now) in
    let args = c.args.args.now in
    let fields = c.args.fields.now in
    let i = c.loop-arg.arg-index in
    let m = no_field_left datas σ fields c.loop-arg.next
    (subst (FieldsHaveBits datas (drop c.loop-arg.next fields) σ) (none_left args i (omega (arith, c.loop-arg-test.false))) c.loop-arg.invariant.1) in
    fields_whole datas fields σ args i c.loop-arg.next c.args.into.now.items c.loop-arg.into.items (omega (arith, c.loop-arg-test.false)) m c.loop-arg.invariant.0
