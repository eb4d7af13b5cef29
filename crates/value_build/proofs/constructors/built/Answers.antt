use Rattle.std.proofs.Common.{◌≡◌, ◌∙◌, ap, sym, subst}
use Rattle.std.proofs.lemmas.Result.{on_ok_weaker}
use Rattle.chw_types.specs.Arguments.{arguments}
use Rattle.chw_types.specs.TypeView.{trees_of}
use Rattle.chw_terms.specs.Constructors.{Constructor}
use Rattle.chw_layout.specs.Measured.{fits, tag_width, MeasuredFields}
use Rattle.con_places.specs.Constructing.{constructor_of}
use Rattle.value_build.specs.Arguments.{terms_in, types_in}
use Rattle.value_build.specs.InScope.{in_scope}
use Rattle.value_build.proofs.Patterns.{constructor_made, con_once, con_there}
use Rattle.value_build.proofs.Operands.{types_same}
use Rattle.value_build.proofs.constructors.built.Goals as goal

pub returns-clause-cells : goal.returns-clause-cells
returns-clause-cells c =
    on_ok_weaker c.constructed.result
    (λ is. constructor_made c.args.base.now (in_scope c.args.scope.now) c.args.w c.args.c.number c.in-Some.it.place c.in_ok-fields.fields c.tag_width-tag.result
    (types_in c.args.args.now) (terms_in c.args.args.now) (constructor_of c.in-Some.it) c.as_slice.result.now c.deref.result.now c.args.into.now c.constructed.new.into
    c.in-Some.ensures.is c.in-Some.ensures.number c.in_ok-fields.ensures.width c.as_slice.ensures
    (c.tag_width-tag.ensures ∙ ap tag_width c.len.ensures) (c.deref.ensures.value ∙ c.in_ok-wires.ensures) is)
    c.constructed.ensures

pub unreachable-requires : goal.unreachable-requires
unreachable-requires c =
    con_there c.args.base.now.datas c.args.c.number c.requires.it c.requires.held c.in_default.ensures

pub fields_width_at-requires : goal.fields_width_at-requires
fields_width_at-requires c =
    let datas = c.args.base.now.datas in
    let args = c.args.args.now in
    let ready = c.requires in
    let same : ready.it ≡ constructor_of c.in-Some.it = con_once datas c.args.c.number ready.it (constructor_of c.in-Some.it) ready.held c.in-Some.ensures.is in (
      ready.fields,
      subst (λ fs. MeasuredFields datas fs (arguments (trees_of (types_in args))) (fits ready.fields))
          (ap (λ (k : Constructor). k.decl.fields) same ∙ sym c.as_slice.ensures)
          (subst (λ ts. MeasuredFields datas ready.it.decl.fields (arguments (trees_of ts)) (fits ready.fields)) (types_same args) ready.measured),
    )
