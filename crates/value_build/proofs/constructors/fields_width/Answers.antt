use Rattle.std.proofs.Common.{◌∙◌, ◌-◌, sym, subst, refl, arith}
use Rattle.chw_types.specs.Arguments.{arguments}
use Rattle.chw_types.specs.TypeMoves.{sub}
use Rattle.chw_types.specs.TypeView.{trees_of}
use Rattle.chw_layout.specs.Measured.{HasWidth}
use Rattle.net_built.specs.Circuits.{Ground}
use Rattle.value_build.proofs.Measures.{fields_grown, no_fields}
use Rattle.value_build.specs.ReadyParts.{FieldsMeasured}
use Rattle.value_build.proofs.Ready.{field_at}
use Rattle.value_build.proofs.constructors.fields_width.Goals as goal

pub loop-i-init : goal.loop-i-init
loop-i-init c = (no_fields c.args.base.now.datas c.args.fields.now (arguments (trees_of c.args.args.now)) _ (omega arith), refl)

pub loop-i-preserved : goal.loop-i-preserved
loop-i-preserved c =
    let same = c.loop-i.invariant.1 in
    let σ = arguments (trees_of c.args.args.now) in
    let f = c.index-fields-i.result in
    let w = c.in_ok-width.width in (
      fields_grown c.args.base.now.datas c.args.fields.now σ c.loop-i.i _ w c.loop-i.sum c.saturating_add-sum.result f
          refl (omega (arith, c.loop-i-test.true)) (omega (arith, c.loop-i-test.true, c.loop-i.auto.i)) c.index-fields-i.is
          (subst (λ (g : Ground). HasWidth g.datas (sub f σ) w) same c.in_ok-width.ensures.width) c.loop-i.invariant.0 c.saturating_add-sum.ensures,
      c.field_width.ensures.same ∙ same,
    )

pub field_width-requires : goal.field_width-requires
field_width-requires c =
    let σ = arguments (trees_of c.args.args.now) in
    field_at c.args.fields.now (c.loop-i.i - 1) c.index-fields-i.result
    (subst (λ (g : Ground). FieldsMeasured g.datas c.args.fields.now σ) (sym c.loop-i.invariant.1) c.requires)
    (omega (arith, c.loop-i-test.true, c.loop-i.auto.i)) c.index-fields-i.is
