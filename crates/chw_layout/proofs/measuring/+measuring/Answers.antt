use Rattle.std.proofs.Common.{◌≡◌, length, refl, sym, ap, subst, ◌∙◌, arith}
use Rattle.chw_types.specs.TypeView.{tree_of, trees_of}
use Rattle.chw_types.specs.TypeTree.{data_of}
use Rattle.chw_types.specs.TypeSize.{tree_size}
use Rattle.chw_types.specs.SamePromises.{natural_value}
use Rattle.chw_types.specs.declared.kind.Scalar.TheVariants.{U, S, B}
use Rattle.chw_layout.specs.declared.outcome.Outcome.TheVariants.{Number}
use Rattle.chw_layout.specs.Measured.{tag_width}
use Rattle.chw_layout.specs.Outcomes.{number_at, ComesUnder, FieldsCome, ConsCome, AllReach, Reaches}
use Rattle.chw_layout.specs.Sizes.{fields_size, cons_size, datas_size}
use Rattle.chw_layout.proofs.Coming.{HasNoMeasure, comes_scalar, comes_vector, comes_var, comes_data, comes_other, other_form, data_comes, nothing_comes}
use Rattle.chw_layout.proofs.Loops.{fields_go_on, fields_stop, fields_end, cons_go_on, cons_stop, cons_end, is_passed, arguments_go_on, arguments_end}
use Rattle.chw_layout.proofs.Reaching.{reach_some, reach_inside, reach_one, reach_con, reach_argument, reach_data, size_of_one, size_of_con, size_of_data, size_of_argument, lower}
use Rattle.chw_layout.proofs.measuring.+measuring.Goals as goal

pub cons_outcome-fields_outcome-requires : goal.cons_outcome-fields_outcome-requires
cons_outcome-fields_outcome-requires t c =
    let s = size_of_con c.args.cons.now c.loop-con.con-index c.con-item.result c.loop-con-test.true c.con-item.is in (
      omega (arith, c.decreases, s, ap fields_size c.as_slice.ensures),
      (
        c.loop-con.invariant.0,
        subst (AllReach c.args.datas.now c.args.left) (sym c.as_slice.ensures) (reach_con c.args.datas.now c.args.left c.args.cons.now c.loop-con.con-index c.con-item.result c.loop-con-test.true c.con-item.is c.requires.reaches),
      ),
    )

pub cons_outcome-returns-in_default : goal.cons_outcome-returns-in_default
cons_outcome-returns-in_default t c =
    record {
      known = c.in_ok-passed.ensures.known;
      comes = cons_stop c.args.datas.now c.args.env.now c.args.cons.now c.loop-con.con-index c.loop-con.widest c.in_ok-passed.passed c.con-item.result c.loop-con-test.true c.con-item.is
          (subst (λ fs. FieldsCome c.args.datas.now c.args.env.now fs c.in_ok-passed.passed) c.as_slice.ensures c.in_ok-passed.ensures.comes)
          (is_passed c.in_ok-passed.passed c.in_default.not-Fits) c.loop-con.invariant.1;
    }

pub cons_outcome-loop-con-preserved : goal.cons_outcome-loop-con-preserved
cons_outcome-loop-con-preserved t c = (
  c.in_ok-passed.ensures.known,
  cons_go_on c.args.datas.now c.args.env.now c.args.cons.now c.loop-con.con-index c.loop-con.widest c.in-Fits.width c.max-widest.result c.con-item.result c.loop-con-test.true c.con-item.is
      (subst (FieldsCome c.args.datas.now c.args.env.now c.con-item.result.fields) c.in-Fits.is (subst (λ fs. FieldsCome c.args.datas.now c.args.env.now fs c.in_ok-passed.passed) c.as_slice.ensures c.in_ok-passed.ensures.comes))
      c.max-widest.ensures c.loop-con.invariant.1,
)

pub cons_outcome-returns-clause-comes : goal.cons_outcome-returns-clause-comes
cons_outcome-returns-clause-comes t c = cons_end c.args.datas.now c.args.env.now c.args.cons.now c.loop-con.con-index c.loop-con.widest (omega (arith, c.loop-con-test.false)) c.loop-con.invariant.1

pub data_outcome-new_outcome-requires : goal.data_outcome-new_outcome-requires
data_outcome-new_outcome-requires t c = (omega (arith, c.decreases), (c.requires.known, c.requires.reaches))

pub fields_outcome-outcome_of-requires : goal.fields_outcome-outcome_of-requires
fields_outcome-outcome_of-requires t c =
    let s = size_of_one c.args.fields.now c.loop-field.field-index c.field-item.result c.loop-field-test.true c.field-item.is in (
      omega (arith, c.decreases, s),
      (c.loop-field.invariant.0, reach_one c.args.datas.now c.args.left c.args.fields.now c.loop-field.field-index c.field-item.result c.loop-field-test.true c.field-item.is c.requires.reaches),
    )

pub fields_outcome-returns-in_default : goal.fields_outcome-returns-in_default
fields_outcome-returns-in_default t c =
    record {
      known = c.in_ok-passed.ensures.known;
      comes = fields_stop c.args.datas.now c.args.env.now c.args.fields.now c.loop-field.field-index c.loop-field.sum c.in_ok-passed.passed c.field-item.result c.loop-field-test.true c.field-item.is
          c.in_ok-passed.ensures.comes (is_passed c.in_ok-passed.passed c.in_default.not-Fits) c.loop-field.invariant.1;
    }

pub fields_outcome-loop-field-preserved : goal.fields_outcome-loop-field-preserved
fields_outcome-loop-field-preserved t c = (
  c.in_ok-passed.ensures.known,
  fields_go_on c.args.datas.now c.args.env.now c.args.fields.now c.loop-field.field-index c.loop-field.sum c.in-Fits.width c.saturating_add-sum.result c.field-item.result c.loop-field-test.true c.field-item.is
      (subst (ComesUnder c.args.datas.now c.args.env.now c.field-item.result) c.in-Fits.is c.in_ok-passed.ensures.comes)
      c.saturating_add-sum.ensures c.loop-field.invariant.1,
  omega (arith, c.saturating_add-sum.ensures),
)

pub fields_outcome-returns-clause-comes : goal.fields_outcome-returns-clause-comes
fields_outcome-returns-clause-comes t c =
    fields_end c.args.datas.now c.args.env.now c.args.fields.now c.loop-field.field-index c.loop-field.sum (omega (arith, c.loop-field-test.false)) c.loop-field.invariant.2 c.loop-field.invariant.1

pub new_outcome-returns-in_default-clause-comes : goal.new_outcome-returns-in_default-clause-comes
new_outcome-returns-in_default-clause-comes t c = nothing_comes c.args.datas.now c.args.at (length c.args.outs.now) c.args.outs.now (Number 0) c.in_default.ensures.none refl refl

pub new_outcome-cons_outcome-requires : goal.new_outcome-cons_outcome-requires
new_outcome-cons_outcome-requires t c =
    let s = c.in-Some.ensures.some in
    let few = lower c.args.left (datas_size c.args.datas.now) (cons_size c.in-Some.cons.now) (reach_some c.args.datas.now c.args.left c.args.at s.0 c.requires.reaches s.1) (size_of_data c.args.datas.now c.args.at s.0 c.in-Some.cons.now s.1 s.3) in
    (omega (arith, c.decreases, few), (c.requires.known, reach_inside c.args.datas.now c.args.left c.args.at s.0 c.in-Some.cons.now c.requires.reaches s.1 s.3))

pub new_outcome-returns-clause-comes : goal.new_outcome-returns-clause-comes
new_outcome-returns-clause-comes t c =
    let s = c.in-Some.ensures.some in
    data_comes c.args.datas.now c.args.at (length c.args.outs.now) c.args.outs.now c.tagged_outcome.result c.in_ok-widest.widest c.tag_width.result s.0 s.1
    (subst (λ cs. ConsCome c.args.datas.now c.args.outs.now cs c.in_ok-widest.widest) s.3 c.in_ok-widest.ensures.comes)
    (c.tag_width.ensures ∙ ap (λ cs. tag_width (length cs)) s.3)
    c.tagged_outcome.ensures

pub outcome_of-outcome_of-requires-in-loop-arg : goal.outcome_of-outcome_of-requires-in-loop-arg
outcome_of-outcome_of-requires-in-loop-arg t c =
    let items = c.deref-arg-items.result.now in
    let p : data_of c.in-DataOf.at.number (trees_of items) ≡ c.args.t.now = ap (λ us. data_of c.in-DataOf.at.number (trees_of us)) c.deref-arg-items.ensures.value ∙ ap tree_of (sym c.in-DataOf.is) ∙ c.t.view_is in
    let s = size_of_argument items c.loop-arg.arg-index c.arg-item.result c.loop-arg-test.true c.arg-item.is in (
      omega (arith, c.decreases, s, ap tree_size p),
      (
        c.loop-arg.invariant.0,
        reach_argument c.args.datas.now c.args.left c.in-DataOf.at.number items c.loop-arg.arg-index c.arg-item.result c.loop-arg-test.true c.arg-item.is (subst (Reaches c.args.datas.now c.args.left) (sym p) c.requires.reaches),
      ),
    )

pub outcome_of-loop-arg-preserved : goal.outcome_of-loop-arg-preserved
outcome_of-loop-arg-preserved t c = (
  c.in_ok-outcome_of-in-DataOf.ensures.known,
  arguments_go_on c.args.datas.now c.args.env.now c.deref-arg-items.result.now c.loop-arg.arg-index c.loop-arg.outs.items c.push.new.self.items c.arg-item.result c.in_ok-outcome_of-in-DataOf.field-0 c.loop-arg-test.true c.arg-item.is
      c.in_ok-outcome_of-in-DataOf.ensures.comes c.in_ok-push-in-DataOf.ensures.items c.loop-arg.invariant.1,
)

pub outcome_of-data_outcome-requires : goal.outcome_of-data_outcome-requires
outcome_of-data_outcome-requires t c =
    let p : data_of c.in-DataOf.at.number (trees_of c.in-DataOf.args.items) ≡ c.args.t.now = ap tree_of (sym c.in-DataOf.is) ∙ c.t.view_is in (
      omega (arith, c.decreases, ap tree_size p),
      (c.loop-arg.invariant.0, reach_data c.args.datas.now c.args.left c.in-DataOf.at.number (trees_of c.in-DataOf.args.items) (subst (Reaches c.args.datas.now c.args.left) (sym p) c.requires.reaches)),
    )

pub outcome_of-returns-in-Var-clause-comes : goal.outcome_of-returns-in-Var-clause-comes
outcome_of-returns-in-Var-clause-comes t c =
    subst (λ u. ComesUnder c.args.datas.now c.args.env.now u c.outcome_at.result) (ap tree_of (sym c.in-Var.is) ∙ c.t.view_is) (comes_var c.args.datas.now c.args.env.now c.in-Var.at.number c.outcome_at.result c.outcome_at.ensures)

pub outcome_of-returns-in-Unsigned-clause-comes : goal.outcome_of-returns-in-Unsigned-clause-comes
outcome_of-returns-in-Unsigned-clause-comes t c =
    subst (λ u. ComesUnder c.args.datas.now c.args.env.now u c.scalar_outcome.result) (ap tree_of (sym c.in-Unsigned.is) ∙ c.t.view_is)
    (comes_scalar c.args.datas.now c.args.env.now U c.in-Unsigned.w.value c.number.result c.scalar_outcome.result (c.number.ensures ∙ ap (natural_value (number_at c.args.env.now)) c.deref.ensures) c.scalar_outcome.ensures)

pub outcome_of-returns-in-Signed-clause-comes : goal.outcome_of-returns-in-Signed-clause-comes
outcome_of-returns-in-Signed-clause-comes t c =
    subst (λ u. ComesUnder c.args.datas.now c.args.env.now u c.scalar_outcome-in-Signed.result) (ap tree_of (sym c.in-Signed.is) ∙ c.t.view_is)
    (comes_scalar c.args.datas.now c.args.env.now S c.in-Signed.w.value c.number-in-Signed.result c.scalar_outcome-in-Signed.result (c.number-in-Signed.ensures ∙ ap (natural_value (number_at c.args.env.now)) c.deref-in-Signed.ensures) c.scalar_outcome-in-Signed.ensures)

pub outcome_of-returns-in-BitVector-clause-comes : goal.outcome_of-returns-in-BitVector-clause-comes
outcome_of-returns-in-BitVector-clause-comes t c =
    subst (λ u. ComesUnder c.args.datas.now c.args.env.now u c.scalar_outcome-in-BitVector.result) (ap tree_of (sym c.in-BitVector.is) ∙ c.t.view_is)
    (comes_scalar c.args.datas.now c.args.env.now B c.in-BitVector.w.value c.number-in-BitVector.result c.scalar_outcome-in-BitVector.result (c.number-in-BitVector.ensures ∙ ap (natural_value (number_at c.args.env.now)) c.deref-in-BitVector.ensures) c.scalar_outcome-in-BitVector.ensures)

pub outcome_of-returns-in_ok-of-in-Vec-clause-comes : goal.outcome_of-returns-in_ok-of-in-Vec-clause-comes
outcome_of-returns-in_ok-of-in-Vec-clause-comes t c =
    subst (λ u. ComesUnder c.args.datas.now c.args.env.now u c.vector_outcome.result) (ap tree_of (sym c.in-Vec.is) ∙ c.t.view_is)
    (comes_vector c.args.datas.now c.args.env.now c.in-Vec.n.value c.in-Vec.of.value c.number-in-Vec.result c.in_ok-of-in-Vec.of c.vector_outcome.result
    (c.number-in-Vec.ensures ∙ ap (natural_value (number_at c.args.env.now)) c.deref-in-Vec-2.ensures)
    (subst (λ u. ComesUnder c.args.datas.now c.args.env.now u c.in_ok-of-in-Vec.of) c.deref-in-Vec.ensures c.in_ok-of-in-Vec.ensures.comes)
    c.vector_outcome.ensures)

pub outcome_of-returns-in_ok-data_outcome-in-DataOf-clause-comes : goal.outcome_of-returns-in_ok-data_outcome-in-DataOf-clause-comes
outcome_of-returns-in_ok-data_outcome-in-DataOf-clause-comes t c =
    subst (λ u. ComesUnder c.args.datas.now c.args.env.now u c.in_ok-data_outcome-in-DataOf.field-0) (ap tree_of (sym c.in-DataOf.is) ∙ c.t.view_is)
    (comes_data c.args.datas.now c.args.env.now c.in-DataOf.at.number c.in-DataOf.args.items c.loop-arg.outs.items c.in_ok-data_outcome-in-DataOf.field-0
    (arguments_end c.args.datas.now c.args.env.now c.deref-arg-items.result.now c.in-DataOf.args.items c.loop-arg.arg-index c.loop-arg.outs.items (omega (arith, c.loop-arg-test.false)) c.deref-arg-items.ensures.value c.loop-arg.invariant.1)
    c.in_ok-data_outcome-in-DataOf.ensures.comes)

pub outcome_of-returns-in_default : goal.outcome_of-returns-in_default
outcome_of-returns-in_default t c =
    record {
      known = c.requires.known;
      comes = comes_other c.args.datas.now c.args.env.now c.args.t.now c.number-in_default.result (Number c.number-in_default.result)
          (subst HasNoMeasure c.t.view_is (other_form c.t.inside.node c.in_default.not-Var c.in_default.not-Unsigned c.in_default.not-Signed c.in_default.not-BitVector c.in_default.not-Vec c.in_default.not-DataOf)) c.number-in_default.ensures refl;
    }
