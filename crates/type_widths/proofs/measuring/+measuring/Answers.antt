use Rattle.std.proofs.Common.{◌≡◌, ◌*◌, ◌-◌, ◌<◌, List, length, drop, refl, sym, ap, subst, ◌∙◌, arith}
use Rattle.std.specs.List.{AllZip}
use Rattle.std.proofs.lemmas.Result.{IfOk-weaker}
use Rattle.chw_types.specs.declared.declarations.ConDecl.{ConDecl}
use Rattle.chw_types.specs.declared.declarations.Data.{Data}
use Rattle.chw_types.specs.TypeView.{tree_of, trees_of}
use Rattle.chw_types.specs.TypeTree.{TypeTree, data_of}
use Rattle.chw_types.specs.TypeSize.{tree_size}
use Rattle.chw_types.specs.Arguments.{all_fields}
use Rattle.chw_types.specs.SamePromises.{natural_value}
use Rattle.chw_types.specs.declared.kind.Scalar.TheVariants.{U, S, B}
use Rattle.chw_layout.specs.Measured.{tag_width}
use Rattle.chw_layout.specs.Outcomes.{AllReach, Reaches, ReachesAt, HasCons, HasNoCons}
use Rattle.chw_layout.specs.Sizes.{fields_size, cons_size, datas_size}
use Rattle.chw_layout.proofs.Coming.{HasNoMeasure, other_form}
use Rattle.chw_layout.proofs.Reaching.{reach_some, reach_inside, reach_one, reach_con, reach_data, size_of_one, size_of_con, size_of_data, lower}
use Rattle.type_widths.specs.declared.outcome.Outcome.TheVariants.{Number}
use Rattle.type_widths.specs.Outcomes.{number_at, ComesUnder, FieldsCome, ConsCome, IsOutcomeOf}
use Rattle.type_widths.proofs.Arguments.{reach_arguments, size_of_arguments}
use Rattle.type_widths.proofs.Coming.{comes_scalar, comes_vector, comes_var, comes_data, comes_other, data_comes, nothing_comes}
use Rattle.type_widths.proofs.Loops.{next_comes, all_come, no_fields_come, field_before, no_cons_come, con_before}
use Rattle.type_widths.proofs.measuring.+measuring.Goals as goal

-- a type
pub outcome_of-outcomes_of-requires : goal.outcome_of-outcomes_of-requires
outcome_of-outcomes_of-requires t c =
    let items = c.deref-in-DataOf.result.now in
    let d = c.in-DataOf.at.number in
    let is : data_of d (trees_of items) ≡ c.args.t.now = ap (λ us. data_of d (trees_of us)) c.deref-in-DataOf.ensures.value ∙ ap tree_of (sym c.in-DataOf.is) ∙ c.t.view_is in
    let s = size_of_arguments d items in (
      omega (arith, c.decreases, s, ap tree_size is),
      reach_arguments c.args.widths.now c.args.left d items (subst (Reaches c.args.widths.now c.args.left) (sym is) c.requires),
    )

pub outcome_of-data_outcome-requires : goal.outcome_of-data_outcome-requires
outcome_of-data_outcome-requires t c =
    let d = c.in-DataOf.at.number in
    let is : data_of d (trees_of c.in-DataOf.args.items) ≡ c.args.t.now = ap tree_of (sym c.in-DataOf.is) ∙ c.t.view_is in
    let same = c.outcomes_of.ensures.same in
    let k = ap (λ (ds : List Data). c.args.left * datas_size ds) same in (
      omega (arith, c.decreases, k, ap tree_size is),
      subst (λ ds. ReachesAt ds c.args.left d) (sym same)
          (reach_data c.args.widths.now c.args.left d (trees_of c.in-DataOf.args.items) (subst (Reaches c.args.widths.now c.args.left) (sym is) c.requires)),
    )

pub outcome_of-returns-in-Var-clause-comes : goal.outcome_of-returns-in-Var-clause-comes
outcome_of-returns-in-Var-clause-comes t c =
    subst (λ u. ComesUnder c.args.widths.now c.args.env.now u c.outcome_at.result) (ap tree_of (sym c.in-Var.is) ∙ c.t.view_is)
    (comes_var c.args.widths.now c.args.env.now c.in-Var.at.number c.outcome_at.result c.outcome_at.ensures)

pub outcome_of-returns-in-Unsigned-clause-comes : goal.outcome_of-returns-in-Unsigned-clause-comes
outcome_of-returns-in-Unsigned-clause-comes t c =
    subst (λ u. ComesUnder c.args.widths.now c.args.env.now u c.scalar_outcome.result) (ap tree_of (sym c.in-Unsigned.is) ∙ c.t.view_is)
    (comes_scalar c.args.widths.now c.args.env.now U c.in-Unsigned.w.value c.number.result c.scalar_outcome.result
    (c.number.ensures ∙ ap (natural_value (number_at c.args.env.now)) c.deref.ensures) c.scalar_outcome.ensures)

pub outcome_of-returns-in-Signed-clause-comes : goal.outcome_of-returns-in-Signed-clause-comes
outcome_of-returns-in-Signed-clause-comes t c =
    subst (λ u. ComesUnder c.args.widths.now c.args.env.now u c.scalar_outcome-in-Signed.result) (ap tree_of (sym c.in-Signed.is) ∙ c.t.view_is)
    (comes_scalar c.args.widths.now c.args.env.now S c.in-Signed.w.value c.number-in-Signed.result c.scalar_outcome-in-Signed.result
    (c.number-in-Signed.ensures ∙ ap (natural_value (number_at c.args.env.now)) c.deref-in-Signed.ensures) c.scalar_outcome-in-Signed.ensures)

pub outcome_of-returns-in-BitVector-clause-comes : goal.outcome_of-returns-in-BitVector-clause-comes
outcome_of-returns-in-BitVector-clause-comes t c =
    subst (λ u. ComesUnder c.args.widths.now c.args.env.now u c.scalar_outcome-in-BitVector.result) (ap tree_of (sym c.in-BitVector.is) ∙ c.t.view_is)
    (comes_scalar c.args.widths.now c.args.env.now B c.in-BitVector.w.value c.number-in-BitVector.result c.scalar_outcome-in-BitVector.result
    (c.number-in-BitVector.ensures ∙ ap (natural_value (number_at c.args.env.now)) c.deref-in-BitVector.ensures) c.scalar_outcome-in-BitVector.ensures)

pub outcome_of-returns-in_ok-of-in-Vec-clause-comes : goal.outcome_of-returns-in_ok-of-in-Vec-clause-comes
outcome_of-returns-in_ok-of-in-Vec-clause-comes t c =
    subst (λ u. ComesUnder c.args.widths.now c.args.env.now u c.vector_outcome.result) (ap tree_of (sym c.in-Vec.is) ∙ c.t.view_is)
    (comes_vector c.args.widths.now c.args.env.now c.in-Vec.n.value c.in-Vec.of.value c.number-in-Vec.result c.in_ok-of-in-Vec.of c.vector_outcome.result
    (c.number-in-Vec.ensures ∙ ap (natural_value (number_at c.args.env.now)) c.deref-in-Vec-2.ensures)
    (subst (λ u. ComesUnder c.args.widths.now c.args.env.now u c.in_ok-of-in-Vec.of) c.deref-in-Vec.ensures c.in_ok-of-in-Vec.ensures.comes)
    c.vector_outcome.ensures)

pub outcome_of-returns-in_ok-outs-in-DataOf-clause-comes : goal.outcome_of-returns-in_ok-outs-in-DataOf-clause-comes
outcome_of-returns-in_ok-outs-in-DataOf-clause-comes t c =
    let datas = c.args.widths.now in
    let env = c.args.env.now in
    let d = c.in-DataOf.at.number in
    let ts = c.in-DataOf.args.items in
    let os = c.in_ok-outs-in-DataOf.outs.items in
    let is : data_of d (trees_of ts) ≡ c.args.t.now = ap tree_of (sym c.in-DataOf.is) ∙ c.t.view_is in
    let come = subst (λ us. AllZip (ComesUnder datas env) us os) c.deref-in-DataOf.ensures.value c.in_ok-outs-in-DataOf.ensures.come in
    IfOk-weaker c.data_outcome.result _ (ComesUnder datas env c.args.t.now)
    (λ o of. subst (λ u. ComesUnder datas env u o) is (comes_data datas env d ts os o come (subst (λ ds. IsOutcomeOf ds d os o) c.outcomes_of.ensures.same of)))
    c.data_outcome.ensures.comes

pub outcome_of-returns-in_default : goal.outcome_of-returns-in_default
outcome_of-returns-in_default t c =
    record {
      comes = comes_other c.args.widths.now c.args.env.now c.args.t.now c.number-in_default.result (Number c.number-in_default.result)
          (subst HasNoMeasure c.t.view_is (other_form c.t.inside.node c.in_default.not-Var c.in_default.not-Unsigned c.in_default.not-Signed c.in_default.not-BitVector c.in_default.not-Vec c.in_default.not-DataOf)) c.number-in_default.ensures refl;
      same = refl;
    }

-- several types
pub outcomes_of-outcome_of-requires : goal.outcomes_of-outcome_of-requires
outcomes_of-outcome_of-requires t c =
    let same = c.loop-t.invariant.0 in
    let i = c.loop-t.t-index in
    let u = c.t-item.result in
    let s = size_of_one c.args.types.now i u c.loop-t-test.true c.t-item.is in
    let k = ap (λ (ds : List Data). c.args.left * datas_size ds) same in (
      omega (arith, c.decreases, s, k),
      subst (λ ds. Reaches ds c.args.left u) (sym same)
          (reach_one c.args.widths.now c.args.left c.args.types.now i u c.loop-t-test.true c.t-item.is c.requires),
    )

pub outcomes_of-loop-t-preserved : goal.outcomes_of-loop-t-preserved
outcomes_of-loop-t-preserved t c =
    let same = c.loop-t.invariant.0 in
    let datas = c.args.widths.now in
    let env = c.args.env.now in
    let u = c.t-item.result in
    let o = c.in_ok-outcome_of.field-0 in (
      c.outcome_of.ensures.same ∙ same,
      next_comes datas env c.args.types.now c.loop-t.t-index c.loop-t.outs.items c.push.new.self.items u o c.loop-t-test.true c.t-item.is
          (subst (λ ds. ComesUnder ds env u o) same c.in_ok-outcome_of.ensures.comes) c.in_ok-push.ensures.items c.loop-t.invariant.1,
    )

pub outcomes_of-returns-clause-come : goal.outcomes_of-returns-clause-come
outcomes_of-returns-clause-come t c =
    all_come c.args.widths.now c.args.env.now c.args.types.now c.loop-t.t-index c.loop-t.outs.items (omega (arith, c.loop-t-test.false)) c.loop-t.invariant.1

-- a data type
pub data_outcome-new_outcome-requires : goal.data_outcome-new_outcome-requires
data_outcome-new_outcome-requires t c = (omega (arith, c.decreases), c.requires)

pub new_outcome-returns-in_default-clause-comes : goal.new_outcome-returns-in_default-clause-comes
new_outcome-returns-in_default-clause-comes t c =
    let none = subst (λ ds. HasNoCons ds c.args.at (length c.args.outs.now)) c.datas.ensures.datas c.in_default.ensures.none in
    nothing_comes c.args.widths.now c.args.at (length c.args.outs.now) c.args.outs.now (Number 0) none refl refl

pub new_outcome-cons_outcome-requires : goal.new_outcome-cons_outcome-requires
new_outcome-cons_outcome-requires t c =
    let datas = c.args.widths.now in
    let cons = c.in-Some.cons.now in
    let s = subst (λ ds. HasCons ds c.args.at (length c.args.outs.now) cons) c.datas.ensures.datas c.in-Some.ensures.some in
    let few = lower c.args.left (datas_size datas) (cons_size cons) (reach_some datas c.args.left c.args.at s.0 c.requires s.1) (size_of_data datas c.args.at s.0 cons s.1 s.3) in (
      omega (arith, c.decreases, few),
      reach_inside datas c.args.left c.args.at s.0 cons c.requires s.1 s.3,
    )

pub new_outcome-returns-clause-comes : goal.new_outcome-returns-clause-comes
new_outcome-returns-clause-comes t c =
    let datas = c.args.widths.now in
    let cons = c.in-Some.cons.now in
    let s = subst (λ ds. HasCons ds c.args.at (length c.args.outs.now) cons) c.datas.ensures.datas c.in-Some.ensures.some in
    data_comes datas c.args.at (length c.args.outs.now) c.args.outs.now c.tagged_outcome.result c.in_ok-widest.widest c.tag_width.result s.0 s.1 s.2 refl
    (subst (λ cs. ConsCome datas c.args.outs.now cs c.in_ok-widest.widest) s.3 c.in_ok-widest.ensures.comes)
    (c.tag_width.ensures ∙ ap (λ cs. tag_width (length cs)) s.3)
    c.tagged_outcome.ensures

-- constructors
pub cons_outcome-loop-i-init : goal.cons_outcome-loop-i-init
cons_outcome-loop-i-init t c = (refl, no_cons_come c.args.widths.now c.args.env.now c.args.cons.now _ (omega arith))

pub cons_outcome-fields_outcome-requires : goal.cons_outcome-fields_outcome-requires
cons_outcome-fields_outcome-requires t c =
    let same = c.loop-i.invariant.0 in
    let datas = c.args.widths.now in
    let con = c.index-cons-i.result in
    let l : c.loop-i.i - 1 < length c.args.cons.now = omega (arith, c.loop-i-test.true, c.loop-i.auto.i) in
    let s = size_of_con c.args.cons.now (c.loop-i.i - 1) con l c.index-cons-i.is in
    let fields : c.as_slice.result.now ≡ con.fields = c.as_slice.ensures ∙ sym (ap (λ (k : ConDecl). k.fields) c.index-cons-i.is) in
    let k = ap (λ (ds : List Data). c.args.left * datas_size ds) same in (
      omega (arith, c.decreases, s, k, ap fields_size fields),
      subst (λ ds. AllReach ds c.args.left c.as_slice.result.now) (sym same)
          (subst (AllReach datas c.args.left) (sym fields) (reach_con datas c.args.left c.args.cons.now (c.loop-i.i - 1) con l c.index-cons-i.is c.requires)),
    )

pub cons_outcome-loop-i-preserved : goal.cons_outcome-loop-i-preserved
cons_outcome-loop-i-preserved t c =
    let same = c.loop-i.invariant.0 in
    let datas = c.args.widths.now in
    let env = c.args.env.now in
    let con = c.index-cons-i.result in
    let o = c.in_ok-con.con in
    let fields : c.as_slice.result.now ≡ con.fields = c.as_slice.ensures ∙ sym (ap (λ (k : ConDecl). k.fields) c.index-cons-i.is) in
    let comes = subst (λ ds. FieldsCome ds env c.as_slice.result.now o) same c.in_ok-con.ensures.comes in (
      c.fields_outcome.ensures.same ∙ same,
      con_before datas env c.args.cons.now c.loop-i.i _ con o c.loop-i.widest c.or_outcome-widest.result
          refl (omega (arith, c.loop-i-test.true)) (omega (arith, c.loop-i-test.true, c.loop-i.auto.i)) c.index-cons-i.is
          (subst (λ fs. FieldsCome datas env fs o) fields comes) c.loop-i.invariant.1 c.or_outcome-widest.ensures,
    )

pub cons_outcome-returns-clause-comes : goal.cons_outcome-returns-clause-comes
cons_outcome-returns-clause-comes t c =
    subst (λ k. ConsCome c.args.widths.now c.args.env.now (drop k c.args.cons.now) c.loop-i.widest) (let none : c.loop-i.i ≡ 0 = omega (arith, c.loop-i-test.false) in none) c.loop-i.invariant.1

-- fields
pub fields_outcome-loop-i-init : goal.fields_outcome-loop-i-init
fields_outcome-loop-i-init t c = (refl, no_fields_come c.args.widths.now c.args.env.now c.args.fields.now _ (omega arith))

pub fields_outcome-outcome_of-requires : goal.fields_outcome-outcome_of-requires
fields_outcome-outcome_of-requires t c =
    let same = c.loop-i.invariant.0 in
    let f = c.index-fields-i.result in
    let l : c.loop-i.i - 1 < length c.args.fields.now = omega (arith, c.loop-i-test.true, c.loop-i.auto.i) in
    let s = size_of_one c.args.fields.now (c.loop-i.i - 1) f l c.index-fields-i.is in
    let k = ap (λ (ds : List Data). c.args.left * datas_size ds) same in (
      omega (arith, c.decreases, s, k),
      subst (λ ds. Reaches ds c.args.left f) (sym same)
          (reach_one c.args.widths.now c.args.left c.args.fields.now (c.loop-i.i - 1) f l c.index-fields-i.is c.requires),
    )

pub fields_outcome-loop-i-preserved : goal.fields_outcome-loop-i-preserved
fields_outcome-loop-i-preserved t c =
    let same = c.loop-i.invariant.0 in
    let datas = c.args.widths.now in
    let env = c.args.env.now in
    let f = c.index-fields-i.result in
    let o = c.in_ok-first.first in (
      c.outcome_of.ensures.same ∙ same,
      field_before datas env c.args.fields.now c.loop-i.i _ f o c.loop-i.whole c.then_outcome-whole.result
          refl (omega (arith, c.loop-i-test.true)) (omega (arith, c.loop-i-test.true, c.loop-i.auto.i)) c.index-fields-i.is
          (subst (λ ds. ComesUnder ds env f o) same c.in_ok-first.ensures.comes) c.loop-i.invariant.1 c.then_outcome-whole.ensures,
    )

pub fields_outcome-returns-clause-comes : goal.fields_outcome-returns-clause-comes
fields_outcome-returns-clause-comes t c =
    subst (λ k. FieldsCome c.args.widths.now c.args.env.now (drop k c.args.fields.now) c.loop-i.whole) (let none : c.loop-i.i ≡ 0 = omega (arith, c.loop-i-test.false) in none) c.loop-i.invariant.1
