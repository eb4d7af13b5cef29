use Rattle.std.proofs.Common.{refl, ◌∙◌, subst, arith}
use Rattle.chw_types.specs.TypeTree.{TypeTree}
use Rattle.chw_terms.specs.declared.term.Binding.{Binding}
use Rattle.normal_forms.specs.Blocked.{Passes}
use Rattle.blocked_places.specs.Firsts.{FindsOf}
use Rattle.blocked_places.specs.Limits.{BindingPasses}
use Rattle.blocked_places.proofs.Firsts.{none_at_start, none_up_to_next, none_in_all, first_here}
use Rattle.blocked_places.proofs.widths.first_binding.Goals as goal

pub loop-binding-init : goal.loop-binding-init
loop-binding-init c = record { same = refl; none = none_at_start Binding (BindingPasses c.args.widths.now) c.args.bindings.now }

pub returns-in-Some-clause-limit : goal.returns-in-Some-clause-limit
returns-in-Some-clause-limit c =
    let datas = c.args.widths.now in
    let binding = c.binding-item.result in
    let so = c.loop-binding.invariant in
    let here = subst (λ ds. FindsOf TypeTree (Passes ds) binding.ty c.in_ok-limit.field-0) so.same c.in_ok-limit.ensures.limit in
    let passes = subst (FindsOf TypeTree (Passes datas) binding.ty) c.in-Some.is here in
    first_here Binding (BindingPasses datas) c.args.bindings.now c.loop-binding.binding-index binding c.in-Some.limit c.loop-binding-test.true
    c.binding-item.is passes so.none

pub loop-binding-preserved : goal.loop-binding-preserved
loop-binding-preserved c =
    let datas = c.args.widths.now in
    let binding = c.binding-item.result in
    let so = c.loop-binding.invariant in
    let here = subst (λ ds. FindsOf TypeTree (Passes ds) binding.ty c.in_ok-limit.field-0) so.same c.in_ok-limit.ensures.limit in
    let none = subst (FindsOf TypeTree (Passes datas) binding.ty) c.in_default.is here in
    record {
      same = c.passed.ensures.same ∙ so.same;
      none = none_up_to_next Binding (BindingPasses datas) c.args.bindings.now c.loop-binding.binding-index binding c.loop-binding-test.true
          c.binding-item.is none so.none;
    }

pub returns-clause-limit : goal.returns-clause-limit
returns-clause-limit c =
    none_in_all Binding (BindingPasses c.args.widths.now) c.args.bindings.now c.loop-binding.binding-index
    (omega (arith, c.loop-binding-test.false)) c.loop-binding.invariant.none
