use Rattle.std.proofs.Common.{arith, refl, sym, subst, take, ◌+◌, []}
use Rattle.std.specs.Prelude.{reverse}
use Rattle.chw_types.specs.Kinds.{IsOfTerms}
use Rattle.chw_terms.specs.declared.term.Binding.{Binding}
use Rattle.term_types.specs.Groups.{IsGroupKind, AreKinded}
use Rattle.chw_typing.specs.Scopes.{setting_in}
use Rattle.term_types.proofs.Lets.{no_group, group_next, group_all, no_group_at}
use Rattle.term_types.proofs.Scoped.{kinded_next, kinded_all}
use Rattle.term_types.proofs.groups.group_types.Goals as goal

pub loop-b-init : goal.loop-b-init
loop-b-init c =
    let s = setting_in c.args.scene.now in
    let kinds = reverse c.args.kinds.now in
    record { so_far = no_group s kinds; of_terms = tt; types = subst (AreKinded s kinds []) (sym c.new-types.ensures.items) tt }

pub loop-b-preserved : goal.loop-b-preserved
loop-b-preserved c =
    let s = setting_in c.args.scene.now in
    let kinds = reverse c.args.kinds.now in
    let l = c.loop-b in
    let next = group_next s kinds c.args.bindings.now l.b-index c.b-item.result _ l.all c.in-Some.kind c.loop-b-test.true c.b-item.is l.invariant.of_terms l.invariant.so_far c.in-Some.ensures in
    record {
      so_far = subst (IsGroupKind s kinds (take (l.b-index + 1) c.args.bindings.now)) (sym c.together-all.ensures) next.0;
      of_terms = subst IsOfTerms (sym c.together-all.ensures) next.1;
      types = kinded_next s kinds (λ (b : Binding). b.ty) c.args.bindings.now l.b-index c.b-item.result _ l.types.items c.push.new.self.items _ c.loop-b-test.true c.b-item.is l.invariant.types refl c.in-Some.ensures.0 c.in_ok-push.ensures.items;
    }

pub returns-in_default : goal.returns-in_default
returns-in_default c =
    no_group_at (setting_in c.args.scene.now) (reverse c.args.kinds.now) c.args.bindings.now c.loop-b.b-index c.b-item.result _ c.loop-b-test.true c.b-item.is c.in_default.ensures

pub returns : goal.returns
returns c =
    let s = setting_in c.args.scene.now in
    let kinds = reverse c.args.kinds.now in
    let l = c.loop-b in
    record {
      kind = group_all s kinds c.args.bindings.now l.b-index l.all (omega (arith, c.loop-b-test.false)) l.invariant.so_far;
      types = kinded_all s kinds (λ (b : Binding). b.ty) c.args.bindings.now l.b-index l.types.items (omega (arith, c.loop-b-test.false)) l.invariant.types;
    }
