use Rattle.std.proofs.Common.{sym, subst, List}
use Rattle.std.specs.Prelude.{IfOk, MatchOption, reverse}
use Rattle.seen_types.specs.declared.found.Found.{Found}
use Rattle.chw_terms.specs.declared.term.Pattern.TheVariants.{OfLit, Default}
use Rattle.term_types.specs.Binding.{BindsFound, BindsKinded, BindsNothing, IsLiteralOf}
use Rattle.term_spines.specs.Kinding.{HaveKinds}
use Rattle.term_frames.specs.VarsView.{found_types, found_kinds}
use Rattle.term_frames.specs.declared.fields.Bound.{Bound}
use Rattle.term_frames.specs.declared.fields.Bound.TheVariants.{Settled}
use Rattle.chw_typing.specs.Scopes.{setting_in}
use Rattle.term_types.proofs.Bound.{default_binds, literal_binds, literal_none}
use Rattle.seen_types.proofs.Matched.{not_true}
use Rattle.term_types.proofs.patterns.bound_types.Goals as goal

pub returns-in-OfCon : goal.returns-in-OfCon
returns-in-OfCon c =
    let s = setting_in c.args.scene.now in
    let kinds = reverse c.args.kinds.now in
    let u = c.args.of.now in
    subst (λ q. IfOk c.fields.result (λ r. MatchOption r (BindsNothing s kinds u q) (λ (bound : Bound). BindsKinded s kinds u q bound))) (sym c.in-OfCon.is) c.fields.ensures

pub returns-then-branch : goal.returns-then-branch
returns-then-branch c =
    let s = setting_in c.args.scene.now in
    let kinds = reverse c.args.kinds.now in
    let u = c.args.of.now in
    let lit = c.in-OfLit in
    subst (λ q. BindsKinded s kinds u q (Settled c.new.result)) (sym lit.is)
    (subst (λ (fs : List Found). BindsFound s kinds u (OfLit lit.sort lit.bits) (found_types fs) × HaveKinds s kinds (found_types fs) (found_kinds fs)) (sym c.new.ensures.items) (literal_binds s kinds u lit.sort lit.bits (subst (λ w. IsLiteralOf w lit.sort lit.bits) c.ty.ensures (c.in_ok-is_literal_of-in-OfLit.ensures.0 c.if-branch.true)), tt))

pub returns-else-branch : goal.returns-else-branch
returns-else-branch c =
    let s = setting_in c.args.scene.now in
    let kinds = reverse c.args.kinds.now in
    let u = c.args.of.now in
    let lit = c.in-OfLit in
    subst (BindsNothing s kinds u) (sym lit.is) (literal_none s kinds u lit.sort lit.bits (λ h. not_true _ c.if-branch.false (c.in_ok-is_literal_of-in-OfLit.ensures.1 (subst (λ w. IsLiteralOf w lit.sort lit.bits) (sym c.ty.ensures) h))))

pub returns-in-Default : goal.returns-in-Default
returns-in-Default c =
    let s = setting_in c.args.scene.now in
    let kinds = reverse c.args.kinds.now in
    let u = c.args.of.now in
    subst (λ q. BindsKinded s kinds u q (Settled c.new-in-Default.result)) (sym c.in-Default.is)
    (subst (λ (fs : List Found). BindsFound s kinds u Default (found_types fs) × HaveKinds s kinds (found_types fs) (found_kinds fs)) (sym c.new-in-Default.ensures.items) (default_binds s kinds u, tt))
