use Rattle.std.proofs.Common.{length, sym, subst}
use Rattle.chw_terms.specs.TermView.{tree_of, applied}
use Rattle.active_parts.specs.Parts.{AreAmongFirst}
use Rattle.active_parts.proofs.Spines.{con_among, no_con_among, prim_among, no_others}
use Rattle.active_parts.proofs.Truths.{not_true}
use Rattle.active_parts.proofs.parts.count_arguments.Goals as goal

pub returns-then-is_constant-clause-first : goal.returns-then-is_constant-clause-first
returns-then-is_constant-clause-first c =
    let m = c.args.mode in
    let args = c.args.args.now in
    subst (λ h. AreAmongFirst m (applied (tree_of h) args) (length args)) (sym c.in-Con.is)
    (con_among m c.in-Con.field-0 args c.requires)

pub returns-else-is_constant-clause-first : goal.returns-else-is_constant-clause-first
returns-else-is_constant-clause-first c =
    let m = c.args.mode in
    let args = c.args.args.now in
    subst (λ h. AreAmongFirst m (applied (tree_of h) args) 0) (sym c.in-Con.is)
    (no_con_among m c.in-Con.field-0 args (λ k. not_true c.is_constant.result c.if-is_constant.false (c.is_constant.ensures.1 k)))

pub returns-in-PrimOf-clause-first : goal.returns-in-PrimOf-clause-first
returns-in-PrimOf-clause-first c =
    let m = c.args.mode in
    let args = c.args.args.now in
    subst (λ h. AreAmongFirst m (applied (tree_of h) args) (length args)) (sym c.in-PrimOf.is)
    (prim_among m c.in-PrimOf.field-0 args c.requires)

pub returns-in_default-clause-first : goal.returns-in_default-clause-first
returns-in_default-clause-first c o at at' path x m b =
    absurd (no_others c.args.head.now c.args.args.now c.in_default.not-Con c.in_default.not-PrimOf c.requires o at path at' x b)
