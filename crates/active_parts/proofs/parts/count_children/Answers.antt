use Rattle.std.proofs.Common.{◌+◌, sym, subst, arith}
use Rattle.chw_terms.specs.TermView.{tree_of}
use Rattle.active_parts.specs.Parts.{AreAmongFirst}
use Rattle.active_parts.proofs.Heads.{let_among, no_let_among, case_among, scrutinee_among, vector_among, no_vector_among}
use Rattle.active_parts.proofs.Spines.{no_children}
use Rattle.active_parts.proofs.Truths.{not_true}
use Rattle.active_parts.proofs.parts.count_children.Goals as goal

pub returns-then-has_parts : goal.returns-then-has_parts
returns-then-has_parts c =
    let m = c.args.mode in
    let n = c.len.result + 1 in
    subst (λ h. AreAmongFirst m (tree_of h) n) (sym c.in-LetRec.is)
    (let_among m c.in-LetRec.bindings.items c.in-LetRec.field-1.value n (omega (arith, c.len.ensures, c.in-LetRec.bindings.ok.0)))

pub returns-else-has_parts : goal.returns-else-has_parts
returns-else-has_parts c =
    let m = c.args.mode in
    subst (λ h. AreAmongFirst m (tree_of h) 0) (sym c.in-LetRec.is)
    (no_let_among m c.in-LetRec.bindings.items c.in-LetRec.field-1.value
    (λ k. not_true c.has_parts.result c.if-has_parts.false (c.has_parts.ensures.1 k)))

pub returns-then-builds_value : goal.returns-then-builds_value
returns-then-builds_value c =
    let m = c.args.mode in
    let n = c.len-then-builds_value.result + 1 in
    subst (λ h. AreAmongFirst m (tree_of h) n) (sym c.in-Case.is)
    (case_among m c.in-Case.field-0.value c.in-Case.alts.items n (omega (arith, c.len-then-builds_value.ensures, c.in-Case.alts.ok.0)))

pub returns-else-builds_value : goal.returns-else-builds_value
returns-else-builds_value c =
    let m = c.args.mode in
    subst (λ h. AreAmongFirst m (tree_of h) 1) (sym c.in-Case.is)
    (scrutinee_among m c.in-Case.field-0.value c.in-Case.alts.items
    (λ k. not_true c.builds_value.result c.if-builds_value.false (c.builds_value.ensures.1 k)))

pub returns-then-is_constant : goal.returns-then-is_constant
returns-then-is_constant c =
    let m = c.args.mode in
    let n = c.len-then-is_constant.result in
    subst (λ h. AreAmongFirst m (tree_of h) n) (sym c.in-VecLit.is)
    (vector_among m c.in-VecLit.field-0 c.in-VecLit.elements.items n (omega (arith, c.len-then-is_constant.ensures, c.in-VecLit.elements.ok.0)))

pub returns-else-is_constant : goal.returns-else-is_constant
returns-else-is_constant c =
    let m = c.args.mode in
    subst (λ h. AreAmongFirst m (tree_of h) 0) (sym c.in-VecLit.is)
    (no_vector_among m c.in-VecLit.field-0 c.in-VecLit.elements.items
    (λ k. not_true c.is_constant.result c.if-is_constant.false (c.is_constant.ensures.1 k)))

pub returns-in_default : goal.returns-in_default
returns-in_default c o at at' path x m b =
    absurd (no_children c.args.head.now c.in_default.not-LetRec c.in_default.not-Case c.in_default.not-VecLit o at path at' x b)
