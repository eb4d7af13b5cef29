use Rattle.std.proofs.Common.{◌≡◌, ◌↔◌, [], IsTrue, subst, sym}
use Rattle.chw_terms.specs.TermView.{tree_of, applied}
use Rattle.rewriting.specs.Shapes.{IsVariable}
use Rattle.quiet_sides.proofs.Heads.{variable_alone, other_variable}
use Rattle.quiet_sides.proofs.Truths.{never, through}
use Rattle.quiet_sides.proofs.names.is_variable.Goals as goal

pub returns-in-Var : goal.returns-in-Var
returns-in-Var c =
    let args = c.term.inside.args.items in
    let r = c.are_none.result in
    let told = through r _ _ (subst (λ xs. IsTrue r ↔ (xs ≡ [])) c.deref.ensures.value c.are_none.ensures) (variable_alone c.in-Var.field-0 args) in
    subst (λ e. IsTrue r ↔ IsVariable e) c.term.view_is
    (subst (λ h. IsTrue r ↔ IsVariable (applied (tree_of h) args)) (sym c.in-Var.is) told)

pub returns-in_default : goal.returns-in_default
returns-in_default c =
    never (IsVariable c.args.term.now)
    (λ v. other_variable c.term.inside.head c.in_default.not-Var c.term.inside.args.items (subst IsVariable (sym c.term.view_is) v))
