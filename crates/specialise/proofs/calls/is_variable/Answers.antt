use Rattle.std.proofs.Common.{◌↔◌, IsTrue, subst, sym}
use Rattle.chw_terms.specs.TermView.{tree_of}
use Rattle.rewriting.specs.Shapes.{IsVariable}
use Rattle.specialise.proofs.Shapes.{of_variables, never_applied, bare_tells, no_variable}
use Rattle.specialise.proofs.calls.is_variable.Goals as goal

pub returns-in-Var : goal.returns-in-Var
returns-in-Var c =
    let h = c.term.inside.head in
    let args = c.term.inside.args in
    let is : IsVariable (tree_of h) = subst (λ h. IsVariable (tree_of h)) (sym c.in-Var.is) tt in
    subst (λ e. IsTrue c.is_empty.result ↔ IsVariable e) c.term.view_is
    (bare_tells IsVariable of_variables (tree_of h) args.items args.len c.is_empty.result is
    args.ok.0 c.is_empty.ensures)

pub returns-in_default : goal.returns-in_default
returns-in_default c =
    let h = c.term.inside.head in (
      λ t. absurd cc,
      λ k. absurd (never_applied IsVariable of_variables (tree_of h) c.term.inside.args.items
          (no_variable h c.in_default.not-Var) (subst IsVariable (sym c.term.view_is) k)),
    )
