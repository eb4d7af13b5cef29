use Rattle.std.proofs.Common.{◌↔◌, IsTrue, subst, sym}
use Rattle.chw_terms.specs.TermView.{tree_of}
use Rattle.rewriting.specs.Shapes.{IsMade}
use Rattle.specialise.proofs.Shapes.{of_names, never_applied, bare_tells, no_name}
use Rattle.specialise.proofs.lifted.is_made.Goals as goal

pub returns-in-Made : goal.returns-in-Made
returns-in-Made c =
    let h = c.term.inside.head in
    let args = c.term.inside.args in
    let is : IsMade (tree_of h) = subst (λ h. IsMade (tree_of h)) (sym c.in-Made.is) tt in
    subst (λ e. IsTrue c.is_empty.result ↔ IsMade e) c.term.view_is
    (bare_tells IsMade of_names (tree_of h) args.items args.len c.is_empty.result is
    args.ok.0 c.is_empty.ensures)

pub returns-in_default : goal.returns-in_default
returns-in_default c =
    let h = c.term.inside.head in (
      λ t. absurd cc,
      λ k. absurd (never_applied IsMade of_names (tree_of h) c.term.inside.args.items
          (no_name h c.in_default.not-Made) (subst IsMade (sym c.term.view_is) k)),
    )
