use Rattle.std.proofs.Common.{◌↔◌, IsTrue, subst, sym}
use Rattle.chw_terms.specs.TermView.{tree_of}
use Rattle.rewriting.specs.Shapes.{IsLet}
use Rattle.work_operands.proofs.Shapes.{of_lets, never_applied, bare_tells, no_let}
use Rattle.work_operands.proofs.finding.is_let.Goals as goal

pub returns-in-LetRec : goal.returns-in-LetRec
returns-in-LetRec c =
    let h = c.term.inside.head in
    let args = c.term.inside.args in
    let is : IsLet (tree_of h) = subst (λ h. IsLet (tree_of h)) (sym c.in-LetRec.is) tt in
    subst (λ e. IsTrue c.is_empty.result ↔ IsLet e) c.term.view_is
    (bare_tells IsLet of_lets (tree_of h) args.items args.len c.is_empty.result is
    args.ok.0 c.is_empty.ensures)

pub returns-in_default : goal.returns-in_default
returns-in_default c =
    let h = c.term.inside.head in (
      λ t. absurd cc,
      λ k. absurd (never_applied IsLet of_lets (tree_of h) c.term.inside.args.items
          (no_let h c.in_default.not-LetRec) (subst IsLet (sym c.term.view_is) k)),
    )
