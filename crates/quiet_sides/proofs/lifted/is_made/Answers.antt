use Rattle.std.proofs.Common.{◌≡◌, ◌↔◌, [], IsTrue, subst, sym}
use Rattle.chw_terms.specs.TermView.{tree_of, applied}
use Rattle.rewriting.specs.Shapes.{IsMade}
use Rattle.quiet_sides.proofs.Heads.{made_alone, other_made}
use Rattle.quiet_sides.proofs.Truths.{never, through}
use Rattle.quiet_sides.proofs.lifted.is_made.Goals as goal

pub returns-in-Made : goal.returns-in-Made
returns-in-Made c =
    let args = c.term.inside.args.items in
    let r = c.are_none.result in
    let told = through r _ _ (subst (λ xs. IsTrue r ↔ (xs ≡ [])) c.deref.ensures.value c.are_none.ensures) (made_alone c.in-Made.field-0 args) in
    subst (λ e. IsTrue r ↔ IsMade e) c.term.view_is
    (subst (λ h. IsTrue r ↔ IsMade (applied (tree_of h) args)) (sym c.in-Made.is) told)

pub returns-in_default : goal.returns-in_default
returns-in_default c =
    never (IsMade c.args.term.now)
    (λ v. other_made c.term.inside.head c.in_default.not-Made c.term.inside.args.items (subst IsMade (sym c.term.view_is) v))
