use Rattle.std.proofs.Common.{◌↔◌, IsTrue, subst, sym}
use Rattle.chw_terms.specs.TermView.{tree_of, applied}
use Rattle.quiet_sides.specs.Quiet.{IsLifted}
use Rattle.quiet_sides.specs.Tests.{IsLifting}
use Rattle.quiet_sides.proofs.Tested.{lifted_is, lifted_other}
use Rattle.quiet_sides.proofs.Truths.{never, through}
use Rattle.quiet_sides.proofs.lifted.+lifted.Goals as goal

pub is_lifted-returns-in-PrimOf : goal.is_lifted-returns-in-PrimOf
is_lifted-returns-in-PrimOf t c =
    let args = c.term.inside.args.items in
    let p = c.in-PrimOf.which in
    let r = c.is_lifting.result in
    let told = through r _ _ (subst (λ xs. IsTrue r ↔ IsLifting p xs) c.deref.ensures.value c.is_lifting.ensures) (lifted_is p args) in
    subst (λ e. IsTrue r ↔ IsLifted e) c.term.view_is
    (subst (λ h. IsTrue r ↔ IsLifted (applied (tree_of h) args)) (sym c.in-PrimOf.is) told)

pub is_lifted-returns-in_default : goal.is_lifted-returns-in_default
is_lifted-returns-in_default t c =
    never (IsLifted c.args.term.now)
    (λ l. lifted_other c.term.inside.head c.in_default.not-PrimOf c.term.inside.args.items (subst IsLifted (sym c.term.view_is) l))
