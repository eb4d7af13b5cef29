use Rattle.std.proofs.Common.{◌↔◌, IsTrue, subst}
use Rattle.quiet_sides.specs.Quiet.{IsQuiet}
use Rattle.quiet_sides.specs.Tests.{QuietHead}
use Rattle.quiet_sides.proofs.Tested.{quiet_is}
use Rattle.quiet_sides.proofs.Truths.{through}
use Rattle.quiet_sides.proofs.quiet.is_quiet.Goals as goal

pub returns : goal.returns
returns c =
    let h = c.term.inside.head in
    let args = c.term.inside.args.items in
    let r = c.is_quiet_head.result in
    subst (λ e. IsTrue r ↔ IsQuiet e) c.term.view_is
    (through r _ _ (subst (λ xs. IsTrue r ↔ QuietHead h xs) c.deref.ensures.value c.is_quiet_head.ensures) (quiet_is h args))
