use Rattle.std.proofs.Common.{subst}
use Rattle.chw_norm.specs.Bounds.{AreBounds}
use Rattle.chw_norm.proofs.Between.{between_first}
use Rattle.chw_norm.proofs.progress.Progress.begin.Goals as goal

pub returns-clause-between : goal.returns-clause-between
returns-clause-between c =
    let made = c.in_ok-made.made in
    let bounds = subst (λ ms. AreBounds ms c.in_ok-bounds.bounds.items) c.list.ensures
    c.in_ok-bounds.ensures in
    between_first c.opening_is_typed.ensures.state
    (record {
      program = c.args.program;
      signature = c.in_ok-signature.signature;
      made = made;
      bounds = c.in_ok-bounds.bounds;
    })
    c.requires.tidy c.requires.typed c.in_ok-signature.ensures c.in_ok-made.ensures bounds
