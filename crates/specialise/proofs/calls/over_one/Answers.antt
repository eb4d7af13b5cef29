use Rattle.std.proofs.Common.{◌∙◌, ap}
use Rattle.chw_terms.specs.TermTree.{lam}
use Rattle.specialise.proofs.calls.over_one.Goals as goal

pub returns : goal.returns
returns c = (
  c.in_ok-done.ensures ∙ ap (λ t. lam t c.args.term) c.in_ok-from.ensures,
  c.in_ok-whole.ensures,
)
