use Rattle.std.proofs.Common.{sym, ◌∙◌}
use Rattle.std.proofs.lemmas.Bool.{false≢true}
use Rattle.stimulus.specs.Texts.{texts}
use Rattle.blif_read.proofs.Sayings.{not_outputs, says_outputs}
use Rattle.blif_read.proofs.saying.outputs.Goals as goal

pub returns-then-not-are_names-clause-none : goal.returns-then-not-are_names-clause-none
returns-then-not-are_names-clause-none c =
    not_outputs (texts c.args.others.now) (λ all. false≢true (sym c.if-not-are_names.true ∙ c.are_names.ensures.1 all))

pub returns-clause-some : goal.returns-clause-some
returns-clause-some c =
    says_outputs c.args.others.now c.in_ok-names.names.items c.in_ok-names.ensures.items (c.are_names.ensures.0 c.if-not-are_names.false)
