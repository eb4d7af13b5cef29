use Rattle.std.proofs.Common.{◌∷◌, codes, sym, ap, ◌∙◌}
use Rattle.std.proofs.lemmas.Bool.{false≢true}
use Rattle.stimulus.specs.Texts.{texts}
use Rattle.blif_read.proofs.Sayings.{not_model}
use Rattle.blif_read.proofs.saying.model.Goals as goal

pub returns-then-is_only-clause-some : goal.returns-then-is_only-clause-some
returns-then-is_only-clause-some c = (ap (λ ws. codes ".model" ∷ ws) (c.is_only.ensures.0 c.if-is_only.true), tt)

pub returns-else-is_only-clause-none : goal.returns-else-is_only-clause-none
returns-else-is_only-clause-none c = not_model (texts c.args.others.now) (λ is. false≢true (sym c.if-is_only.false ∙ c.is_only.ensures.1 is))
