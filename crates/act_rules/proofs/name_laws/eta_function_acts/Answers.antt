use Rattle.act_rules.proofs.Expanded.{eta_function}
use Rattle.act_rules.proofs.name_laws.eta_function_acts.Goals as goal

pub returns : goal.returns
returns c = λ p types o kinds vars d a b r t args f s origins g df whole. eta_function p (c.typed_is_sound.ensures p origins.tidy origins.typed) origins.typed types o origins.closed origins.have_types d a b r args g df whole
