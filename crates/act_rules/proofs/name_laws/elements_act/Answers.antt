use Rattle.act_rules.proofs.NameElements.{element_of}
use Rattle.act_rules.proofs.NameIndexed.{element_at_literal}
use Rattle.act_rules.proofs.name_laws.elements_act.Goals as goal

pub returns : goal.returns
returns c = record {
  by_types = λ q i m a w es j e is number least found p types o kinds vars t origins g d. element_of p (c.typed_is_sound.ensures p origins.tidy origins.typed) origins.typed types o origins.closed origins.have_types q i m a w es j e is number least found g d;
  by_literals = λ m k a w es b last e number least found p types o kinds vars t origins g d. element_at_literal p (c.typed_is_sound.ensures p origins.tidy origins.typed) origins.typed types o origins.closed origins.have_types m k a w es b last e number least found g d;
}
