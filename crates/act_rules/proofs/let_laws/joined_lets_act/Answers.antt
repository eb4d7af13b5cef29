use Rattle.act_rules.proofs.Flat.{let_in_let}
use Rattle.act_rules.proofs.Sides.{let_in_side}
use Rattle.act_rules.proofs.let_laws.joined_lets_act.Goals as goal

pub returns : goal.returns
returns c = record {
  bodies = λ g cs x p types o kinds vars t origins scope d. let_in_let p (c.typed_is_sound.ensures p origins.tidy origins.typed) origins.typed types o origins.closed origins.have_types g cs x scope d;
  sides = λ front t cs x back e p types o kinds vars v origins scope d. let_in_side p (c.typed_is_sound.ensures p origins.tidy origins.typed) origins.typed types o origins.closed origins.have_types front t cs x back e scope d;
}
