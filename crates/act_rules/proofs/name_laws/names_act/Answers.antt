use Rattle.act_rules.proofs.NamedCalls.{named_result}
use Rattle.act_rules.proofs.Operands.{stands_at, stands_in_call, named_operand}
use Rattle.act_rules.proofs.name_laws.names_act.Goals as goal

pub returns : goal.returns
returns c = record {
  operands = λ os at e x path u stands p types o kinds vars t origins g d. named_operand p (c.typed_is_sound.ensures p origins.tidy origins.typed) origins.typed types o origins.closed origins.have_types u (stands_at stands) g d;
  arguments = λ at e x path u stands p types o kinds vars t origins g d. named_operand p (c.typed_is_sound.ensures p origins.tidy origins.typed) origins.typed types o origins.closed origins.have_types u (stands_in_call stands) g d;
  results = λ u e p types o kinds vars t origins g d. named_result p (c.typed_is_sound.ensures p origins.tidy origins.typed) origins.typed types o origins.closed origins.have_types u g d;
}
