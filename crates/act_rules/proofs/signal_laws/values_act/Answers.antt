use Rattle.act_rules.proofs.Joined.{ap_pure, fmap_pure, ap_value}
use Rattle.act_rules.proofs.signal_laws.values_act.Goals as goal

pub returns : goal.returns
returns c = record {
  functions = λ d a b d' a' f s p types o kinds vars t origins g typed. ap_pure p (c.typed_is_sound.ensures p origins.tidy origins.typed) origins.typed types o origins.closed origins.have_types g d a b d' a' f s t typed;
  signals = λ d a b d' a' f v p types o kinds vars t origins g typed. fmap_pure p (c.typed_is_sound.ensures p origins.tidy origins.typed) origins.typed types o origins.closed origins.have_types g d a b d' a' f v t typed;
  arguments = λ d a b d' a' th u v p types o kinds vars t origins g typed. ap_value p (c.typed_is_sound.ensures p origins.tidy origins.typed) origins.typed types o origins.closed origins.have_types g d a b d' a' th u v t typed;
}
