use Rattle.act_rules.proofs.Joined.{fmap_fmap, fmap_ap, ap_fmap, ap_ap}
use Rattle.act_rules.proofs.signal_laws.composed_acts.Goals as goal

pub returns : goal.returns
returns c = record {
  maps = λ d a b c' d' b' tx f g1 s p types o kinds vars t origins g typed. fmap_fmap p (c.typed_is_sound.ensures p origins.tidy origins.typed) origins.typed types o origins.closed origins.have_types g d a b c' d' b' tx f g1 s t typed;
  calls = λ d a b c' d' b' th tx f u v p types o kinds vars t origins g typed. fmap_ap p (c.typed_is_sound.ensures p origins.tidy origins.typed) origins.typed types o origins.closed origins.have_types g d a b c' d' b' th tx f u v t typed;
  called_maps = λ d a b c' d' b' th tx u g1 w p types o kinds vars t origins g typed. ap_fmap p (c.typed_is_sound.ensures p origins.tidy origins.typed) origins.typed types o origins.closed origins.have_types g d a b c' d' b' th tx u g1 w t typed;
  called_calls = λ d a b c' d' b' th tk tx u v w p types o kinds vars t origins g typed. ap_ap p (c.typed_is_sound.ensures p origins.tidy origins.typed) origins.typed types o origins.closed origins.have_types g d a b c' d' b' th tk tx u v w t typed;
}
