use Rattle.net_grounds.proofs.laws.bits_of_signals.Goals as goal

pub returns : goal.returns
returns c = record {
  pure_shows = c.signals_show.ensures.constant;
  register_first = c.signals_show.ensures.first;
  register_later = c.signals_show.ensures.later;
  crossing_shows = c.signals_show.ensures.crossing;
}
