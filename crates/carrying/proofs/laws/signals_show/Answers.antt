use Rattle.carrying.proofs.Signals.{pure_shows, map_shows, ap_shows, register_first, register_later, crossing_shows}
use Rattle.carrying.proofs.laws.signals_show.Goals as goal

pub returns : goal.returns
returns c = record {
  constant = pure_shows;
  map = map_shows;
  ap = ap_shows;
  first = register_first;
  later = register_later;
  crossing = crossing_shows;
}
