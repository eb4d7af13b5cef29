use Rattle.carrying.proofs.Terms.{shows_through, opened, variable_shows, member_shows, literal_carries, sample_shows}
use Rattle.carrying.proofs.Same.{shown_same}
use Rattle.carrying.proofs.Widths.{held_shows, shown_length, held_length}
use Rattle.carrying.proofs.Words.{shown_looks}
use Rattle.carrying.proofs.Known.{known_shows, stream_shows}
use Rattle.chw_meaning.proofs.ShownSound.{shown_is_so}
use Rattle.net_grounds.proofs.laws.bits_that_thunks_show.Goals as goal

pub returns : goal.returns
returns c = record {
  shows_through = shows_through;
  shown_same = shown_same;
  held_shows = held_shows;
  shown_length = shown_length;
  held_length = held_length;
  shown_looks = shown_looks;
  opened = opened;
  variable_shows = variable_shows;
  member_shows = member_shows;
  literal_carries = literal_carries;
  sample_shows = sample_shows;
  known_shows = known_shows;
  stream_shows = stream_shows;
  shown_is_so = shown_is_so;
}
