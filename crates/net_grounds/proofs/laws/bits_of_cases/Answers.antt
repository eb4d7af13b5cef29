use Rattle.carrying.proofs.Cases.{same_itself}
use Rattle.net_grounds.proofs.laws.bits_of_cases.Goals as goal

pub returns : goal.returns
returns c = record {
  goes_on_shows = c.cases_show.ensures.goes_on;
  takes_shows = c.cases_show.ensures.takes;
  same_itself = same_itself;
  case_carries = c.cases_show.ensures.every;
}
