use Rattle.stimulus.proofs.Searches.{first_is_position}
use Rattle.answers.proofs.sim_answer.places.place.Goals as goal

pub returns : goal.returns
returns c = first_is_position 10 c.args.text.now c.memchr.result c.memchr.ensures
