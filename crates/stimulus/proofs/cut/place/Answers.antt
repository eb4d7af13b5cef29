use Rattle.stimulus.proofs.Searches.{first_is_position}
use Rattle.stimulus.proofs.cut.place.Goals as goal

pub returns : goal.returns
returns c = first_is_position c.args.byte c.args.text.now c.memchr.result c.memchr.ensures
