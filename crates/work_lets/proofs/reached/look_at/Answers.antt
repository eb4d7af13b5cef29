use Rattle.std.proofs.lemmas.Result.{on_ok_weaker}
use Rattle.chw_terms.specs.Occurs.{occurs}
use Rattle.work_lets.proofs.NotedParts.{noted_alone}
use Rattle.work_lets.proofs.reached.look_at.Goals as goal

pub returns : goal.returns
returns c = on_ok_weaker c.note_term.result (noted_alone c.args.search.now c.note_term.new.search (occurs c.args.term.now)) c.note_term.ensures
