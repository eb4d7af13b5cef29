use Rattle.std.proofs.Common.{arith}
use Rattle.std.proofs.lemmas.Result.{on_ok_weaker}
use Rattle.work_lets.proofs.NotedParts.{noted_bound, noted_var}
use Rattle.work_lets.proofs.noting.note_var.Goals as goal

pub returns-then-x-under : goal.returns-then-x-under
returns-then-x-under c = noted_bound c.args.search.now c.args.x.number c.args.under c.if-x-under.true

pub returns : goal.returns
returns c = on_ok_weaker c.note.result (noted_var c.args.search.now c.note.new.search c.args.x.number c.args.under (omega (arith, c.if-x-under.false))) c.note.ensures
