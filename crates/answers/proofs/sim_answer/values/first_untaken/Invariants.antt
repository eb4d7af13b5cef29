-- the inputs of the events so far encode values
use Rattle.std.proofs.Common.{map, take}
use Rattle.std.specs.List.{AllByRecursion}
use Rattle.data_forms.specs.Forms.{type_at}
use Rattle.answers.specs.SimAnswer.Simulation.{HasValues}
use Rattle.answers.proofs.sim_answer.values.first_untaken.Given as goal

abbrev pub invariant-loop-place : goal.invariant-loop-place
invariant-loop-place l = AllByRecursion (HasValues l.datas (map (type_at l.forms) l.places)) (take l.place l.events)
