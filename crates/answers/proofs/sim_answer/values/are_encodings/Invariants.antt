-- the bits so far encode values
use Rattle.std.proofs.Common.{map, take}
use Rattle.data_forms.specs.Forms.{IsEncoding, type_at}
use Rattle.answers.specs.SimAnswer.Simulation.{AllPairs}
use Rattle.answers.proofs.sim_answer.values.are_encodings.Given as goal

abbrev pub invariant-loop-place : goal.invariant-loop-place
invariant-loop-place l = AllPairs (IsEncoding l.datas) (take l.place (map (type_at l.forms) l.places)) (take l.place l.inputs)
