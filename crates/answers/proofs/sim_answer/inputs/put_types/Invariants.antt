-- the types of the leaves so far
use Rattle.std.proofs.Common.{◌≡◌, take}
use Rattle.answers.specs.SimAnswer.Types.{AddsTypes}
use Rattle.answers.proofs.sim_answer.inputs.put_types.Given as goal

abbrev pub invariant-loop-leaf : goal.invariant-loop-leaf
invariant-loop-leaf l = record {
  same : l.widths ≡ l.initial.widths;
  adds : AddsTypes l.initial.widths (take l.leaf-index l.leaves) l.initial.types.items l.types.items;
}
