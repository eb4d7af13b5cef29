use Rattle.std.proofs.Common.{◌≡◌, ◌++◌, map}
use Rattle.chw_types.specs.TypeMoves.{sub}
use Rattle.chw_types.specs.TypeView.{trees_of}
use Rattle.chw_types.specs.Arguments.{arguments}
use Rattle.type_ports.proofs.ports.push_fields.Given as goal

abbrev pub invariant-loop-field : goal.invariant-loop-field
invariant-loop-field l = l.todo.items ≡ l.fn.todo.items ++ map (λ f. sub f.now (arguments (trees_of l.args))) l.yielded
