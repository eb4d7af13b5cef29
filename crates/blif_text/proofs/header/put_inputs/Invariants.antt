-- what is written, with the inputs that are left, is all
use Rattle.std.proofs.Common.{◌≡◌, ◌++◌, drop}
use Rattle.std.specs.List.{flat_map}
use Rattle.blif_text.specs.Pieces.{input_text}
use Rattle.blif_text.proofs.header.put_inputs.Given as goal

abbrev pub invariant-loop-port : goal.invariant-loop-port
invariant-loop-port l =
    l.out.items ++ flat_map (input_text l.ports) (drop l.port-index l.port-items)
    ≡ l.initial.out.items ++ flat_map (input_text l.ports) l.port-items
