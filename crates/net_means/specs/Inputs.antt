-- The inputs of a built net's top at the histories of a program.
use Rattle.std.specs.Prelude.{List}
use Rattle.chw_types.specs.TypeTree.{TypeTree}
use Rattle.type_ports.specs.Ports.{Leaves}
use Rattle.type_ports.specs.declared.ports.Leaf.{Leaf}
use Rattle.chw_meaning.specs.Gives.{Input, OnInputs}
use Rattle.chw_meaning.specs.Values.{History, Thunk}
use Rattle.carrying.specs.TermLaws.{on_thunks}
use Rattle.net_means.specs.CircuitBits.Instances.{Design}
use Rattle.net_means.specs.NetBits.Whole.{InputsHaveBits}

-- thunks for the parameters of a type that leads to a port with these leaves: each term of the type
-- is applied to them where it is applied to the streams of a history, and the top's inputs have
-- their bits
pub record TopGiven (d : Design) (t : TypeTree) (outs : List Leaf) (streams : List Input)
    (last : History) : Type 0 where
  pub inputs : List Thunk
  pub result : TypeTree
  pub leaves : Leaves d.program.datas result outs
  pub on_inputs : (f : Thunk)
      → OnInputs d.program.datas t f streams result (on_thunks f inputs)
  pub have : InputsHaveBits d inputs last
