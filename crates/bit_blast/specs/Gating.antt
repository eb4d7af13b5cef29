-- Gates of one bit and of two, by their kind, and gates on what is folded so far.
use Rattle.std.specs.Prelude.{ℕ, ◌-◌, ◌==◌, Bool, if◌then◌else◌}
use Rattle.chw_base.specs.declared.index.WireId.{WireId}
use Rattle.bit_laws.specs.Gates.{Gate}
use Rattle.bit_laws.specs.Gates.Gate.{both, buffer, differing, either, inverse}
use Rattle.bit_nodes.specs.declared.nodes.BitGate.{BitGate}
use Rattle.bit_nodes.specs.declared.nodes.BitGate.TheVariants.{Always, Both, Buffer, Differing}
use Rattle.bit_nodes.specs.declared.nodes.BitGate.TheVariants.{Either, Inverse, Never}
use Rattle.bit_nodes.specs.declared.nodes.BitName.{BitName}
use Rattle.bit_nodes.specs.declared.nodes.BitName.TheVariants.{Bit, Further}
use Rattle.bit_blast.specs.declared.gates.OneBit.{OneBit}
use Rattle.bit_blast.specs.declared.gates.OneBit.TheVariants.{Same, Opposite}
use Rattle.bit_blast.specs.declared.gates.TwoBits.{TwoBits}
use Rattle.bit_blast.specs.declared.gates.TwoBits.TheVariants.{And, Or, Xor}

-- the gate of one bit
abbrev pub gate_of_one : OneBit → Gate
gate_of_one Same = buffer
gate_of_one Opposite = inverse

-- that gate with what it reads
abbrev pub with_one : OneBit → BitName → BitGate
with_one Same a = Buffer a
with_one Opposite a = Inverse a

-- the gate of two bits
abbrev pub gate_of_two : TwoBits → Gate
gate_of_two And = both
gate_of_two Or = either
gate_of_two Xor = differing

-- that gate with what it reads
abbrev pub with_two : TwoBits → (a b : BitName) → BitGate
with_two And a b = Both a b
with_two Or a b = Either a b
with_two Xor a b = Differing a b

-- the gate of a constant bit
abbrev pub constant_gate : Bool → BitGate
constant_gate bit = if bit then Always else Never

-- the gate on what is folded below a place, and the bit there
abbrev pub folding : TwoBits → (w a : WireId) → ℕ → BitGate
folding gate w a j =
    if j == 0 then Buffer (Bit a j) else with_two gate (Further w (j - 1)) (Bit a j)
