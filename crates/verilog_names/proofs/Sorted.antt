-- The ports of a module sorted one by one.
use Rattle.std.proofs.Common.{◌≡◌, List, [], ◌∷◌, ◌++◌, refl}
use Rattle.verilog_rules.specs.Declarations.{inputs_of, outputs_of, signals_of}
use Rattle.verilog_tree.specs.declared.module.Port.{Port}
use Rattle.verilog_tree.specs.declared.module.Port.TheVariants.{Input, Output, Signal}

pub signals_split : (p : Port) (ports : List Port) → signals_of (p ∷ ports) ≡ signals_of (p ∷ []) ++ signals_of ports
signals_split (Signal s) ports = refl
signals_split (Input l) ports = refl
signals_split (Output l) ports = refl

pub inputs_split : (p : Port) (ports : List Port) → inputs_of (p ∷ ports) ≡ inputs_of (p ∷ []) ++ inputs_of ports
inputs_split (Signal s) ports = refl
inputs_split (Input l) ports = refl
inputs_split (Output l) ports = refl

pub outputs_split : (p : Port) (ports : List Port) → outputs_of (p ∷ ports) ≡ outputs_of (p ∷ []) ++ outputs_of ports
outputs_split (Signal s) ports = refl
outputs_split (Input l) ports = refl
outputs_split (Output l) ports = refl
