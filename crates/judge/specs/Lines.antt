-- The lines that say why a state is refused.
use Rattle.std.specs.Prelude.{ℕ, List, ◌++◌, codes, decimal}
use Rattle.std.specs.List.{flat_map}
use Rattle.chw_base.specs.declared.index.MadeId.{MadeId}
use Rattle.chw_layout.specs.declared.outcome.NoLayout.{NoLayout}
use Rattle.chw_layout.specs.declared.outcome.NoLayout.TheVariants.{NotRepresentable, Scalar}
use Rattle.chw_layout.specs.declared.outcome.NoLayout.TheVariants.{Data, Length}
use Rattle.chw_terms.specs.declared.program.Program.{Program}
use Rattle.type_ports.specs.TypeText.{type_text}
use Rattle.chw_types.specs.TypeTree.{TypeTree}
use Rattle.normal_forms.specs.Blocked.{Block, recursion, payload, limit}
use Rattle.blocked_places.specs.Answers.{block_of}
use Rattle.judge.specs.declared.states.StateFault.{StateFault}
use Rattle.judge.specs.declared.states.StateFault.TheVariants.{Blocked, Uses}

-- numbers, each after a space
abbrev pub number_texts : List ℕ → List ℕ
number_texts ns = flat_map (λ (n : ℕ). codes " " ++ decimal n) ns

-- made definitions by their numbers, each after a space
abbrev pub made_texts : List MadeId → List ℕ
made_texts ms = flat_map (λ (m : MadeId). codes " " ++ decimal m.number) ms

-- a limit with the number that passes it
abbrev pub limit_text : NoLayout → List ℕ
limit_text NotRepresentable = codes "none"
limit_text (Scalar n) = codes "scalar " ++ decimal n
limit_text (Data n) = codes "data " ++ decimal n
limit_text (Length n) = codes "length " ++ decimal n

-- in this made definition some bindings refer to each other in a cycle
abbrev pub recursion_line : ℕ → List ℕ → List ℕ
recursion_line m cycle =
    codes "chw: E13 recursion made " ++ decimal m ++ codes " bindings" ++ number_texts cycle
    ++ codes "\n"

-- a payload isn't representable
abbrev pub payload_line : Program → ℕ → TypeTree → List ℕ
payload_line p m t =
    codes "chw: E14 representation made " ++ decimal m ++ codes " "
    ++ type_text p.datas p.domains t ++ codes "\n"

-- a limit is passed
abbrev pub wide_line : ℕ → NoLayout → List ℕ
wide_line m what =
    codes "chw: E15 wide made " ++ decimal m ++ codes " " ++ limit_text what ++ codes "\n"

-- what blocks a place of this made definition
abbrev pub place_line : Program → ℕ → Block → List ℕ
place_line p m (recursion cycle) = recursion_line m cycle
place_line p m (payload t) = payload_line p m t
place_line p m (limit what) = wide_line m what

-- made definitions use each other in a cycle
abbrev pub uses_line : List MadeId → List ℕ
uses_line cycle = codes "chw: E13 recursion uses" ++ made_texts cycle ++ codes "\n"

-- why a state is refused
abbrev pub state_line : Program → StateFault → List ℕ
state_line p (Blocked at) = place_line p at.made.number (block_of at.block)
state_line p (Uses cycle) = uses_line cycle.items
