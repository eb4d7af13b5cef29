-- What is promised of references and of cycles.
use Rattle.std.specs.Prelude.{ℕ, List}
use Rattle.chw_types.specs.declared.declarations.Data.{Data}
use Rattle.chw_terms.specs.declared.program.Def.{Def}
use Rattle.chw_terms.specs.References.{DataRefers, DefRefers}
use Rattle.graph_order.specs.References.{HasNoCycle}
use Rattle.data_kinds.specs.Cycles.{IsCycleOf}
use Rattle.data_kinds.specs.Kinds.{SameButKinds}

-- where some data types are a cycle, references lead from somewhere back to it
abbrev pub DataCyclesLeadBack : Type 0
DataCyclesLeadBack = (datas : List Data) (nodes : List ℕ) → IsCycleOf (DataRefers datas) nodes → HasNoCycle (DataRefers datas) → ⊥

-- the same of definitions
abbrev pub DefCyclesLeadBack : Type 0
DefCyclesLeadBack = (defs : List Def) (nodes : List ℕ) → IsCycleOf (DefRefers defs) nodes → HasNoCycle (DefRefers defs) → ⊥

-- data types that are the same but for their kinds refer to the same ones
abbrev pub KindsKeepReferences : Type 0
KindsKeepReferences =
    (datas datas' : List Data) (from to : ℕ) → SameButKinds datas datas' → DataRefers datas from to → DataRefers datas' from to
