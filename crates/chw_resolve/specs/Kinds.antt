-- Programs whose data types got their kinds.
use Rattle.std.specs.Prelude.{◌≡◌, length}
use Rattle.chw_terms.specs.References.{DataRefers, DefRefers}
use Rattle.graph_order.specs.References.{HasNoCycle}
use Rattle.chw_terms.specs.declared.program.Program.{Program}
use Rattle.data_kinds.specs.Kinds.{HaveTheirKinds, SameButKinds}

-- the data types have their kinds, nothing else differs, and there are no circles
pub record GetsKinds (before after : Program) : Type 0 where
  pub domains : after.domains ≡ before.domains
  pub resets : after.resets ≡ before.resets
  pub datas : SameButKinds before.datas after.datas
  pub defs : after.defs ≡ before.defs
  pub top : after.top ≡ before.top
  pub kinds : HaveTheirKinds after.datas (length after.domains)
  pub data_acyclic : HasNoCycle (DataRefers after.datas)
  pub defs_acyclic : HasNoCycle (DefRefers after.defs)
