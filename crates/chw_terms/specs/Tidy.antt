-- Tidy programs: what holds of every program whose names were resolved.
use Rattle.std.specs.Prelude.{◌≡◌, ℕ, ◌<◌, List, ◌++◌, length, reverse, Some}
use Rattle.std.specs.List.{slice_get}
use Rattle.chw_types.specs.declared.kind.Kind.TheVariants.{Val, Cir}
use Rattle.chw_types.specs.declared.declarations.Data.{Data}
use Rattle.chw_types.specs.TypeTree.{TypeTree}
use Rattle.chw_types.specs.Kinds.{KindOf}
use Rattle.chw_types.specs.BuiltIn.{built_in}
use Rattle.chw_terms.specs.declared.program.Program.{Program}
use Rattle.chw_terms.specs.References.{IsField, DataRefers, DefRefers}
use Rattle.graph_order.specs.References.{HasNoCycle}
use Rattle.chw_base.specs.Names.{IsUpper, IsLower}
use Rattle.chw_base.specs.Ordered.{AreOrdered}
use Rattle.chw_terms.specs.Names.{AreNames}

-- a field of the data type is a circuit, with its parameters in scope
abbrev pub HasCircuit : List Data → ℕ → Data → Type 0
HasCircuit datas domains it = (t : TypeTree) × IsField it t × KindOf datas domains (reverse it.params) t Cir

-- the data type is a circuit where a field is, and else values
pub record HasItsKind (datas : List Data) (domains : ℕ) (it : Data) : Type 0 where
  pub circuit : HasCircuit datas domains it → it.kind ≡ Cir
  pub values : (HasCircuit datas domains it → ⊥) → it.kind ≡ Val

pub record IsTidy (p : Program) : Type 0 where
  -- the built-in data types stand first
  pub begins : (declared : List Data) × (p.datas ≡ built_in ++ declared)
  pub kinds : (d : ℕ) (it : Data) → slice_get p.datas d ≡ Some it → HasItsKind p.datas (length p.domains) it
  -- each data type has a constructor
  pub inhabited : (d : ℕ) (it : Data) → slice_get p.datas d ≡ Some it → 0 < length it.cons
  pub data_acyclic : HasNoCycle (DataRefers p.datas)
  pub defs_acyclic : HasNoCycle (DefRefers p.defs)
  pub top_held : p.top.«def».number < length p.defs
  pub domain_names : AreNames IsUpper p.domains
  -- the domains that have a reset are domains, in order, each once
  pub resets : AreOrdered (length p.domains) p.resets
  pub input_names : AreNames IsLower p.top.inputs
  pub output_names : AreNames IsLower p.top.outputs
