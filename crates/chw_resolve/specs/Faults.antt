-- What descriptions may not break on names and references, and their first fault.
use Rattle.std.specs.Prelude.{◌≡◌, ℕ, List, [], ◌++◌, map, flat_map, slice_get, Some, None}
use Rattle.std.specs.Option.{unwrap_or}
use Rattle.chw_grammar.specs.declared.program.Tree.{Tree}
use Rattle.chw_grammar.specs.declared.word.Word.{Word}
use Rattle.chw_limits.specs.Limits.{limit_of}
use Rattle.chw_limits.specs.declared.which.Limit.{Limit as PassedLimit}
use Rattle.chw_names.specs.Globals.{globals_of}
use Rattle.chw_names.specs.Twices.{twices}
use Rattle.chw_names.specs.Unknowns.{unknowns}
use Rattle.chw_names.specs.Words.{IsLeast}
use Rattle.chw_resolve.specs.declared.fault.NameFault.{NameFault}
use Rattle.chw_resolve.specs.declared.fault.NameFault.TheVariants.{Limit, Twice, Unknown, DataCycle, DefCycle}
use Rattle.chw_terms.specs.References.{DataRefers, DefRefers}
use Rattle.graph_order.specs.References.{HasNoCycle}
use Rattle.chw_terms.specs.declared.program.Def.{Def}
use Rattle.chw_types.specs.BuiltIn.{built_in}
use Rattle.chw_types.specs.declared.declarations.Data.{Data}
use Rattle.data_kinds.specs.Cycles.{IsCycleOf}
use Rattle.graph_order.specs.Orders.{LeastFirst}
use Rattle.chw_resolve.specs.Programs.{datas_in, defs_in}

-- the data types of a description, the built-in ones first
abbrev pub data_types_of : Tree → List Data
data_types_of tree = built_in ++ flat_map (datas_in (globals_of tree.declarations)) tree.declarations

abbrev pub definitions_of : Tree → List Def
definitions_of tree = flat_map (defs_in (globals_of tree.declarations)) tree.declarations

abbrev pub data_name : Data → List ℕ
data_name it = it.name

abbrev pub def_name : Def → List ℕ
def_name it = it.name

-- the name at this place
abbrev pub name_at : List (List ℕ) → ℕ → List ℕ
name_at names place = unwrap_or (slice_get names place) []

-- the names at these places
abbrev pub names_at : List (List ℕ) → List ℕ → List (List ℕ)
names_at names places = map (name_at names) places

-- no limit is passed, each name is declared once in its place, and each is declared where it stands
pub record HasNames (tree : Tree) : Type 0 where
  pub limits : limit_of tree ≡ None
  pub once : twices tree ≡ []
  pub known : unknowns tree ≡ []

-- the names are as they should be, and neither data types nor definitions refer to each other in a circle
pub record IsWellNamed (tree : Tree) : Type 0 where
  pub names : HasNames tree
  pub data_acyclic : HasNoCycle (DataRefers (data_types_of tree))
  pub defs_acyclic : HasNoCycle (DefRefers (definitions_of tree))

-- a circle, told by names: of data types, or of definitions where there is none of data types. It begins with the first declared
pub data IsCircle (datas : List Data) (defs : List Def) : NameFault → Type 0 where
  of_datas : (cycle : List ℕ) → IsCycleOf (DataRefers datas) cycle → LeastFirst cycle → IsCircle datas defs (DataCycle (names_at (map data_name datas) cycle))
  of_defs : (cycle : List ℕ) → HasNoCycle (DataRefers datas) → IsCycleOf (DefRefers defs) cycle → LeastFirst cycle
      → IsCircle datas defs (DefCycle (names_at (map def_name defs) cycle))

-- the first fault: each is looked for in the whole description before the next, and of several words the first in the text is told
pub data IsNameFault (tree : Tree) : NameFault → Type 0 where
  limit : (passed : PassedLimit) → limit_of tree ≡ Some passed → IsNameFault tree (Limit passed)
  twice : (w : Word) → limit_of tree ≡ None → IsLeast (twices tree) w → IsNameFault tree (Twice w.bytes w.at)
  unknown : (w : Word) → limit_of tree ≡ None → twices tree ≡ [] → IsLeast (unknowns tree) w → IsNameFault tree (Unknown w.bytes w.at)
  circle : (fault : NameFault) → HasNames tree → IsCircle (data_types_of tree) (definitions_of tree) fault → IsNameFault tree fault
