-- Typed programs.
use Rattle.std.specs.Prelude.{◌≡◌, ℕ, ◌+◌, List, [], ◌++◌, map, length, reverse, Some}
use Rattle.std.specs.List.{slice_get}
use Rattle.chw_types.specs.declared.declarations.Data.{Data}
use Rattle.type_ports.specs.declared.ports.Leaf.{Leaf}
use Rattle.chw_types.specs.TypeTree.{TypeTree, fun}
use Rattle.chw_types.specs.BuiltIn.{built_in}
use Rattle.type_ports.specs.Ports.{Leaves}
use Rattle.chw_terms.specs.declared.program.Def.{Def}
use Rattle.chw_terms.specs.declared.program.Program.{Program}
use Rattle.chw_terms.specs.TermTree.{TermTree, Terms, Group, Alts}
use Rattle.chw_terms.specs.References.{IsField, DataRefers, DefRefers}
use Rattle.graph_order.specs.References.{HasNoCycle}
use Rattle.chw_terms.specs.Tidy.{HasItsKind}
use Rattle.chw_typing.specs.Scopes.{Setting, IsTermType}
use Rattle.chw_typing.specs.AllCases.{AllCases, AllCasesOfAlts, AllCasesOfGroup, AllCasesOfTerms}
use Rattle.chw_typing.specs.Alternatives.{IsCovered}
use Rattle.chw_typing.specs.Typing.{HasTypeUpTo}

-- each case in the term has an alternative for whatever it looks at
abbrev pub IsComplete : List Data → TermTree → Type 0
IsComplete datas e = AllCases (IsCovered datas) e

abbrev pub AllAreComplete : List Data → Terms → Type 0
AllAreComplete datas es = AllCasesOfTerms (IsCovered datas) es

abbrev pub GroupIsComplete : List Data → Group → Type 0
GroupIsComplete datas g = AllCasesOfGroup (IsCovered datas) g

abbrev pub AltsAreComplete : List Data → Alts → Type 0
AltsAreComplete datas alts = AllCasesOfAlts (IsCovered datas) alts

-- the type leads from ports, with so many leaves together, to a port with so many leaves
pub data LeadsToPort (datas : List Data) : TypeTree → ℕ → ℕ → Type 0 where
  to_port : {t : TypeTree} {ls : List Leaf} → Leaves datas t ls → LeadsToPort datas t 0 (length ls)
  from_port : {a b : TypeTree} {ls : List Leaf} {m n : ℕ} → Leaves datas a ls → LeadsToPort datas b m n → LeadsToPort datas (fun a b) (length ls + m) n

-- each field of a data type has a type that terms have, where the data type's parameters are in scope
abbrev pub FieldsAreTyped : Setting → Type 0
FieldsAreTyped s =
    (d : ℕ) (it : Data) (t : TypeTree) → slice_get s.datas d ≡ Some it → IsField it t → IsTermType s (reverse it.params) t

-- each of these is a type of terms, without variables
abbrev pub AreClosed : Setting → List TypeTree → Type 0
AreClosed s ts = (x : ℕ) (t : TypeTree) → slice_get ts x ≡ Some t → IsTermType s [] t

-- what the terms of a program are typed over
abbrev pub setting_of : Program → Setting
setting_of p = record { datas = p.datas; domains = length p.domains; defs = map (λ d. d.ty) p.defs; made = [] }

-- the body has the declared type, up to naturals
abbrev pub HasItsType : Program → Def → Type 0
HasItsType p it = HasTypeUpTo (setting_of p) [] [] it.body it.ty

pub record IsTyped (p : Program) : Type 0 where
  -- every declared type is one that terms have, and each body has its declared type
  pub fields : FieldsAreTyped (setting_of p)
  pub types : AreClosed (setting_of p) (setting_of p).defs
  pub bodies : (d : ℕ) (it : Def) → slice_get p.defs d ≡ Some it → HasItsType p it
  -- every case is complete
  pub complete : (d : ℕ) (it : Def) → slice_get p.defs d ≡ Some it → IsComplete p.datas it.body
  -- nothing refers to itself
  pub data_acyclic : HasNoCycle (DataRefers p.datas)
  pub defs_acyclic : HasNoCycle (DefRefers p.defs)
  -- the top has a name for each leaf of its parameters, and one for each leaf of its result
  pub top : (it : Def) × (slice_get p.defs p.top.«def».number ≡ Some it) × LeadsToPort p.datas it.ty (length p.top.inputs) (length p.top.outputs)

-- what the laws ask of what terms are typed over; it holds of every typed program
pub record IsSound (s : Setting) : Type 0 where
  pub begins : (others : List Data) × (s.datas ≡ built_in ++ others)
  pub kinds : (d : ℕ) (it : Data) → slice_get s.datas d ≡ Some it → HasItsKind s.datas s.domains it
  pub fields : FieldsAreTyped s
  pub defs : AreClosed s s.defs
  pub made : AreClosed s s.made
