-- The program that a tree becomes.
use Rattle.std.specs.Prelude.{◌≡◌, ℕ, suc, ◌-◌, true, false, List, [], ◌∷◌, ◌++◌, map, flat_map}
use Rattle.chw_base.specs.declared.index.DomId.{DomId}
use Rattle.chw_grammar.specs.declared.program.Constructor.{Constructor}
use Rattle.chw_grammar.specs.declared.program.Declaration.{Declaration}
use Rattle.chw_grammar.specs.declared.program.Declaration.TheVariants as declaration
use Rattle.chw_grammar.specs.declared.program.Parameter.{Parameter}
use Rattle.chw_grammar.specs.declared.program.Top.{Top as WrittenTop}
use Rattle.chw_grammar.specs.declared.program.Tree.{Tree}
use Rattle.chw_grammar.specs.declared.word.Word.{Word}
use Rattle.chw_grammar.specs.TermTree.{Tm}
use Rattle.chw_grammar.specs.TypeTree.{Ty}
use Rattle.chw_names.specs.declared.globals.Globals.{Globals}
use Rattle.chw_names.specs.Globals.{globals_of}
use Rattle.chw_names.specs.Twices.{parameter_name}
use Rattle.chw_names.specs.Unknowns.{within}
use Rattle.chw_names.specs.Words.{names_of}
use Rattle.chw_terms.specs.declared.program.Def.{Def}
use Rattle.chw_terms.specs.declared.program.Program.{Program}
use Rattle.chw_terms.specs.declared.program.Top.{Top}
use Rattle.chw_types.specs.declared.declarations.ConDecl.{ConDecl}
use Rattle.chw_types.specs.declared.declarations.Data.{Data}
use Rattle.chw_types.specs.declared.kind.Kind.{Kind}
use Rattle.chw_types.specs.declared.kind.Kind.TheVariants.{Val}
use Rattle.chw_types.specs.BuiltIn.{built_in}
use Rattle.chw_resolve.specs.Terms.{primitives, term_in}
use Rattle.chw_resolve.specs.Types.{kind_in, place_in, type_in}

abbrev pub parameter_kind : Parameter → Kind
parameter_kind p = kind_in p.kind

-- the parameters of a data type that are in scope in its fields: the last is the innermost
abbrev pub parameters_in : List Parameter → List (List ℕ)
parameters_in ps = within (flat_map parameter_name ps) []

abbrev pub constructor_in : Globals → List (List ℕ) → Constructor → ConDecl
constructor_in g variables c = record { name = c.name.bytes; fields = map (type_in g variables) c.fields }

-- a declared data type, whose own kind isn't said: `Val` stands for it
abbrev pub data_type_in : Globals → Word → List Parameter → List Constructor → Data
data_type_in g w ps cs = record { name = w.bytes; params = map parameter_kind ps; kind = Val; cons = map (constructor_in g (parameters_in ps)) cs }

abbrev pub definition_in : Globals → Word → Ty → Tm → Def
definition_in g w t e = record { name = w.bytes; ty = type_in g [] t; body = term_in g [] [] e }

-- what a declaration declares
abbrev pub domains_in : Declaration → List (List ℕ)
domains_in (declaration.Domain w has_reset) = w.bytes ∷ []
domains_in (declaration.Data w ps cs) = []
domains_in (declaration.Def w t e) = []

-- the domains that have a reset, in order of declaration; the first domain declared here has this
-- number
abbrev pub resets_from : ℕ → List Declaration → List DomId
resets_from d [] = []
resets_from d (declaration.Domain w true ∷ ds) = record { number = d } ∷ resets_from (suc d) ds
resets_from d (declaration.Domain w false ∷ ds) = resets_from (suc d) ds
resets_from d (declaration.Data w ps cs ∷ ds) = resets_from d ds
resets_from d (declaration.Def w t e ∷ ds) = resets_from d ds

abbrev pub datas_in : Globals → Declaration → List Data
datas_in g (declaration.Domain w has_reset) = []
datas_in g (declaration.Data w ps cs) = data_type_in g w ps cs ∷ []
datas_in g (declaration.Def w t e) = []

abbrev pub defs_in : Globals → Declaration → List Def
defs_in g (declaration.Domain w has_reset) = []
defs_in g (declaration.Data w ps cs) = []
defs_in g (declaration.Def w t e) = definition_in g w t e ∷ []

-- the definition of the top is counted behind all primitives
abbrev pub top_in : Globals → WrittenTop → Top
top_in g top =
    record { def = record { number = place_in g.definitions top.definition.bytes - primitives }; inputs = names_of top.inputs; outputs = names_of top.outputs }

-- the data type with its own kind left out, for which `Val` stands
abbrev pub without_kind : Data → Data
without_kind it = record { name = it.name; params = it.params; kind = Val; cons = it.cons }

-- the program is that of the tree, but for the kinds of its data types
pub record IsProgramOf (tree : Tree) (p : Program) : Type 0 where
  pub domains : p.domains ≡ flat_map domains_in tree.declarations
  pub resets : p.resets ≡ resets_from 0 tree.declarations
  pub datas : map without_kind p.datas ≡ built_in ++ flat_map (datas_in (globals_of tree.declarations)) tree.declarations
  pub defs : p.defs ≡ flat_map (defs_in (globals_of tree.declarations)) tree.declarations
  pub top : p.top ≡ top_in (globals_of tree.declarations) tree.top
