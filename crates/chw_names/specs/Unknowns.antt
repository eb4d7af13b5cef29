-- The names of a tree that nothing declares where they stand.
use Rattle.std.specs.Prelude.{◌≡◌, ℕ, ◌||◌, not, List, [], ◌∷◌, ◌++◌, flat_map, Option}
use Rattle.chw_grammar.specs.declared.program.Constructor.{Constructor}
use Rattle.chw_grammar.specs.declared.program.Declaration.{Declaration}
use Rattle.chw_grammar.specs.declared.program.Declaration.TheVariants as declaration
use Rattle.chw_grammar.specs.declared.program.Top.{Top}
use Rattle.chw_grammar.specs.declared.program.Tree.{Tree}
use Rattle.chw_grammar.specs.declared.term_tree.Pattern.{Pattern}
use Rattle.chw_grammar.specs.declared.word.Word.{Word}
use Rattle.chw_grammar.specs.TypeTree.{Ty, type_forall, type_arrow, type_sum, type_product, type_named, type_variable, type_numeral, Tys, no_types, type_and}
use Rattle.chw_grammar.specs.TermTree.{Tm, term_lambda, term_type_lambda, term_letrec, term_case, term_apply, term_name, term_constructor, term_literal, term_vec, Tms, no_terms, term_and, Bindings, no_bindings, binding_and, Alternatives, no_alternatives, alternative_and, Arguments, no_arguments, argument_and, type_argument_and}
use Rattle.name_tables.specs.Names.{is_among}
use Rattle.chw_prims.specs.Names.{primitive_names}
use Rattle.chw_names.specs.declared.globals.Globals.{Globals}
use Rattle.chw_names.specs.Globals.{globals_of}
use Rattle.chw_names.specs.Twices.{binding_words, pattern_words, constructor_of, parameter_name}
use Rattle.chw_names.specs.Words.{when, least_of}

-- the names in scope, the innermost first, within these binders, of which the last is the innermost
abbrev pub within : List Word → List (List ℕ) → List (List ℕ)
within [] names = names
within (w ∷ ws) names = within ws (w.bytes ∷ names)

-- the names in scope after a walk are those before it, and the words were met on the way
pub record Walks (S : Type 0) (before after : S) (met later : Option Word) (words : List Word) : Type 0 where
  pub scope : after ≡ before
  pub least : later ≡ least_of met words

-- names of type variables, and names of variables
abbrev pub Scopes : Type 0
Scopes = List (List ℕ) × List (List ℕ)

-- the word, where its name is none of these
abbrev pub unless_among : List (List ℕ) → Word → List Word
unless_among names w = when (not (is_among names w.bytes)) w

-- the word, where it names neither a data type nor a domain
abbrev pub named_unknowns : Globals → Word → List Word
named_unknowns g w = when (not (is_among g.data_types w.bytes || is_among g.domains w.bytes)) w

-- the word, where it names neither one of these variables nor a definition or a primitive
abbrev pub name_unknowns : Globals → List (List ℕ) → Word → List Word
name_unknowns g values w = when (not (is_among values w.bytes || is_among g.definitions w.bytes)) w

abbrev mutual
  -- in a type, by the type variables in scope
  pub type_unknowns : Globals → List (List ℕ) → Ty → List Word
  type_unknowns g variables (type_forall w k t) = type_unknowns g (w.bytes ∷ variables) t
  type_unknowns g variables (type_arrow a b) = type_unknowns g variables a ++ type_unknowns g variables b
  type_unknowns g variables (type_sum ts) = types_unknowns g variables ts
  type_unknowns g variables (type_product ts) = types_unknowns g variables ts
  type_unknowns g variables (type_named w ts) = named_unknowns g w ++ types_unknowns g variables ts
  type_unknowns g variables (type_variable w) = unless_among variables w
  type_unknowns g variables (type_numeral w) = []

  pub types_unknowns : Globals → List (List ℕ) → Tys → List Word
  types_unknowns g variables no_types = []
  types_unknowns g variables (type_and t ts) = type_unknowns g variables t ++ types_unknowns g variables ts

abbrev pub pattern_unknowns : Globals → Pattern → List Word
pattern_unknowns g q = flat_map (unless_among g.constructors) (constructor_of q)

abbrev mutual
  -- in a term, by the type variables and the variables in scope
  pub term_unknowns : Globals → List (List ℕ) → List (List ℕ) → Tm → List Word
  term_unknowns g types values (term_lambda w t e) = type_unknowns g types t ++ term_unknowns g types (w.bytes ∷ values) e
  term_unknowns g types values (term_type_lambda w k e) = term_unknowns g (w.bytes ∷ types) values e
  term_unknowns g types values (term_letrec bs e) =
      let inside = within (binding_words bs) values in bindings_unknowns g types inside bs ++ term_unknowns g types inside e
  term_unknowns g types values (term_case e alts) = term_unknowns g types values e ++ alternatives_unknowns g types values alts
  term_unknowns g types values (term_apply e args) = term_unknowns g types values e ++ arguments_unknowns g types values args
  term_unknowns g types values (term_name w) = name_unknowns g values w
  term_unknowns g types values (term_constructor w) = unless_among g.constructors w
  term_unknowns g types values (term_literal w) = []
  term_unknowns g types values (term_vec t es) = type_unknowns g types t ++ terms_unknowns g types values es

  pub terms_unknowns : Globals → List (List ℕ) → List (List ℕ) → Tms → List Word
  terms_unknowns g types values no_terms = []
  terms_unknowns g types values (term_and e es) = term_unknowns g types values e ++ terms_unknowns g types values es

  pub bindings_unknowns : Globals → List (List ℕ) → List (List ℕ) → Bindings → List Word
  bindings_unknowns g types values no_bindings = []
  bindings_unknowns g types values (binding_and w t e bs) = (type_unknowns g types t ++ term_unknowns g types values e) ++ bindings_unknowns g types values bs

  pub alternatives_unknowns : Globals → List (List ℕ) → List (List ℕ) → Alternatives → List Word
  alternatives_unknowns g types values no_alternatives = []
  alternatives_unknowns g types values (alternative_and q e more) =
      (pattern_unknowns g q ++ term_unknowns g types (within (pattern_words q) values) e) ++ alternatives_unknowns g types values more

  pub arguments_unknowns : Globals → List (List ℕ) → List (List ℕ) → Arguments → List Word
  arguments_unknowns g types values no_arguments = []
  arguments_unknowns g types values (argument_and e more) = term_unknowns g types values e ++ arguments_unknowns g types values more
  arguments_unknowns g types values (type_argument_and t more) = type_unknowns g types t ++ arguments_unknowns g types values more

-- in the fields of a constructor, by the parameters of its data type
abbrev pub constructor_unknowns : Globals → List (List ℕ) → Constructor → List Word
constructor_unknowns g parameters c = flat_map (type_unknowns g parameters) c.fields

abbrev pub declaration_unknowns : Globals → Declaration → List Word
declaration_unknowns g (declaration.Domain w has_reset) = []
declaration_unknowns g (declaration.Data w ps cs) = flat_map (constructor_unknowns g (within (flat_map parameter_name ps) [])) cs
declaration_unknowns g (declaration.Def w t e) = type_unknowns g [] t ++ term_unknowns g [] [] e

-- the definition of the top, which isn't a primitive
abbrev pub top_unknowns : Globals → Top → List Word
top_unknowns g top = when (is_among primitive_names top.definition.bytes || not (is_among g.definitions top.definition.bytes)) top.definition

abbrev pub unknowns : Tree → List Word
unknowns tree = let g = globals_of tree.declarations in flat_map (declaration_unknowns g) tree.declarations ++ top_unknowns g tree.top
