-- The words of a tree that declare a name again in its place, and the later ones of equal alternatives.
use Rattle.std.specs.Prelude.{List, [], ◌∷◌, ◌++◌, flat_map}
use Rattle.chw_grammar.specs.declared.program.Declaration.{Declaration}
use Rattle.chw_grammar.specs.declared.program.Declaration.TheVariants as declaration
use Rattle.chw_grammar.specs.declared.program.Parameter.{Parameter}
use Rattle.chw_grammar.specs.declared.program.Top.{Top}
use Rattle.chw_grammar.specs.declared.program.Tree.{Tree}
use Rattle.chw_grammar.specs.declared.term_tree.Alternative.{Alternative}
use Rattle.chw_grammar.specs.declared.term_tree.Binding.{Binding}
use Rattle.chw_grammar.specs.declared.term_tree.Pattern.{Pattern}
use Rattle.chw_grammar.specs.declared.term_tree.Pattern.TheVariants as pattern
use Rattle.chw_grammar.specs.declared.word.Word.{Word}
use Rattle.chw_grammar.specs.TermTree.{Tm, term_lambda, term_type_lambda, term_letrec, term_case, term_apply, term_name, term_constructor, term_literal, term_vec, Tms, no_terms, term_and, Bindings, no_bindings, binding_and, Alternatives, no_alternatives, alternative_and, Arguments, no_arguments, argument_and, type_argument_and}
use Rattle.chw_names.specs.declared.space.Space.{Space}
use Rattle.chw_names.specs.declared.space.Space.TheVariants.{Domains, DataTypes, Constructors, Definitions}
use Rattle.chw_names.specs.Globals.{words_in, built_in}
use Rattle.chw_names.specs.Literals.{second_literals}
use Rattle.chw_names.specs.Words.{seconds}

-- the names that a letrec binds
abbrev pub binding_words : Bindings → List Word
binding_words no_bindings = []
binding_words (binding_and w t e bs) = w ∷ binding_words bs

-- the names that a pattern binds
abbrev pub pattern_words : Pattern → List Word
pattern_words (pattern.Constructor w ws) = ws
pattern_words (pattern.Literal w) = []
pattern_words pattern.Default = []

-- the constructor that a pattern is for
abbrev pub constructor_of : Pattern → List Word
constructor_of (pattern.Constructor w ws) = w ∷ []
constructor_of (pattern.Literal w) = []
constructor_of pattern.Default = []

-- the literal that a pattern is for
abbrev pub literal_in : Pattern → List Word
literal_in (pattern.Constructor w ws) = []
literal_in (pattern.Literal w) = w ∷ []
literal_in pattern.Default = []

abbrev pub constructor_of_alternative : Alternative → List Word
constructor_of_alternative a = constructor_of a.pattern

abbrev pub literal_of_alternative : Alternative → List Word
literal_of_alternative a = literal_in a.pattern

abbrev pub binding_name : Binding → List Word
binding_name b = b.name ∷ []

-- those alternatives that are for the constructor or the literal of an earlier one
abbrev pub second_alternatives : List Alternative → List Word
second_alternatives alts = seconds [] (flat_map constructor_of_alternative alts) ++ second_literals (flat_map literal_of_alternative alts)

-- the alternatives of a case one by one
abbrev pub each_alternative : Alternatives → List Alternative
each_alternative no_alternatives = []
each_alternative (alternative_and q e more) = record { pattern = q; term = e } ∷ each_alternative more

abbrev mutual
  pub term_twices : Tm → List Word
  term_twices (term_lambda w t e) = term_twices e
  term_twices (term_type_lambda w k e) = term_twices e
  term_twices (term_letrec bs e) = seconds [] (binding_words bs) ++ bindings_twices bs ++ term_twices e
  term_twices (term_case e alts) = second_alternatives (each_alternative alts) ++ term_twices e ++ alternatives_twices alts
  term_twices (term_apply e args) = term_twices e ++ arguments_twices args
  term_twices (term_name w) = []
  term_twices (term_constructor w) = []
  term_twices (term_literal w) = []
  term_twices (term_vec t es) = terms_twices es

  pub terms_twices : Tms → List Word
  terms_twices no_terms = []
  terms_twices (term_and e es) = term_twices e ++ terms_twices es

  pub bindings_twices : Bindings → List Word
  bindings_twices no_bindings = []
  bindings_twices (binding_and w t e bs) = term_twices e ++ bindings_twices bs

  pub alternatives_twices : Alternatives → List Word
  alternatives_twices no_alternatives = []
  alternatives_twices (alternative_and q e more) = (seconds [] (pattern_words q) ++ term_twices e) ++ alternatives_twices more

  pub arguments_twices : Arguments → List Word
  arguments_twices no_arguments = []
  arguments_twices (argument_and e more) = term_twices e ++ arguments_twices more
  arguments_twices (type_argument_and t more) = arguments_twices more

abbrev pub parameter_name : Parameter → List Word
parameter_name p = p.name ∷ []

-- within one declaration
abbrev pub declaration_twices : Declaration → List Word
declaration_twices (declaration.Domain w has_reset) = []
declaration_twices (declaration.Data w ps cs) = seconds [] (flat_map parameter_name ps)
declaration_twices (declaration.Def w t e) = term_twices e

-- among the names of one name space
abbrev pub space_twices : List Declaration → Space → List Word
space_twices ds space = seconds (built_in space) (flat_map (words_in space) ds)

-- among the names of all declarations
abbrev pub global_twices : List Declaration → List Word
global_twices ds = space_twices ds Domains ++ space_twices ds DataTypes ++ space_twices ds Constructors ++ space_twices ds Definitions

abbrev pub top_twices : Top → List Word
top_twices top = seconds [] top.inputs ++ seconds [] top.outputs

abbrev pub twices : Tree → List Word
twices tree = global_twices tree.declarations ++ flat_map declaration_twices tree.declarations ++ top_twices tree.top
