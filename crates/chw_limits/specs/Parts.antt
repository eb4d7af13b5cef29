-- Whether a tree has a part that passes a test: a written vector, by how many elements it has, a literal, or a numeral of a type.
use Rattle.std.specs.Prelude.{ℕ, ◌+◌, Bool, true, false, ◌||◌, List}
use Rattle.std.specs.List.{list_any}
use Rattle.chw_grammar.specs.declared.program.Constructor.{Constructor}
use Rattle.chw_grammar.specs.declared.program.Declaration.{Declaration}
use Rattle.chw_grammar.specs.declared.program.Declaration.TheVariants as declaration
use Rattle.chw_grammar.specs.declared.program.Tree.{Tree}
use Rattle.chw_grammar.specs.declared.term_tree.Pattern.{Pattern}
use Rattle.chw_grammar.specs.declared.term_tree.Pattern.TheVariants as pattern
use Rattle.chw_grammar.specs.TypeTree.{Ty, type_forall, type_arrow, type_sum, type_product, type_named, type_variable, type_numeral, Tys, no_types, type_and}
use Rattle.chw_grammar.specs.TermTree.{Tm, term_lambda, term_type_lambda, term_letrec, term_case, term_apply, term_name, term_constructor, term_literal, term_vec, Tms, no_terms, term_and, Bindings, no_bindings, binding_and, Alternatives, no_alternatives, alternative_and, Arguments, no_arguments, argument_and, type_argument_and}

-- which parts pass
pub record Tests : Type 0 where
  pub vector : ℕ → Bool
  pub literal : List ℕ → Bool
  pub numeral : List ℕ → Bool

abbrev mutual
  pub type_has : Tests → Ty → Bool
  type_has tests (type_forall w k t) = type_has tests t
  type_has tests (type_arrow a b) = type_has tests a || type_has tests b
  type_has tests (type_sum ts) = types_have tests ts
  type_has tests (type_product ts) = types_have tests ts
  type_has tests (type_named w ts) = types_have tests ts
  type_has tests (type_variable w) = false
  type_has tests (type_numeral w) = tests.numeral w.bytes

  pub types_have : Tests → Tys → Bool
  types_have tests no_types = false
  types_have tests (type_and t ts) = type_has tests t || types_have tests ts

abbrev pub pattern_has : Tests → Pattern → Bool
pattern_has tests (pattern.Constructor w ws) = false
pattern_has tests (pattern.Literal w) = tests.literal w.bytes
pattern_has tests pattern.Default = false

abbrev pub terms_count : Tms → ℕ
terms_count no_terms = 0
terms_count (term_and e es) = terms_count es + 1

abbrev mutual
  pub term_has : Tests → Tm → Bool
  term_has tests (term_lambda w t e) = type_has tests t || term_has tests e
  term_has tests (term_type_lambda w k e) = term_has tests e
  term_has tests (term_letrec bs e) = bindings_have tests bs || term_has tests e
  term_has tests (term_case e alts) = term_has tests e || alternatives_have tests alts
  term_has tests (term_apply e args) = term_has tests e || arguments_have tests args
  term_has tests (term_name w) = false
  term_has tests (term_constructor w) = false
  term_has tests (term_literal w) = tests.literal w.bytes
  term_has tests (term_vec t es) = (tests.vector (terms_count es) || type_has tests t) || terms_have tests es

  pub terms_have : Tests → Tms → Bool
  terms_have tests no_terms = false
  terms_have tests (term_and e es) = term_has tests e || terms_have tests es

  pub bindings_have : Tests → Bindings → Bool
  bindings_have tests no_bindings = false
  bindings_have tests (binding_and w t e bs) = (type_has tests t || term_has tests e) || bindings_have tests bs

  pub alternatives_have : Tests → Alternatives → Bool
  alternatives_have tests no_alternatives = false
  alternatives_have tests (alternative_and q e more) = (pattern_has tests q || term_has tests e) || alternatives_have tests more

  pub arguments_have : Tests → Arguments → Bool
  arguments_have tests no_arguments = false
  arguments_have tests (argument_and e more) = term_has tests e || arguments_have tests more
  arguments_have tests (type_argument_and t more) = type_has tests t || arguments_have tests more

abbrev pub constructor_has : Tests → Constructor → Bool
constructor_has tests c = list_any (type_has tests) c.fields

abbrev pub declaration_has : Tests → Declaration → Bool
declaration_has tests (declaration.Domain w has_reset) = false
declaration_has tests (declaration.Data w ps cs) = list_any (constructor_has tests) cs
declaration_has tests (declaration.Def w t e) = type_has tests t || term_has tests e

abbrev pub tree_has : Tests → Tree → Bool
tree_has tests tree = list_any (declaration_has tests) tree.declarations

abbrev pub is_definition : Declaration → Bool
is_definition (declaration.Domain w has_reset) = false
is_definition (declaration.Data w ps cs) = false
is_definition (declaration.Def w t e) = true

abbrev pub is_data_type : Declaration → Bool
is_data_type (declaration.Domain w has_reset) = false
is_data_type (declaration.Data w ps cs) = true
is_data_type (declaration.Def w t e) = false

abbrev pub is_domain : Declaration → Bool
is_domain (declaration.Domain w has_reset) = true
is_domain (declaration.Data w ps cs) = false
is_domain (declaration.Def w t e) = false
