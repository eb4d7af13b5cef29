-- How high a tree is: each node counts 1, from the description itself down to its leaves, which are names, numerals, literals, kinds and
-- patterns. Applications and chains of signs count more, since the terms and types that they stand for nest once for each.
use Rattle.std.specs.Prelude.{ℕ, suc, ◌+◌, ◌-◌, max, List, [], ◌∷◌}
use Rattle.chw_grammar.specs.declared.program.Parameter.{Parameter}
use Rattle.chw_grammar.specs.declared.program.Constructor.{Constructor}
use Rattle.chw_grammar.specs.declared.program.Declaration.{Declaration}
use Rattle.chw_grammar.specs.declared.program.Declaration.TheVariants as declaration
use Rattle.chw_grammar.specs.declared.program.Tree.{Tree}
use Rattle.chw_grammar.specs.TypeTree.{Ty, type_forall, type_arrow, type_sum, type_product, type_named, type_variable, type_numeral, Tys, no_types, type_and}
use Rattle.chw_grammar.specs.TypeView.{types_of}
use Rattle.chw_grammar.specs.TermTree.{Tm, term_lambda, term_type_lambda, term_letrec, term_case, term_apply, term_name, term_constructor, term_literal, term_vec, Tms, no_terms, term_and, Bindings, no_bindings, binding_and, Alternatives, no_alternatives, alternative_and, Arguments, no_arguments, argument_and, type_argument_and}

abbrev pub leaf : ℕ
leaf = 1

-- an application of n arguments counts n above its highest part, and a name without arguments is a leaf
abbrev pub applied : ℕ → ℕ → ℕ
applied n highest = max leaf (n + highest)

-- a chain of n parts has n - 1 signs, and counts that many above its highest part
abbrev pub chained : ℕ → ℕ → ℕ
chained n highest = n - 1 + highest

abbrev pub types_count : Tys → ℕ
types_count no_types = 0
types_count (type_and t ts) = suc (types_count ts)

abbrev pub arguments_count : Arguments → ℕ
arguments_count no_arguments = 0
arguments_count (argument_and e more) = suc (arguments_count more)
arguments_count (type_argument_and t more) = suc (arguments_count more)

abbrev mutual
  pub type_height : Ty → ℕ
  type_height (type_forall w k t) = suc (max leaf (type_height t))
  type_height (type_arrow a b) = suc (max (type_height a) (type_height b))
  type_height (type_sum ts) = chained (types_count ts) (types_height ts)
  type_height (type_product ts) = chained (types_count ts) (types_height ts)
  type_height (type_named w ts) = applied (types_count ts) (types_height ts)
  type_height (type_variable w) = leaf
  type_height (type_numeral w) = leaf

  -- the height of the highest
  pub types_height : Tys → ℕ
  types_height no_types = 0
  types_height (type_and t ts) = max (type_height t) (types_height ts)

abbrev mutual
  pub term_height : Tm → ℕ
  term_height (term_lambda w t e) = suc (max (type_height t) (term_height e))
  term_height (term_type_lambda w k e) = suc (max leaf (term_height e))
  term_height (term_letrec bs e) = suc (max (bindings_height bs) (term_height e))
  term_height (term_case e alts) = suc (max (term_height e) (alternatives_height alts))
  term_height (term_apply e args) = applied (arguments_count args) (max (term_height e) (arguments_height args))
  term_height (term_name w) = leaf
  term_height (term_constructor w) = leaf
  term_height (term_literal w) = leaf
  term_height (term_vec t es) = suc (max (type_height t) (terms_height es))

  pub terms_height : Tms → ℕ
  terms_height no_terms = 0
  terms_height (term_and e es) = max (term_height e) (terms_height es)

  pub bindings_height : Bindings → ℕ
  bindings_height no_bindings = 0
  bindings_height (binding_and w t e bs) = max (max (type_height t) (term_height e)) (bindings_height bs)

  pub alternatives_height : Alternatives → ℕ
  alternatives_height no_alternatives = 0
  alternatives_height (alternative_and q e more) = max (max leaf (term_height e)) (alternatives_height more)

  pub arguments_height : Arguments → ℕ
  arguments_height no_arguments = 0
  arguments_height (argument_and e more) = max (term_height e) (arguments_height more)
  arguments_height (type_argument_and t more) = max (type_height t) (arguments_height more)

-- of the kinds of parameters
abbrev pub parameters_height : List Parameter → ℕ
parameters_height [] = 0
parameters_height (p ∷ ps) = max leaf (parameters_height ps)

-- of the fields of constructors
abbrev pub constructors_height : List Constructor → ℕ
constructors_height [] = 0
constructors_height (x ∷ xs) = max (types_height (types_of x.fields)) (constructors_height xs)

abbrev pub declaration_height : Declaration → ℕ
declaration_height (declaration.Domain w has_reset) = leaf
declaration_height (declaration.Data w ps xs) = suc (max (parameters_height ps) (constructors_height xs))
declaration_height (declaration.Def w t e) = suc (max (type_height t) (term_height e))

abbrev pub declarations_height : List Declaration → ℕ
declarations_height [] = 0
declarations_height (x ∷ xs) = max (declaration_height x) (declarations_height xs)

abbrev pub tree_height : Tree → ℕ
tree_height tree = suc (declarations_height tree.declarations)
