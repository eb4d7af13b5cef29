-- Each part of a term has fewer nodes than the term.
use Rattle.std.specs.Prelude.{ℕ, ◌+◌}
use Rattle.chw_grammar.specs.TermTree.{Tm, term_lambda, term_type_lambda, term_letrec, term_case, term_apply, term_name, term_constructor, term_literal, term_vec, Tms, no_terms, term_and, Bindings, no_bindings, binding_and, Alternatives, no_alternatives, alternative_and, Arguments, no_arguments, argument_and, type_argument_and}

abbrev mutual
  pub term_size : Tm → ℕ
  term_size (term_lambda w t e) = term_size e + 1
  term_size (term_type_lambda w k e) = term_size e + 1
  term_size (term_letrec bs e) = bindings_size bs + term_size e + 1
  term_size (term_case e alts) = alternatives_size alts + term_size e + 1
  term_size (term_apply e args) = arguments_size args + term_size e + 1
  term_size (term_name w) = 1
  term_size (term_constructor w) = 1
  term_size (term_literal w) = 1
  term_size (term_vec t es) = terms_size es + 1

  pub terms_size : Tms → ℕ
  terms_size no_terms = 0
  terms_size (term_and e es) = term_size e + terms_size es + 1

  pub bindings_size : Bindings → ℕ
  bindings_size no_bindings = 0
  bindings_size (binding_and w t e bs) = term_size e + bindings_size bs + 1

  pub alternatives_size : Alternatives → ℕ
  alternatives_size no_alternatives = 0
  alternatives_size (alternative_and q e more) = term_size e + alternatives_size more + 1

  pub arguments_size : Arguments → ℕ
  arguments_size no_arguments = 0
  arguments_size (argument_and e more) = term_size e + arguments_size more + 1
  arguments_size (type_argument_and t more) = arguments_size more + 1
