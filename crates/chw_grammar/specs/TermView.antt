-- The plain trees that nodes of terms stand for.
use Rattle.std.specs.Prelude.{List, [], ◌∷◌}
use Rattle.chw_grammar.specs.declared.term_tree.TermNode.{TermNode}
use Rattle.chw_grammar.specs.declared.term_tree.TermNode.TheVariants.{Lambda, TypeLambda, LetRec, Case, Apply, Name, Constructor, Literal, VecLit}
use Rattle.chw_grammar.specs.declared.term_tree.Binding.{Binding}
use Rattle.chw_grammar.specs.declared.term_tree.Alternative.{Alternative}
use Rattle.chw_grammar.specs.declared.term_tree.Argument.{Argument}
use Rattle.chw_grammar.specs.declared.term_tree.Argument.TheVariants.{OfTerm, OfType}
use Rattle.chw_grammar.specs.TermTree.{Tm, term_lambda, term_type_lambda, term_letrec, term_case, term_apply, term_name, term_constructor, term_literal, term_vec, Tms, no_terms, term_and, Bindings, no_bindings, binding_and, Alternatives, no_alternatives, alternative_and, Arguments, no_arguments, argument_and, type_argument_and}

abbrev pub terms_of : List Tm → Tms
terms_of [] = no_terms
terms_of (e ∷ es) = term_and e (terms_of es)

abbrev pub bindings_of : List Binding → Bindings
bindings_of [] = no_bindings
bindings_of (b ∷ bs) = binding_and b.name b.ty b.term (bindings_of bs)

abbrev pub alternatives_of : List Alternative → Alternatives
alternatives_of [] = no_alternatives
alternatives_of (a ∷ more) = alternative_and a.pattern a.term (alternatives_of more)

-- an argument before others
abbrev pub before : Argument → Arguments → Arguments
before (OfTerm e) more = argument_and e more
before (OfType t) more = type_argument_and t more

abbrev pub arguments_of : List Argument → Arguments
arguments_of [] = no_arguments
arguments_of (a ∷ more) = before a (arguments_of more)

abbrev pub term_of : TermNode → Tm
term_of (Lambda w t e) = term_lambda w t e.value
term_of (TypeLambda w k e) = term_type_lambda w k e.value
term_of (LetRec bs e) = term_letrec (bindings_of bs.items) e.value
term_of (Case e alts) = term_case e.value (alternatives_of alts.items)
term_of (Apply e args) = term_apply e.value (arguments_of args.items)
term_of (Name w) = term_name w
term_of (Constructor w) = term_constructor w
term_of (Literal w) = term_literal w
term_of (VecLit t es) = term_vec t (terms_of es.items)
