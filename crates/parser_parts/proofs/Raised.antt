-- Heights go the way of parts.
use Rattle.parser_parts.specs.declared.action.Action.{Action}
use Rattle.parser_parts.specs.declared.action.Action.TheVariants as act
use Rattle.parser_parts.proofs.Pushed.{Raised}
use Rattle.parser_parts.proofs.RaisedTypes.{raised_forall, raised_arrow, raised_sum, raised_product, raised_named, raised_variable, raised_numeral, raised_no_types, raised_first_type, raised_more_type}
use Rattle.parser_parts.proofs.RaisedTerms.{raised_lambda, raised_type_lambda, raised_no_bindings, raised_binding, raised_let_rec, raised_no_alternatives, raised_alternative, raised_constructor_pattern, raised_literal_pattern, raised_default_pattern, raised_case, raised_no_arguments, raised_term_argument, raised_type_argument, raised_apply, raised_name_term, raised_constructor_term, raised_literal_term, raised_no_terms, raised_more_term, raised_vec_lit}
use Rattle.parser_parts.proofs.RaisedPrograms.{raised_no_declarations, raised_domain, raised_definition, raised_data_type, raised_no_parameters, raised_parameter, raised_no_constructors, raised_constructor, raised_no_words, raised_word, raised_tree}

pub heights_raised : (x : Action) → Raised x
heights_raised act.NoDeclarations = raised_no_declarations
heights_raised (act.Domain has_reset) = raised_domain has_reset
heights_raised act.Definition = raised_definition
heights_raised act.DataType = raised_data_type
heights_raised act.NoParameters = raised_no_parameters
heights_raised act.Parameter = raised_parameter
heights_raised act.NoConstructors = raised_no_constructors
heights_raised act.Constructor = raised_constructor
heights_raised act.NoWords = raised_no_words
heights_raised act.Word = raised_word
heights_raised act.Tree = raised_tree
heights_raised act.NoTypes = raised_no_types
heights_raised act.FirstType = raised_first_type
heights_raised act.MoreType = raised_more_type
heights_raised act.Forall = raised_forall
heights_raised act.Arrow = raised_arrow
heights_raised act.Sum = raised_sum
heights_raised act.Product = raised_product
heights_raised act.Named = raised_named
heights_raised act.Variable = raised_variable
heights_raised act.Numeral = raised_numeral
heights_raised act.Lambda = raised_lambda
heights_raised act.TypeLambda = raised_type_lambda
heights_raised act.NoBindings = raised_no_bindings
heights_raised act.Binding = raised_binding
heights_raised act.LetRec = raised_let_rec
heights_raised act.NoAlternatives = raised_no_alternatives
heights_raised act.Alternative = raised_alternative
heights_raised act.ConstructorPattern = raised_constructor_pattern
heights_raised act.LiteralPattern = raised_literal_pattern
heights_raised act.DefaultPattern = raised_default_pattern
heights_raised act.Case = raised_case
heights_raised act.NoArguments = raised_no_arguments
heights_raised act.TermArgument = raised_term_argument
heights_raised act.TypeArgument = raised_type_argument
heights_raised act.Apply = raised_apply
heights_raised act.NameTerm = raised_name_term
heights_raised act.ConstructorTerm = raised_constructor_term
heights_raised act.LiteralTerm = raised_literal_term
heights_raised act.NoTerms = raised_no_terms
heights_raised act.MoreTerm = raised_more_term
heights_raised act.VecLit = raised_vec_lit
