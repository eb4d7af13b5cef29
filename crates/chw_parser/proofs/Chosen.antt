-- Each choice of a rule is one of its productions.
use Rattle.std.specs.Prelude.{◌≡◌, Some, List}
use Rattle.std.proofs.Common.{subst}
use Rattle.chw_grammar.specs.declared.terminal.Terminal.{Terminal}
use Rattle.chw_grammar.specs.declared.terminal.Terminal.TheVariants as the
use Rattle.chw_parser.specs.declared.symbol.Symbol.{Symbol}
use Rattle.chw_parser.specs.declared.symbol.Rule.{Rule}
use Rattle.chw_parser.specs.declared.symbol.Rule.TheVariants as rule
use Rattle.chw_parser.specs.Productions.{production}
use Rattle.chw_parser.proofs.Once.{some_same}
use Rattle.chw_parser.proofs.Produces.{Produces, of_program, of_domain, of_definition, of_data, of_top, of_reset, of_no_reset, of_parameter, of_no_parameter, of_constructor, of_one_more, of_no_constructor, of_atoms, of_no_atom, of_no_input, of_inputs, of_port, of_no_port, of_field, of_no_field, of_forall, of_sum, of_arrow, of_no_arrow, of_plus, of_no_plus, of_more_plus, of_no_more_plus, of_product, of_star, of_no_star, of_more_star, of_no_more_star, of_named, of_atom, of_variable, of_name, of_numeral, of_bracketed, of_lambda, of_type_lambda, of_letrec, of_case, of_application, of_binding, of_no_binding, of_constructor_pattern, of_literal_pattern, of_default, of_no_alternative, of_arguments, of_no_arguments, of_more_arguments, of_no_more_arguments, of_type_argument, of_term_argument, of_name_term, of_constructor_term, of_literal_term, of_vec, of_bracketed_term, of_no_element, of_elements, of_element, of_no_more_element}

as_said : {x : Rule} {p q : List Symbol} → Produces x q → Some q ≡ Some p → Produces x p
as_said {x = x} h e = subst (λ (z : List Symbol). Produces x z) (some_same e) h

pub is_production : (x : Rule) (y : Terminal) (p : List Symbol) → production x y ≡ Some p → Produces x p
is_production rule.Program _ p e = as_said of_program e
is_production rule.Declarations the.Domain p e = as_said of_domain e
is_production rule.Declarations the.Def p e = as_said of_definition e
is_production rule.Declarations the.Data p e = as_said of_data e
is_production rule.Declarations the.Top p e = as_said of_top e
is_production rule.Declarations _ p e = cc
is_production rule.DomainEnd the.Lower p e = as_said of_reset e
is_production rule.DomainEnd _ p e = as_said of_no_reset e
is_production rule.Parameters the.Open p e = as_said of_parameter e
is_production rule.Parameters _ p e = as_said of_no_parameter e
is_production rule.Constructor _ p e = as_said of_constructor e
is_production rule.Constructors the.Bar p e = as_said of_one_more e
is_production rule.Constructors _ p e = as_said of_no_constructor e
is_production rule.Atoms the.Lower p e = as_said of_atoms e
is_production rule.Atoms the.Upper p e = as_said of_atoms e
is_production rule.Atoms the.Nat p e = as_said of_atoms e
is_production rule.Atoms the.Dom p e = as_said of_atoms e
is_production rule.Atoms the.Val p e = as_said of_atoms e
is_production rule.Atoms the.Cir p e = as_said of_atoms e
is_production rule.Atoms the.Numeral p e = as_said of_atoms e
is_production rule.Atoms the.Open p e = as_said of_atoms e
is_production rule.Atoms _ p e = as_said of_no_atom e
is_production rule.Inputs the.Close p e = as_said of_no_input e
is_production rule.Inputs _ p e = as_said of_inputs e
is_production rule.Ports the.Comma p e = as_said of_port e
is_production rule.Ports _ p e = as_said of_no_port e
is_production rule.Fields the.Lower p e = as_said of_field e
is_production rule.Fields _ p e = as_said of_no_field e
is_production rule.Type the.Forall p e = as_said of_forall e
is_production rule.Type _ p e = as_said of_sum e
is_production rule.ArrowTail the.Arrow p e = as_said of_arrow e
is_production rule.ArrowTail _ p e = as_said of_no_arrow e
is_production rule.SumTail the.Plus p e = as_said of_plus e
is_production rule.SumTail _ p e = as_said of_no_plus e
is_production rule.SumMore the.Plus p e = as_said of_more_plus e
is_production rule.SumMore _ p e = as_said of_no_more_plus e
is_production rule.Product _ p e = as_said of_product e
is_production rule.ProductTail the.Star p e = as_said of_star e
is_production rule.ProductTail _ p e = as_said of_no_star e
is_production rule.ProductMore the.Star p e = as_said of_more_star e
is_production rule.ProductMore _ p e = as_said of_no_more_star e
is_production rule.Applied the.Upper p e = as_said of_named e
is_production rule.Applied the.Nat p e = as_said of_named e
is_production rule.Applied the.Dom p e = as_said of_named e
is_production rule.Applied the.Val p e = as_said of_named e
is_production rule.Applied the.Cir p e = as_said of_named e
is_production rule.Applied _ p e = as_said of_atom e
is_production rule.Atom the.Lower p e = as_said of_variable e
is_production rule.Atom the.Upper p e = as_said of_name e
is_production rule.Atom the.Nat p e = as_said of_name e
is_production rule.Atom the.Dom p e = as_said of_name e
is_production rule.Atom the.Val p e = as_said of_name e
is_production rule.Atom the.Cir p e = as_said of_name e
is_production rule.Atom the.Numeral p e = as_said of_numeral e
is_production rule.Atom the.Open p e = as_said of_bracketed e
is_production rule.Atom _ p e = cc
is_production rule.Term the.Lambda p e = as_said of_lambda e
is_production rule.Term the.TypeLambda p e = as_said of_type_lambda e
is_production rule.Term the.Letrec p e = as_said of_letrec e
is_production rule.Term the.Case p e = as_said of_case e
is_production rule.Term _ p e = as_said of_application e
is_production rule.Bindings the.Lower p e = as_said of_binding e
is_production rule.Bindings _ p e = as_said of_no_binding e
is_production rule.Alternatives the.Upper p e = as_said of_constructor_pattern e
is_production rule.Alternatives the.Nat p e = as_said of_constructor_pattern e
is_production rule.Alternatives the.Dom p e = as_said of_constructor_pattern e
is_production rule.Alternatives the.Val p e = as_said of_constructor_pattern e
is_production rule.Alternatives the.Cir p e = as_said of_constructor_pattern e
is_production rule.Alternatives the.Literal p e = as_said of_literal_pattern e
is_production rule.Alternatives the.Underscore p e = as_said of_default e
is_production rule.Alternatives _ p e = as_said of_no_alternative e
is_production rule.ApplyTail the.Lower p e = as_said of_arguments e
is_production rule.ApplyTail the.Upper p e = as_said of_arguments e
is_production rule.ApplyTail the.Nat p e = as_said of_arguments e
is_production rule.ApplyTail the.Dom p e = as_said of_arguments e
is_production rule.ApplyTail the.Val p e = as_said of_arguments e
is_production rule.ApplyTail the.Cir p e = as_said of_arguments e
is_production rule.ApplyTail the.Literal p e = as_said of_arguments e
is_production rule.ApplyTail the.Vec p e = as_said of_arguments e
is_production rule.ApplyTail the.Open p e = as_said of_arguments e
is_production rule.ApplyTail the.At p e = as_said of_arguments e
is_production rule.ApplyTail _ p e = as_said of_no_arguments e
is_production rule.Arguments the.Lower p e = as_said of_more_arguments e
is_production rule.Arguments the.Upper p e = as_said of_more_arguments e
is_production rule.Arguments the.Nat p e = as_said of_more_arguments e
is_production rule.Arguments the.Dom p e = as_said of_more_arguments e
is_production rule.Arguments the.Val p e = as_said of_more_arguments e
is_production rule.Arguments the.Cir p e = as_said of_more_arguments e
is_production rule.Arguments the.Literal p e = as_said of_more_arguments e
is_production rule.Arguments the.Vec p e = as_said of_more_arguments e
is_production rule.Arguments the.Open p e = as_said of_more_arguments e
is_production rule.Arguments the.At p e = as_said of_more_arguments e
is_production rule.Arguments _ p e = as_said of_no_more_arguments e
is_production rule.Argument the.At p e = as_said of_type_argument e
is_production rule.Argument _ p e = as_said of_term_argument e
is_production rule.Simple the.Lower p e = as_said of_name_term e
is_production rule.Simple the.Upper p e = as_said of_constructor_term e
is_production rule.Simple the.Nat p e = as_said of_constructor_term e
is_production rule.Simple the.Dom p e = as_said of_constructor_term e
is_production rule.Simple the.Val p e = as_said of_constructor_term e
is_production rule.Simple the.Cir p e = as_said of_constructor_term e
is_production rule.Simple the.Literal p e = as_said of_literal_term e
is_production rule.Simple the.Vec p e = as_said of_vec e
is_production rule.Simple the.Open p e = as_said of_bracketed_term e
is_production rule.Simple _ p e = cc
is_production rule.Elements the.CloseBracket p e = as_said of_no_element e
is_production rule.Elements _ p e = as_said of_elements e
is_production rule.MoreElements the.Comma p e = as_said of_element e
is_production rule.MoreElements _ p e = as_said of_no_more_element e
