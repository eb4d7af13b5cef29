-- Which production a rule has before terminals of a class.
use Rattle.std.specs.Prelude.{◌≡◌, true, false, Some, [], ◌∷◌, refl, IsTrue}
use Rattle.chw_grammar.specs.Grammar.{is_lower, is_upper, is_numeral, is_literal}
use Rattle.chw_grammar.specs.declared.terminal.Terminal.{Terminal}
use Rattle.chw_grammar.specs.declared.terminal.Terminal.TheVariants as the
use Rattle.chw_parser.specs.declared.symbol.Symbol.TheVariants.{Token, Word, Part, Act}
use Rattle.chw_parser.specs.declared.symbol.WordSort.TheVariants as sort
use Rattle.chw_parser.specs.declared.symbol.Rule.TheVariants as rule
use Rattle.parser_parts.specs.declared.action.Action.TheVariants as act
use Rattle.chw_parser.specs.Follow.{begins_atom, after_product, after_sum, after_type, begins_simple, after_term, begins_term}
use Rattle.chw_parser.specs.Productions.{production}

pub no_arrow : (x : Terminal) → after_type x ≡ false → production rule.ArrowTail x ≡ Some []
no_arrow the.Arrow h = cc
no_arrow _ h = refl

pub type_sum : (x : Terminal) → after_type x ≡ false → after_sum x ≡ false
type_sum the.Arrow h = cc
type_sum _ h = h

pub sum_product : (x : Terminal) → after_sum x ≡ false → after_product x ≡ false
sum_product the.Plus h = cc
sum_product _ h = h

pub product_atom : (x : Terminal) → after_product x ≡ false → begins_atom x ≡ false
product_atom the.Star h = cc
product_atom _ h = h

pub no_plus : (x : Terminal) → after_sum x ≡ false → production rule.SumTail x ≡ Some []
no_plus the.Plus h = cc
no_plus _ h = refl

pub no_more_plus : (x : Terminal) → after_sum x ≡ false → production rule.SumMore x ≡ Some (Act act.Sum ∷ [])
no_more_plus the.Plus h = cc
no_more_plus _ h = refl

pub no_star : (x : Terminal) → after_product x ≡ false → production rule.ProductTail x ≡ Some []
no_star the.Star h = cc
no_star _ h = refl

pub no_more_star : (x : Terminal) → after_product x ≡ false → production rule.ProductMore x ≡ Some (Act act.Product ∷ [])
no_more_star the.Star h = cc
no_more_star _ h = refl

pub no_atom : (x : Terminal) → begins_atom x ≡ false → production rule.Atoms x ≡ Some []
no_atom the.Lower h = cc
no_atom the.Upper h = cc
no_atom the.Nat h = cc
no_atom the.Dom h = cc
no_atom the.Val h = cc
no_atom the.Cir h = cc
no_atom the.Numeral h = cc
no_atom the.Open h = cc
no_atom _ h = refl

pub some_atom : (x : Terminal) → begins_atom x ≡ true → production rule.Atoms x ≡ Some (Part rule.Atom ∷ Act act.MoreType ∷ Part rule.Atoms ∷ [])
some_atom the.Lower h = refl
some_atom the.Upper h = refl
some_atom the.Nat h = refl
some_atom the.Dom h = refl
some_atom the.Val h = refl
some_atom the.Cir h = refl
some_atom the.Numeral h = refl
some_atom the.Open h = refl
some_atom _ h = cc

pub some_sum : (x : Terminal) → begins_atom x ≡ true → production rule.Type x ≡ Some (Part rule.Product ∷ Part rule.SumTail ∷ Part rule.ArrowTail ∷ [])
some_sum the.Forall h = cc
some_sum _ h = refl

pub upper_begins : (x : Terminal) → IsTrue (is_upper x) → begins_atom x ≡ true
upper_begins the.Upper h = refl
upper_begins the.Nat h = refl
upper_begins the.Dom h = refl
upper_begins the.Val h = refl
upper_begins the.Cir h = refl
upper_begins _ h = cc

pub lower_is : (x : Terminal) → IsTrue (is_lower x) → x ≡ the.Lower
lower_is the.Lower h = refl
lower_is _ h = cc

pub numeral_is : (x : Terminal) → IsTrue (is_numeral x) → x ≡ the.Numeral
numeral_is the.Numeral h = refl
numeral_is _ h = cc

pub literal_is : (x : Terminal) → IsTrue (is_literal x) → x ≡ the.Literal
literal_is the.Literal h = refl
literal_is _ h = cc

pub upper_applied : (x : Terminal) → IsTrue (is_upper x) → production rule.Applied x ≡ Some (Word sort.Upper ∷ Act act.NoTypes ∷ Part rule.Atoms ∷ Act act.Named ∷ [])
upper_applied the.Upper h = refl
upper_applied the.Nat h = refl
upper_applied the.Dom h = refl
upper_applied the.Val h = refl
upper_applied the.Cir h = refl
upper_applied _ h = cc

pub upper_atom : (x : Terminal) → IsTrue (is_upper x) → production rule.Atom x ≡ Some (Word sort.Upper ∷ Act act.NoTypes ∷ Act act.Named ∷ [])
upper_atom the.Upper h = refl
upper_atom the.Nat h = refl
upper_atom the.Dom h = refl
upper_atom the.Val h = refl
upper_atom the.Cir h = refl
upper_atom _ h = cc

pub upper_simple : (x : Terminal) → IsTrue (is_upper x) → production rule.Simple x ≡ Some (Word sort.Upper ∷ Act act.ConstructorTerm ∷ [])
upper_simple the.Upper h = refl
upper_simple the.Nat h = refl
upper_simple the.Dom h = refl
upper_simple the.Val h = refl
upper_simple the.Cir h = refl
upper_simple _ h = cc

pub upper_alternative : (x : Terminal) → IsTrue (is_upper x) → production rule.Alternatives x
    ≡ Some (Word sort.Upper ∷ Act act.NoWords ∷ Part rule.Fields ∷ Act act.ConstructorPattern ∷ Token the.Arrow ∷ Part rule.Term ∷ Token the.Semicolon ∷ Act act.Alternative ∷ Part rule.Alternatives ∷ [])
upper_alternative the.Upper h = refl
upper_alternative the.Nat h = refl
upper_alternative the.Dom h = refl
upper_alternative the.Val h = refl
upper_alternative the.Cir h = refl
upper_alternative _ h = cc

pub upper_begins_simple : (x : Terminal) → IsTrue (is_upper x) → begins_simple x ≡ true
upper_begins_simple the.Upper h = refl
upper_begins_simple the.Nat h = refl
upper_begins_simple the.Dom h = refl
upper_begins_simple the.Val h = refl
upper_begins_simple the.Cir h = refl
upper_begins_simple _ h = cc

pub simple_begins_argument : (x : Terminal) → begins_simple x ≡ true → after_term x ≡ true
simple_begins_argument the.At h = refl
simple_begins_argument _ h = h

pub simple_begins_term : (x : Terminal) → begins_simple x ≡ true → begins_term x ≡ true
simple_begins_term the.Lambda h = refl
simple_begins_term the.TypeLambda h = refl
simple_begins_term the.Letrec h = refl
simple_begins_term the.Case h = refl
simple_begins_term _ h = h

pub some_application : (x : Terminal) → begins_simple x ≡ true → production rule.Term x ≡ Some (Part rule.Simple ∷ Part rule.ApplyTail ∷ [])
some_application the.Lambda h = cc
some_application the.TypeLambda h = cc
some_application the.Letrec h = cc
some_application the.Case h = cc
some_application _ h = refl

pub some_argument : (x : Terminal) → after_term x ≡ true → production rule.ApplyTail x ≡ Some (Act act.NoArguments ∷ Part rule.Argument ∷ Part rule.Arguments ∷ [])
some_argument the.At h = refl
some_argument the.Lower h = refl
some_argument the.Upper h = refl
some_argument the.Nat h = refl
some_argument the.Dom h = refl
some_argument the.Val h = refl
some_argument the.Cir h = refl
some_argument the.Literal h = refl
some_argument the.Vec h = refl
some_argument the.Open h = refl
some_argument _ h = cc

pub no_argument : (x : Terminal) → after_term x ≡ false → production rule.ApplyTail x ≡ Some []
no_argument the.At h = cc
no_argument the.Lower h = cc
no_argument the.Upper h = cc
no_argument the.Nat h = cc
no_argument the.Dom h = cc
no_argument the.Val h = cc
no_argument the.Cir h = cc
no_argument the.Literal h = cc
no_argument the.Vec h = cc
no_argument the.Open h = cc
no_argument _ h = refl

pub one_more_argument : (x : Terminal) → after_term x ≡ true → production rule.Arguments x ≡ Some (Part rule.Argument ∷ Part rule.Arguments ∷ [])
one_more_argument the.At h = refl
one_more_argument the.Lower h = refl
one_more_argument the.Upper h = refl
one_more_argument the.Nat h = refl
one_more_argument the.Dom h = refl
one_more_argument the.Val h = refl
one_more_argument the.Cir h = refl
one_more_argument the.Literal h = refl
one_more_argument the.Vec h = refl
one_more_argument the.Open h = refl
one_more_argument _ h = cc

pub no_more_argument : (x : Terminal) → after_term x ≡ false → production rule.Arguments x ≡ Some (Act act.Apply ∷ [])
no_more_argument the.At h = cc
no_more_argument the.Lower h = cc
no_more_argument the.Upper h = cc
no_more_argument the.Nat h = cc
no_more_argument the.Dom h = cc
no_more_argument the.Val h = cc
no_more_argument the.Cir h = cc
no_more_argument the.Literal h = cc
no_more_argument the.Vec h = cc
no_more_argument the.Open h = cc
no_more_argument _ h = refl

pub simple_argument : (x : Terminal) → begins_simple x ≡ true → production rule.Argument x ≡ Some (Part rule.Simple ∷ Act act.TermArgument ∷ [])
simple_argument the.At h = cc
simple_argument _ h = refl

pub some_element : (x : Terminal) → begins_term x ≡ true → production rule.Elements x ≡ Some (Part rule.Term ∷ Act act.MoreTerm ∷ Part rule.MoreElements ∷ [])
some_element the.CloseBracket h = cc
some_element _ h = refl

pub no_field : (x : Terminal) → is_lower x ≡ false → production rule.Fields x ≡ Some []
no_field the.Lower h = cc
no_field _ h = refl
