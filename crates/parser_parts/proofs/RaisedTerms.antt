-- Heights go the way of parts: the actions of terms.
use Rattle.std.specs.Prelude.{[], ◌∷◌}
use Rattle.std.proofs.Common.{arith}
use Rattle.parser_parts.specs.declared.action.Action.TheVariants as act
use Rattle.parser_parts.specs.declared.value.Value.TheVariants.{Alternatives, Arguments, Bindings, OneKind, OnePattern, OneTerm, OneType, OneWord, Terms, Words}
use Rattle.parser_parts.proofs.Turned.{alternatives_high, arguments_high, arguments_long, bindings_high, terms_high}
use Rattle.parser_parts.proofs.Pushed.{Raised, of_made, pushed}

pub raised_lambda : Raised act.Lambda
raised_lambda (OneTerm e ∷ OneType t ∷ OneWord w ∷ vs) us h = of_made h (pushed (omega arith) (omega arith))
raised_lambda _ us h = cc

pub raised_type_lambda : Raised act.TypeLambda
raised_type_lambda (OneTerm e ∷ OneKind k ∷ OneWord w ∷ vs) us h = of_made h (pushed (omega arith) (omega arith))
raised_type_lambda _ us h = cc

pub raised_no_bindings : Raised act.NoBindings
raised_no_bindings vs us h = of_made h (pushed (omega arith) (omega arith))

pub raised_binding : Raised act.Binding
raised_binding (OneTerm e ∷ OneType t ∷ OneWord w ∷ Bindings bs ∷ vs) us h = of_made h (pushed (omega arith) (omega arith))
raised_binding _ us h = cc

pub raised_let_rec : Raised act.LetRec
raised_let_rec (OneTerm e ∷ Bindings bs ∷ vs) us h = of_made h (pushed (omega (arith, bindings_high bs [])) (omega arith))
raised_let_rec _ us h = cc

pub raised_no_alternatives : Raised act.NoAlternatives
raised_no_alternatives vs us h = of_made h (pushed (omega arith) (omega arith))

pub raised_alternative : Raised act.Alternative
raised_alternative (OneTerm e ∷ OnePattern q ∷ Alternatives alts ∷ vs) us h = of_made h (pushed (omega arith) (omega arith))
raised_alternative _ us h = cc

pub raised_constructor_pattern : Raised act.ConstructorPattern
raised_constructor_pattern (Words ws ∷ OneWord w ∷ vs) us h = of_made h (pushed (omega arith) (omega arith))
raised_constructor_pattern _ us h = cc

pub raised_literal_pattern : Raised act.LiteralPattern
raised_literal_pattern (OneWord w ∷ vs) us h = of_made h (pushed (omega arith) (omega arith))
raised_literal_pattern _ us h = cc

pub raised_default_pattern : Raised act.DefaultPattern
raised_default_pattern vs us h = of_made h (pushed (omega arith) (omega arith))

pub raised_case : Raised act.Case
raised_case (Alternatives alts ∷ OneTerm e ∷ vs) us h = of_made h (pushed (omega (arith, alternatives_high alts [])) (omega arith))
raised_case _ us h = cc

pub raised_no_arguments : Raised act.NoArguments
raised_no_arguments vs us h = of_made h (pushed (omega arith) (omega arith))

pub raised_term_argument : Raised act.TermArgument
raised_term_argument (OneTerm e ∷ Arguments xs ∷ vs) us h = of_made h (pushed (omega arith) (omega arith))
raised_term_argument _ us h = cc

pub raised_type_argument : Raised act.TypeArgument
raised_type_argument (OneType t ∷ Arguments xs ∷ vs) us h = of_made h (pushed (omega arith) (omega arith))
raised_type_argument _ us h = cc

pub raised_apply : Raised act.Apply
raised_apply (Arguments xs ∷ OneTerm e ∷ vs) us h = of_made h (pushed (omega (arith, arguments_high xs [], arguments_long xs [])) (omega arith))
raised_apply _ us h = cc

pub raised_name_term : Raised act.NameTerm
raised_name_term (OneWord w ∷ vs) us h = of_made h (pushed (omega arith) (omega arith))
raised_name_term _ us h = cc

pub raised_constructor_term : Raised act.ConstructorTerm
raised_constructor_term (OneWord w ∷ vs) us h = of_made h (pushed (omega arith) (omega arith))
raised_constructor_term _ us h = cc

pub raised_literal_term : Raised act.LiteralTerm
raised_literal_term (OneWord w ∷ vs) us h = of_made h (pushed (omega arith) (omega arith))
raised_literal_term _ us h = cc

pub raised_no_terms : Raised act.NoTerms
raised_no_terms vs us h = of_made h (pushed (omega arith) (omega arith))

pub raised_more_term : Raised act.MoreTerm
raised_more_term (OneTerm e ∷ Terms es ∷ vs) us h = of_made h (pushed (omega arith) (omega arith))
raised_more_term _ us h = cc

pub raised_vec_lit : Raised act.VecLit
raised_vec_lit (Terms es ∷ OneType t ∷ vs) us h = of_made h (pushed (omega (arith, terms_high es [])) (omega arith))
raised_vec_lit _ us h = cc
