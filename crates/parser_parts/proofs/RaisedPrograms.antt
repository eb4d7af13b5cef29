-- Heights go the way of parts: the actions of declarations and whole descriptions.
use Rattle.std.specs.Prelude.{Bool, [], ◌∷◌}
use Rattle.std.proofs.Common.{arith}
use Rattle.parser_parts.specs.declared.action.Action.TheVariants as act
use Rattle.parser_parts.specs.declared.value.Value.TheVariants.{Constructors, Declarations, OneKind, OneTerm, OneType, OneWord, Parameters, Types, Words}
use Rattle.parser_parts.proofs.Turned.{constructors_high, declarations_high, parameters_high, types_high}
use Rattle.parser_parts.proofs.Pushed.{Raised, of_made, pushed}

pub raised_no_declarations : Raised act.NoDeclarations
raised_no_declarations vs us h = of_made h (pushed (omega arith) (omega arith))

pub raised_domain : (has_reset : Bool) → Raised (act.Domain has_reset)
raised_domain has_reset (OneWord w ∷ Declarations ds ∷ vs) us h = of_made h (pushed (omega arith) (omega arith))
raised_domain has_reset _ us h = cc

pub raised_definition : Raised act.Definition
raised_definition (OneTerm e ∷ OneType t ∷ OneWord w ∷ Declarations ds ∷ vs) us h = of_made h (pushed (omega arith) (omega arith))
raised_definition _ us h = cc

pub raised_data_type : Raised act.DataType
raised_data_type (Constructors cs ∷ Parameters ps ∷ OneWord w ∷ Declarations ds ∷ vs) us h = of_made h (pushed (omega (arith, parameters_high ps [], constructors_high cs [])) (omega arith))
raised_data_type _ us h = cc

pub raised_no_parameters : Raised act.NoParameters
raised_no_parameters vs us h = of_made h (pushed (omega arith) (omega arith))

pub raised_parameter : Raised act.Parameter
raised_parameter (OneKind k ∷ OneWord w ∷ Parameters ps ∷ vs) us h = of_made h (pushed (omega arith) (omega arith))
raised_parameter _ us h = cc

pub raised_no_constructors : Raised act.NoConstructors
raised_no_constructors vs us h = of_made h (pushed (omega arith) (omega arith))

pub raised_constructor : Raised act.Constructor
raised_constructor (Types ts ∷ OneWord w ∷ Constructors cs ∷ vs) us h = of_made h (pushed (omega (arith, types_high ts [])) (omega arith))
raised_constructor _ us h = cc

pub raised_no_words : Raised act.NoWords
raised_no_words vs us h = of_made h (pushed (omega arith) (omega arith))

pub raised_word : Raised act.Word
raised_word (OneWord w ∷ Words ws ∷ vs) us h = of_made h (pushed (omega arith) (omega arith))
raised_word _ us h = cc

pub raised_tree : Raised act.Tree
raised_tree (Words ws ∷ Words vs2 ∷ OneWord w ∷ Declarations ds ∷ vs) us h = of_made h (pushed (omega (arith, declarations_high ds [])) (omega arith))
raised_tree _ us h = cc
