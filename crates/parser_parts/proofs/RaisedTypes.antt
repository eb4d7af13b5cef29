-- Heights go the way of parts: the actions of types.
use Rattle.std.specs.Prelude.{[], ◌∷◌}
use Rattle.std.proofs.Common.{arith}
use Rattle.parser_parts.specs.declared.action.Action.TheVariants as act
use Rattle.parser_parts.specs.declared.value.Value.TheVariants.{OneKind, OneType, OneWord, Types}
use Rattle.parser_parts.proofs.Turned.{types_high, types_long}
use Rattle.parser_parts.proofs.Pushed.{Raised, of_made, pushed}

pub raised_forall : Raised act.Forall
raised_forall (OneType t ∷ OneKind k ∷ OneWord w ∷ vs) us h = of_made h (pushed (omega arith) (omega arith))
raised_forall _ us h = cc

pub raised_arrow : Raised act.Arrow
raised_arrow (OneType t ∷ OneType u ∷ vs) us h = of_made h (pushed (omega arith) (omega arith))
raised_arrow _ us h = cc

pub raised_sum : Raised act.Sum
raised_sum (Types ts ∷ vs) us h = of_made h (pushed (omega (arith, types_high ts [], types_long ts [])) (omega arith))
raised_sum _ us h = cc

pub raised_product : Raised act.Product
raised_product (Types ts ∷ vs) us h = of_made h (pushed (omega (arith, types_high ts [], types_long ts [])) (omega arith))
raised_product _ us h = cc

pub raised_named : Raised act.Named
raised_named (Types ts ∷ OneWord w ∷ vs) us h = of_made h (pushed (omega (arith, types_high ts [], types_long ts [])) (omega arith))
raised_named _ us h = cc

pub raised_variable : Raised act.Variable
raised_variable (OneWord w ∷ vs) us h = of_made h (pushed (omega arith) (omega arith))
raised_variable _ us h = cc

pub raised_numeral : Raised act.Numeral
raised_numeral (OneWord w ∷ vs) us h = of_made h (pushed (omega arith) (omega arith))
raised_numeral _ us h = cc

pub raised_no_types : Raised act.NoTypes
raised_no_types vs us h = of_made h (pushed (omega arith) (omega arith))

pub raised_first_type : Raised act.FirstType
raised_first_type (OneType t ∷ vs) us h = of_made h (pushed (omega arith) (omega arith))
raised_first_type _ us h = cc

pub raised_more_type : Raised act.MoreType
raised_more_type (OneType t ∷ Types ts ∷ vs) us h = of_made h (pushed (omega arith) (omega arith))
raised_more_type _ us h = cc
