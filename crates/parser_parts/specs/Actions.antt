-- What becomes of the newest parts, the newest first, where they are such as an action wants.
use Rattle.std.specs.Prelude.{Option, Some, None, option_and_then, List, [], ◌∷◌}
use Rattle.chw_grammar.specs.declared.type_tree.KindTree.{KindTree}
use Rattle.chw_grammar.specs.declared.word.Word.{Word as WordTree}
use Rattle.chw_grammar.specs.declared.program.Constructor.{Constructor}
use Rattle.chw_grammar.specs.declared.program.Parameter.{Parameter}
use Rattle.chw_grammar.specs.declared.program.Top.{Top}
use Rattle.chw_grammar.specs.declared.program.Tree.{Tree}
use Rattle.chw_grammar.specs.declared.program.Declaration.{Declaration}
use Rattle.chw_grammar.specs.declared.program.Declaration.TheVariants as declaration
use Rattle.chw_grammar.specs.declared.term_tree.Binding.{Binding}
use Rattle.chw_grammar.specs.declared.term_tree.Alternative.{Alternative}
use Rattle.chw_grammar.specs.declared.term_tree.Pattern.{Pattern}
use Rattle.chw_grammar.specs.declared.term_tree.Pattern.TheVariants as pattern
use Rattle.chw_grammar.specs.declared.term_tree.Argument.{Argument}
use Rattle.chw_grammar.specs.declared.term_tree.Argument.TheVariants.{OfTerm, OfType}
use Rattle.chw_grammar.specs.TypeTree.{Ty, type_forall, type_arrow, type_sum, type_product, type_named, type_variable, type_numeral}
use Rattle.chw_grammar.specs.TypeView.{types_of}
use Rattle.chw_grammar.specs.TermTree.{Tm, term_lambda, term_type_lambda, term_letrec, term_case, term_apply, term_name, term_constructor, term_literal, term_vec}
use Rattle.chw_grammar.specs.TermView.{terms_of, bindings_of, alternatives_of, arguments_of}
use Rattle.parser_parts.specs.declared.action.Action.{Action}
use Rattle.parser_parts.specs.declared.action.Action.TheVariants as act
use Rattle.parser_parts.specs.declared.value.Value.{Value}
use Rattle.parser_parts.specs.declared.value.Value.TheVariants.{OneWord, Words, OneKind, OneType, Types, OneTerm, Terms, OnePattern, Bindings, Alternatives, Arguments, Parameters, Constructors, Declarations, Whole}
use Rattle.parser_parts.specs.Stacks.{onto}

infixl 10 ◌>>=◌
abbrev pub ◌>>=◌ : {A B : Type 0} → Option A → (A → Option B) → Option B
o >>= f = option_and_then f o

-- what was found, with the other parts
abbrev pub with_others : {A : Type 0} → Option A → List Value → Option (A × List Value)
with_others (Some x) vs = Some (x, vs)
with_others None vs = None

-- the newest part, where it is of the sort that the function takes, with the other parts
abbrev pub first : {A : Type 0} → (Value → Option A) → List Value → Option (A × List Value)
first taken [] = None
first taken (v ∷ vs) = with_others (taken v) vs

-- the newest parts, the newest of them first, where each is of its sort, with the other parts
abbrev pub first_two : {A B : Type 0} → (Value → Option A) → (Value → Option B)
    → List Value → Option (A × B × List Value)
first_two a b vs = first a vs >>= λ p. first b p.1 >>= λ q. Some (p.0, q.0, q.1)

abbrev pub first_three : {A B C : Type 0}
    → (Value → Option A) → (Value → Option B) → (Value → Option C)
    → List Value → Option (A × B × C × List Value)
first_three a b c vs = first a vs >>= λ p. first_two b c p.1 >>= λ q. Some (p.0, q.0, q.1, q.2)

abbrev pub first_four : {A B C D : Type 0}
    → (Value → Option A) → (Value → Option B) → (Value → Option C) → (Value → Option D)
    → List Value → Option (A × B × C × D × List Value)
first_four a b c d vs =
    first a vs >>= λ p. first_three b c d p.1 >>= λ q. Some (p.0, q.0, q.1, q.2, q.3)

abbrev pub as_word : Value → Option WordTree
as_word (OneWord w) = Some w
as_word _ = None

abbrev pub as_words : Value → Option (List WordTree)
as_words (Words ws) = Some ws
as_words _ = None

abbrev pub as_kind : Value → Option KindTree
as_kind (OneKind k) = Some k
as_kind _ = None

abbrev pub as_type : Value → Option Ty
as_type (OneType t) = Some t
as_type _ = None

abbrev pub as_types : Value → Option (List Ty)
as_types (Types ts) = Some ts
as_types _ = None

abbrev pub as_term : Value → Option Tm
as_term (OneTerm e) = Some e
as_term _ = None

abbrev pub as_terms : Value → Option (List Tm)
as_terms (Terms es) = Some es
as_terms _ = None

abbrev pub as_pattern : Value → Option Pattern
as_pattern (OnePattern q) = Some q
as_pattern _ = None

abbrev pub as_bindings : Value → Option (List Binding)
as_bindings (Bindings bs) = Some bs
as_bindings _ = None

abbrev pub as_alternatives : Value → Option (List Alternative)
as_alternatives (Alternatives alts) = Some alts
as_alternatives _ = None

abbrev pub as_arguments : Value → Option (List Argument)
as_arguments (Arguments xs) = Some xs
as_arguments _ = None

abbrev pub as_parameters : Value → Option (List Parameter)
as_parameters (Parameters ps) = Some ps
as_parameters _ = None

abbrev pub as_constructors : Value → Option (List Constructor)
as_constructors (Constructors xs) = Some xs
as_constructors _ = None

abbrev pub as_declarations : Value → Option (List Declaration)
as_declarations (Declarations ds) = Some ds
as_declarations _ = None

abbrev pub as_tree : Value → Option Tree
as_tree (Whole t) = Some t
as_tree _ = None

abbrev pub made : Action → List Value → Option (List Value)
made act.NoDeclarations vs = Some (Declarations [] ∷ vs)
made (act.Domain has_reset) vs =
    first_two as_word as_declarations vs >>= λ p.
    Some (Declarations (declaration.Domain p.0 has_reset ∷ p.1) ∷ p.2)
made act.Definition vs =
    first_four as_term as_type as_word as_declarations vs >>= λ p.
    Some (Declarations (declaration.Def p.2 p.1 p.0 ∷ p.3) ∷ p.4)
made act.DataType vs =
    first_four as_constructors as_parameters as_word as_declarations vs >>= λ p.
    Some (Declarations (declaration.Data p.2 (onto p.1 []) (onto p.0 []) ∷ p.3) ∷ p.4)
made act.NoParameters vs = Some (Parameters [] ∷ vs)
made act.Parameter vs =
    first_three as_kind as_word as_parameters vs >>= λ p.
    Some (Parameters (record { name = p.1; kind = p.0 } ∷ p.2) ∷ p.3)
made act.NoConstructors vs = Some (Constructors [] ∷ vs)
made act.Constructor vs =
    first_three as_types as_word as_constructors vs >>= λ p.
    Some (Constructors (record { name = p.1; fields = onto p.0 [] } ∷ p.2) ∷ p.3)
made act.NoWords vs = Some (Words [] ∷ vs)
made act.Word vs = first_two as_word as_words vs >>= λ p. Some (Words (p.0 ∷ p.1) ∷ p.2)
made act.Tree vs =
    first_four as_words as_words as_word as_declarations vs >>= λ p.
    let top : Top = record { definition = p.2; inputs = onto p.1 []; outputs = onto p.0 [] } in
    Some (Whole (record { declarations = onto p.3 []; top = top }) ∷ p.4)
made act.NoTypes vs = Some (Types [] ∷ vs)
made act.FirstType vs = first as_type vs >>= λ p. Some (Types (p.0 ∷ []) ∷ p.1)
made act.MoreType vs = first_two as_type as_types vs >>= λ p. Some (Types (p.0 ∷ p.1) ∷ p.2)
made act.Forall vs =
    first_three as_type as_kind as_word vs >>= λ p. Some (OneType (type_forall p.2 p.1 p.0) ∷ p.3)
made act.Arrow vs = first_two as_type as_type vs >>= λ p. Some (OneType (type_arrow p.1 p.0) ∷ p.2)
made act.Sum vs =
    first as_types vs >>= λ p. Some (OneType (type_sum (types_of (onto p.0 []))) ∷ p.1)
made act.Product vs =
    first as_types vs >>= λ p. Some (OneType (type_product (types_of (onto p.0 []))) ∷ p.1)
made act.Named vs =
    first_two as_types as_word vs >>= λ p.
    Some (OneType (type_named p.1 (types_of (onto p.0 []))) ∷ p.2)
made act.Variable vs = first as_word vs >>= λ p. Some (OneType (type_variable p.0) ∷ p.1)
made act.Numeral vs = first as_word vs >>= λ p. Some (OneType (type_numeral p.0) ∷ p.1)
made act.Lambda vs =
    first_three as_term as_type as_word vs >>= λ p. Some (OneTerm (term_lambda p.2 p.1 p.0) ∷ p.3)
made act.TypeLambda vs =
    first_three as_term as_kind as_word vs >>= λ p.
    Some (OneTerm (term_type_lambda p.2 p.1 p.0) ∷ p.3)
made act.NoBindings vs = Some (Bindings [] ∷ vs)
made act.Binding vs =
    first_four as_term as_type as_word as_bindings vs >>= λ p.
    Some (Bindings (record { name = p.2; ty = p.1; term = p.0 } ∷ p.3) ∷ p.4)
made act.LetRec vs =
    first_two as_term as_bindings vs >>= λ p.
    Some (OneTerm (term_letrec (bindings_of (onto p.1 [])) p.0) ∷ p.2)
made act.NoAlternatives vs = Some (Alternatives [] ∷ vs)
made act.Alternative vs =
    first_three as_term as_pattern as_alternatives vs >>= λ p.
    Some (Alternatives (record { pattern = p.1; term = p.0 } ∷ p.2) ∷ p.3)
made act.ConstructorPattern vs =
    first_two as_words as_word vs >>= λ p.
    Some (OnePattern (pattern.Constructor p.1 (onto p.0 [])) ∷ p.2)
made act.LiteralPattern vs = first as_word vs >>= λ p. Some (OnePattern (pattern.Literal p.0) ∷ p.1)
made act.DefaultPattern vs = Some (OnePattern pattern.Default ∷ vs)
made act.Case vs =
    first_two as_alternatives as_term vs >>= λ p.
    Some (OneTerm (term_case p.1 (alternatives_of (onto p.0 []))) ∷ p.2)
made act.NoArguments vs = Some (Arguments [] ∷ vs)
made act.TermArgument vs =
    first_two as_term as_arguments vs >>= λ p. Some (Arguments (OfTerm p.0 ∷ p.1) ∷ p.2)
made act.TypeArgument vs =
    first_two as_type as_arguments vs >>= λ p. Some (Arguments (OfType p.0 ∷ p.1) ∷ p.2)
made act.Apply vs =
    first_two as_arguments as_term vs >>= λ p.
    Some (OneTerm (term_apply p.1 (arguments_of (onto p.0 []))) ∷ p.2)
made act.NameTerm vs = first as_word vs >>= λ p. Some (OneTerm (term_name p.0) ∷ p.1)
made act.ConstructorTerm vs = first as_word vs >>= λ p. Some (OneTerm (term_constructor p.0) ∷ p.1)
made act.LiteralTerm vs = first as_word vs >>= λ p. Some (OneTerm (term_literal p.0) ∷ p.1)
made act.NoTerms vs = Some (Terms [] ∷ vs)
made act.MoreTerm vs = first_two as_term as_terms vs >>= λ p. Some (Terms (p.0 ∷ p.1) ∷ p.2)
made act.VecLit vs =
    first_two as_terms as_type vs >>= λ p.
    Some (OneTerm (term_vec p.1 (terms_of (onto p.0 []))) ∷ p.2)
