-- What the symbols of a production read, the grammar reads.
use Rattle.std.specs.Prelude.{◌≡◌, true, false, IsTrue, List, [], ◌∷◌, refl, ◌⊎◌}
use Rattle.std.proofs.Common.{inl, inr, subst}
use Rattle.chw_grammar.specs.declared.type_tree.KindTree.{KindTree}
use Rattle.chw_grammar.specs.declared.terminal.Terminal.{Terminal}
use Rattle.chw_grammar.specs.declared.terminal.Terminal.TheVariants as the
use Rattle.chw_grammar.specs.declared.word.Word.{Word as WordTree}
use Rattle.chw_grammar.specs.declared.term_tree.Pattern.TheVariants as pattern
use Rattle.chw_grammar.specs.declared.term_tree.Binding.{Binding}
use Rattle.chw_grammar.specs.declared.term_tree.Alternative.{Alternative}
use Rattle.chw_grammar.specs.declared.term_tree.Argument.{Argument}
use Rattle.chw_grammar.specs.declared.term_tree.Argument.TheVariants.{OfTerm, OfType}
use Rattle.chw_grammar.specs.declared.program.Constructor.{Constructor}
use Rattle.chw_grammar.specs.declared.program.Parameter.{Parameter}
use Rattle.chw_grammar.specs.declared.program.Declaration.{Declaration}
use Rattle.chw_grammar.specs.declared.program.Declaration.TheVariants as declaration
use Rattle.chw_grammar.specs.declared.program.Top.{Top}
use Rattle.chw_grammar.specs.Lexemes.{Lexeme, terminal, kind_terminal, word_of}
use Rattle.chw_grammar.specs.Grammar.{Takes, UpperAt, ResetAt, TypeAt, forall_type, sum_type, arrow_type, SumAt, one_product, sum_of, SummandsAt, no_summand, summand, ProductAt, one_factor, product_of, FactorsAt, no_factor, factor, AppliedAt, named_type, atom_type, AtomsAt, no_atom, atom, AtomAt, variable_type, name_type, numeral_type, bracketed_type, NamesAt, no_name, name, constructor_pattern, literal_pattern, TermAt, lambda, type_lambda, letrec, case_of, application, BindingsAt, no_binding, binding, AlternativesAt, no_alternative, alternative, default, head_alone, applied, ArgumentsAt, no_argument, argument, ArgumentAt, term_argument, type_argument, SimpleAt, name_term, constructor_term, literal_term, vec_term, bracketed_term, ElementsAt, no_element, elements, MoreElementsAt, no_more_element, element, ParametersAt, no_parameter, parameter, ConstructorAt, constructor, ConstructorsAt, no_constructor, one_more, DeclarationAt, domain_declared, reset_declared, definition_declared, data_declared, DeclarationsAt, no_declaration, declared, MorePortsAt, no_port, port, ports, InputNamesAt, no_input, input_names, inputs, TopAt, top}
use Rattle.chw_grammar.specs.TypeTree.{Ty, type_forall, type_arrow, type_sum, type_product, type_named, type_variable, type_numeral, no_types}
use Rattle.chw_grammar.specs.TypeView.{types_of}
use Rattle.chw_grammar.specs.TermTree.{Tm, term_lambda, term_type_lambda, term_letrec, term_case, term_apply, term_name, term_constructor, term_literal, term_vec}
use Rattle.chw_grammar.specs.TermView.{terms_of, bindings_of, alternatives_of, arguments_of}
use Rattle.chw_parser.specs.declared.symbol.Symbol.{Symbol}
use Rattle.chw_parser.specs.declared.symbol.Symbol.TheVariants.{Token, Word, Kind, Reset, Part, Act}
use Rattle.chw_parser.specs.declared.symbol.WordSort.{WordSort}
use Rattle.chw_parser.specs.declared.symbol.Rule.{Rule}
use Rattle.chw_parser.specs.declared.symbol.Rule.TheVariants as rule
use Rattle.parser_parts.specs.declared.action.Action.{Action}
use Rattle.chw_parser.specs.Machine.{is_word, IsReset}
use Rattle.chw_parser.proofs.Produces.{Produces, of_program, of_domain, of_definition, of_data, of_top, of_reset, of_no_reset, of_parameter, of_no_parameter, of_constructor, of_one_more, of_no_constructor, of_atoms, of_no_atom, of_no_input, of_inputs, of_port, of_no_port, of_field, of_no_field, of_forall, of_sum, of_arrow, of_no_arrow, of_plus, of_no_plus, of_more_plus, of_no_more_plus, of_product, of_star, of_no_star, of_more_star, of_no_more_star, of_named, of_atom, of_variable, of_name, of_numeral, of_bracketed, of_lambda, of_type_lambda, of_letrec, of_case, of_application, of_binding, of_no_binding, of_constructor_pattern, of_literal_pattern, of_default, of_no_alternative, of_arguments, of_no_arguments, of_more_arguments, of_no_more_arguments, of_type_argument, of_term_argument, of_name_term, of_constructor_term, of_literal_term, of_vec, of_bracketed_term, of_no_element, of_elements, of_element, of_no_more_element}

-- the grammar reads, from the first tokens up to the second, what the rule stands for
abbrev pub PartAt : Rule → List Lexeme → List Lexeme → Type 0
PartAt rule.Program a b = (ds : List Declaration) × (x : Top) × (c : List Lexeme) × DeclarationsAt ds a c × TopAt x c b
PartAt rule.Declarations a b = (ds : List Declaration) × (x : Top) × (c : List Lexeme) × DeclarationsAt ds a c × TopAt x c b
PartAt rule.DomainEnd a b = Takes (the.Semicolon ∷ []) a b ⊎ ((c : List Lexeme) × ResetAt a c × Takes (the.Semicolon ∷ []) c b)
PartAt rule.Parameters a b = (ps : List Parameter) × ParametersAt ps a b
PartAt rule.Constructor a b = (x : Constructor) × ConstructorAt x a b
PartAt rule.Constructors a b = (xs : List Constructor) × ConstructorsAt xs a b
PartAt rule.Atoms a b = (ts : List Ty) × AtomsAt ts a b
PartAt rule.Inputs a b = (ws : List WordTree) × InputNamesAt ws a b
PartAt rule.Ports a b = (ws : List WordTree) × MorePortsAt ws a b
PartAt rule.Fields a b = (ws : List WordTree) × NamesAt ws a b
PartAt rule.Type a b = (t : Ty) × TypeAt t a b
PartAt rule.ArrowTail a b = (a ≡ b) ⊎ ((c : List Lexeme) × (t : Ty) × Takes (the.Arrow ∷ []) a c × TypeAt t c b)
PartAt rule.SumTail a b = (ts : List Ty) × SummandsAt ts a b
PartAt rule.SumMore a b = (ts : List Ty) × SummandsAt ts a b
PartAt rule.Product a b = (t : Ty) × ProductAt t a b
PartAt rule.ProductTail a b = (ts : List Ty) × FactorsAt ts a b
PartAt rule.ProductMore a b = (ts : List Ty) × FactorsAt ts a b
PartAt rule.Applied a b = (t : Ty) × AppliedAt t a b
PartAt rule.Atom a b = (t : Ty) × AtomAt t a b
PartAt rule.Term a b = (e : Tm) × TermAt e a b
PartAt rule.Bindings a b = (bs : List Binding) × BindingsAt bs a b
PartAt rule.Alternatives a b = (alts : List Alternative) × AlternativesAt alts a b
PartAt rule.ApplyTail a b = (xs : List Argument) × ArgumentsAt xs a b
PartAt rule.Arguments a b = (xs : List Argument) × ArgumentsAt xs a b
PartAt rule.Argument a b = (x : Argument) × ArgumentAt x a b
PartAt rule.Simple a b = (e : Tm) × SimpleAt e a b
PartAt rule.Elements a b = (es : List Tm) × ElementsAt es a b
PartAt rule.MoreElements a b = (es : List Tm) × MoreElementsAt es a b

-- the symbols, one after the other
pub data Sequence : List Symbol → List Lexeme → List Lexeme → Type 0 where
  seq_done : {a : List Lexeme} → Sequence [] a a
  seq_token : {x : Terminal} {s : List Symbol} {a b : List Lexeme} (l : Lexeme) → terminal l ≡ x → Sequence s a b → Sequence (Token x ∷ s) (l ∷ a) b
  seq_word : {x : WordSort} {s : List Symbol} {a b : List Lexeme} (l : Lexeme)
      → IsTrue (is_word x (terminal l)) → Sequence s a b → Sequence (Word x ∷ s) (l ∷ a) b
  seq_kind : {s : List Symbol} {a b : List Lexeme} (k : KindTree) (l : Lexeme)
      → terminal l ≡ kind_terminal k → Sequence s a b → Sequence (Kind ∷ s) (l ∷ a) b
  seq_reset : {s : List Symbol} {a b : List Lexeme} (l : Lexeme)
      → IsReset (terminal l) (word_of l) → Sequence s a b → Sequence (Reset ∷ s) (l ∷ a) b
  seq_part : {x : Rule} {s : List Symbol} {a b : List Lexeme} (c : List Lexeme) → PartAt x a c → Sequence s c b → Sequence (Part x ∷ s) a b
  seq_act : {x : Action} {s : List Symbol} {a b : List Lexeme} → Sequence s a b → Sequence (Act x ∷ s) a b

sum_from : {t : Ty} {ts : List Ty} {a b c : List Lexeme} → ProductAt t a b → SummandsAt ts b c → (u : Ty) × SumAt u a c
sum_from {t = t} d no_summand = (t, one_product d)
sum_from {t = t} d (summand {t = u} {ts = ts} b c h p more) = (type_sum (types_of (t ∷ u ∷ ts)), sum_of t u ts _ _ _ d h p more)

product_from : {t : Ty} {ts : List Ty} {a b c : List Lexeme} → AppliedAt t a b → FactorsAt ts b c → (u : Ty) × ProductAt u a c
product_from {t = t} d no_factor = (t, one_factor d)
product_from {t = t} d (factor {t = u} {ts = ts} b c h p more) = (type_product (types_of (t ∷ u ∷ ts)), product_of t u ts _ _ _ d h p more)

application_from : {e : Tm} {xs : List Argument} {a b c : List Lexeme} → SimpleAt e a b → ArgumentsAt xs b c → (f : Tm) × TermAt f a c
application_from {e = e} d no_argument = (e, application (head_alone d))
application_from {e = e} d (argument {x = x} {args = xs} b p more) = (term_apply e (arguments_of (x ∷ xs)), application (applied x xs _ _ d p more))

arrow_from : {t : Ty} {a b c : List Lexeme} → SumAt t a b → PartAt rule.ArrowTail b c → (u : Ty) × TypeAt u a c
arrow_from {t = t} {a = a} {b = b} {c = c} d tail = elim tail [
  | inl e ↦ (t, sum_type (subst (λ (z : List Lexeme). SumAt t a z) e d))
  | inr w ↦ (type_arrow t w.1, arrow_type _ _ d w.2 w.3)
]

domain_from : (w : WordTree) {a d : List Lexeme} (b c : List Lexeme) → Takes (the.Domain ∷ []) a b → UpperAt w b c → PartAt rule.DomainEnd c d → (x : Declaration) × DeclarationAt x a d
domain_from w b c h1 h2 end = elim end [
  | inl h3 ↦ (declaration.Domain w false, domain_declared _ _ h1 h2 h3)
  | inr h3 ↦ (declaration.Domain w true, reset_declared _ _ _ h1 h2 h3.1 h3.2)
]

pub said : {x : Rule} {p : List Symbol} {a b : List Lexeme} → Produces x p → Sequence p a b → PartAt x a b
said of_program (seq_act (seq_part c1 x1 seq_done)) = x1
said of_domain (seq_token l0 e0 (seq_word {a = a} l1 e1 (seq_part c2 x1 (seq_part c3 x2 seq_done)))) =
    let one = domain_from (word_of l1) (l1 ∷ a) a (e0, refl) (e1, refl, refl) x1 in
    (one.0 ∷ x2.0, x2.1, x2.2, declared _ one.1 x2.3, x2.4)
said of_definition (seq_token l0 e0 (seq_word l1 e1 (seq_token l2 e2 (seq_part c3 x1 (seq_token l4 e4 (seq_part c5 x2 (seq_token l6 e6 (seq_act (seq_part c8 x3 seq_done))))))))) =
    (declaration.Def (word_of l1) x1.0 x2.0 ∷ x3.0, x3.1, x3.2, declared _ (definition_declared _ _ _ _ _ _ (e0, refl) (e1, refl, refl) (e2, refl) x1.1 (e4, refl) x2.1 (e6, refl)) x3.3, x3.4)
said of_data (seq_token l0 e0 (seq_word l1 e1 (seq_act (seq_part c3 x1 (seq_token l4 e4 (seq_act (seq_part c6 x2 (seq_part c7 x3 (seq_token l8 e8 (seq_act (seq_part c10 x4 seq_done))))))))))) =
    (declaration.Data (word_of l1) x1.0 (x2.0 ∷ x3.0) ∷ x4.0, x4.1, x4.2, declared _ (data_declared _ _ _ _ _ _ (e0, refl) (e1, refl, refl) x1.1 (e4, refl) x2.1 x3.1 (e8, refl)) x4.3, x4.4)
said of_top (seq_token l0 e0 (seq_word l1 e1 (seq_token l2 e2 (seq_act (seq_part c4 x1 (seq_token l5 e5 (seq_token l6 e6 (seq_act (seq_word l8 e8 (seq_act (seq_part c10 x2 (seq_token l11 e11 (seq_token l12 e12 (seq_act seq_done)))))))))))))) =
    ([], record { definition = (word_of l1); inputs = x1.0; outputs = (word_of l8) ∷ x2.0 }, _, no_declaration, top _ _ _ _ (e0, refl) (e1, refl, refl) (inputs _ _ (e2, refl) x1.1 (e5, refl)) (ports _ _ _ (e6, refl) (e8, refl, refl) x2.1 (e11, refl)) (e12, refl))
said of_reset (seq_reset l0 e0 (seq_token l1 e1 (seq_act seq_done))) = inr (_, (word_of l0, (e0.0, refl, refl), e0.1), (e1, refl))
said of_no_reset (seq_token l0 e0 (seq_act seq_done)) = inl (e0, refl)
said of_parameter (seq_token l0 e0 (seq_word l1 e1 (seq_token l2 e2 (seq_kind k l3 e3 (seq_token l4 e4 (seq_act (seq_part c6 x1 seq_done))))))) =
    (record { name = (word_of l1); kind = k } ∷ x1.0, parameter _ _ _ _ _ (e0, refl) (e1, refl, refl) (e2, refl) (e3, refl) (e4, refl) x1.1)
said of_no_parameter seq_done = ([], no_parameter)
said of_constructor (seq_word l0 e0 (seq_act (seq_part c2 x1 (seq_act seq_done)))) =
    (record { name = (word_of l0); fields = x1.0 }, constructor _ (e0, refl, refl) x1.1)
said of_one_more (seq_token l0 e0 (seq_part c1 x1 (seq_part c2 x2 seq_done))) = (x1.0 ∷ x2.0, one_more _ _ (e0, refl) x1.1 x2.1)
said of_no_constructor seq_done = ([], no_constructor)
said of_atoms (seq_part c0 x1 (seq_act (seq_part c2 x2 seq_done))) = (x1.0 ∷ x2.0, atom _ x1.1 x2.1)
said of_no_atom seq_done = ([], no_atom)
said of_no_input seq_done = ([], no_input)
said of_inputs (seq_word l0 e0 (seq_act (seq_part c2 x1 seq_done))) = ((word_of l0) ∷ x1.0, input_names _ (e0, refl, refl) x1.1)
said of_port (seq_token l0 e0 (seq_word l1 e1 (seq_act (seq_part c3 x1 seq_done)))) =
    ((word_of l1) ∷ x1.0, port _ _ (e0, refl) (e1, refl, refl) x1.1)
said of_no_port seq_done = ([], no_port)
said of_field (seq_word l0 e0 (seq_act (seq_part c2 x1 seq_done))) = ((word_of l0) ∷ x1.0, name _ (e0, refl, refl) x1.1)
said of_no_field seq_done = ([], no_name)
said of_forall (seq_token l0 e0 (seq_token l1 e1 (seq_word l2 e2 (seq_token l3 e3 (seq_kind k l4 e4 (seq_token l5 e5 (seq_token l6 e6 (seq_part c7 x1 (seq_act seq_done))))))))) =
    (type_forall (word_of l2) k x1.0, forall_type _ _ _ _ _ (e0, (e1, refl)) (e2, refl, refl) (e3, refl) (e4, refl) (e5, (e6, refl)) x1.1)
said of_sum (seq_part c0 x1 (seq_part c1 x2 (seq_part c2 x3 seq_done))) = arrow_from (sum_from x1.1 x2.1).1 x3
said of_arrow (seq_token l0 e0 (seq_part c1 x1 (seq_act seq_done))) = inr (_, x1.0, (e0, refl), x1.1)
said of_no_arrow seq_done = inl refl
said of_plus (seq_act (seq_token l1 e1 (seq_part c2 x1 (seq_act (seq_part c4 x2 seq_done))))) =
    (x1.0 ∷ x2.0, summand _ _ (e1, refl) x1.1 x2.1)
said of_no_plus seq_done = ([], no_summand)
said of_more_plus (seq_token l0 e0 (seq_part c1 x1 (seq_act (seq_part c3 x2 seq_done)))) =
    (x1.0 ∷ x2.0, summand _ _ (e0, refl) x1.1 x2.1)
said of_no_more_plus (seq_act seq_done) = ([], no_summand)
said of_product (seq_part c0 x1 (seq_part c1 x2 seq_done)) = product_from x1.1 x2.1
said of_star (seq_act (seq_token l1 e1 (seq_part c2 x1 (seq_act (seq_part c4 x2 seq_done))))) =
    (x1.0 ∷ x2.0, factor _ _ (e1, refl) x1.1 x2.1)
said of_no_star seq_done = ([], no_factor)
said of_more_star (seq_token l0 e0 (seq_part c1 x1 (seq_act (seq_part c3 x2 seq_done)))) =
    (x1.0 ∷ x2.0, factor _ _ (e0, refl) x1.1 x2.1)
said of_no_more_star (seq_act seq_done) = ([], no_factor)
said of_named (seq_word l0 e0 (seq_act (seq_part c2 x1 (seq_act seq_done)))) =
    (type_named (word_of l0) (types_of x1.0), named_type x1.0 _ (e0, refl, refl) x1.1)
said of_atom (seq_part c0 x1 seq_done) = (x1.0, atom_type x1.1)
said of_variable (seq_word l0 e0 (seq_act seq_done)) = (type_variable (word_of l0), variable_type (e0, refl, refl))
said of_name (seq_word l0 e0 (seq_act (seq_act seq_done))) = (type_named (word_of l0) no_types, name_type (e0, refl, refl))
said of_numeral (seq_word l0 e0 (seq_act seq_done)) = (type_numeral (word_of l0), numeral_type (e0, refl, refl))
said of_bracketed (seq_token l0 e0 (seq_part c1 x1 (seq_token l2 e2 seq_done))) =
    (x1.0, bracketed_type _ _ (e0, refl) x1.1 (e2, refl))
said of_lambda (seq_token l0 e0 (seq_token l1 e1 (seq_word l2 e2 (seq_token l3 e3 (seq_part c4 x1 (seq_token l5 e5 (seq_token l6 e6 (seq_part c7 x2 (seq_act seq_done))))))))) =
    (term_lambda (word_of l2) x1.0 x2.0, lambda _ _ _ _ _ (e0, (e1, refl)) (e2, refl, refl) (e3, refl) x1.1 (e5, (e6, refl)) x2.1)
said of_type_lambda (seq_token l0 e0 (seq_token l1 e1 (seq_word l2 e2 (seq_token l3 e3 (seq_kind k l4 e4 (seq_token l5 e5 (seq_token l6 e6 (seq_part c7 x1 (seq_act seq_done))))))))) =
    (term_type_lambda (word_of l2) k x1.0, type_lambda _ _ _ _ _ (e0, (e1, refl)) (e2, refl, refl) (e3, refl) (e4, refl) (e5, (e6, refl)) x1.1)
said of_letrec (seq_token l0 e0 (seq_token l1 e1 (seq_act (seq_part c3 x1 (seq_token l4 e4 (seq_token l5 e5 (seq_part c6 x2 (seq_act seq_done)))))))) =
    (term_letrec (bindings_of x1.0) x2.0, letrec x1.0 _ _ _ (e0, (e1, refl)) x1.1 (e4, (e5, refl)) x2.1)
said of_case (seq_token l0 e0 (seq_part c1 x1 (seq_token l2 e2 (seq_token l3 e3 (seq_act (seq_part c5 x2 (seq_token l6 e6 (seq_act seq_done)))))))) =
    (term_case x1.0 (alternatives_of x2.0), case_of x2.0 _ _ _ _ (e0, refl) x1.1 (e2, (e3, refl)) x2.1 (e6, refl))
said of_application (seq_part c0 x1 (seq_part c1 x2 seq_done)) = application_from x1.1 x2.1
said of_binding (seq_word l0 e0 (seq_token l1 e1 (seq_part c2 x1 (seq_token l3 e3 (seq_part c4 x2 (seq_token l5 e5 (seq_act (seq_part c7 x3 seq_done)))))))) =
    (record { name = (word_of l0); ty = x1.0; term = x2.0 } ∷ x3.0, binding _ _ _ _ _ _ (e0, refl, refl) (e1, refl) x1.1 (e3, refl) x2.1 (e5, refl) x3.1)
said of_no_binding seq_done = ([], no_binding)
said of_constructor_pattern (seq_word l0 e0 (seq_act (seq_part c2 x1 (seq_act (seq_token l4 e4 (seq_part c5 x2 (seq_token l6 e6 (seq_act (seq_part c8 x3 seq_done))))))))) =
    (record { pattern = pattern.Constructor (word_of l0) x1.0; term = x2.0 } ∷ x3.0, alternative _ _ _ _ (constructor_pattern _ (e0, refl, refl) x1.1) (e4, refl) x2.1 (e6, refl) x3.1)
said of_literal_pattern (seq_word l0 e0 (seq_act (seq_token l2 e2 (seq_part c3 x1 (seq_token l4 e4 (seq_act (seq_part c6 x2 seq_done))))))) =
    (record { pattern = pattern.Literal (word_of l0); term = x1.0 } ∷ x2.0, alternative _ _ _ _ (literal_pattern (e0, refl, refl)) (e2, refl) x1.1 (e4, refl) x2.1)
said of_default (seq_token l0 e0 (seq_act (seq_token l2 e2 (seq_part c3 x1 (seq_token l4 e4 (seq_act seq_done)))))) =
    (record { pattern = pattern.Default; term = x1.0 } ∷ [], default _ _ (e0, (e2, refl)) x1.1 (e4, refl))
said of_no_alternative seq_done = ([], no_alternative)
said of_arguments (seq_act (seq_part c1 x1 (seq_part c2 x2 seq_done))) = (x1.0 ∷ x2.0, argument _ x1.1 x2.1)
said of_no_arguments seq_done = ([], no_argument)
said of_more_arguments (seq_part c0 x1 (seq_part c1 x2 seq_done)) = (x1.0 ∷ x2.0, argument _ x1.1 x2.1)
said of_no_more_arguments (seq_act seq_done) = ([], no_argument)
said of_type_argument (seq_token l0 e0 (seq_part c1 x1 (seq_act seq_done))) = (OfType x1.0, type_argument _ (e0, refl) x1.1)
said of_term_argument (seq_part c0 x1 (seq_act seq_done)) = (OfTerm x1.0, term_argument x1.1)
said of_name_term (seq_word l0 e0 (seq_act seq_done)) = (term_name (word_of l0), name_term (e0, refl, refl))
said of_constructor_term (seq_word l0 e0 (seq_act seq_done)) = (term_constructor (word_of l0), constructor_term (e0, refl, refl))
said of_literal_term (seq_word l0 e0 (seq_act seq_done)) = (term_literal (word_of l0), literal_term (e0, refl, refl))
said of_vec (seq_token l0 e0 (seq_token l1 e1 (seq_part c2 x1 (seq_token l3 e3 (seq_act (seq_part c5 x2 (seq_token l6 e6 (seq_act seq_done)))))))) =
    (term_vec x1.0 (terms_of x2.0), vec_term x2.0 _ _ _ _ (e0, (e1, refl)) x1.1 (e3, refl) x2.1 (e6, refl))
said of_bracketed_term (seq_token l0 e0 (seq_part c1 x1 (seq_token l2 e2 seq_done))) =
    (x1.0, bracketed_term _ _ (e0, refl) x1.1 (e2, refl))
said of_no_element seq_done = ([], no_element)
said of_elements (seq_part c0 x1 (seq_act (seq_part c2 x2 seq_done))) = (x1.0 ∷ x2.0, elements _ x1.1 x2.1)
said of_element (seq_token l0 e0 (seq_part c1 x1 (seq_act (seq_part c3 x2 seq_done)))) =
    (x1.0 ∷ x2.0, element _ _ (e0, refl) x1.1 x2.1)
said of_no_more_element seq_done = ([], no_more_element)
