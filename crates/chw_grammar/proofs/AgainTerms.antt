-- Tokens that differ in their places alone are read as terms that do.
use Rattle.std.specs.Prelude.{◌≡◌, List, [], ◌∷◌, refl}
use Rattle.std.proofs.Common.{sym, ◌∙◌}
use Rattle.chw_grammar.specs.declared.terminal.Terminal.TheVariants as the
use Rattle.chw_grammar.specs.declared.word.Word.{Word}
use Rattle.chw_grammar.specs.declared.term_tree.Pattern.{Pattern}
use Rattle.chw_grammar.specs.declared.term_tree.Pattern.TheVariants as pattern
use Rattle.chw_grammar.specs.declared.term_tree.Binding.{Binding}
use Rattle.chw_grammar.specs.declared.term_tree.Alternative.{Alternative}
use Rattle.chw_grammar.specs.declared.term_tree.Argument.{Argument}
use Rattle.chw_grammar.specs.declared.term_tree.Argument.TheVariants.{OfTerm, OfType}
use Rattle.chw_grammar.specs.Lexemes.{Lexeme}
use Rattle.chw_grammar.specs.Grammar.{is_lower, is_upper, is_literal, NamesAt, no_name, name, PatternAt, constructor_pattern, literal_pattern, TermAt, lambda, type_lambda, letrec, case_of, application, BindingsAt, no_binding, binding, AlternativesAt, no_alternative, alternative, default, ApplicationAt, head_alone, applied, ArgumentsAt, no_argument, argument, ArgumentAt, term_argument, type_argument, SimpleAt, name_term, constructor_term, literal_term, vec_term, bracketed_term, ElementsAt, no_element, elements, MoreElementsAt, no_more_element, element}
use Rattle.chw_grammar.specs.TermTree.{Tm, term_lambda, term_type_lambda, term_letrec, term_case, term_apply, term_name, term_constructor, term_literal, term_vec, Tms, term_and, Bindings, binding_and, Alternatives, alternative_and, Arguments}
use Rattle.chw_grammar.specs.TermView.{terms_of, bindings_of, alternatives_of, before, arguments_of}
use Rattle.chw_grammar.specs.Places.{bare_words, bare_pattern, bare_type, bare_term, bare_terms, bare_bindings, bare_alternatives, bare_arguments}
use Rattle.chw_grammar.proofs.Again.{Alike, Again, takes_again, word_again, kind_again}
use Rattle.chw_grammar.proofs.AgainTypes.{type_again, atom_again}

-- the parts of terms that are lists
abbrev pub bare_term_list : List Tm → Tms
bare_term_list es = bare_terms (terms_of es)

abbrev pub bare_binding_list : List Binding → Bindings
bare_binding_list bs = bare_bindings (bindings_of bs)

abbrev pub bare_alternative_list : List Alternative → Alternatives
bare_alternative_list alts = bare_alternatives (alternatives_of alts)

abbrev pub bare_argument_list : List Argument → Arguments
bare_argument_list args = bare_arguments (arguments_of args)

abbrev pub bare_argument : Argument → Argument
bare_argument (OfTerm e) = OfTerm (bare_term e)
bare_argument (OfType t) = OfType (bare_type t)

bare_before : (x : Argument) (more : Arguments) → bare_arguments (before x more) ≡ before (bare_argument x) (bare_arguments more)
bare_before (OfTerm e) more = refl
bare_before (OfType t) more = refl

pub names_again : {ws : List Word} {a b : List Lexeme} → NamesAt ws a b → (a' : List Lexeme) → Alike a a' → Again NamesAt bare_words ws a' b
names_again no_name a' alike = record { again = []; rest = a'; reads = no_name; same = refl; alike = alike }
names_again (name {w = w} {a = a} b h1 h2) a' alike =
    let r1 = word_again is_lower w a b a' h1 alike in
    let r2 = names_again h2 r1.rest r1.alike in
    record {
      again = r1.again ∷ r2.again;
      rest = r2.rest;
      reads = name r1.rest r1.reads r2.reads;
      same = λ i. r1.same i ∷ r2.same i;
      alike = r2.alike;
    }

pattern_again : {q : Pattern} {a b : List Lexeme} → PatternAt q a b → (a' : List Lexeme) → Alike a a' → Again PatternAt bare_pattern q a' b
pattern_again (constructor_pattern {w = w} {a = a} b h1 h2) a' alike =
    let r1 = word_again is_upper w a b a' h1 alike in
    let r2 = names_again h2 r1.rest r1.alike in
    record {
      again = pattern.Constructor r1.again r2.again;
      rest = r2.rest;
      reads = constructor_pattern r1.rest r1.reads r2.reads;
      same = λ i. pattern.Constructor (r1.same i) (r2.same i);
      alike = r2.alike;
    }
pattern_again (literal_pattern {w = w} {a = a} {b = b} h1) a' alike =
    let r1 = word_again is_literal w a b a' h1 alike in
    record {
      again = pattern.Literal r1.again;
      rest = r1.rest;
      reads = literal_pattern r1.reads;
      same = λ i. pattern.Literal (r1.same i);
      alike = r1.alike;
    }

mutual
  pub term_again : {e : Tm} {a b : List Lexeme} → TermAt e a b → (a' : List Lexeme) → Alike a a' → Again TermAt bare_term e a' b
  term_again (lambda {w = w} {a = a} b c d f g h1 h2 h3 h4 h5 h6) a' alike =
      let r1 = takes_again (the.Lambda ∷ the.Open ∷ []) a b a' h1 alike in
      let r2 = word_again is_lower w b c r1.rest h2 r1.alike in
      let r3 = takes_again (the.Colon ∷ []) c d r2.rest h3 r2.alike in
      let r4 = type_again h4 r3.rest r3.alike in
      let r5 = takes_again (the.Close ∷ the.Dot ∷ []) f g r4.rest h5 r4.alike in
      let r6 = term_again h6 r5.rest r5.alike in
      record {
        again = term_lambda r2.again r4.again r6.again;
        rest = r6.rest;
        reads = lambda r1.rest r2.rest r3.rest r4.rest r5.rest r1.reads r2.reads r3.reads r4.reads r5.reads r6.reads;
        same = λ i. term_lambda (r2.same i) (r4.same i) (r6.same i);
        alike = r6.alike;
      }
  term_again (type_lambda {w = w} {k = k} {a = a} b c d f g h1 h2 h3 h4 h5 h6) a' alike =
      let r1 = takes_again (the.TypeLambda ∷ the.Open ∷ []) a b a' h1 alike in
      let r2 = word_again is_lower w b c r1.rest h2 r1.alike in
      let r3 = takes_again (the.Colon ∷ []) c d r2.rest h3 r2.alike in
      let r4 = kind_again k d f r3.rest h4 r3.alike in
      let r5 = takes_again (the.Close ∷ the.Dot ∷ []) f g r4.rest h5 r4.alike in
      let r6 = term_again h6 r5.rest r5.alike in
      record {
        again = term_type_lambda r2.again k r6.again;
        rest = r6.rest;
        reads = type_lambda r1.rest r2.rest r3.rest r4.rest r5.rest r1.reads r2.reads r3.reads r4.reads r5.reads r6.reads;
        same = λ i. term_type_lambda (r2.same i) k (r6.same i);
        alike = r6.alike;
      }
  term_again (letrec bs {a = a} b c d h1 h2 h3 h4) a' alike =
      let r1 = takes_again (the.Letrec ∷ the.OpenBrace ∷ []) a b a' h1 alike in
      let r2 = bindings_again h2 r1.rest r1.alike in
      let r3 = takes_again (the.CloseBrace ∷ the.In ∷ []) c d r2.rest h3 r2.alike in
      let r4 = term_again h4 r3.rest r3.alike in
      record {
        again = term_letrec (bindings_of r2.again) r4.again;
        rest = r4.rest;
        reads = letrec r2.again r1.rest r2.rest r3.rest r1.reads r2.reads r3.reads r4.reads;
        same = λ i. term_letrec (r2.same i) (r4.same i);
        alike = r4.alike;
      }
  term_again (case_of alts {a = a} {g = g} b c d f h1 h2 h3 h4 h5) a' alike =
      let r1 = takes_again (the.Case ∷ []) a b a' h1 alike in
      let r2 = term_again h2 r1.rest r1.alike in
      let r3 = takes_again (the.Of ∷ the.OpenBrace ∷ []) c d r2.rest h3 r2.alike in
      let r4 = alternatives_again h4 r3.rest r3.alike in
      let r5 = takes_again (the.CloseBrace ∷ []) f g r4.rest h5 r4.alike in
      record {
        again = term_case r2.again (alternatives_of r4.again);
        rest = r5.rest;
        reads = case_of r4.again r1.rest r2.rest r3.rest r4.rest r1.reads r2.reads r3.reads r4.reads r5.reads;
        same = λ i. term_case (r2.same i) (r4.same i);
        alike = r5.alike;
      }
  term_again (application {a = a} h1) a' alike =
      let r1 = application_again h1 a' alike in
      record {
        again = r1.again;
        rest = r1.rest;
        reads = application r1.reads;
        same = r1.same;
        alike = r1.alike;
      }

  bindings_again : {bs : List Binding} {a b : List Lexeme} → BindingsAt bs a b → (a' : List Lexeme) → Alike a a' → Again BindingsAt bare_binding_list bs a' b
  bindings_again no_binding a' alike = record { again = []; rest = a'; reads = no_binding; same = refl; alike = alike }
  bindings_again (binding {w = w} {a = a} {i = i} b c d f g h h1 h2 h3 h4 h5 h6 h7) a' alike =
      let r1 = word_again is_lower w a b a' h1 alike in
      let r2 = takes_again (the.Colon ∷ []) b c r1.rest h2 r1.alike in
      let r3 = type_again h3 r2.rest r2.alike in
      let r4 = takes_again (the.Equals ∷ []) d f r3.rest h4 r3.alike in
      let r5 = term_again h5 r4.rest r4.alike in
      let r6 = takes_again (the.Semicolon ∷ []) g h r5.rest h6 r5.alike in
      let r7 = bindings_again h7 r6.rest r6.alike in
      record {
        again = record { name = r1.again; ty = r3.again; term = r5.again } ∷ r7.again;
        rest = r7.rest;
        reads = binding r1.rest r2.rest r3.rest r4.rest r5.rest r6.rest r1.reads r2.reads r3.reads r4.reads r5.reads r6.reads r7.reads;
        same = λ i. binding_and (r1.same i) (r3.same i) (r5.same i) (r7.same i);
        alike = r7.alike;
      }

  alternatives_again : {alts : List Alternative} {a b : List Lexeme} → AlternativesAt alts a b → (a' : List Lexeme) → Alike a a' → Again AlternativesAt bare_alternative_list alts a' b
  alternatives_again no_alternative a' alike = record { again = []; rest = a'; reads = no_alternative; same = refl; alike = alike }
  alternatives_again (alternative {a = a} b c d f h1 h2 h3 h4 h5) a' alike =
      let r1 = pattern_again h1 a' alike in
      let r2 = takes_again (the.Arrow ∷ []) b c r1.rest h2 r1.alike in
      let r3 = term_again h3 r2.rest r2.alike in
      let r4 = takes_again (the.Semicolon ∷ []) d f r3.rest h4 r3.alike in
      let r5 = alternatives_again h5 r4.rest r4.alike in
      record {
        again = record { pattern = r1.again; term = r3.again } ∷ r5.again;
        rest = r5.rest;
        reads = alternative r1.rest r2.rest r3.rest r4.rest r1.reads r2.reads r3.reads r4.reads r5.reads;
        same = λ i. alternative_and (r1.same i) (r3.same i) (r5.same i);
        alike = r5.alike;
      }
  alternatives_again (default {a = a} {d = d} b c h1 h2 h3) a' alike =
      let r1 = takes_again (the.Underscore ∷ the.Arrow ∷ []) a b a' h1 alike in
      let r2 = term_again h2 r1.rest r1.alike in
      let r3 = takes_again (the.Semicolon ∷ []) c d r2.rest h3 r2.alike in
      record {
        again = record { pattern = pattern.Default; term = r2.again } ∷ [];
        rest = r3.rest;
        reads = default r1.rest r2.rest r1.reads r2.reads r3.reads;
        same = λ i. alternative_and pattern.Default (r2.same i) (bare_alternatives (alternatives_of []));
        alike = r3.alike;
      }

  application_again : {e : Tm} {a b : List Lexeme} → ApplicationAt e a b → (a' : List Lexeme) → Alike a a' → Again ApplicationAt bare_term e a' b
  application_again (head_alone {a = a} h1) a' alike =
      let r1 = simple_again h1 a' alike in
      record {
        again = r1.again;
        rest = r1.rest;
        reads = head_alone r1.reads;
        same = r1.same;
        alike = r1.alike;
      }
  application_again (applied x args {a = a} b c h1 h2 h3) a' alike =
      let r1 = simple_again h1 a' alike in
      let r2 = argument_again h2 r1.rest r1.alike in
      let r3 = arguments_again h3 r2.rest r2.alike in
      record {
        again = term_apply r1.again (arguments_of (r2.again ∷ r3.again));
        rest = r3.rest;
        reads = applied r2.again r3.again r1.rest r2.rest r1.reads r2.reads r3.reads;
        same = (let parts : bare_arguments (before r2.again (arguments_of r3.again)) ≡ bare_arguments (before x (arguments_of args)) = bare_before r2.again (arguments_of r3.again) ∙ (λ j. before (r2.same j) (r3.same j)) ∙ sym (bare_before x (arguments_of args)) in λ i. term_apply (r1.same i) (parts i));
        alike = r3.alike;
      }

  arguments_again : {args : List Argument} {a b : List Lexeme} → ArgumentsAt args a b → (a' : List Lexeme) → Alike a a' → Again ArgumentsAt bare_argument_list args a' b
  arguments_again no_argument a' alike = record { again = []; rest = a'; reads = no_argument; same = refl; alike = alike }
  arguments_again (argument {x = x} {args = args} {a = a} b h1 h2) a' alike =
      let r1 = argument_again h1 a' alike in
      let r2 = arguments_again h2 r1.rest r1.alike in
      record {
        again = r1.again ∷ r2.again;
        rest = r2.rest;
        reads = argument r1.rest r1.reads r2.reads;
        same = bare_before r1.again (arguments_of r2.again) ∙ (λ j. before (r1.same j) (r2.same j)) ∙ sym (bare_before x (arguments_of args));
        alike = r2.alike;
      }

  argument_again : {x : Argument} {a b : List Lexeme} → ArgumentAt x a b → (a' : List Lexeme) → Alike a a' → Again ArgumentAt bare_argument x a' b
  argument_again (term_argument {a = a} h1) a' alike =
      let r1 = simple_again h1 a' alike in
      record {
        again = OfTerm r1.again;
        rest = r1.rest;
        reads = term_argument r1.reads;
        same = λ i. OfTerm (r1.same i);
        alike = r1.alike;
      }
  argument_again (type_argument {a = a} b h1 h2) a' alike =
      let r1 = takes_again (the.At ∷ []) a b a' h1 alike in
      let r2 = atom_again h2 r1.rest r1.alike in
      record {
        again = OfType r2.again;
        rest = r2.rest;
        reads = type_argument r1.rest r1.reads r2.reads;
        same = λ i. OfType (r2.same i);
        alike = r2.alike;
      }

  simple_again : {e : Tm} {a b : List Lexeme} → SimpleAt e a b → (a' : List Lexeme) → Alike a a' → Again SimpleAt bare_term e a' b
  simple_again (name_term {w = w} {a = a} {b = b} h1) a' alike =
      let r1 = word_again is_lower w a b a' h1 alike in
      record {
        again = term_name r1.again;
        rest = r1.rest;
        reads = name_term r1.reads;
        same = λ i. term_name (r1.same i);
        alike = r1.alike;
      }
  simple_again (constructor_term {w = w} {a = a} {b = b} h1) a' alike =
      let r1 = word_again is_upper w a b a' h1 alike in
      record {
        again = term_constructor r1.again;
        rest = r1.rest;
        reads = constructor_term r1.reads;
        same = λ i. term_constructor (r1.same i);
        alike = r1.alike;
      }
  simple_again (literal_term {w = w} {a = a} {b = b} h1) a' alike =
      let r1 = word_again is_literal w a b a' h1 alike in
      record {
        again = term_literal r1.again;
        rest = r1.rest;
        reads = literal_term r1.reads;
        same = λ i. term_literal (r1.same i);
        alike = r1.alike;
      }
  simple_again (vec_term es {a = a} {g = g} b c d f h1 h2 h3 h4 h5) a' alike =
      let r1 = takes_again (the.Vec ∷ the.At ∷ []) a b a' h1 alike in
      let r2 = atom_again h2 r1.rest r1.alike in
      let r3 = takes_again (the.OpenBracket ∷ []) c d r2.rest h3 r2.alike in
      let r4 = elements_again h4 r3.rest r3.alike in
      let r5 = takes_again (the.CloseBracket ∷ []) f g r4.rest h5 r4.alike in
      record {
        again = term_vec r2.again (terms_of r4.again);
        rest = r5.rest;
        reads = vec_term r4.again r1.rest r2.rest r3.rest r4.rest r1.reads r2.reads r3.reads r4.reads r5.reads;
        same = λ i. term_vec (r2.same i) (r4.same i);
        alike = r5.alike;
      }
  simple_again (bracketed_term {a = a} {d = d} b c h1 h2 h3) a' alike =
      let r1 = takes_again (the.Open ∷ []) a b a' h1 alike in
      let r2 = term_again h2 r1.rest r1.alike in
      let r3 = takes_again (the.Close ∷ []) c d r2.rest h3 r2.alike in
      record {
        again = r2.again;
        rest = r3.rest;
        reads = bracketed_term r1.rest r2.rest r1.reads r2.reads r3.reads;
        same = r2.same;
        alike = r3.alike;
      }

  elements_again : {es : List Tm} {a b : List Lexeme} → ElementsAt es a b → (a' : List Lexeme) → Alike a a' → Again ElementsAt bare_term_list es a' b
  elements_again no_element a' alike = record { again = []; rest = a'; reads = no_element; same = refl; alike = alike }
  elements_again (elements {a = a} b h1 h2) a' alike =
      let r1 = term_again h1 a' alike in
      let r2 = more_elements_again h2 r1.rest r1.alike in
      record {
        again = r1.again ∷ r2.again;
        rest = r2.rest;
        reads = elements r1.rest r1.reads r2.reads;
        same = λ i. term_and (r1.same i) (r2.same i);
        alike = r2.alike;
      }

  more_elements_again : {es : List Tm} {a b : List Lexeme} → MoreElementsAt es a b → (a' : List Lexeme) → Alike a a' → Again MoreElementsAt bare_term_list es a' b
  more_elements_again no_more_element a' alike = record { again = []; rest = a'; reads = no_more_element; same = refl; alike = alike }
  more_elements_again (element {a = a} b c h1 h2 h3) a' alike =
      let r1 = takes_again (the.Comma ∷ []) a b a' h1 alike in
      let r2 = term_again h2 r1.rest r1.alike in
      let r3 = more_elements_again h3 r2.rest r2.alike in
      record {
        again = r2.again ∷ r3.again;
        rest = r3.rest;
        reads = element r1.rest r2.rest r1.reads r2.reads r3.reads;
        same = λ i. term_and (r2.same i) (r3.same i);
        alike = r3.alike;
      }
