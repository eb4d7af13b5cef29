-- What the grammar reads as a term, the symbols read.
use Rattle.std.specs.Prelude.{◌≡◌, true, false, List, [], ◌∷◌, refl}
use Rattle.std.proofs.Common.{ap}
use Rattle.chw_grammar.specs.declared.terminal.Terminal.TheVariants as the
use Rattle.chw_grammar.specs.declared.word.Word.{Word}
use Rattle.chw_grammar.specs.declared.term_tree.Pattern.TheVariants as pattern
use Rattle.chw_grammar.specs.declared.term_tree.Binding.{Binding}
use Rattle.chw_grammar.specs.declared.term_tree.Alternative.{Alternative}
use Rattle.chw_grammar.specs.declared.term_tree.Argument.{Argument}
use Rattle.chw_grammar.specs.Lexemes.{Lexeme, next}
use Rattle.chw_grammar.specs.Grammar.{Takes, is_lower, is_upper, is_literal, NamesAt, no_name, name, constructor_pattern, literal_pattern, TermAt, lambda, type_lambda, letrec, case_of, application, BindingsAt, no_binding, binding, AlternativesAt, no_alternative, alternative, default, ApplicationAt, head_alone, applied, ArgumentsAt, no_argument as no_more_arguments, argument, ArgumentAt, term_argument, type_argument, SimpleAt, name_term, constructor_term, literal_term, vec_term, bracketed_term, ElementsAt, no_element, elements, MoreElementsAt, no_more_element, element}
use Rattle.chw_grammar.specs.TermTree.{Tm, term_letrec, term_case, term_apply, term_vec}
use Rattle.chw_grammar.specs.TermView.{terms_of, bindings_of, alternatives_of, arguments_of}
use Rattle.parser_parts.specs.declared.action.Action.TheVariants as action
use Rattle.chw_parser.specs.declared.symbol.Symbol.{Symbol}
use Rattle.chw_parser.specs.declared.symbol.Symbol.TheVariants.{Part, Act, Token}
use Rattle.chw_parser.specs.declared.symbol.WordSort.TheVariants as sort
use Rattle.chw_parser.specs.declared.symbol.Rule.TheVariants as rule
use Rattle.parser_parts.specs.declared.value.Value.{Value}
use Rattle.parser_parts.specs.declared.value.Value.TheVariants.{Words, OneTerm, Terms, OnePattern, Bindings, Alternatives, Arguments}
use Rattle.chw_parser.specs.Follow.{begins_simple, after_type, after_term, begins_term}
use Rattle.chw_parser.specs.Machine.{Runs, token, part, act}
use Rattle.chw_parser.specs.Productions.{production}
use Rattle.parser_parts.specs.Stacks.{onto}
use Rattle.chw_parser.proofs.Choices.{lower_is, literal_is, upper_simple, upper_alternative, upper_begins_simple, simple_begins_argument, simple_begins_term, some_application, some_argument, no_argument, one_more_argument, no_more_argument, simple_argument, some_element, no_field}
use Rattle.chw_parser.proofs.Made.{pattern_made, letrec_made, case_made, vec_made}
use Rattle.chw_parser.proofs.ReadTypes.{type_runs, atom_runs}
use Rattle.chw_parser.proofs.Steps.{takes_next, word_next, tokens_run, word_runs, kind_runs}

-- with which tokens terms begin

pub simple_begins : {e : Tm} {a b : List Lexeme} → SimpleAt e a b → begins_simple (next a) ≡ true
simple_begins {a = a} {b = b} (name_term {w = w} h) = ap begins_simple (lower_is (next a) (word_next is_lower w a b h))
simple_begins {a = a} {b = b} (constructor_term {w = w} h) = upper_begins_simple (next a) (word_next is_upper w a b h)
simple_begins {a = a} {b = b} (literal_term {w = w} h) = ap begins_simple (literal_is (next a) (word_next is_literal w a b h))
simple_begins {a = a} (vec_term es b c d f h t i more j) = ap begins_simple (takes_next the.Vec (the.At ∷ []) a b h)
simple_begins {a = a} (bracketed_term b c h d i) = ap begins_simple (takes_next the.Open [] a b h)

pub argument_begins : {x : Argument} {a b : List Lexeme} → ArgumentAt x a b → after_term (next a) ≡ true
argument_begins {a = a} (term_argument d) = simple_begins_argument (next a) (simple_begins d)
argument_begins {a = a} (type_argument b h d) = ap after_term (takes_next the.At [] a b h)

pub application_begins : {e : Tm} {a b : List Lexeme} → ApplicationAt e a b → begins_simple (next a) ≡ true
application_begins (head_alone d) = simple_begins d
application_begins (applied x args b c d e more) = simple_begins d

pub term_begins : {e : Tm} {a b : List Lexeme} → TermAt e a b → begins_term (next a) ≡ true
term_begins {a = a} (lambda b c d f g h1 h2 h3 h4 h5 e) = ap begins_term (takes_next the.Lambda (the.Open ∷ []) a b h1)
term_begins {a = a} (type_lambda b c d f g h1 h2 h3 h4 h5 e) = ap begins_term (takes_next the.TypeLambda (the.Open ∷ []) a b h1)
term_begins {a = a} (letrec bs b c d h1 h2 h3 e) = ap begins_term (takes_next the.Letrec (the.OpenBrace ∷ []) a b h1)
term_begins {a = a} (case_of alts b c d f h1 e h2 more h3) = ap begins_term (takes_next the.Case [] a b h1)
term_begins {a = a} (application d) = simple_begins_term (next a) (application_begins d)

-- a term before what is left of the elements

more_elements_stop : {es : List Tm} {a b : List Lexeme} → MoreElementsAt es a b → next b ≡ the.CloseBracket → after_term (next a) ≡ false
more_elements_stop no_more_element stop = ap after_term stop
more_elements_stop {a = a} (element b c h d more) stop = ap after_term (takes_next the.Comma [] a b h)

-- the names of a pattern

pub fields_run : {ws : List Word} {a b : List Lexeme} → NamesAt ws a b → is_lower (next b) ≡ false → (done : List Word)
    → {s : List Symbol} {vs out : List Value} → Runs s b (Words (onto ws done) ∷ vs) out → Runs (Part rule.Fields ∷ s) a (Words done ∷ vs) out
fields_run {b = b} no_name stop done r = part _ (no_field (next b) stop) r
fields_run {a = a} (name {w = w} b h more) stop done r =
    part _ (ap (production rule.Fields) (lower_is (next a) (word_next is_lower w a b h)))
    (word_runs sort.Lower h (act _ refl (fields_run more stop (w ∷ done) r)))

-- the pattern of a default comes to be between its two tokens

underscore_runs : (a b : List Lexeme) → Takes (the.Underscore ∷ the.Arrow ∷ []) a b
    → {s : List Symbol} {vs out : List Value} → Runs s b (OnePattern pattern.Default ∷ vs) out
    → Runs (Token the.Underscore ∷ Act action.DefaultPattern ∷ Token the.Arrow ∷ s) a vs out
underscore_runs [] b h r = absurd h
underscore_runs (l ∷ a) b h r = token h.0 (act _ refl (tokens_run (the.Arrow ∷ []) h.1 r))

mutual
  pub term_runs : {e : Tm} {a b : List Lexeme} → TermAt e a b → after_term (next b) ≡ false
      → {s : List Symbol} {vs out : List Value} → Runs s b (OneTerm e ∷ vs) out → Runs (Part rule.Term ∷ s) a vs out
  term_runs {a = a} (lambda b c d f g h1 h2 h3 t h5 e) stop r =
      part _ (ap (production rule.Term) (takes_next the.Lambda (the.Open ∷ []) a b h1))
      (tokens_run (the.Lambda ∷ the.Open ∷ []) h1 (word_runs sort.Lower h2 (tokens_run (the.Colon ∷ []) h3
      (type_runs t (ap after_type (takes_next the.Close (the.Dot ∷ []) f g h5))
      (tokens_run (the.Close ∷ the.Dot ∷ []) h5 (term_runs e stop (act _ refl r)))))))
  term_runs {a = a} (type_lambda {k = k} b c d f g h1 h2 h3 h4 h5 e) stop r =
      part _ (ap (production rule.Term) (takes_next the.TypeLambda (the.Open ∷ []) a b h1))
      (tokens_run (the.TypeLambda ∷ the.Open ∷ []) h1 (word_runs sort.Lower h2 (tokens_run (the.Colon ∷ []) h3
      (kind_runs k h4 (tokens_run (the.Close ∷ the.Dot ∷ []) h5 (term_runs e stop (act _ refl r)))))))
  term_runs {a = a} (letrec bs {e = e} b c d h1 more h2 body) stop {vs = vs} r =
      part _ (ap (production rule.Term) (takes_next the.Letrec (the.OpenBrace ∷ []) a b h1))
      (tokens_run (the.Letrec ∷ the.OpenBrace ∷ []) h1 (act _ refl (bindings_run more (takes_next the.CloseBrace (the.In ∷ []) c d h2) []
      (tokens_run (the.CloseBrace ∷ the.In ∷ []) h2 (term_runs body stop (act (OneTerm (term_letrec (bindings_of bs) e) ∷ vs) (letrec_made bs e vs) r))))))
  term_runs {a = a} {b = last} (case_of {e = e} alts b c d f h1 on h2 more h3) stop {vs = vs} r =
      part _ (ap (production rule.Term) (takes_next the.Case [] a b h1))
      (tokens_run (the.Case ∷ []) h1 (term_runs on (ap after_term (takes_next the.Of (the.OpenBrace ∷ []) c d h2))
      (tokens_run (the.Of ∷ the.OpenBrace ∷ []) h2 (act _ refl (alternatives_run more (takes_next the.CloseBrace [] f last h3) []
      (tokens_run (the.CloseBrace ∷ []) h3 (act (OneTerm (term_case e (alternatives_of alts)) ∷ vs) (case_made alts e vs) r)))))))
  term_runs {a = a} (application d) stop r = part _ (some_application (next a) (application_begins d)) (application_runs d stop r)

  pub bindings_run : {bs : List Binding} {a b : List Lexeme} → BindingsAt bs a b → next b ≡ the.CloseBrace → (done : List Binding)
      → {s : List Symbol} {vs out : List Value} → Runs s b (Bindings (onto bs done) ∷ vs) out → Runs (Part rule.Bindings ∷ s) a (Bindings done ∷ vs) out
  bindings_run no_binding stop done r = part _ (ap (production rule.Bindings) stop) r
  bindings_run {a = a} (binding {w = w} {t = t} {e = e} b c d f g h h1 h2 ty h3 body h4 more) stop done r =
      part _ (ap (production rule.Bindings) (lower_is (next a) (word_next is_lower w a b h1)))
      (word_runs sort.Lower h1 (tokens_run (the.Colon ∷ []) h2 (type_runs ty (ap after_type (takes_next the.Equals [] d f h3))
      (tokens_run (the.Equals ∷ []) h3 (term_runs body (ap after_term (takes_next the.Semicolon [] g h h4))
      (tokens_run (the.Semicolon ∷ []) h4 (act _ refl (bindings_run more stop (record { name = w; ty = t; term = e } ∷ done) r))))))))

  pub alternatives_run : {alts : List Alternative} {a b : List Lexeme} → AlternativesAt alts a b → next b ≡ the.CloseBrace → (done : List Alternative)
      → {s : List Symbol} {vs out : List Value} → Runs s b (Alternatives (onto alts done) ∷ vs) out
      → Runs (Part rule.Alternatives ∷ s) a (Alternatives done ∷ vs) out
  alternatives_run no_alternative stop done r = part _ (ap (production rule.Alternatives) stop) r
  alternatives_run {a = a} (alternative {e = e} b c d f (constructor_pattern {w = w} {ws = ws} b' h names) h2 body h3 more) stop done {vs = vs} r =
      part _ (upper_alternative (next a) (word_next is_upper w a b' h))
      (word_runs sort.Upper h (act _ refl (fields_run names (ap is_lower (takes_next the.Arrow [] b c h2)) []
      (act (OnePattern (pattern.Constructor w ws) ∷ Alternatives done ∷ vs) (pattern_made w ws (Alternatives done ∷ vs))
      (tokens_run (the.Arrow ∷ []) h2 (term_runs body (ap after_term (takes_next the.Semicolon [] d f h3))
      (tokens_run (the.Semicolon ∷ []) h3 (act _ refl (alternatives_run more stop (record { pattern = pattern.Constructor w ws; term = e } ∷ done) r)))))))))
  alternatives_run {a = a} (alternative {e = e} b c d f (literal_pattern {w = w} h) h2 body h3 more) stop done r =
      part _ (ap (production rule.Alternatives) (literal_is (next a) (word_next is_literal w a b h)))
      (word_runs sort.Literal h (act _ refl
      (tokens_run (the.Arrow ∷ []) h2 (term_runs body (ap after_term (takes_next the.Semicolon [] d f h3))
      (tokens_run (the.Semicolon ∷ []) h3 (act _ refl (alternatives_run more stop (record { pattern = pattern.Literal w; term = e } ∷ done) r)))))))
  alternatives_run {a = a} {b = last} (default b c h1 body h2) stop done r =
      part _ (ap (production rule.Alternatives) (takes_next the.Underscore (the.Arrow ∷ []) a b h1))
      (underscore_runs a b h1 (term_runs body (ap after_term (takes_next the.Semicolon [] c last h2))
      (tokens_run (the.Semicolon ∷ []) h2 (act _ refl r))))

  pub application_runs : {e : Tm} {a b : List Lexeme} → ApplicationAt e a b → after_term (next b) ≡ false
      → {s : List Symbol} {vs out : List Value} → Runs s b (OneTerm e ∷ vs) out → Runs (Part rule.Simple ∷ Part rule.ApplyTail ∷ s) a vs out
  application_runs {b = b} (head_alone d) stop r = simple_runs d (part _ (no_argument (next b) stop) r)
  application_runs (applied x args b c d e more) stop r =
      simple_runs d (part _ (some_argument (next b) (argument_begins e)) (act _ refl (argument_runs e (arguments_run more stop (x ∷ []) r))))

  pub arguments_run : {args : List Argument} {a b : List Lexeme} → ArgumentsAt args a b → after_term (next b) ≡ false → (done : List Argument)
      → {e : Tm} {s : List Symbol} {vs out : List Value} → Runs s b (OneTerm (term_apply e (arguments_of (onto done args))) ∷ vs) out
      → Runs (Part rule.Arguments ∷ s) a (Arguments done ∷ OneTerm e ∷ vs) out
  arguments_run {b = b} no_more_arguments stop done r = part _ (no_more_argument (next b) stop) (act _ refl r)
  arguments_run {a = a} (argument {x = x} b d more) stop done r =
      part _ (one_more_argument (next a) (argument_begins d)) (argument_runs d (arguments_run more stop (x ∷ done) r))

  pub argument_runs : {x : Argument} {a b : List Lexeme} → ArgumentAt x a b → {done : List Argument}
      → {s : List Symbol} {vs out : List Value} → Runs s b (Arguments (x ∷ done) ∷ vs) out → Runs (Part rule.Argument ∷ s) a (Arguments done ∷ vs) out
  argument_runs {a = a} (term_argument d) r = part _ (simple_argument (next a) (simple_begins d)) (simple_runs d (act _ refl r))
  argument_runs {a = a} (type_argument b h d) r =
      part _ (ap (production rule.Argument) (takes_next the.At [] a b h)) (tokens_run (the.At ∷ []) h (atom_runs d (act _ refl r)))

  pub simple_runs : {e : Tm} {a b : List Lexeme} → SimpleAt e a b
      → {s : List Symbol} {vs out : List Value} → Runs s b (OneTerm e ∷ vs) out → Runs (Part rule.Simple ∷ s) a vs out
  simple_runs {a = a} {b = b} (name_term {w = w} h) r =
      part _ (ap (production rule.Simple) (lower_is (next a) (word_next is_lower w a b h))) (word_runs sort.Lower h (act _ refl r))
  simple_runs {a = a} {b = b} (constructor_term {w = w} h) r =
      part _ (upper_simple (next a) (word_next is_upper w a b h)) (word_runs sort.Upper h (act _ refl r))
  simple_runs {a = a} {b = b} (literal_term {w = w} h) r =
      part _ (ap (production rule.Simple) (literal_is (next a) (word_next is_literal w a b h))) (word_runs sort.Literal h (act _ refl r))
  simple_runs {a = a} {b = last} (vec_term {t = t} es b c d f h1 ty h2 more h3) {vs = vs} r =
      part _ (ap (production rule.Simple) (takes_next the.Vec (the.At ∷ []) a b h1))
      (tokens_run (the.Vec ∷ the.At ∷ []) h1 (atom_runs ty (tokens_run (the.OpenBracket ∷ []) h2
      (act _ refl (elements_run more (takes_next the.CloseBracket [] f last h3) []
      (tokens_run (the.CloseBracket ∷ []) h3 (act (OneTerm (term_vec t (terms_of es)) ∷ vs) (vec_made es t vs) r)))))))
  simple_runs {a = a} {b = last} (bracketed_term b c h d i) r =
      part _ (ap (production rule.Simple) (takes_next the.Open [] a b h))
      (tokens_run (the.Open ∷ []) h (term_runs d (ap after_term (takes_next the.Close [] c last i)) (tokens_run (the.Close ∷ []) i r)))

  pub elements_run : {es : List Tm} {a b : List Lexeme} → ElementsAt es a b → next b ≡ the.CloseBracket → (done : List Tm)
      → {s : List Symbol} {vs out : List Value} → Runs s b (Terms (onto es done) ∷ vs) out → Runs (Part rule.Elements ∷ s) a (Terms done ∷ vs) out
  elements_run no_element stop done r = part _ (ap (production rule.Elements) stop) r
  elements_run {a = a} (elements {e = e} b d more) stop done r =
      part _ (some_element (next a) (term_begins d)) (term_runs d (more_elements_stop more stop) (act _ refl (more_elements_run more stop (e ∷ done) r)))

  pub more_elements_run : {es : List Tm} {a b : List Lexeme} → MoreElementsAt es a b → next b ≡ the.CloseBracket → (done : List Tm)
      → {s : List Symbol} {vs out : List Value} → Runs s b (Terms (onto es done) ∷ vs) out → Runs (Part rule.MoreElements ∷ s) a (Terms done ∷ vs) out
  more_elements_run no_more_element stop done r = part _ (ap (production rule.MoreElements) stop) r
  more_elements_run {a = a} (element {e = e} b c h d more) stop done r =
      part _ (ap (production rule.MoreElements) (takes_next the.Comma [] a b h))
      (tokens_run (the.Comma ∷ []) h (term_runs d (more_elements_stop more stop) (act _ refl (more_elements_run more stop (e ∷ done) r))))
