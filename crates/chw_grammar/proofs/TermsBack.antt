-- The canonical tokens of a term read back to it.
use Rattle.std.specs.Prelude.{◌≡◌, true, false, List, [], ◌∷◌, ◌++◌, refl}
use Rattle.std.proofs.Common.{sym, subst}
use Rattle.std.proofs.lemmas.List.{append_assoc}
use Rattle.chw_grammar.specs.declared.terminal.Terminal.TheVariants as the
use Rattle.chw_grammar.specs.declared.stand.Stand.TheVariants.{Alone as alone, Simple as simple}
use Rattle.chw_grammar.specs.declared.word.Word.{Word}
use Rattle.chw_grammar.specs.declared.term_tree.Pattern.{Pattern}
use Rattle.chw_grammar.specs.declared.term_tree.Binding.{Binding}
use Rattle.chw_grammar.specs.declared.term_tree.Alternative.{Alternative}
use Rattle.chw_grammar.specs.declared.term_tree.Argument.{Argument}
use Rattle.chw_grammar.specs.Lexemes.{Lexeme}
use Rattle.chw_grammar.specs.Grammar.{TypeAt, AtomAt, NamesAt, no_name, name, PatternAt, constructor_pattern, literal_pattern, TermAt, lambda, type_lambda, letrec, case_of, application, BindingsAt, no_binding, binding, AlternativesAt, no_alternative, alternative, default, ApplicationAt, head_alone, applied, ArgumentsAt, no_argument, argument, ArgumentAt, term_argument, type_argument, SimpleAt, name_term, constructor_term, literal_term, vec_term, bracketed_term, ElementsAt, no_element, elements, MoreElementsAt, no_more_element, element}
use Rattle.chw_grammar.specs.TermTree.{Tm, Arguments}
use Rattle.chw_grammar.specs.TermView.{terms_of, bindings_of, alternatives_of, before, arguments_of}
use Rattle.chw_grammar.specs.Text.{sign, lowers, closed, type_lexemes, pattern_lexemes, term_lexemes, bindings_lexemes, alternatives_lexemes, arguments_lexemes, elements_lexemes, more_elements_lexemes}
use Rattle.chw_grammar.proofs.TypesBack.{kind_read, upper_read, lower_read, type_back, atom_back}

pub moved : (P : List Lexeme → Type 0) (xs ys rest : List Lexeme) → P (xs ++ (ys ++ rest)) → P ((xs ++ ys) ++ rest)
moved P xs ys rest h = subst P (sym (append_assoc xs ys rest)) h

-- as a term by itself, and inside an application, its canonical tokens read back to it
abbrev pub TermBack : Tm → Type 0
TermBack e = ((rest : List Lexeme) → TermAt e (term_lexemes false e ++ rest) rest) × ((rest : List Lexeme) → SimpleAt e (term_lexemes true e ++ rest) rest)

compound : (e : Tm) (ls : List Lexeme) → term_lexemes true e ≡ closed true ls → ls ≡ term_lexemes false e → ((rest : List Lexeme) → TermAt e (ls ++ rest) rest) → TermBack e
compound e ls f g whole = (
  (λ rest. subst (λ (z : List Lexeme). TermAt e (z ++ rest) rest) g (whole rest)),
  λ rest. subst (λ (z : List Lexeme). SimpleAt e (z ++ rest) rest) (sym f)
      (bracketed_term _ _ (refl, refl) (moved (λ (z : List Lexeme). TermAt e z (sign the.Close ∷ rest)) ls (sign the.Close ∷ []) rest (whole (sign the.Close ∷ rest))) (refl, refl)),
)

simple_like : (e : Tm) (ls : List Lexeme) → term_lexemes true e ≡ ls → term_lexemes false e ≡ ls → ((rest : List Lexeme) → SimpleAt e (ls ++ rest) rest) → TermBack e
simple_like e ls f g whole = (
  (λ rest. subst (λ (z : List Lexeme). TermAt e (z ++ rest) rest) (sym g) (application (head_alone (whole rest)))),
  λ rest. subst (λ (z : List Lexeme). SimpleAt e (z ++ rest) rest) (sym f) (whole rest),
)

names_back : {ws : List Word} {a b : List Lexeme} → NamesAt ws a b → (rest : List Lexeme) → NamesAt ws (lowers ws ++ rest) rest
names_back no_name rest = no_name
names_back (name {w = w} b h more) rest = name _ (lower_read w _) (names_back more rest)

pattern_back : {q : Pattern} {a b : List Lexeme} → PatternAt q a b → (rest : List Lexeme) → PatternAt q (pattern_lexemes q ++ rest) rest
pattern_back (constructor_pattern {w = w} b h names) rest = constructor_pattern _ (upper_read w _) (names_back names rest)
pattern_back (literal_pattern {w = w} h) rest = literal_pattern (refl, refl, refl)

mutual
  pub term_back : {e : Tm} {a b : List Lexeme} → TermAt e a b → TermBack e
  term_back (lambda {w = w} {t = t} {e = e} b c d f g h1 h2 h3 ty h5 body) = compound _ _ refl refl (λ rest.
      lambda _ _ _ _ _ (refl, (refl, refl)) (lower_read w _) (refl, refl)
      (moved (λ (z : List Lexeme). TypeAt t z (sign the.Close ∷ sign the.Dot ∷ (term_lexemes false e ++ rest))) (type_lexemes alone t) (sign the.Close ∷ sign the.Dot ∷ term_lexemes false e) rest (type_back ty alone _))
      (refl, (refl, refl)) ((term_back body).0 rest))
  term_back (type_lambda {w = w} {k = k} {e = e} b c d f g h1 h2 h3 h4 h5 body) = compound _ _ refl refl (λ rest.
      type_lambda _ _ _ _ _ (refl, (refl, refl)) (lower_read w _) (refl, refl) (kind_read k _) (refl, (refl, refl)) ((term_back body).0 rest))
  term_back (letrec bs {e = e} b c d h1 more h2 body) = compound _ _ refl refl (λ rest.
      letrec bs _ _ _ (refl, (refl, refl))
      (moved (λ (z : List Lexeme). BindingsAt bs z (sign the.CloseBrace ∷ sign the.In ∷ (term_lexemes false e ++ rest))) (bindings_lexemes (bindings_of bs)) (sign the.CloseBrace ∷ sign the.In ∷ term_lexemes false e) rest (bindings_back more _))
      (refl, (refl, refl)) ((term_back body).0 rest))
  term_back (case_of {e = e} alts b c d f h1 on h2 more h3) = compound _ _ refl refl (λ rest.
      case_of alts _ _ _ _ (refl, refl)
      (moved (λ (z : List Lexeme). TermAt e z (sign the.Of ∷ sign the.OpenBrace ∷ ((alternatives_lexemes (alternatives_of alts) ++ sign the.CloseBrace ∷ []) ++ rest))) (term_lexemes false e) (sign the.Of ∷ sign the.OpenBrace ∷ (alternatives_lexemes (alternatives_of alts) ++ sign the.CloseBrace ∷ [])) rest ((term_back on).0 _))
      (refl, (refl, refl))
      (moved (λ (z : List Lexeme). AlternativesAt alts z (sign the.CloseBrace ∷ rest)) (alternatives_lexemes (alternatives_of alts)) (sign the.CloseBrace ∷ []) rest (alternatives_back more _))
      (refl, refl))
  term_back (application d) = application_back d

  pub bindings_back : {bs : List Binding} {a b : List Lexeme} → BindingsAt bs a b → (rest : List Lexeme) → BindingsAt bs (bindings_lexemes (bindings_of bs) ++ rest) rest
  bindings_back no_binding rest = no_binding
  bindings_back (binding {w = w} {t = t} {e = e} {bs = bs} b c d f g h h1 h2 ty h3 body h4 more) rest =
      binding _ _ _ _ _ _ (lower_read w _) (refl, refl)
      (moved (λ (z : List Lexeme). TypeAt t z (sign the.Equals ∷ ((term_lexemes false e ++ sign the.Semicolon ∷ bindings_lexemes (bindings_of bs)) ++ rest))) (type_lexemes alone t) (sign the.Equals ∷ (term_lexemes false e ++ sign the.Semicolon ∷ bindings_lexemes (bindings_of bs))) rest (type_back ty alone _))
      (refl, refl)
      (moved (λ (z : List Lexeme). TermAt e z (sign the.Semicolon ∷ (bindings_lexemes (bindings_of bs) ++ rest))) (term_lexemes false e) (sign the.Semicolon ∷ bindings_lexemes (bindings_of bs)) rest ((term_back body).0 _))
      (refl, refl) (bindings_back more rest)

  pub alternatives_back : {alts : List Alternative} {a b : List Lexeme} → AlternativesAt alts a b → (rest : List Lexeme)
      → AlternativesAt alts (alternatives_lexemes (alternatives_of alts) ++ rest) rest
  alternatives_back no_alternative rest = no_alternative
  alternatives_back (alternative {q = q} {e = e} {alts = alts} b c d f p h2 body h3 more) rest =
      alternative _ _ _ _
      (moved (λ (z : List Lexeme). PatternAt q z (sign the.Arrow ∷ ((term_lexemes false e ++ sign the.Semicolon ∷ alternatives_lexemes (alternatives_of alts)) ++ rest))) (pattern_lexemes q) (sign the.Arrow ∷ (term_lexemes false e ++ sign the.Semicolon ∷ alternatives_lexemes (alternatives_of alts))) rest (pattern_back p _))
      (refl, refl)
      (moved (λ (z : List Lexeme). TermAt e z (sign the.Semicolon ∷ (alternatives_lexemes (alternatives_of alts) ++ rest))) (term_lexemes false e) (sign the.Semicolon ∷ alternatives_lexemes (alternatives_of alts)) rest ((term_back body).0 _))
      (refl, refl) (alternatives_back more rest)
  alternatives_back (default {e = e} b c h1 body h2) rest =
      default _ _ (refl, (refl, refl))
      (moved (λ (z : List Lexeme). TermAt e z (sign the.Semicolon ∷ rest)) (term_lexemes false e) (sign the.Semicolon ∷ []) rest ((term_back body).0 _))
      (refl, refl)

  pub application_back : {e : Tm} {a b : List Lexeme} → ApplicationAt e a b → TermBack e
  application_back (head_alone d) = simple_back d
  application_back (applied {e = e} x args b c d p more) = compound _ _ refl refl (λ rest.
      application (applied x args _ _
      (moved (λ (z : List Lexeme). SimpleAt e z (arguments_lexemes (before x (arguments_of args)) ++ rest)) (term_lexemes true e) (arguments_lexemes (before x (arguments_of args))) rest ((simple_back d).1 _))
      (argument_back p (arguments_of args) rest) (arguments_back more rest)))

  pub arguments_back : {args : List Argument} {a b : List Lexeme} → ArgumentsAt args a b → (rest : List Lexeme)
      → ArgumentsAt args (arguments_lexemes (arguments_of args) ++ rest) rest
  arguments_back no_argument rest = no_argument
  arguments_back (argument {args = args} b p more) rest = argument _ (argument_back p (arguments_of args) rest) (arguments_back more rest)

  pub argument_back : {x : Argument} {a b : List Lexeme} → ArgumentAt x a b → (more : Arguments) (rest : List Lexeme)
      → ArgumentAt x (arguments_lexemes (before x more) ++ rest) (arguments_lexemes more ++ rest)
  argument_back (term_argument {e = e} d) more rest =
      term_argument (moved (λ (z : List Lexeme). SimpleAt e z (arguments_lexemes more ++ rest)) (term_lexemes true e) (arguments_lexemes more) rest ((simple_back d).1 _))
  argument_back (type_argument {t = t} b h d) more rest =
      type_argument _ (refl, refl) (moved (λ (z : List Lexeme). AtomAt t z (arguments_lexemes more ++ rest)) (type_lexemes simple t) (arguments_lexemes more) rest (atom_back d simple _))

  pub simple_back : {e : Tm} {a b : List Lexeme} → SimpleAt e a b → TermBack e
  simple_back (name_term {w = w} h) = simple_like _ _ refl refl (λ rest. name_term (lower_read w rest))
  simple_back (constructor_term {w = w} h) = simple_like _ _ refl refl (λ rest. constructor_term (upper_read w rest))
  simple_back (literal_term {w = w} h) = simple_like _ _ refl refl (λ rest. literal_term (refl, refl, refl))
  simple_back (vec_term {t = t} es b c d f h1 ty h2 more h3) = simple_like _ _ refl refl (λ rest.
      vec_term es _ _ _ _ (refl, (refl, refl))
      (moved (λ (z : List Lexeme). AtomAt t z (sign the.OpenBracket ∷ ((elements_lexemes (terms_of es) ++ sign the.CloseBracket ∷ []) ++ rest))) (type_lexemes simple t) (sign the.OpenBracket ∷ (elements_lexemes (terms_of es) ++ sign the.CloseBracket ∷ [])) rest (atom_back ty simple _))
      (refl, refl)
      (moved (λ (z : List Lexeme). ElementsAt es z (sign the.CloseBracket ∷ rest)) (elements_lexemes (terms_of es)) (sign the.CloseBracket ∷ []) rest (elements_back more _))
      (refl, refl))
  simple_back (bracketed_term b c h d i) = term_back d

  pub elements_back : {es : List Tm} {a b : List Lexeme} → ElementsAt es a b → (rest : List Lexeme) → ElementsAt es (elements_lexemes (terms_of es) ++ rest) rest
  elements_back no_element rest = no_element
  elements_back (elements {e = e} {es = es} b d more) rest =
      elements _ (moved (λ (z : List Lexeme). TermAt e z (more_elements_lexemes (terms_of es) ++ rest)) (term_lexemes false e) (more_elements_lexemes (terms_of es)) rest ((term_back d).0 _))
      (more_elements_back more rest)

  pub more_elements_back : {es : List Tm} {a b : List Lexeme} → MoreElementsAt es a b → (rest : List Lexeme)
      → MoreElementsAt es (more_elements_lexemes (terms_of es) ++ rest) rest
  more_elements_back no_more_element rest = no_more_element
  more_elements_back (element {e = e} {es = es} b c h d more) rest =
      element _ _ (refl, refl) (moved (λ (z : List Lexeme). TermAt e z (more_elements_lexemes (terms_of es) ++ rest)) (term_lexemes false e) (more_elements_lexemes (terms_of es)) rest ((term_back d).0 _))
      (more_elements_back more rest)
