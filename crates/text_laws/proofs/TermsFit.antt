-- The canonical tokens of a term that was read open fewer brackets at once than it is high, or as many where it stands in parentheses.
use Rattle.std.specs.Prelude.{◌≡◌, ℕ, zero, suc, ◌≤◌, ◌<◌, Bool, true, false, List, [], ◌∷◌, ◌++◌, refl}
use Rattle.std.proofs.Common.{sym, subst, arith}
use Rattle.chw_lexer.specs.declared.token.Sort.TheVariants as sort
use Rattle.chw_grammar.specs.declared.stand.Stand.TheVariants.{Alone, Simple}
use Rattle.chw_grammar.specs.declared.terminal.Terminal.TheVariants as the
use Rattle.chw_grammar.specs.declared.type_tree.KindTree.{KindTree}
use Rattle.chw_grammar.specs.declared.word.Word.{Word}
use Rattle.chw_grammar.specs.declared.term_tree.Pattern.{Pattern}
use Rattle.chw_grammar.specs.declared.term_tree.Pattern.TheVariants as pattern
use Rattle.chw_grammar.specs.declared.term_tree.Binding.{Binding}
use Rattle.chw_grammar.specs.declared.term_tree.Alternative.{Alternative}
use Rattle.chw_grammar.specs.declared.term_tree.Argument.{Argument}
use Rattle.chw_grammar.specs.declared.term_tree.Argument.TheVariants.{OfTerm, OfType}
use Rattle.chw_grammar.specs.Lexemes.{Lexeme}
use Rattle.chw_grammar.specs.Grammar.{TermAt, lambda, type_lambda, letrec, case_of, application, BindingsAt, no_binding, binding, AlternativesAt, no_alternative, alternative, default, ApplicationAt, head_alone, applied, ArgumentsAt, no_argument, argument, ArgumentAt, term_argument, type_argument, SimpleAt, name_term, constructor_term, literal_term, vec_term, bracketed_term, ElementsAt, no_element, elements, MoreElementsAt, no_more_element, element}
use Rattle.chw_grammar.specs.Height.{term_height, terms_height, bindings_height, alternatives_height, arguments_height}
use Rattle.chw_grammar.specs.TypeTree.{Ty}
use Rattle.chw_grammar.specs.TermTree.{Tm, term_lambda, term_type_lambda, term_letrec, term_case, term_apply, term_name, term_constructor, term_literal, term_vec, Bindings, Alternatives, Tms, Arguments}
use Rattle.chw_grammar.specs.TermView.{terms_of, bindings_of, alternatives_of, before, arguments_of}
use Rattle.chw_grammar.specs.Text.{as_token, lower, upper, kind, sign, closed, lowers, type_lexemes, pattern_lexemes, term_lexemes, bindings_lexemes, alternatives_lexemes, arguments_lexemes, elements_lexemes, more_elements_lexemes}
use Rattle.text_laws.proofs.Fits.{Fits, fits_nothing, fits_append, fits_plain, fits_brackets, fits_closed, kind_plain, upper_plain}
use Rattle.text_laws.proofs.TypesFit.{TypeFits, fits_kinded, type_fits, atom_fits}

-- by itself, and inside an application
pub record TermFits (e : Tm) : Type 0 where
  pub alone : (k : ℕ) → term_height e ≤ suc k → Fits k (term_lexemes false e)
  pub there : (p : Bool) (k : ℕ) → term_height e ≤ k → Fits k (term_lexemes p e)

-- a term that is in parentheses inside an application
both : (e : Tm) (ls : List Lexeme) → ((p : Bool) → term_lexemes p e ≡ closed p ls) → 0 < term_height e → ((k : ℕ) → term_height e ≤ suc k → Fits k ls) → TermFits e
both e ls is some inner = record {
  alone = λ k low. subst (λ (z : List Lexeme). Fits k z) (sym (is false)) (inner k low);
  there = λ p k low. subst (λ (z : List Lexeme). Fits k z) (sym (is p)) (fits_closed p (term_height e) ls some inner k low);
}

-- a term that never is
never : (e : Tm) (ls : List Lexeme) → ((p : Bool) → term_lexemes p e ≡ ls) → ((k : ℕ) → term_height e ≤ suc k → Fits k ls) → TermFits e
never e ls is inner = record {
  alone = λ k low. subst (λ (z : List Lexeme). Fits k z) (sym (is false)) (inner k low);
  there = λ p k low. subst (λ (z : List Lexeme). Fits k z) (sym (is p)) (inner k (omega (arith, low)));
}

term_some : (e : Tm) → 0 < term_height e
term_some (term_lambda w t e) = omega arith
term_some (term_type_lambda w k e) = omega arith
term_some (term_letrec bs e) = omega arith
term_some (term_case e alts) = omega arith
term_some (term_apply e args) = omega arith
term_some (term_name w) = omega arith
term_some (term_constructor w) = omega arith
term_some (term_literal w) = omega arith
term_some (term_vec t es) = omega arith

-- the parts of an application are lower than it by one or more
low_parts : (x : Argument) (more : Arguments) (e : Tm) (k : ℕ) → term_height (term_apply e (before x more)) ≤ suc k → (term_height e ≤ k) × (arguments_height (before x more) ≤ k)
low_parts (OfTerm a) more e k low = (omega (arith, low), omega (arith, low))
low_parts (OfType t) more e k low = (omega (arith, low), omega (arith, low))

names_fit : (k : ℕ) (ws : List Word) → Fits k (lowers ws)
names_fit k [] = fits_nothing k
names_fit k (w ∷ ws) = fits_plain k (lower w) (lowers ws) (λ n. refl) (names_fit k ws)

pattern_fits : (k : ℕ) (q : Pattern) → Fits k (pattern_lexemes q)
pattern_fits k (pattern.Constructor w ws) = fits_plain k (upper w) (lowers ws) (upper_plain w) (names_fit k ws)
pattern_fits k (pattern.Literal w) = fits_plain k (as_token sort.Literal w) [] (λ n. refl) (fits_nothing k)
pattern_fits k pattern.Default = fits_plain k (sign the.Underscore) [] (λ n. refl) (fits_nothing k)

lambda_fits : (w : Word) (t : Ty) (e : Tm) → TypeFits t → TermFits e → (k : ℕ) → term_height (term_lambda w t e) ≤ suc k
    → Fits k (sign the.Lambda ∷ sign the.Open ∷ lower w ∷ sign the.Colon ∷ (type_lexemes Alone t ++ sign the.Close ∷ sign the.Dot ∷ term_lexemes false e))
lambda_fits w t e of inner zero low = absurd (omega (arith, low, of.some))
lambda_fits w t e of inner (suc k) low =
    fits_plain (suc k) (sign the.Lambda) (sign the.Open ∷ ((lower w ∷ sign the.Colon ∷ type_lexemes Alone t) ++ sign the.Close ∷ (sign the.Dot ∷ term_lexemes false e))) (λ n. refl)
    (fits_brackets k (sign the.Open) (sign the.Close) (lower w ∷ sign the.Colon ∷ type_lexemes Alone t) (sign the.Dot ∷ term_lexemes false e) (λ n. refl) (λ n. omega arith)
    (fits_plain k (lower w) (sign the.Colon ∷ type_lexemes Alone t) (λ n. refl) (fits_plain k (sign the.Colon) (type_lexemes Alone t) (λ n. refl) (of.alone k (omega (arith, low)))))
    (fits_plain (suc k) (sign the.Dot) (term_lexemes false e) (λ n. refl) (inner.alone (suc k) (omega (arith, low)))))

type_lambda_fits : (w : Word) (kd : KindTree) (e : Tm) → TermFits e → (k : ℕ) → term_height (term_type_lambda w kd e) ≤ suc k
    → Fits k (sign the.TypeLambda ∷ sign the.Open ∷ lower w ∷ sign the.Colon ∷ kind kd ∷ sign the.Close ∷ sign the.Dot ∷ term_lexemes false e)
type_lambda_fits w kd e inner zero low = absurd (omega (arith, low))
type_lambda_fits w kd e inner (suc k) low =
    fits_plain (suc k) (sign the.TypeLambda) (sign the.Open ∷ lower w ∷ sign the.Colon ∷ kind kd ∷ sign the.Close ∷ sign the.Dot ∷ term_lexemes false e) (λ n. refl)
    (fits_kinded k w (kind kd) (term_lexemes false e) (fits_plain zero (kind kd) [] (kind_plain kd) (fits_nothing zero)) (inner.alone (suc k) (omega (arith, low))))

letrec_fits : (bs : Bindings) (e : Tm) → ((k : ℕ) → bindings_height bs ≤ suc k → Fits k (bindings_lexemes bs)) → TermFits e → (k : ℕ) → term_height (term_letrec bs e) ≤ suc k
    → Fits k (sign the.Letrec ∷ sign the.OpenBrace ∷ (bindings_lexemes bs ++ sign the.CloseBrace ∷ sign the.In ∷ term_lexemes false e))
letrec_fits bs e bound inner zero low = absurd (omega (arith, low, term_some e))
letrec_fits bs e bound inner (suc k) low =
    fits_plain (suc k) (sign the.Letrec) (sign the.OpenBrace ∷ (bindings_lexemes bs ++ sign the.CloseBrace ∷ sign the.In ∷ term_lexemes false e)) (λ n. refl)
    (fits_brackets k (sign the.OpenBrace) (sign the.CloseBrace) (bindings_lexemes bs) (sign the.In ∷ term_lexemes false e) (λ n. refl) (λ n. omega arith)
    (bound k (omega (arith, low))) (fits_plain (suc k) (sign the.In) (term_lexemes false e) (λ n. refl) (inner.alone (suc k) (omega (arith, low)))))

case_fits : (e : Tm) (alts : Alternatives) → TermFits e → ((k : ℕ) → alternatives_height alts ≤ suc k → Fits k (alternatives_lexemes alts)) → (k : ℕ) → term_height (term_case e alts) ≤ suc k
    → Fits k (sign the.Case ∷ (term_lexemes false e ++ sign the.Of ∷ sign the.OpenBrace ∷ (alternatives_lexemes alts ++ sign the.CloseBrace ∷ [])))
case_fits e alts on rest zero low = absurd (omega (arith, low, term_some e))
case_fits e alts on rest (suc k) low =
    fits_plain (suc k) (sign the.Case) (term_lexemes false e ++ sign the.Of ∷ sign the.OpenBrace ∷ (alternatives_lexemes alts ++ sign the.CloseBrace ∷ [])) (λ n. refl)
    (fits_append (suc k) (term_lexemes false e) (sign the.Of ∷ sign the.OpenBrace ∷ (alternatives_lexemes alts ++ sign the.CloseBrace ∷ [])) (on.alone (suc k) (omega (arith, low)))
    (fits_plain (suc k) (sign the.Of) (sign the.OpenBrace ∷ (alternatives_lexemes alts ++ sign the.CloseBrace ∷ [])) (λ n. refl)
    (fits_brackets k (sign the.OpenBrace) (sign the.CloseBrace) (alternatives_lexemes alts) [] (λ n. refl) (λ n. omega arith) (rest k (omega (arith, low))) (fits_nothing (suc k)))))

vec_fits : (t : Ty) (es : Tms) → TypeFits t → ((k : ℕ) → terms_height es ≤ suc k → Fits k (elements_lexemes es)) → (k : ℕ) → term_height (term_vec t es) ≤ suc k
    → Fits k (sign the.Vec ∷ sign the.At ∷ (type_lexemes Simple t ++ sign the.OpenBracket ∷ (elements_lexemes es ++ sign the.CloseBracket ∷ [])))
vec_fits t es of rest zero low = absurd (omega (arith, low, of.some))
vec_fits t es of rest (suc k) low =
    fits_plain (suc k) (sign the.Vec) (sign the.At ∷ (type_lexemes Simple t ++ sign the.OpenBracket ∷ (elements_lexemes es ++ sign the.CloseBracket ∷ []))) (λ n. refl)
    (fits_plain (suc k) (sign the.At) (type_lexemes Simple t ++ sign the.OpenBracket ∷ (elements_lexemes es ++ sign the.CloseBracket ∷ [])) (λ n. refl)
    (fits_append (suc k) (type_lexemes Simple t) (sign the.OpenBracket ∷ (elements_lexemes es ++ sign the.CloseBracket ∷ [])) (of.there Simple (suc k) (omega (arith, low)))
    (fits_brackets k (sign the.OpenBracket) (sign the.CloseBracket) (elements_lexemes es) [] (λ n. refl) (λ n. omega arith) (rest k (omega (arith, low))) (fits_nothing (suc k)))))

mutual
  pub term_fits : {e : Tm} {a b : List Lexeme} → TermAt e a b → TermFits e
  term_fits (lambda {w = w} {t = t} {e = e} b c d f g h1 h2 h3 ty h5 body) =
      both (term_lambda w t e) (sign the.Lambda ∷ sign the.Open ∷ lower w ∷ sign the.Colon ∷ (type_lexemes Alone t ++ sign the.Close ∷ sign the.Dot ∷ term_lexemes false e)) (λ p. refl) (omega arith)
      (lambda_fits w t e (type_fits ty) (term_fits body))
  term_fits (type_lambda {w = w} {k = kd} {e = e} b c d f g h1 h2 h3 h4 h5 body) =
      both (term_type_lambda w kd e) (sign the.TypeLambda ∷ sign the.Open ∷ lower w ∷ sign the.Colon ∷ kind kd ∷ sign the.Close ∷ sign the.Dot ∷ term_lexemes false e) (λ p. refl) (omega arith)
      (type_lambda_fits w kd e (term_fits body))
  term_fits (letrec bs {e = e} b c d h1 more h2 body) =
      both (term_letrec (bindings_of bs) e) (sign the.Letrec ∷ sign the.OpenBrace ∷ (bindings_lexemes (bindings_of bs) ++ sign the.CloseBrace ∷ sign the.In ∷ term_lexemes false e)) (λ p. refl) (omega arith)
      (letrec_fits (bindings_of bs) e (bindings_fit more) (term_fits body))
  term_fits (case_of {e = e} alts b c d f h1 on h2 more h3) =
      both (term_case e (alternatives_of alts)) (sign the.Case ∷ (term_lexemes false e ++ sign the.Of ∷ sign the.OpenBrace ∷ (alternatives_lexemes (alternatives_of alts) ++ sign the.CloseBrace ∷ []))) (λ p. refl) (omega arith)
      (case_fits e (alternatives_of alts) (term_fits on) (alternatives_fit more))
  term_fits (application d) = application_fits d

  bindings_fit : {bs : List Binding} {a b : List Lexeme} → BindingsAt bs a b → (k : ℕ) → bindings_height (bindings_of bs) ≤ suc k → Fits k (bindings_lexemes (bindings_of bs))
  bindings_fit no_binding = λ k low. fits_nothing k
  bindings_fit (binding {w = w} {t = t} {e = e} {bs = bs} b c d f g h h1 h2 ty h3 body h4 more) = λ k low.
      let of = type_fits ty in
      let inner = term_fits body in
      let rest = bindings_fit more in
      fits_plain k (lower w) (sign the.Colon ∷ (type_lexemes Alone t ++ sign the.Equals ∷ (term_lexemes false e ++ sign the.Semicolon ∷ bindings_lexemes (bindings_of bs)))) (λ n. refl)
      (fits_plain k (sign the.Colon) (type_lexemes Alone t ++ sign the.Equals ∷ (term_lexemes false e ++ sign the.Semicolon ∷ bindings_lexemes (bindings_of bs))) (λ n. refl)
      (fits_append k (type_lexemes Alone t) (sign the.Equals ∷ (term_lexemes false e ++ sign the.Semicolon ∷ bindings_lexemes (bindings_of bs))) (of.alone k (omega (arith, low)))
      (fits_plain k (sign the.Equals) (term_lexemes false e ++ sign the.Semicolon ∷ bindings_lexemes (bindings_of bs)) (λ n. refl)
      (fits_append k (term_lexemes false e) (sign the.Semicolon ∷ bindings_lexemes (bindings_of bs)) (inner.alone k (omega (arith, low)))
      (fits_plain k (sign the.Semicolon) (bindings_lexemes (bindings_of bs)) (λ n. refl) (rest k (omega (arith, low))))))))

  alternatives_fit : {alts : List Alternative} {a b : List Lexeme} → AlternativesAt alts a b → (k : ℕ) → alternatives_height (alternatives_of alts) ≤ suc k → Fits k (alternatives_lexemes (alternatives_of alts))
  alternatives_fit no_alternative = λ k low. fits_nothing k
  alternatives_fit (alternative {q = q} {e = e} {alts = alts} b c d f h1 h2 body h3 more) = λ k low.
      let inner = term_fits body in
      let rest = alternatives_fit more in
      fits_append k (pattern_lexemes q) (sign the.Arrow ∷ (term_lexemes false e ++ sign the.Semicolon ∷ alternatives_lexemes (alternatives_of alts))) (pattern_fits k q)
      (fits_plain k (sign the.Arrow) (term_lexemes false e ++ sign the.Semicolon ∷ alternatives_lexemes (alternatives_of alts)) (λ n. refl)
      (fits_append k (term_lexemes false e) (sign the.Semicolon ∷ alternatives_lexemes (alternatives_of alts)) (inner.alone k (omega (arith, low)))
      (fits_plain k (sign the.Semicolon) (alternatives_lexemes (alternatives_of alts)) (λ n. refl) (rest k (omega (arith, low))))))
  alternatives_fit (default {e = e} b c h1 body h2) = λ k low.
      let inner = term_fits body in
      fits_plain k (sign the.Underscore) (sign the.Arrow ∷ (term_lexemes false e ++ sign the.Semicolon ∷ [])) (λ n. refl)
      (fits_plain k (sign the.Arrow) (term_lexemes false e ++ sign the.Semicolon ∷ []) (λ n. refl)
      (fits_append k (term_lexemes false e) (sign the.Semicolon ∷ []) (inner.alone k (omega (arith, low)))
      (fits_plain k (sign the.Semicolon) [] (λ n. refl) (fits_nothing k))))

  application_fits : {e : Tm} {a b : List Lexeme} → ApplicationAt e a b → TermFits e
  application_fits (head_alone d) = simple_fits d
  application_fits (applied {e = e} x args b c d p more) =
      let head = simple_fits d in
      both (term_apply e (arguments_of (x ∷ args))) (term_lexemes true e ++ arguments_lexemes (arguments_of (x ∷ args))) (λ q. refl) (omega arith)
      (λ k low. fits_append k (term_lexemes true e) (arguments_lexemes (arguments_of (x ∷ args))) (head.there true k (low_parts x (arguments_of args) e k low).0)
      (argument_fits p k (arguments_of args) (low_parts x (arguments_of args) e k low).1 (λ low'. arguments_fit more k low')))

  arguments_fit : {args : List Argument} {a b : List Lexeme} → ArgumentsAt args a b → (k : ℕ) → arguments_height (arguments_of args) ≤ k → Fits k (arguments_lexemes (arguments_of args))
  arguments_fit no_argument = λ k low. fits_nothing k
  arguments_fit (argument {args = args} b p more) = λ k low. argument_fits p k (arguments_of args) low (λ low'. arguments_fit more k low')

  argument_fits : {x : Argument} {a b : List Lexeme} → ArgumentAt x a b → (k : ℕ) (more : Arguments) → arguments_height (before x more) ≤ k
      → (arguments_height more ≤ k → Fits k (arguments_lexemes more)) → Fits k (arguments_lexemes (before x more))
  argument_fits (term_argument {e = e} d) = λ k more low rest.
      let one = simple_fits d in
      fits_append k (term_lexemes true e) (arguments_lexemes more) (one.there true k (omega (arith, low))) (rest (omega (arith, low)))
  argument_fits (type_argument {t = t} b h d) = λ k more low rest.
      let one = atom_fits d in
      fits_plain k (sign the.At) (type_lexemes Simple t ++ arguments_lexemes more) (λ n. refl)
      (fits_append k (type_lexemes Simple t) (arguments_lexemes more) (one.there Simple k (omega (arith, low))) (rest (omega (arith, low))))

  simple_fits : {e : Tm} {a b : List Lexeme} → SimpleAt e a b → TermFits e
  simple_fits (name_term {w = w} h) = never (term_name w) (lower w ∷ []) (λ p. refl) (λ k low. fits_plain k (lower w) [] (λ n. refl) (fits_nothing k))
  simple_fits (constructor_term {w = w} h) = never (term_constructor w) (upper w ∷ []) (λ p. refl) (λ k low. fits_plain k (upper w) [] (upper_plain w) (fits_nothing k))
  simple_fits (literal_term {w = w} h) = never (term_literal w) (as_token sort.Literal w ∷ []) (λ p. refl) (λ k low. fits_plain k (as_token sort.Literal w) [] (λ n. refl) (fits_nothing k))
  simple_fits (vec_term {t = t} es b c d f h1 ty h2 more h3) =
      never (term_vec t (terms_of es)) (sign the.Vec ∷ sign the.At ∷ (type_lexemes Simple t ++ sign the.OpenBracket ∷ (elements_lexemes (terms_of es) ++ sign the.CloseBracket ∷ []))) (λ p. refl)
      (vec_fits t (terms_of es) (atom_fits ty) (elements_fit more))
  simple_fits (bracketed_term b c h1 inner h2) = term_fits inner

  elements_fit : {es : List Tm} {a b : List Lexeme} → ElementsAt es a b → (k : ℕ) → terms_height (terms_of es) ≤ suc k → Fits k (elements_lexemes (terms_of es))
  elements_fit no_element = λ k low. fits_nothing k
  elements_fit (elements {e = e} {es = es} b d more) = λ k low.
      let one = term_fits d in
      let rest = more_elements_fit more in
      fits_append k (term_lexemes false e) (more_elements_lexemes (terms_of es)) (one.alone k (omega (arith, low))) (rest k (omega (arith, low)))

  more_elements_fit : {es : List Tm} {a b : List Lexeme} → MoreElementsAt es a b → (k : ℕ) → terms_height (terms_of es) ≤ suc k → Fits k (more_elements_lexemes (terms_of es))
  more_elements_fit no_more_element = λ k low. fits_nothing k
  more_elements_fit (element {e = e} {es = es} b c h1 d more) = λ k low.
      let one = term_fits d in
      let rest = more_elements_fit more in
      fits_plain k (sign the.Comma) (term_lexemes false e ++ more_elements_lexemes (terms_of es)) (λ n. refl)
      (fits_append k (term_lexemes false e) (more_elements_lexemes (terms_of es)) (one.alone k (omega (arith, low))) (rest k (omega (arith, low))))
