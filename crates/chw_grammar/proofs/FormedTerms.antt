-- The canonical tokens of a term that was read from tokens with their forms have theirs.
use Rattle.std.specs.Prelude.{Bool, true, false, List, [], ◌∷◌, ◌++◌, refl}
use Rattle.chw_grammar.specs.declared.stand.Stand.TheVariants.{Alone, Simple}
use Rattle.chw_grammar.specs.declared.terminal.Terminal.TheVariants as the
use Rattle.chw_grammar.specs.declared.word.Word.{Word}
use Rattle.chw_grammar.specs.declared.term_tree.Pattern.{Pattern}
use Rattle.chw_grammar.specs.declared.term_tree.Binding.{Binding}
use Rattle.chw_grammar.specs.declared.term_tree.Alternative.{Alternative}
use Rattle.chw_grammar.specs.declared.term_tree.Argument.{Argument}
use Rattle.chw_grammar.specs.Lexemes.{Lexeme}
use Rattle.chw_grammar.specs.Grammar.{NamesAt, no_name, name, PatternAt, constructor_pattern, literal_pattern, TermAt, lambda, type_lambda, letrec, case_of, application, BindingsAt, no_binding, binding, AlternativesAt, no_alternative, alternative, default, ApplicationAt, head_alone, applied, ArgumentsAt, no_argument, argument, ArgumentAt, term_argument, type_argument, SimpleAt, name_term, constructor_term, literal_term, vec_term, bracketed_term, ElementsAt, no_element, elements, MoreElementsAt, no_more_element, element}
use Rattle.chw_grammar.specs.TermTree.{Tm, Arguments}
use Rattle.chw_grammar.specs.TermView.{terms_of, bindings_of, alternatives_of, before, arguments_of}
use Rattle.chw_grammar.specs.Text.{sign, lowers, type_lexemes, pattern_lexemes, term_lexemes, bindings_lexemes, alternatives_lexemes, arguments_lexemes, elements_lexemes, more_elements_lexemes}
use Rattle.chw_grammar.proofs.Formed.{Formed, formed_append, formed_closed, kind_formed, takes_formed, lower_formed, upper_formed, literal_formed}
use Rattle.chw_grammar.proofs.FormedTypes.{kind_at_formed, type_formed, atom_formed}

-- inside an application and by itself
abbrev pub TermFormed : Tm → Type 0
TermFormed e = (p : Bool) → Formed (term_lexemes p e)

names_formed : {ws : List Word} {a b : List Lexeme} → NamesAt ws a b → Formed a → Formed (lowers ws) × Formed b
names_formed no_name given = (tt, given)
names_formed (name {w = w} {a = a} b h more) given =
    let one = lower_formed w a b h given in let rest = names_formed more one.1 in ((one.0, rest.0), rest.1)

pattern_formed : {q : Pattern} {a b : List Lexeme} → PatternAt q a b → Formed a → Formed (pattern_lexemes q) × Formed b
pattern_formed (constructor_pattern {w = w} {a = a} b h names) given =
    let one = upper_formed w a b h given in let rest = names_formed names one.1 in ((one.0, rest.0), rest.1)
pattern_formed (literal_pattern {w = w} {a = a} {b = b} h) given =
    let one = literal_formed w a b h given in ((one.0, tt), one.1)

mutual
  pub term_formed : {e : Tm} {a b : List Lexeme} → TermAt e a b → Formed a → TermFormed e × Formed b
  term_formed (lambda {w = w} {t = t} {e = e} {a = a} b c d f g h1 h2 h3 ty h5 body) given =
      let one = lower_formed w b c h2 (takes_formed (the.Lambda ∷ the.Open ∷ []) a b h1 given) in
      let of = type_formed ty (takes_formed (the.Colon ∷ []) c d h3 one.1) in
      let inner = term_formed body (takes_formed (the.Close ∷ the.Dot ∷ []) f g h5 of.1) in
      ((λ p. formed_closed p _ (refl, (refl, (one.0, (refl, formed_append (type_lexemes Alone t) (sign the.Close ∷ sign the.Dot ∷ term_lexemes false e) (of.0 Alone) (refl, (refl, inner.0 false))))))), inner.1)
  term_formed (type_lambda {w = w} {k = k} {a = a} b c d f g h1 h2 h3 h4 h5 body) given =
      let one = lower_formed w b c h2 (takes_formed (the.TypeLambda ∷ the.Open ∷ []) a b h1 given) in
      let inner = term_formed body (takes_formed (the.Close ∷ the.Dot ∷ []) f g h5 (kind_at_formed k d f h4 (takes_formed (the.Colon ∷ []) c d h3 one.1))) in
      ((λ p. formed_closed p _ (refl, (refl, (one.0, (refl, (kind_formed k, (refl, (refl, inner.0 false)))))))), inner.1)
  term_formed (letrec bs {e = e} {a = a} b c d h1 more h2 body) given =
      let bound = bindings_formed more (takes_formed (the.Letrec ∷ the.OpenBrace ∷ []) a b h1 given) in
      let inner = term_formed body (takes_formed (the.CloseBrace ∷ the.In ∷ []) c d h2 bound.1) in
      ((λ p. formed_closed p _ (refl, (refl, formed_append (bindings_lexemes (bindings_of bs)) (sign the.CloseBrace ∷ sign the.In ∷ term_lexemes false e) bound.0 (refl, (refl, inner.0 false))))), inner.1)
  term_formed (case_of {e = e} alts {a = a} {g = g} b c d f h1 on h2 more h3) given =
      let scrutinee = term_formed on (takes_formed (the.Case ∷ []) a b h1 given) in
      let rest = alternatives_formed more (takes_formed (the.Of ∷ the.OpenBrace ∷ []) c d h2 scrutinee.1) in
      ((λ p. formed_closed p _ (refl, formed_append (term_lexemes false e) (sign the.Of ∷ sign the.OpenBrace ∷ (alternatives_lexemes (alternatives_of alts) ++ sign the.CloseBrace ∷ [])) (scrutinee.0 false) (refl, (refl, formed_append (alternatives_lexemes (alternatives_of alts)) (sign the.CloseBrace ∷ []) rest.0 (refl, tt))))), takes_formed (the.CloseBrace ∷ []) f g h3 rest.1)
  term_formed (application d) given = application_formed d given

  bindings_formed : {bs : List Binding} {a b : List Lexeme} → BindingsAt bs a b → Formed a → Formed (bindings_lexemes (bindings_of bs)) × Formed b
  bindings_formed no_binding given = (tt, given)
  bindings_formed (binding {w = w} {t = t} {e = e} {bs = bs} {a = a} b c d f g h h1 h2 ty h3 body h4 more) given =
      let one = lower_formed w a b h1 given in
      let of = type_formed ty (takes_formed (the.Colon ∷ []) b c h2 one.1) in
      let inner = term_formed body (takes_formed (the.Equals ∷ []) d f h3 of.1) in
      let rest = bindings_formed more (takes_formed (the.Semicolon ∷ []) g h h4 inner.1) in
      ((one.0, (refl, formed_append (type_lexemes Alone t) (sign the.Equals ∷ (term_lexemes false e ++ sign the.Semicolon ∷ bindings_lexemes (bindings_of bs))) (of.0 Alone) (refl, formed_append (term_lexemes false e) (sign the.Semicolon ∷ bindings_lexemes (bindings_of bs)) (inner.0 false) (refl, rest.0)))), rest.1)

  alternatives_formed : {alts : List Alternative} {a b : List Lexeme} → AlternativesAt alts a b → Formed a → Formed (alternatives_lexemes (alternatives_of alts)) × Formed b
  alternatives_formed no_alternative given = (tt, given)
  alternatives_formed (alternative {q = q} {e = e} {alts = alts} b c d f h1 h2 body h3 more) given =
      let on = pattern_formed h1 given in
      let inner = term_formed body (takes_formed (the.Arrow ∷ []) b c h2 on.1) in
      let rest = alternatives_formed more (takes_formed (the.Semicolon ∷ []) d f h3 inner.1) in
      (formed_append (pattern_lexemes q) (sign the.Arrow ∷ (term_lexemes false e ++ sign the.Semicolon ∷ alternatives_lexemes (alternatives_of alts))) on.0 (refl, formed_append (term_lexemes false e) (sign the.Semicolon ∷ alternatives_lexemes (alternatives_of alts)) (inner.0 false) (refl, rest.0)), rest.1)
  alternatives_formed (default {e = e} {a = a} {d = d} b c h1 body h2) given =
      let inner = term_formed body (takes_formed (the.Underscore ∷ the.Arrow ∷ []) a b h1 given) in
      ((refl, (refl, formed_append (term_lexemes false e) (sign the.Semicolon ∷ []) (inner.0 false) (refl, tt))), takes_formed (the.Semicolon ∷ []) c d h2 inner.1)

  application_formed : {e : Tm} {a b : List Lexeme} → ApplicationAt e a b → Formed a → TermFormed e × Formed b
  application_formed (head_alone d) given = simple_formed d given
  application_formed (applied {e = e} x args b c d p more) given =
      let head = simple_formed d given in
      let first = argument_formed p head.1 in
      let rest = arguments_formed more first.1 in
      ((λ q. formed_closed q _ (formed_append (term_lexemes true e) (arguments_lexemes (before x (arguments_of args))) (head.0 true) (first.0 (arguments_of args) rest.0))), rest.1)

  arguments_formed : {args : List Argument} {a b : List Lexeme} → ArgumentsAt args a b → Formed a → Formed (arguments_lexemes (arguments_of args)) × Formed b
  arguments_formed no_argument given = (tt, given)
  arguments_formed (argument {args = args} b p more) given =
      let first = argument_formed p given in
      let rest = arguments_formed more first.1 in
      (first.0 (arguments_of args) rest.0, rest.1)

  argument_formed : {x : Argument} {a b : List Lexeme} → ArgumentAt x a b → Formed a → ((more : Arguments) → Formed (arguments_lexemes more) → Formed (arguments_lexemes (before x more))) × Formed b
  argument_formed (term_argument {e = e} d) given =
      let one = simple_formed d given in ((λ more rest. formed_append (term_lexemes true e) (arguments_lexemes more) (one.0 true) rest), one.1)
  argument_formed (type_argument {t = t} {a = a} b h d) given =
      let one = atom_formed d (takes_formed (the.At ∷ []) a b h given) in ((λ more rest. (refl, formed_append (type_lexemes Simple t) (arguments_lexemes more) (one.0 Simple) rest)), one.1)

  simple_formed : {e : Tm} {a b : List Lexeme} → SimpleAt e a b → Formed a → TermFormed e × Formed b
  simple_formed (name_term {w = w} {a = a} {b = b} h) given = let one = lower_formed w a b h given in ((λ p. (one.0, tt)), one.1)
  simple_formed (constructor_term {w = w} {a = a} {b = b} h) given = let one = upper_formed w a b h given in ((λ p. (one.0, tt)), one.1)
  simple_formed (literal_term {w = w} {a = a} {b = b} h) given = let one = literal_formed w a b h given in ((λ p. (one.0, tt)), one.1)
  simple_formed (vec_term {t = t} es {a = a} {g = g} b c d f h1 ty h2 more h3) given =
      let of = atom_formed ty (takes_formed (the.Vec ∷ the.At ∷ []) a b h1 given) in
      let rest = elements_formed more (takes_formed (the.OpenBracket ∷ []) c d h2 of.1) in
      ((λ p. (refl, (refl, formed_append (type_lexemes Simple t) (sign the.OpenBracket ∷ (elements_lexemes (terms_of es) ++ sign the.CloseBracket ∷ [])) (of.0 Simple) (refl, formed_append (elements_lexemes (terms_of es)) (sign the.CloseBracket ∷ []) rest.0 (refl, tt))))), takes_formed (the.CloseBracket ∷ []) f g h3 rest.1)
  simple_formed (bracketed_term {a = a} {d = d} b c h1 inner h2) given =
      let one = term_formed inner (takes_formed (the.Open ∷ []) a b h1 given) in (one.0, takes_formed (the.Close ∷ []) c d h2 one.1)

  elements_formed : {es : List Tm} {a b : List Lexeme} → ElementsAt es a b → Formed a → Formed (elements_lexemes (terms_of es)) × Formed b
  elements_formed no_element given = (tt, given)
  elements_formed (elements {e = e} {es = es} b d more) given =
      let one = term_formed d given in
      let rest = more_elements_formed more one.1 in
      (formed_append (term_lexemes false e) (more_elements_lexemes (terms_of es)) (one.0 false) rest.0, rest.1)

  more_elements_formed : {es : List Tm} {a b : List Lexeme} → MoreElementsAt es a b → Formed a → Formed (more_elements_lexemes (terms_of es)) × Formed b
  more_elements_formed no_more_element given = (tt, given)
  more_elements_formed (element {e = e} {es = es} {a = a} b c h1 d more) given =
      let one = term_formed d (takes_formed (the.Comma ∷ []) a b h1 given) in
      let rest = more_elements_formed more one.1 in
      ((refl, formed_append (term_lexemes false e) (more_elements_lexemes (terms_of es)) (one.0 false) rest.0), rest.1)
