-- How the logic stores a term: as a tree of numbers, which gives it back.
use Rattle.std.specs.Prelude.{◌≡◌, ℕ, suc, zero, List, [], ◌∷◌, refl}
use Rattle.std.proofs.Common.{sym, ap, ◌∙◌}
use Rattle.std.specs.Coded.{Coded}
use base.Stored.{Gv, gnil, gnum, gcons}
use Rattle.chw_grammar.specs.declared.type_tree.KindTree.{KindTree}
use Rattle.chw_grammar.specs.declared.term_tree.Pattern.{Pattern}
use Rattle.chw_grammar.specs.declared.term_tree.Pattern.TheVariants.{Constructor, Literal, Default}
use Rattle.chw_grammar.specs.declared.word.Word.{Word}
use Rattle.chw_grammar.specs.TypeTree.{Ty}
use Rattle.chw_grammar.specs.TypeCode.{kind_number, kind_at, kind_same, num, word_code, word_back, word_same, node, type_code, type_back, type_same}
use Rattle.chw_grammar.specs.TermTree.{Tm, term_lambda, term_type_lambda, term_letrec, term_case, term_apply, term_name, term_constructor, term_literal, term_vec, Tms, no_terms, term_and, Bindings, no_bindings, binding_and, Alternatives, no_alternatives, alternative_and, Arguments, no_arguments, argument_and, type_argument_and}

abbrev pub words_code : List Word → Gv
words_code [] = gnil
words_code (w ∷ ws) = gcons (word_code w) (words_code ws)

abbrev pub words_back : Gv → List Word
words_back (gcons w ws) = word_back w ∷ words_back ws
words_back _ = []

pub words_same : (ws : List Word) → words_back (words_code ws) ≡ ws
words_same [] = refl
words_same (w ∷ ws) = λ i. word_same w i ∷ words_same ws i

abbrev pub pattern_code : Pattern → Gv
pattern_code (Constructor w ws) = gcons (gnum 0) (gcons (word_code w) (words_code ws))
pattern_code (Literal w) = gcons (gnum 1) (gcons (word_code w) gnil)
pattern_code Default = gnil

abbrev pub pattern_at : ℕ → Word → List Word → Pattern
pattern_at zero w ws = Constructor w ws
pattern_at (suc n) w ws = Literal w

abbrev pub pattern_back : Gv → Pattern
pattern_back (gcons n (gcons w ws)) = pattern_at (num n) (word_back w) (words_back ws)
pattern_back _ = Default

pub pattern_same : (q : Pattern) → pattern_back (pattern_code q) ≡ q
pattern_same (Constructor w ws) = λ i. Constructor (word_same w i) (words_same ws i)
pattern_same (Literal w) = λ i. Literal (word_same w i)
pattern_same Default = refl

abbrev mutual
  pub term_code : Tm → Gv
  term_code (term_lambda w t e) = node 0 (word_code w) (type_code t) (term_code e)
  term_code (term_type_lambda w k e) = node 1 (word_code w) (gnum (kind_number k)) (term_code e)
  term_code (term_letrec bs e) = node 2 gnil (bindings_code bs) (term_code e)
  term_code (term_case e alts) = node 3 gnil (alternatives_code alts) (term_code e)
  term_code (term_apply e args) = node 4 gnil (arguments_code args) (term_code e)
  term_code (term_name w) = node 5 (word_code w) gnil gnil
  term_code (term_constructor w) = node 6 (word_code w) gnil gnil
  term_code (term_literal w) = node 7 (word_code w) gnil gnil
  term_code (term_vec t es) = node 8 gnil (type_code t) (terms_code es)

  pub terms_code : Tms → Gv
  terms_code no_terms = gnil
  terms_code (term_and e es) = gcons (term_code e) (terms_code es)

  pub bindings_code : Bindings → Gv
  bindings_code no_bindings = gnil
  bindings_code (binding_and w t e bs) = gcons (word_code w) (gcons (type_code t) (gcons (term_code e) (bindings_code bs)))

  pub alternatives_code : Alternatives → Gv
  alternatives_code no_alternatives = gnil
  alternatives_code (alternative_and q e more) = gcons (pattern_code q) (gcons (term_code e) (alternatives_code more))

  pub arguments_code : Arguments → Gv
  arguments_code no_arguments = gnil
  arguments_code (argument_and e more) = gcons (gnum 0) (gcons (term_code e) (arguments_code more))
  arguments_code (type_argument_and t more) = gcons (gnum 1) (gcons (type_code t) (arguments_code more))

-- the term with this tag, of what its parts give
abbrev pub term_at : ℕ → Word → KindTree → Ty → Tm → Tms → Bindings → Alternatives → Arguments → Tm
term_at zero w k t e es bs alts args = term_lambda w t e
term_at (suc zero) w k t e es bs alts args = term_type_lambda w k e
term_at (suc (suc zero)) w k t e es bs alts args = term_letrec bs e
term_at (suc (suc (suc zero))) w k t e es bs alts args = term_case e alts
term_at (suc (suc (suc (suc zero)))) w k t e es bs alts args = term_apply e args
term_at (suc (suc (suc (suc (suc zero))))) w k t e es bs alts args = term_name w
term_at (suc (suc (suc (suc (suc (suc zero)))))) w k t e es bs alts args = term_constructor w
term_at (suc (suc (suc (suc (suc (suc (suc zero))))))) w k t e es bs alts args = term_literal w
term_at (suc (suc (suc (suc (suc (suc (suc (suc n)))))))) w k t e es bs alts args = term_vec t es

-- a term or a type before others, by its tag
abbrev pub argument_at : ℕ → Tm → Ty → Arguments → Arguments
argument_at zero e t more = argument_and e more
argument_at (suc n) e t more = type_argument_and t more

abbrev mutual
  pub term_back : Gv → Tm
  term_back (gcons n (gcons w (gcons a b))) = term_at (num n) (word_back w) (kind_at (num a)) (type_back a) (term_back b) (terms_back b) (bindings_back a) (alternatives_back a) (arguments_back a)
  term_back _ = term_name (record { at = 0; bytes = [] })

  pub terms_back : Gv → Tms
  terms_back (gcons e es) = term_and (term_back e) (terms_back es)
  terms_back _ = no_terms

  pub bindings_back : Gv → Bindings
  bindings_back (gcons w (gcons t (gcons e bs))) = binding_and (word_back w) (type_back t) (term_back e) (bindings_back bs)
  bindings_back _ = no_bindings

  pub alternatives_back : Gv → Alternatives
  alternatives_back (gcons q (gcons e more)) = alternative_and (pattern_back q) (term_back e) (alternatives_back more)
  alternatives_back _ = no_alternatives

  pub arguments_back : Gv → Arguments
  arguments_back (gcons n (gcons a more)) = argument_at (num n) (term_back a) (type_back a) (arguments_back more)
  arguments_back _ = no_arguments

mutual
  pub term_same : (e : Tm) → term_back (term_code e) ≡ e
  term_same (term_lambda w t e) = λ i. term_lambda (word_same w i) (type_same t i) (term_same e i)
  term_same (term_type_lambda w k e) = λ i. term_type_lambda (word_same w i) (kind_same k i) (term_same e i)
  term_same (term_letrec bs e) = λ i. term_letrec (bindings_same bs i) (term_same e i)
  term_same (term_case e alts) = λ i. term_case (term_same e i) (alternatives_same alts i)
  term_same (term_apply e args) = λ i. term_apply (term_same e i) (arguments_same args i)
  term_same (term_name w) = λ i. term_name (word_same w i)
  term_same (term_constructor w) = λ i. term_constructor (word_same w i)
  term_same (term_literal w) = λ i. term_literal (word_same w i)
  term_same (term_vec t es) = λ i. term_vec (type_same t i) (terms_same es i)

  pub terms_same : (es : Tms) → terms_back (terms_code es) ≡ es
  terms_same no_terms = refl
  terms_same (term_and e es) = λ i. term_and (term_same e i) (terms_same es i)

  pub bindings_same : (bs : Bindings) → bindings_back (bindings_code bs) ≡ bs
  bindings_same no_bindings = refl
  bindings_same (binding_and w t e bs) = λ i. binding_and (word_same w i) (type_same t i) (term_same e i) (bindings_same bs i)

  pub alternatives_same : (alts : Alternatives) → alternatives_back (alternatives_code alts) ≡ alts
  alternatives_same no_alternatives = refl
  alternatives_same (alternative_and q e more) = λ i. alternative_and (pattern_same q i) (term_same e i) (alternatives_same more i)

  pub arguments_same : (args : Arguments) → arguments_back (arguments_code args) ≡ args
  arguments_same no_arguments = refl
  arguments_same (argument_and e more) = λ i. argument_and (term_same e i) (arguments_same more i)
  arguments_same (type_argument_and t more) = λ i. type_argument_and (type_same t i) (arguments_same more i)

abbrev pub coded_term : Coded Tm
coded_term = record { code = term_code; inj = λ x y p. sym (term_same x) ∙ (ap term_back p ∙ term_same y) }
