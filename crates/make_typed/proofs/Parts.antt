-- The places of words are no matter to the limits that a term passes and to what it becomes.
use Rattle.std.specs.Prelude.{◌≡◌, ℕ, suc, ◌||◌, ◌+◌, List, [], ◌∷◌, map, length, refl}
use Rattle.std.proofs.Common.{ap, ◌∙◌}
use Rattle.chw_grammar.specs.declared.term_tree.Pattern.{Pattern}
use Rattle.chw_grammar.specs.declared.term_tree.Pattern.TheVariants as pattern
use Rattle.chw_grammar.specs.declared.word.Word.{Word}
use Rattle.chw_grammar.specs.Places.{bare_word, bare_type, bare_types, bare_pattern, bare_term, bare_terms, bare_bindings, bare_alternatives, bare_arguments}
use Rattle.chw_grammar.specs.TypeTree.{Ty, type_forall, type_arrow, type_sum, type_product, type_named, type_variable, type_numeral, Tys}
use Rattle.chw_grammar.specs.TypeTree as written_type
use Rattle.chw_grammar.specs.TermTree.{Tm, term_lambda, term_type_lambda, term_letrec, term_case, term_apply, term_name, term_constructor, term_literal, term_vec, Tms, Bindings, binding_and, Alternatives, no_alternatives, alternative_and, Arguments, no_arguments, argument_and, type_argument_and}
use Rattle.chw_grammar.specs.TermTree as written
use Rattle.chw_limits.specs.Parts.{Tests, alternatives_have, arguments_have, bindings_have, pattern_has, term_has, terms_count, terms_have, type_has, types_have}
use Rattle.chw_names.specs.declared.globals.Globals.{Globals}
use Rattle.chw_names.specs.Twices.{binding_words, pattern_words}
use Rattle.chw_names.specs.Unknowns.{within}
use Rattle.chw_resolve.specs.Terms.{alternatives_in, arguments_in, group_in, pattern_in, term_in, terms_in}
use Rattle.chw_resolve.specs.Types.{kind_in, place_in}
use Rattle.chw_terms.specs.declared.term.Arg.TheVariants.{OfTerm, OfType}
use Rattle.chw_terms.specs.declared.term.Pattern.TheVariants.{OfCon}
use Rattle.chw_terms.specs.TermTree.{lam, ty_lam, letrec, vec_lit, case_of, term_and, bind, alt}
use Rattle.chw_terms.specs.TermView.{applied}
use Rattle.make_laws.proofs.Bare.{type_bare}
use Rattle.make_typed.proofs.Places.{bindings_within, pattern_within}

-- limits

mutual
  pub type_had : (tests : Tests) (t : Ty) → type_has tests (bare_type t) ≡ type_has tests t
  type_had tests (type_forall w k t) = type_had tests t
  type_had tests (type_arrow a b) = λ i. type_had tests a i || type_had tests b i
  type_had tests (type_sum ts) = types_had tests ts
  type_had tests (type_product ts) = types_had tests ts
  type_had tests (type_named w ts) = types_had tests ts
  type_had tests (type_variable w) = refl
  type_had tests (type_numeral w) = refl

  types_had : (tests : Tests) (ts : Tys) → types_have tests (bare_types ts) ≡ types_have tests ts
  types_had tests written_type.no_types = refl
  types_had tests (written_type.type_and t ts) = λ i. type_had tests t i || types_had tests ts i

pattern_had : (tests : Tests) (q : Pattern) → pattern_has tests (bare_pattern q) ≡ pattern_has tests q
pattern_had tests (pattern.Constructor w ws) = refl
pattern_had tests (pattern.Literal w) = refl
pattern_had tests pattern.Default = refl

terms_counted : (es : Tms) → terms_count (bare_terms es) ≡ terms_count es
terms_counted written.no_terms = refl
terms_counted (written.term_and e es) = λ i. terms_counted es i + 1

mutual
  pub term_had : (tests : Tests) (e : Tm) → term_has tests (bare_term e) ≡ term_has tests e
  term_had tests (term_lambda w t e) = λ i. type_had tests t i || term_had tests e i
  term_had tests (term_type_lambda w k e) = term_had tests e
  term_had tests (term_letrec bs e) = λ i. bindings_had tests bs i || term_had tests e i
  term_had tests (term_case e alts) = λ i. term_had tests e i || alternatives_had tests alts i
  term_had tests (term_apply e args) = λ i. term_had tests e i || arguments_had tests args i
  term_had tests (term_name w) = refl
  term_had tests (term_constructor w) = refl
  term_had tests (term_literal w) = refl
  term_had tests (term_vec t es) = λ i. (tests.vector (terms_counted es i) || type_had tests t i) || terms_had tests es i

  terms_had : (tests : Tests) (es : Tms) → terms_have tests (bare_terms es) ≡ terms_have tests es
  terms_had tests written.no_terms = refl
  terms_had tests (written.term_and e es) = λ i. term_had tests e i || terms_had tests es i

  bindings_had : (tests : Tests) (bs : Bindings) → bindings_have tests (bare_bindings bs) ≡ bindings_have tests bs
  bindings_had tests written.no_bindings = refl
  bindings_had tests (binding_and w t e bs) = λ i. (type_had tests t i || term_had tests e i) || bindings_had tests bs i

  alternatives_had : (tests : Tests) (alts : Alternatives) → alternatives_have tests (bare_alternatives alts) ≡ alternatives_have tests alts
  alternatives_had tests no_alternatives = refl
  alternatives_had tests (alternative_and q e more) = λ i. (pattern_had tests q i || term_had tests e i) || alternatives_had tests more i

  arguments_had : (tests : Tests) (args : Arguments) → arguments_have tests (bare_arguments args) ≡ arguments_have tests args
  arguments_had tests no_arguments = refl
  arguments_had tests (argument_and e more) = λ i. term_had tests e i || arguments_had tests more i
  arguments_had tests (type_argument_and t more) = λ i. type_had tests t i || arguments_had tests more i

-- terms

words_counted : (ws : List Word) → length (map bare_word ws) ≡ length ws
words_counted [] = refl
words_counted (w ∷ ws) = λ i. suc (words_counted ws i)

patterns_in : (g : Globals) (q : Pattern) → pattern_in g (bare_pattern q) ≡ pattern_in g q
patterns_in g (pattern.Constructor w ws) = λ i. OfCon (record { number = place_in g.constructors w.bytes }) (words_counted ws i)
patterns_in g (pattern.Literal w) = refl
patterns_in g pattern.Default = refl

mutual
  pub term_bare : (g : Globals) (types values : List (List ℕ)) (e : Tm) → term_in g types values (bare_term e) ≡ term_in g types values e
  term_bare g types values (term_lambda w t e) = λ i. lam (type_bare g types t i) (term_bare g types (w.bytes ∷ values) e i)
  term_bare g types values (term_type_lambda w k e) = λ i. ty_lam (kind_in k) (term_bare g (w.bytes ∷ types) values e i)
  term_bare g types values (term_letrec bs e) =
      let inside = within (binding_words bs) values in
      ap (λ (names : List (List ℕ)). letrec (group_in g types names (bare_bindings bs)) (term_in g types names (bare_term e))) (bindings_within bs values)
      ∙ (λ i. letrec (group_bare g types inside bs i) (term_bare g types inside e i))
  term_bare g types values (term_case e alts) = λ i. case_of (term_bare g types values e i) (alternatives_bare g types values alts i)
  term_bare g types values (term_apply e args) = λ i. applied (term_bare g types values e i) (arguments_bare g types values args i)
  term_bare g types values (term_name w) = refl
  term_bare g types values (term_constructor w) = refl
  term_bare g types values (term_literal w) = refl
  term_bare g types values (term_vec t es) = λ i. vec_lit (type_bare g types t i) (terms_bare g types values es i)

  terms_bare : (g : Globals) (types values : List (List ℕ)) (es : Tms) → terms_in g types values (bare_terms es) ≡ terms_in g types values es
  terms_bare g types values written.no_terms = refl
  terms_bare g types values (written.term_and e es) = λ i. term_and (term_bare g types values e i) (terms_bare g types values es i)

  group_bare : (g : Globals) (types values : List (List ℕ)) (bs : Bindings) → group_in g types values (bare_bindings bs) ≡ group_in g types values bs
  group_bare g types values written.no_bindings = refl
  group_bare g types values (binding_and w t e bs) =
      λ i. bind (type_bare g types t i) (term_bare g types values e i) (group_bare g types values bs i)

  alternatives_bare : (g : Globals) (types values : List (List ℕ)) (alts : Alternatives)
      → alternatives_in g types values (bare_alternatives alts) ≡ alternatives_in g types values alts
  alternatives_bare g types values no_alternatives = refl
  alternatives_bare g types values (alternative_and q e more) =
      let inside = within (pattern_words q) values in
      let body : term_in g types (within (pattern_words (bare_pattern q)) values) (bare_term e) ≡ term_in g types inside e =
      ap (λ (names : List (List ℕ)). term_in g types names (bare_term e)) (pattern_within q values) ∙ term_bare g types inside e in
      λ i. alt (patterns_in g q i) (body i) (alternatives_bare g types values more i)

  arguments_bare : (g : Globals) (types values : List (List ℕ)) (args : Arguments)
      → arguments_in g types values (bare_arguments args) ≡ arguments_in g types values args
  arguments_bare g types values no_arguments = refl
  arguments_bare g types values (argument_and e more) =
      λ i. OfTerm (term_bare g types values e i) ∷ arguments_bare g types values more i
  arguments_bare g types values (type_argument_and t more) =
      λ i. OfType (type_bare g types t i) ∷ arguments_bare g types values more i
