-- The places of words are no matter to which names are unknown and which are declared twice.
use Rattle.std.specs.Prelude.{◌≡◌, ℕ, Bool, true, false, not, ◌||◌, List, [], ◌∷◌, ◌++◌, map, flat_map, refl}
use Rattle.std.proofs.Common.{sym, ap, ◌∙◌}
use Rattle.std.proofs.lemmas.List.{map-append}
use Rattle.chw_grammar.specs.declared.term_tree.Pattern.{Pattern}
use Rattle.chw_grammar.specs.declared.term_tree.Pattern.TheVariants as pattern
use Rattle.chw_grammar.specs.declared.word.Word.{Word}
use Rattle.chw_grammar.specs.Literals.{literal_of}
use Rattle.chw_grammar.specs.Places.{bare_word, bare_type, bare_types, bare_pattern, bare_term, bare_terms, bare_bindings, bare_alternatives, bare_arguments}
use Rattle.chw_grammar.specs.TypeTree.{Ty, type_forall, type_arrow, type_sum, type_product, type_named, type_variable, type_numeral, Tys}
use Rattle.chw_grammar.specs.TypeTree as written
use Rattle.chw_grammar.specs.TermTree.{Tm, term_lambda, term_type_lambda, term_letrec, term_case, term_apply, term_name, term_constructor, term_literal, term_vec, Tms, no_terms, term_and, Bindings, no_bindings, binding_and, Alternatives, no_alternatives, alternative_and, Arguments, no_arguments, argument_and, type_argument_and}
use Rattle.chw_names.specs.declared.globals.Globals.{Globals}
use Rattle.chw_names.specs.Literals.{is_said, meaning, second_literals, with_meaning}
use Rattle.chw_names.specs.Twices.{alternatives_twices, arguments_twices, binding_words, bindings_twices, constructor_of, constructor_of_alternative, each_alternative, literal_in, literal_of_alternative, pattern_words, second_alternatives, term_twices, terms_twices}
use Rattle.chw_names.specs.Unknowns.{alternatives_unknowns, arguments_unknowns, bindings_unknowns, named_unknowns, pattern_unknowns, term_unknowns, terms_unknowns, type_unknowns, types_unknowns, unless_among, within}
use Rattle.chw_names.specs.Words.{seconds, seconds_by, when}
use Rattle.name_tables.specs.Names.{is_among, with_name}

-- words

pub none_bare : (ws : List Word) → map bare_word ws ≡ [] → ws ≡ []
none_bare [] e = refl
none_bare (w ∷ ws) e = absurd (cc)

-- words of which the bare ones are those of others, which are none
pub none_as : (ws us bare : List Word) → map bare_word ws ≡ bare → map bare_word us ≡ bare → us ≡ [] → ws ≡ []
none_as ws us bare p q none = none_bare ws (p ∙ sym q ∙ ap (map bare_word) none)

joined_bare : (a b c d : List Word) → map bare_word a ≡ c → map bare_word b ≡ d → map bare_word (a ++ b) ≡ c ++ d
joined_bare a b c d p q = map-append bare_word a b ∙ (λ i. p i ++ q i)

when_bare : (so : Bool) (w : Word) → map bare_word (when so w) ≡ when so (bare_word w)
when_bare true w = refl
when_bare false w = refl

within_bare : (ws : List Word) (names : List (List ℕ)) → within (map bare_word ws) names ≡ within ws names
within_bare [] names = refl
within_bare (w ∷ ws) names = within_bare ws (w.bytes ∷ names)

seconds_by_bare : {K : Type 0} (is_known : List K → K → Bool) (with_key : List K → K → List K) (key : List ℕ → K) (known : List K) (ws : List Word)
    → map bare_word (seconds_by is_known with_key (λ (w : Word). key w.bytes) known ws) ≡ seconds_by is_known with_key (λ (w : Word). key w.bytes) known (map bare_word ws)
seconds_by_bare is_known with_key key known [] = refl
seconds_by_bare is_known with_key key known (w ∷ ws) =
    joined_bare (when (is_known known (key w.bytes)) w) (seconds_by is_known with_key (λ (w : Word). key w.bytes) (with_key known (key w.bytes)) ws) _ _
    (when_bare (is_known known (key w.bytes)) w) (seconds_by_bare is_known with_key key (with_key known (key w.bytes)) ws)

pub seconds_bare : (known : List (List ℕ)) (ws : List Word) → map bare_word (seconds known ws) ≡ seconds known (map bare_word ws)
seconds_bare known ws = seconds_by_bare is_among with_name (λ (bytes : List ℕ). bytes) known ws

literals_bare : (ws : List Word) → map bare_word (second_literals ws) ≡ second_literals (map bare_word ws)
literals_bare ws = seconds_by_bare is_said with_meaning (λ (bytes : List ℕ). meaning (literal_of bytes)) [] ws

-- names that a letrec and a pattern bind

binding_bare : (bs : Bindings) → map bare_word (binding_words bs) ≡ binding_words (bare_bindings bs)
binding_bare no_bindings = refl
binding_bare (binding_and w t e bs) = λ i. bare_word w ∷ binding_bare bs i

pub bindings_within : (bs : Bindings) (names : List (List ℕ)) → within (binding_words (bare_bindings bs)) names ≡ within (binding_words bs) names
bindings_within bs names = ap (λ (ws : List Word). within ws names) (sym (binding_bare bs)) ∙ within_bare (binding_words bs) names

pattern_bare : (q : Pattern) → map bare_word (pattern_words q) ≡ pattern_words (bare_pattern q)
pattern_bare (pattern.Constructor w ws) = refl
pattern_bare (pattern.Literal w) = refl
pattern_bare pattern.Default = refl

pub pattern_within : (q : Pattern) (names : List (List ℕ)) → within (pattern_words (bare_pattern q)) names ≡ within (pattern_words q) names
pattern_within q names = ap (λ (ws : List Word). within ws names) (sym (pattern_bare q)) ∙ within_bare (pattern_words q) names

-- unknown names

mutual
  pub type_unknown : (g : Globals) (types : List (List ℕ)) (t : Ty) → map bare_word (type_unknowns g types t) ≡ type_unknowns g types (bare_type t)
  type_unknown g types (type_forall w k t) = type_unknown g (w.bytes ∷ types) t
  type_unknown g types (type_arrow a b) =
      joined_bare (type_unknowns g types a) (type_unknowns g types b) _ _ (type_unknown g types a) (type_unknown g types b)
  type_unknown g types (type_sum ts) = types_unknown g types ts
  type_unknown g types (type_product ts) = types_unknown g types ts
  type_unknown g types (type_named w ts) =
      joined_bare (named_unknowns g w) (types_unknowns g types ts) _ _
      (when_bare (not (is_among g.data_types w.bytes || is_among g.domains w.bytes)) w) (types_unknown g types ts)
  type_unknown g types (type_variable w) = when_bare (not (is_among types w.bytes)) w
  type_unknown g types (type_numeral w) = refl

  types_unknown : (g : Globals) (types : List (List ℕ)) (ts : Tys) → map bare_word (types_unknowns g types ts) ≡ types_unknowns g types (bare_types ts)
  types_unknown g types written.no_types = refl
  types_unknown g types (written.type_and t ts) =
      joined_bare (type_unknowns g types t) (types_unknowns g types ts) _ _ (type_unknown g types t) (types_unknown g types ts)

pattern_unknown : (g : Globals) (q : Pattern) → map bare_word (pattern_unknowns g q) ≡ pattern_unknowns g (bare_pattern q)
pattern_unknown g (pattern.Constructor w ws) =
    joined_bare (unless_among g.constructors w) [] _ [] (when_bare (not (is_among g.constructors w.bytes)) w) refl
pattern_unknown g (pattern.Literal w) = refl
pattern_unknown g pattern.Default = refl

mutual
  pub term_unknown : (g : Globals) (types values : List (List ℕ)) (e : Tm) → map bare_word (term_unknowns g types values e) ≡ term_unknowns g types values (bare_term e)
  term_unknown g types values (term_lambda w t e) =
      joined_bare (type_unknowns g types t) (term_unknowns g types (w.bytes ∷ values) e) _ _ (type_unknown g types t) (term_unknown g types (w.bytes ∷ values) e)
  term_unknown g types values (term_type_lambda w k e) = term_unknown g (w.bytes ∷ types) values e
  term_unknown g types values (term_letrec bs e) =
      let inside = within (binding_words bs) values in
      joined_bare (bindings_unknowns g types inside bs) (term_unknowns g types inside e) _ _ (bindings_unknown g types inside bs) (term_unknown g types inside e)
      ∙ ap (λ (names : List (List ℕ)). bindings_unknowns g types names (bare_bindings bs) ++ term_unknowns g types names (bare_term e)) (sym (bindings_within bs values))
  term_unknown g types values (term_case e alts) =
      joined_bare (term_unknowns g types values e) (alternatives_unknowns g types values alts) _ _ (term_unknown g types values e) (alternatives_unknown g types values alts)
  term_unknown g types values (term_apply e args) =
      joined_bare (term_unknowns g types values e) (arguments_unknowns g types values args) _ _ (term_unknown g types values e) (arguments_unknown g types values args)
  term_unknown g types values (term_name w) = when_bare (not (is_among values w.bytes || is_among g.definitions w.bytes)) w
  term_unknown g types values (term_constructor w) = when_bare (not (is_among g.constructors w.bytes)) w
  term_unknown g types values (term_literal w) = refl
  term_unknown g types values (term_vec t es) =
      joined_bare (type_unknowns g types t) (terms_unknowns g types values es) _ _ (type_unknown g types t) (terms_unknown g types values es)

  terms_unknown : (g : Globals) (types values : List (List ℕ)) (es : Tms) → map bare_word (terms_unknowns g types values es) ≡ terms_unknowns g types values (bare_terms es)
  terms_unknown g types values no_terms = refl
  terms_unknown g types values (term_and e es) =
      joined_bare (term_unknowns g types values e) (terms_unknowns g types values es) _ _ (term_unknown g types values e) (terms_unknown g types values es)

  bindings_unknown : (g : Globals) (types values : List (List ℕ)) (bs : Bindings)
      → map bare_word (bindings_unknowns g types values bs) ≡ bindings_unknowns g types values (bare_bindings bs)
  bindings_unknown g types values no_bindings = refl
  bindings_unknown g types values (binding_and w t e bs) =
      joined_bare (type_unknowns g types t ++ term_unknowns g types values e) (bindings_unknowns g types values bs) _ _
      (joined_bare (type_unknowns g types t) (term_unknowns g types values e) _ _ (type_unknown g types t) (term_unknown g types values e))
      (bindings_unknown g types values bs)

  alternatives_unknown : (g : Globals) (types values : List (List ℕ)) (alts : Alternatives)
      → map bare_word (alternatives_unknowns g types values alts) ≡ alternatives_unknowns g types values (bare_alternatives alts)
  alternatives_unknown g types values no_alternatives = refl
  alternatives_unknown g types values (alternative_and q e more) =
      let inside = within (pattern_words q) values in
      joined_bare (pattern_unknowns g q ++ term_unknowns g types inside e) (alternatives_unknowns g types values more) _ _
      (joined_bare (pattern_unknowns g q) (term_unknowns g types inside e) _ _ (pattern_unknown g q)
      (term_unknown g types inside e ∙ ap (λ (names : List (List ℕ)). term_unknowns g types names (bare_term e)) (sym (pattern_within q values))))
      (alternatives_unknown g types values more)

  arguments_unknown : (g : Globals) (types values : List (List ℕ)) (args : Arguments)
      → map bare_word (arguments_unknowns g types values args) ≡ arguments_unknowns g types values (bare_arguments args)
  arguments_unknown g types values no_arguments = refl
  arguments_unknown g types values (argument_and e more) =
      joined_bare (term_unknowns g types values e) (arguments_unknowns g types values more) _ _ (term_unknown g types values e) (arguments_unknown g types values more)
  arguments_unknown g types values (type_argument_and t more) =
      joined_bare (type_unknowns g types t) (arguments_unknowns g types values more) _ _ (type_unknown g types t) (arguments_unknown g types values more)

-- names that are declared twice

constructor_bare : (q : Pattern) → map bare_word (constructor_of q) ≡ constructor_of (bare_pattern q)
constructor_bare (pattern.Constructor w ws) = refl
constructor_bare (pattern.Literal w) = refl
constructor_bare pattern.Default = refl

literal_bare : (q : Pattern) → map bare_word (literal_in q) ≡ literal_in (bare_pattern q)
literal_bare (pattern.Constructor w ws) = refl
literal_bare (pattern.Literal w) = refl
literal_bare pattern.Default = refl

constructors_bare : (alts : Alternatives) → map bare_word (flat_map constructor_of_alternative (each_alternative alts))
    ≡ flat_map constructor_of_alternative (each_alternative (bare_alternatives alts))
constructors_bare no_alternatives = refl
constructors_bare (alternative_and q e more) =
    joined_bare (constructor_of q) (flat_map constructor_of_alternative (each_alternative more)) _ _ (constructor_bare q) (constructors_bare more)

all_literals_bare : (alts : Alternatives) → map bare_word (flat_map literal_of_alternative (each_alternative alts))
    ≡ flat_map literal_of_alternative (each_alternative (bare_alternatives alts))
all_literals_bare no_alternatives = refl
all_literals_bare (alternative_and q e more) =
    joined_bare (literal_in q) (flat_map literal_of_alternative (each_alternative more)) _ _ (literal_bare q) (all_literals_bare more)

alternatives_bare : (alts : Alternatives) → map bare_word (second_alternatives (each_alternative alts)) ≡ second_alternatives (each_alternative (bare_alternatives alts))
alternatives_bare alts =
    let cs : List Word = flat_map constructor_of_alternative (each_alternative alts) in
    let ls : List Word = flat_map literal_of_alternative (each_alternative alts) in
    joined_bare (seconds [] cs) (second_literals ls) _ _
    (seconds_bare [] cs ∙ ap (seconds []) (constructors_bare alts)) (literals_bare ls ∙ ap second_literals (all_literals_bare alts))

mutual
  pub term_twice : (e : Tm) → map bare_word (term_twices e) ≡ term_twices (bare_term e)
  term_twice (term_lambda w t e) = term_twice e
  term_twice (term_type_lambda w k e) = term_twice e
  term_twice (term_letrec bs e) =
      joined_bare (seconds [] (binding_words bs) ++ bindings_twices bs) (term_twices e) _ _
      (joined_bare (seconds [] (binding_words bs)) (bindings_twices bs) _ _
      (seconds_bare [] (binding_words bs) ∙ ap (seconds []) (binding_bare bs)) (bindings_twice bs)) (term_twice e)
  term_twice (term_case e alts) =
      joined_bare (second_alternatives (each_alternative alts) ++ term_twices e) (alternatives_twices alts) _ _
      (joined_bare (second_alternatives (each_alternative alts)) (term_twices e) _ _ (alternatives_bare alts) (term_twice e)) (alternatives_twice alts)
  term_twice (term_apply e args) = joined_bare (term_twices e) (arguments_twices args) _ _ (term_twice e) (arguments_twice args)
  term_twice (term_name w) = refl
  term_twice (term_constructor w) = refl
  term_twice (term_literal w) = refl
  term_twice (term_vec t es) = terms_twice es

  terms_twice : (es : Tms) → map bare_word (terms_twices es) ≡ terms_twices (bare_terms es)
  terms_twice no_terms = refl
  terms_twice (term_and e es) = joined_bare (term_twices e) (terms_twices es) _ _ (term_twice e) (terms_twice es)

  bindings_twice : (bs : Bindings) → map bare_word (bindings_twices bs) ≡ bindings_twices (bare_bindings bs)
  bindings_twice no_bindings = refl
  bindings_twice (binding_and w t e bs) = joined_bare (term_twices e) (bindings_twices bs) _ _ (term_twice e) (bindings_twice bs)

  alternatives_twice : (alts : Alternatives) → map bare_word (alternatives_twices alts) ≡ alternatives_twices (bare_alternatives alts)
  alternatives_twice no_alternatives = refl
  alternatives_twice (alternative_and q e more) =
      joined_bare (seconds [] (pattern_words q) ++ term_twices e) (alternatives_twices more) _ _
      (joined_bare (seconds [] (pattern_words q)) (term_twices e) _ _
      (seconds_bare [] (pattern_words q) ∙ ap (seconds []) (pattern_bare q)) (term_twice e)) (alternatives_twice more)

  arguments_twice : (args : Arguments) → map bare_word (arguments_twices args) ≡ arguments_twices (bare_arguments args)
  arguments_twice no_arguments = refl
  arguments_twice (argument_and e more) = joined_bare (term_twices e) (arguments_twices more) _ _ (term_twice e) (arguments_twice more)
  arguments_twice (type_argument_and t more) = arguments_twice more
