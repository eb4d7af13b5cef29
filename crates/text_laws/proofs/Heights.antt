-- Trees that agree in all but the places of their words are equally high.
use Rattle.std.specs.Prelude.{◌≡◌, suc, max, List, [], ◌∷◌, map, refl}
use Rattle.std.proofs.Common.{sym, ap, ◌∙◌}
use Rattle.chw_grammar.specs.declared.program.Tree.{Tree}
use Rattle.chw_grammar.specs.declared.program.Declaration.{Declaration}
use Rattle.chw_grammar.specs.declared.program.Declaration.TheVariants.{Domain, Data, Def}
use Rattle.chw_grammar.specs.declared.program.Parameter.{Parameter}
use Rattle.chw_grammar.specs.declared.program.Constructor.{Constructor}
use Rattle.chw_grammar.specs.Height.{leaf, applied, chained, types_count, arguments_count, type_height, types_height, term_height, terms_height, bindings_height, alternatives_height, arguments_height, parameters_height, constructors_height, declaration_height, declarations_height, tree_height}
use Rattle.chw_grammar.specs.Places.{bare_type, bare_types, bare_term, bare_terms, bare_bindings, bare_alternatives, bare_arguments, bare_parameter, bare_constructor, bare_declaration, bare_tree, Same}
use Rattle.chw_grammar.specs.TypeTree.{Ty, type_forall, type_arrow, type_sum, type_product, type_named, type_variable, type_numeral, Tys, no_types, type_and}
use Rattle.chw_grammar.specs.TypeView.{types_of}
use Rattle.chw_grammar.specs.TermTree.{Tm, term_lambda, term_type_lambda, term_letrec, term_case, term_apply, term_name, term_constructor, term_literal, term_vec, Tms, no_terms, term_and, Bindings, no_bindings, binding_and, Alternatives, no_alternatives, alternative_and, Arguments, no_arguments, argument_and, type_argument_and}

types_counted : (ts : Tys) → types_count (bare_types ts) ≡ types_count ts
types_counted no_types = refl
types_counted (type_and t ts) = λ i. suc (types_counted ts i)

arguments_counted : (args : Arguments) → arguments_count (bare_arguments args) ≡ arguments_count args
arguments_counted no_arguments = refl
arguments_counted (argument_and e more) = λ i. suc (arguments_counted more i)
arguments_counted (type_argument_and t more) = λ i. suc (arguments_counted more i)

mutual
  type_high : (t : Ty) → type_height (bare_type t) ≡ type_height t
  type_high (type_forall w k t) = λ i. suc (max leaf (type_high t i))
  type_high (type_arrow a b) = λ i. suc (max (type_high a i) (type_high b i))
  type_high (type_sum ts) = λ i. chained (types_counted ts i) (types_high ts i)
  type_high (type_product ts) = λ i. chained (types_counted ts i) (types_high ts i)
  type_high (type_named w ts) = λ i. applied (types_counted ts i) (types_high ts i)
  type_high (type_variable w) = refl
  type_high (type_numeral w) = refl

  types_high : (ts : Tys) → types_height (bare_types ts) ≡ types_height ts
  types_high no_types = refl
  types_high (type_and t ts) = λ i. max (type_high t i) (types_high ts i)

mutual
  term_high : (e : Tm) → term_height (bare_term e) ≡ term_height e
  term_high (term_lambda w t e) = λ i. suc (max (type_high t i) (term_high e i))
  term_high (term_type_lambda w k e) = λ i. suc (max leaf (term_high e i))
  term_high (term_letrec bs e) = λ i. suc (max (bindings_high bs i) (term_high e i))
  term_high (term_case e alts) = λ i. suc (max (term_high e i) (alternatives_high alts i))
  term_high (term_apply e args) = λ i. applied (arguments_counted args i) (max (term_high e i) (arguments_high args i))
  term_high (term_name w) = refl
  term_high (term_constructor w) = refl
  term_high (term_literal w) = refl
  term_high (term_vec t es) = λ i. suc (max (type_high t i) (terms_high es i))

  terms_high : (es : Tms) → terms_height (bare_terms es) ≡ terms_height es
  terms_high no_terms = refl
  terms_high (term_and e es) = λ i. max (term_high e i) (terms_high es i)

  bindings_high : (bs : Bindings) → bindings_height (bare_bindings bs) ≡ bindings_height bs
  bindings_high no_bindings = refl
  bindings_high (binding_and w t e bs) = λ i. max (max (type_high t i) (term_high e i)) (bindings_high bs i)

  alternatives_high : (alts : Alternatives) → alternatives_height (bare_alternatives alts) ≡ alternatives_height alts
  alternatives_high no_alternatives = refl
  alternatives_high (alternative_and q e more) = λ i. max (max leaf (term_high e i)) (alternatives_high more i)

  arguments_high : (args : Arguments) → arguments_height (bare_arguments args) ≡ arguments_height args
  arguments_high no_arguments = refl
  arguments_high (argument_and e more) = λ i. max (term_high e i) (arguments_high more i)
  arguments_high (type_argument_and t more) = λ i. max (type_high t i) (arguments_high more i)

fields_high : (ts : List Ty) → types_height (types_of (map bare_type ts)) ≡ types_height (types_of ts)
fields_high [] = refl
fields_high (t ∷ ts) = λ i. max (type_high t i) (fields_high ts i)

parameters_high : (ps : List Parameter) → parameters_height (map bare_parameter ps) ≡ parameters_height ps
parameters_high [] = refl
parameters_high (p ∷ ps) = λ i. max leaf (parameters_high ps i)

constructors_high : (xs : List Constructor) → constructors_height (map bare_constructor xs) ≡ constructors_height xs
constructors_high [] = refl
constructors_high (x ∷ xs) = λ i. max (fields_high x.fields i) (constructors_high xs i)

declaration_high : (x : Declaration) → declaration_height (bare_declaration x) ≡ declaration_height x
declaration_high (Domain w has_reset) = refl
declaration_high (Data w ps xs) = λ i. suc (max (parameters_high ps i) (constructors_high xs i))
declaration_high (Def w t e) = λ i. suc (max (type_high t i) (term_high e i))

declarations_high : (xs : List Declaration) → declarations_height (map bare_declaration xs) ≡ declarations_height xs
declarations_high [] = refl
declarations_high (x ∷ xs) = λ i. max (declaration_high x i) (declarations_high xs i)

bare_high : (t : Tree) → tree_height (bare_tree t) ≡ tree_height t
bare_high t = λ i. suc (declarations_high t.declarations i)

pub same_height : (a b : Tree) → Same a b → tree_height a ≡ tree_height b
same_height a b same = sym (bare_high a) ∙ ap (λ (t : Tree). tree_height t) same ∙ bare_high b
