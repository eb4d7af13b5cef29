-- Trees without the places of their words, and trees that agree in all but these.
use Rattle.std.specs.Prelude.{◌≡◌, List, map}
use Rattle.chw_grammar.specs.declared.word.Word.{Word}
use Rattle.chw_grammar.specs.declared.term_tree.Pattern.{Pattern}
use Rattle.chw_grammar.specs.declared.term_tree.Pattern.TheVariants as pattern
use Rattle.chw_grammar.specs.declared.program.Tree.{Tree}
use Rattle.chw_grammar.specs.declared.program.Top.{Top}
use Rattle.chw_grammar.specs.declared.program.Declaration.{Declaration}
use Rattle.chw_grammar.specs.declared.program.Declaration.TheVariants.{Domain, Data, Def}
use Rattle.chw_grammar.specs.declared.program.Parameter.{Parameter}
use Rattle.chw_grammar.specs.declared.program.Constructor.{Constructor}
use Rattle.chw_grammar.specs.TypeTree.{Ty, type_forall, type_arrow, type_sum, type_product, type_named, type_variable, type_numeral, Tys, no_types, type_and}
use Rattle.chw_grammar.specs.TermTree.{Tm, term_lambda, term_type_lambda, term_letrec, term_case, term_apply, term_name, term_constructor, term_literal, term_vec, Tms, no_terms, term_and, Bindings, no_bindings, binding_and, Alternatives, no_alternatives, alternative_and, Arguments, no_arguments, argument_and, type_argument_and}

abbrev pub bare_word : Word → Word
bare_word w = record { at = 0; bytes = w.bytes }

abbrev pub bare_words : List Word → List Word
bare_words = map bare_word

abbrev mutual
  pub bare_type : Ty → Ty
  bare_type (type_forall w k t) = type_forall (bare_word w) k (bare_type t)
  bare_type (type_arrow a b) = type_arrow (bare_type a) (bare_type b)
  bare_type (type_sum ts) = type_sum (bare_types ts)
  bare_type (type_product ts) = type_product (bare_types ts)
  bare_type (type_named w ts) = type_named (bare_word w) (bare_types ts)
  bare_type (type_variable w) = type_variable (bare_word w)
  bare_type (type_numeral w) = type_numeral (bare_word w)

  pub bare_types : Tys → Tys
  bare_types no_types = no_types
  bare_types (type_and t ts) = type_and (bare_type t) (bare_types ts)

abbrev pub bare_pattern : Pattern → Pattern
bare_pattern (pattern.Constructor w ws) = pattern.Constructor (bare_word w) (bare_words ws)
bare_pattern (pattern.Literal w) = pattern.Literal (bare_word w)
bare_pattern pattern.Default = pattern.Default

abbrev mutual
  pub bare_term : Tm → Tm
  bare_term (term_lambda w t e) = term_lambda (bare_word w) (bare_type t) (bare_term e)
  bare_term (term_type_lambda w k e) = term_type_lambda (bare_word w) k (bare_term e)
  bare_term (term_letrec bs e) = term_letrec (bare_bindings bs) (bare_term e)
  bare_term (term_case e alts) = term_case (bare_term e) (bare_alternatives alts)
  bare_term (term_apply e args) = term_apply (bare_term e) (bare_arguments args)
  bare_term (term_name w) = term_name (bare_word w)
  bare_term (term_constructor w) = term_constructor (bare_word w)
  bare_term (term_literal w) = term_literal (bare_word w)
  bare_term (term_vec t es) = term_vec (bare_type t) (bare_terms es)

  pub bare_terms : Tms → Tms
  bare_terms no_terms = no_terms
  bare_terms (term_and e es) = term_and (bare_term e) (bare_terms es)

  pub bare_bindings : Bindings → Bindings
  bare_bindings no_bindings = no_bindings
  bare_bindings (binding_and w t e bs) = binding_and (bare_word w) (bare_type t) (bare_term e) (bare_bindings bs)

  pub bare_alternatives : Alternatives → Alternatives
  bare_alternatives no_alternatives = no_alternatives
  bare_alternatives (alternative_and q e more) = alternative_and (bare_pattern q) (bare_term e) (bare_alternatives more)

  pub bare_arguments : Arguments → Arguments
  bare_arguments no_arguments = no_arguments
  bare_arguments (argument_and e more) = argument_and (bare_term e) (bare_arguments more)
  bare_arguments (type_argument_and t more) = type_argument_and (bare_type t) (bare_arguments more)

abbrev pub bare_parameter : Parameter → Parameter
bare_parameter p = record { name = bare_word p.name; kind = p.kind }

abbrev pub bare_constructor : Constructor → Constructor
bare_constructor x = record { name = bare_word x.name; fields = map bare_type x.fields }

abbrev pub bare_declaration : Declaration → Declaration
bare_declaration (Domain w has_reset) = Domain (bare_word w) has_reset
bare_declaration (Data w ps xs) = Data (bare_word w) (map bare_parameter ps) (map bare_constructor xs)
bare_declaration (Def w t e) = Def (bare_word w) (bare_type t) (bare_term e)

abbrev pub bare_top : Top → Top
bare_top x = record { definition = bare_word x.definition; inputs = bare_words x.inputs; outputs = bare_words x.outputs }

abbrev pub bare_tree : Tree → Tree
bare_tree t = record { declarations = map bare_declaration t.declarations; top = bare_top t.top }

-- the trees agree in all but the places of their words
abbrev pub Same : Tree → Tree → Type 0
Same a b = bare_tree a ≡ bare_tree b
