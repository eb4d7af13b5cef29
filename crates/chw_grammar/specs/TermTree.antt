-- Terms as they are written, as plain trees.
use Rattle.chw_grammar.specs.declared.type_tree.KindTree.{KindTree}
use Rattle.chw_grammar.specs.declared.term_tree.Pattern.{Pattern}
use Rattle.chw_grammar.specs.declared.word.Word.{Word}
use Rattle.chw_grammar.specs.TypeTree.{Ty}

mutual
  pub data Tm : Type 0 where
    term_lambda : Word → Ty → Tm → Tm
    term_type_lambda : Word → KindTree → Tm → Tm
    term_letrec : Bindings → Tm → Tm
    term_case : Tm → Alternatives → Tm
    term_apply : Tm → Arguments → Tm
    term_name : Word → Tm
    term_constructor : Word → Tm
    term_literal : Word → Tm
    term_vec : Ty → Tms → Tm

  pub data Tms : Type 0 where
    no_terms : Tms
    term_and : Tm → Tms → Tms

  pub data Bindings : Type 0 where
    no_bindings : Bindings
    binding_and : Word → Ty → Tm → Bindings → Bindings

  pub data Alternatives : Type 0 where
    no_alternatives : Alternatives
    alternative_and : Pattern → Tm → Alternatives → Alternatives

  -- terms, and types behind `@`
  pub data Arguments : Type 0 where
    no_arguments : Arguments
    argument_and : Tm → Arguments → Arguments
    type_argument_and : Ty → Arguments → Arguments
