-- Types as they are written, as plain trees.
use Rattle.chw_grammar.specs.declared.type_tree.KindTree.{KindTree}
use Rattle.chw_grammar.specs.declared.word.Word.{Word}

mutual
  pub data Ty : Type 0 where
    type_forall : Word → KindTree → Ty → Ty
    type_arrow : Ty → Ty → Ty
    type_sum : Tys → Ty
    type_product : Tys → Ty
    type_named : Word → Tys → Ty
    type_variable : Word → Ty
    type_numeral : Word → Ty

  pub data Tys : Type 0 where
    no_types : Tys
    type_and : Ty → Tys → Tys
