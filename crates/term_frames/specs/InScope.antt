-- The variables in scope.
use Rattle.std.specs.Prelude.{ℕ, List, refl}
use Rattle.std.specs.Coded.{Coded, code_by, coded×, coded_ℕ, coded_list}
use Rattle.chw_types.specs.declared.kind.Kind.{Kind}
use Rattle.chw_types.specs.contracts.kind.Kind as kind_type
use Rattle.chw_types.specs.TypeTree.{TypeTree}
use Rattle.chw_types.specs.TypeCode.{coded_tree}

pub record InScope : Type 0 where
  -- their types, the innermost first
  pub vars : List TypeTree
  -- the kinds of these types
  pub kinds : List Kind
  -- how many binders bound them, those of types counted too
  pub depth : ℕ

-- it is stored as the pairs of its fields
abbrev pub coded_scope : Coded InScope
coded_scope =
    code_by ((List TypeTree × List Kind) × ℕ)
    (coded× (coded× (coded_list coded_tree) (coded_list kind_type.the_row.coded)) coded_ℕ)
    (λ s. ((s.vars, s.kinds), s.depth)) (λ p. record { vars = p.0.0; kinds = p.0.1; depth = p.1 }) (λ _. refl)
