-- How large the fields of data types are, which bounds how deep they are looked into.
use Rattle.std.specs.Prelude.{ℕ, ◌+◌, List, [], ◌∷◌}
use Rattle.chw_types.specs.declared.declarations.ConDecl.{ConDecl}
use Rattle.chw_types.specs.declared.declarations.Data.{Data}
use Rattle.chw_types.specs.TypeTree.{TypeTree}
use Rattle.chw_types.specs.TypeSize.{tree_size}

abbrev pub fields_size : List TypeTree → ℕ
fields_size [] = 1
fields_size (f ∷ fs) = tree_size f + fields_size fs + 1

abbrev pub cons_size : List ConDecl → ℕ
cons_size [] = 1
cons_size (c ∷ cs) = fields_size c.fields + cons_size cs + 1

abbrev pub datas_size : List Data → ℕ
datas_size [] = 1
datas_size (it ∷ datas) = cons_size it.cons + datas_size datas + 1
