-- What is promised of layouts of types that are the same.
use Rattle.std.specs.Prelude.{List, ◌≡◌}
use Rattle.chw_layout.specs.Datum.{Datum}
use Rattle.chw_layout.specs.Measured.{Measure, Measured, closed_value}
use Rattle.chw_meaning.specs.Zeros.{IsZero}
use Rattle.type_ports.specs.Ports.{Leaves}
use Rattle.type_ports.specs.Representable.{Representable}
use Rattle.chw_types.specs.SamePromises.{SameValues}
use Rattle.chw_types.specs.SameTypes.{SameTypes}
use Rattle.chw_types.specs.TypeTree.{TypeTree}
use Rattle.type_ports.specs.declared.ports.Leaf.{Leaf}
use Rattle.chw_typing.specs.Alike.{AreLike, AreSameLeaves}
use Rattle.chw_typing.specs.Programs.{IsSound}
use Rattle.chw_typing.specs.Scopes.{Setting}
use Rattle.type_laws.specs.SameKept.{FieldsKeepSame}

-- facts on layouts of types that are the same
pub record SameLayoutFacts : Type 0 where
  -- types that are the same mean one number
  pub same_number : SameValues → {t u : TypeTree} → SameTypes t u → closed_value t ≡ closed_value u
  -- types that are alike have one measure
  pub measured_same :
      (s : Setting) (sound : IsSound s) (values : SameValues) (keep : FieldsKeepSame)
      → {t u : TypeTree} {m : Measure}
      → Measured s.datas t m → AreLike s t u → Measured s.datas u m
  -- and one zero
  pub zero_same :
      (s : Setting) (sound : IsSound s) (values : SameValues) (keep : FieldsKeepSame)
      → {t u : TypeTree} {z : Datum}
      → IsZero s.datas t z → AreLike s t u → IsZero s.datas u z
  -- if one of them is representable, the other is
  pub representable_same :
      (s : Setting) (sound : IsSound s) (keep : FieldsKeepSame) → {t u : TypeTree}
      → Representable s.datas t → AreLike s t u → Representable s.datas u
  -- if one has leaves, the other has leaves that are the same
  pub leaves_same :
      (s : Setting) (sound : IsSound s) (keep : FieldsKeepSame) → {t u : TypeTree} {ls : List Leaf}
      → Leaves s.datas t ls → AreLike s t u
      → (ms : List Leaf) × Leaves s.datas u ms × AreSameLeaves ls ms
