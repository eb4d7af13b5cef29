-- What is shown at a closed type is shown at each that is the same up to naturals.
use Rattle.std.specs.Prelude.{Bool, List}
use Rattle.chw_types.specs.TypeTree.{TypeTree}
use Rattle.chw_terms.specs.declared.program.Program.{Program}
use Rattle.chw_typing.specs.Programs.{IsSound, setting_of}
use Rattle.chw_typing.specs.Alike.{AreLike}
use Rattle.chw_meaning.specs.Values.{History, Value, Thunk}
use Rattle.carrying.specs.Carrying.{Holds, Shows}

abbrev pub SameHolds : Type 0
SameHolds =
    (p : Program) (t u : TypeTree) (v : Value) (b : List Bool)
    → IsSound (setting_of p) → AreLike (setting_of p) t u → Holds p t v b → Holds p u v b

abbrev pub SameShows : Type 0
SameShows =
    (p : Program) (t u : TypeTree) (th : Thunk) (h : History) (b : List Bool)
    → IsSound (setting_of p) → AreLike (setting_of p) t u → Shows p t th h b → Shows p u th h b
