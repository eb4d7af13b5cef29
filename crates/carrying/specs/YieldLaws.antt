-- What shows bits gives the data value of which they are the encoding.
use Rattle.std.specs.Prelude.{◌≡◌, ℕ, Bool, List, length}
use Rattle.chw_types.specs.TypeTree.{TypeTree}
use Rattle.chw_terms.specs.declared.program.Program.{Program}
use Rattle.chw_layout.specs.Datum.{Datum}
use Rattle.chw_layout.specs.Encodes.{Encodes, HaveConstructors}
use Rattle.chw_layout.specs.Measured.{HasWidth}
use Rattle.chw_meaning.specs.Values.{History, Value, Thunk}
use Rattle.chw_meaning.specs.Gives.{Yields, ValueYields}
use Rattle.carrying.specs.Carrying.{Holds, Shows, Carries}

-- what is shown is as wide as the type
abbrev pub ShownHasWidth : Type 0
ShownHasWidth =
    (p : Program) (t : TypeTree) (th : Thunk) (h : History) (b : List Bool) (w : ℕ)
    → Shows p t th h b → HasWidth p.datas t w → length b ≡ w

-- the data value that the bits encode, which the thunk with all its parts evaluated at the history
-- makes
pub record YieldedAt (p : Program) (t : TypeTree) (th : Thunk) (h : History) (b : List Bool)
    : Type 0
  where
    pub datum : Datum
    pub encodes : Encodes p.datas t datum b
    pub turns : ℕ
    pub yields : Yields p turns t th h datum

-- the same at every history
pub record Yielded (p : Program) (t : TypeTree) (th : Thunk) (b : List Bool) : Type 0 where
  pub datum : Datum
  pub encodes : Encodes p.datas t datum b
  pub yields : (h : History) → (n : ℕ) × Yields p n t th h datum

-- the same of a value
pub record ValueYielded (p : Program) (t : TypeTree) (v : Value) (b : List Bool) : Type 0 where
  pub datum : Datum
  pub encodes : Encodes p.datas t datum b
  pub yields : (h : History) → (n : ℕ) × ValueYields p n t v h datum

-- what shows bits makes the data value that they encode. A data type without constructors has
-- width 0 and no data value.
abbrev pub ShownIsYielded : Type 0
ShownIsYielded =
    (p : Program) (t : TypeTree) (th : Thunk) (h : History) (b : List Bool)
    → HaveConstructors p.datas → Shows p t th h b → YieldedAt p t th h b

-- what carries bits makes one data value at every history
abbrev pub CarriedIsYielded : Type 0
CarriedIsYielded =
    (p : Program) (t : TypeTree) (th : Thunk) (b : List Bool)
    → HaveConstructors p.datas → Carries p t th b → Yielded p t th b

-- so does a value that holds them
abbrev pub HeldIsYielded : Type 0
HeldIsYielded =
    (p : Program) (t : TypeTree) (v : Value) (b : List Bool)
    → HaveConstructors p.datas → Holds p t v b → ValueYielded p t v b

-- at one history a thunk shows the same bits each time
abbrev pub OneShown : Type 0
OneShown =
    (p : Program) (t : TypeTree) (th : Thunk) (h : History) (a b : List Bool)
    → HaveConstructors p.datas → Shows p t th h a → Shows p t th h b → a ≡ b
