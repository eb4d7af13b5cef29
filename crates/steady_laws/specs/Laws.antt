-- What is promised of terms of a type of values.
use Rattle.std.specs.Prelude.{ℕ, List, [], ◌∷◌}
use Rattle.chw_types.specs.declared.kind.Kind.{Kind}
use Rattle.chw_types.specs.declared.kind.Kind.TheVariants.{Val}
use Rattle.chw_types.specs.TypeTree.{TypeTree, TypeTrees, no_types}
use Rattle.chw_terms.specs.declared.program.Program.{Program}
use Rattle.chw_terms.specs.Tidy.{IsTidy}
use Rattle.chw_terms.specs.TermTree.{TermTree}
use Rattle.chw_layout.specs.Datum.{Datum}
use Rattle.chw_typing.specs.Scopes.{HasKind, AreTermTypes}
use Rattle.chw_typing.specs.Typing.{HasType}
use Rattle.chw_typing.specs.Programs.{IsTyped, setting_of}
use Rattle.chw_meaning.specs.Values.{History, Value, Thunk, Thunks, none}
use Rattle.chw_meaning.specs.Eval.{Evals, Forces}
use Rattle.chw_meaning.specs.Gives.{Input, value_in, Yields, Gives}
use Rattle.steady_laws.specs.Steady.{IsSteady, SteadyValue, SteadyThunk, SteadyThunks}

-- a closed term of a type of values has the same value at every history, in as many turns
abbrev pub ValuesStay : Type 0
ValuesStay =
    (p : Program) (e : TermTree) (t : TypeTree) (n : ℕ) (h g : History) (v : Value) → IsTidy p → IsTyped p → HasType (setting_of p) [] [] e t → HasKind (setting_of p) [] t Val → Evals p n e none no_types h v
    → Evals p n e none no_types g v

-- a term of a type of values is steady, whatever variables are in scope
abbrev pub ValueTermsAreSteady : Type 0
ValueTermsAreSteady =
    (p : Program) (kinds : List Kind) (vars : List TypeTree) (e : TermTree) (t : TypeTree) → IsTidy p → IsTyped p → AreTermTypes (setting_of p) kinds vars → HasType (setting_of p) kinds vars e t → HasKind (setting_of p) kinds t Val
    → IsSteady p e

-- a steady term, with steady thunks for its variables, has the same value at every history, and that is steady
abbrev pub SteadyTermsStay : Type 0
SteadyTermsStay =
    (p : Program) (e : TermTree) (γ : Thunks) (δ : TypeTrees) (n : ℕ) (h g : History) (v : Value) → IsTidy p → IsTyped p → IsSteady p e → SteadyThunks p γ → Evals p n e γ δ h v
    → Evals p n e γ δ g v × SteadyValue p v

-- so has a steady thunk
abbrev pub SteadyThunksStay : Type 0
SteadyThunksStay =
    (p : Program) (th : Thunk) (n : ℕ) (h g : History) (v : Value) → IsTidy p → IsTyped p → SteadyThunk p th → Forces p n th h v → Forces p n th g v × SteadyValue p v

-- so has all that it yields
abbrev pub SteadyThunksYield : Type 0
SteadyThunksYield =
    (p : Program) (t : TypeTree) (th : Thunk) (n : ℕ) (h g : History) (d : Datum) → IsTidy p → IsTyped p → SteadyThunk p th → Yields p n t th h d → Yields p n t th g d

-- each of the inputs is a data value, and none a stream
abbrev pub AreValues : List Input → Type 0
AreValues [] = Unit {0}
AreValues (value_in d ∷ ins) = AreValues ins
AreValues (_ ∷ ins) = ⊥

-- on data values, a closed term of a type of values gives the same at every history
abbrev pub ValuesGiveTheSame : Type 0
ValuesGiveTheSame =
    (p : Program) (e : TermTree) (t : TypeTree) (ins : List Input) (h g : History) (k : ℕ) (d : Datum) → IsTidy p → IsTyped p → HasType (setting_of p) [] [] e t → HasKind (setting_of p) [] t Val → AreValues ins → Gives p e t ins h k d
    → Gives p e t ins g k d
