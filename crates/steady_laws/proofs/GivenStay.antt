-- What a steady thunk yields, and what a steady term gives on values, is the same at every history.
use Rattle.std.specs.Prelude.{slice_get}
use Rattle.std.proofs.Common.{◌≡◌, ℕ, suc, zero, List, [], ◌∷◌, ◌++◌, length, Some, subst}
use Rattle.chw_types.specs.declared.declarations.Data.{Data}
use Rattle.chw_types.specs.TypeTree.{TypeTree}
use Rattle.chw_types.specs.TypeMoves.{Substitution}
use Rattle.chw_terms.specs.declared.program.Program.{Program}
use Rattle.chw_terms.specs.TermTree.{TermTree}
use Rattle.chw_layout.specs.Datum.{Datum, Datums}
use Rattle.chw_meaning.specs.Values.{History, Value, Thunk, Thunks}
use Rattle.chw_meaning.specs.Gives.{Yields, y_empty, y_value, ValueYields, v_word, v_elements, v_built, YieldEach, yield_none, yield_each, YieldFields, yield_no_field, yield_field, Input, PortGiven, given_stream, given_product, FieldsGiven, given_field, Given, given_value, given_port, OnInputs, on_all, on_next, LeafOf, PortLeaves, leaf_signal, leaves_product, FieldLeaves, no_field_leaves, field_leaves, HasLeaves, leaf_value, leaves_port, Gives}
use Rattle.steady_laws.specs.Steady.{IsSteady, SteadyValue, SteadyThunk, steady_closed, steady_applied, steady_field, steady_known, SteadyThunks, steady_none, steady_and}
use Rattle.steady_laws.specs.Laws.{AreValues}
use Rattle.steady_laws.proofs.Parts.{thunk_steady, fields_of_steady, elements_of_steady}
use Rattle.steady_laws.proofs.Stays.{DefsAreSteady, forces_stay}

mutual
  pub yields_stay : {p : Program} {n : ℕ} {t : TypeTree} {th : Thunk} {h : History} {d : Datum} → DefsAreSteady p → Yields p n t th h d → SteadyThunk p th → (g : History) → Yields p n t th g d
  yields_stay ds (y_empty w z) s g = y_empty w z
  yields_stay ds (y_value w a y) s g = let q = forces_stay ds a s g in y_value w q.0 (value_yields_stay ds y q.1 g)

  value_yields_stay : {p : Program} {n : ℕ} {t : TypeTree} {v : Value} {h : History} {d : Datum} → DefsAreSteady p → ValueYields p n t v h d → SteadyValue p v → (g : History) → ValueYields p n t v g d
  value_yields_stay ds v_word s g = v_word
  value_yields_stay ds (v_elements all) s g = v_elements (each_stay ds all (elements_of_steady s) g)
  value_yields_stay ds (v_built i j all) s g = v_built i j (fields_stay ds all (fields_of_steady s) g)

  each_stay : {p : Program} {n : ℕ} {t : TypeTree} {ths : Thunks} {h : History} {d : Datums} → DefsAreSteady p → YieldEach p n t ths h d → SteadyThunks p ths → (g : History) → YieldEach p n t ths g d
  each_stay ds yield_none s g = yield_none
  each_stay ds (yield_each a more) (steady_and s ss) g = yield_each (yields_stay ds a s g) (each_stay ds more ss g)

  fields_stay : {p : Program} {n : ℕ} {fs : List TypeTree} {σ : Substitution} {ths : Thunks} {h : History} {d : Datums} → DefsAreSteady p → YieldFields p n fs σ ths h d → SteadyThunks p ths → (g : History) → YieldFields p n fs σ ths g d
  fields_stay ds yield_no_field s g = yield_no_field
  fields_stay ds (yield_field {fs = fs} i a more) s g = yield_field i (yields_stay ds a (thunk_steady (length fs) s i) g) (fields_stay ds more s g)

-- a port takes a stream first
mutual
  no_port : {A : Type 0} {datas : List Data} {t : TypeTree} {ins more : List Input} {x : Thunk} → PortGiven datas t ins x more → AreValues ins → A
  no_port (given_stream r all) v = absurd v
  no_port (given_product i j k fs) v = no_first_port fs v

  no_first_port : {A : Type 0} {datas : List Data} {f : TypeTree} {fs : List TypeTree} {σ : Substitution} {on th : Thunk} {ins more : List Input} → FieldsGiven datas (f ∷ fs) σ on ins th more → AreValues ins → A
  no_first_port (given_field a more) v = no_port a v

given_steady : {p : Program} {datas : List Data} {t : TypeTree} {ins more : List Input} {x : Thunk} → Given datas t ins x more → AreValues ins → SteadyThunk p x × AreValues more
given_steady (given_value r u) v = (steady_known, v)
given_steady (given_port a) v = no_port a v

pub inputs_steady : {p : Program} {datas : List Data} {t r : TypeTree} {on th : Thunk} {ins : List Input} → OnInputs datas t on ins r th → AreValues ins → SteadyThunk p on → SteadyThunk p th
inputs_steady on_all v s = s
inputs_steady {p} (on_next a more) v s = let q = given_steady {p = p} a v in inputs_steady more q.1 (steady_applied s q.0)

-- each of these leaves has a steady thunk
abbrev pub SteadyLeaves : Program → List LeafOf → Type 0
SteadyLeaves p [] = Unit {0}
SteadyLeaves p (l ∷ ls) = SteadyThunk p l.thunk × SteadyLeaves p ls

joined_leaves : (p : Program) (ls ms : List LeafOf) → SteadyLeaves p ls → SteadyLeaves p ms → SteadyLeaves p (ls ++ ms)
joined_leaves p [] ms s r = r
joined_leaves p (l ∷ ls) ms s r = (s.0, joined_leaves p ls ms s.1 r)

mutual
  port_leaves_steady : {p : Program} {datas : List Data} {t : TypeTree} {th : Thunk} {ls : List LeafOf} → PortLeaves datas t th ls → SteadyThunk p th → SteadyLeaves p ls
  port_leaves_steady (leaf_signal r) s = (s, tt)
  port_leaves_steady (leaves_product i j k fs) s = field_leaves_steady fs s

  field_leaves_steady : {p : Program} {datas : List Data} {fs : List TypeTree} {σ : Substitution} {th : Thunk} {ls : List LeafOf} → FieldLeaves datas fs σ th ls → SteadyThunk p th → SteadyLeaves p ls
  field_leaves_steady no_field_leaves s = tt
  field_leaves_steady {p} (field_leaves {ls = ls} {ms = ms} a more) s = joined_leaves p ls ms (port_leaves_steady a (steady_field s)) (field_leaves_steady more s)

pub leaves_steady : {p : Program} {datas : List Data} {t : TypeTree} {th : Thunk} {ls : List LeafOf} → HasLeaves datas t th ls → SteadyThunk p th → SteadyLeaves p ls
leaves_steady (leaf_value r) s = (s, tt)
leaves_steady (leaves_port a) s = port_leaves_steady a s

pub leaf_steady : (p : Program) (ls : List LeafOf) (k : ℕ) (l : LeafOf) → SteadyLeaves p ls → slice_get ls k ≡ Some l → SteadyThunk p l.thunk
leaf_steady p [] k l s e = absurd (cc)
leaf_steady p (m ∷ ls) zero l s e = let same : m ≡ l = cc in subst (λ (l : LeafOf). SteadyThunk p l.thunk) same s.0
leaf_steady p (m ∷ ls) (suc k) l s e = leaf_steady p ls k l s.1 e

pub gives_stay : {p : Program} {e : TermTree} {t : TypeTree} {ins : List Input} {h : History} {k : ℕ} {d : Datum} → DefsAreSteady p → Gives p e t ins h k d → IsSteady p e → AreValues ins → (g : History) → Gives p e t ins g k d
gives_stay {p} {k = k} ds a s v g =
    let thunk : SteadyThunk p a.thunk = inputs_steady a.on_inputs v (steady_closed s steady_none) in
    let leaf = leaf_steady p a.leaves k a.leaf (leaves_steady a.are_leaves thunk) a.is_leaf in
    record { result = a.result; thunk = a.thunk; on_inputs = a.on_inputs; leaves = a.leaves; are_leaves = a.are_leaves; leaf = a.leaf; is_leaf = a.is_leaf; turns = a.turns; yields = yields_stay ds a.yields leaf g }
