-- Types of values among the types of terms.
use Rattle.std.proofs.Common.{◌≡◌, ℕ, refl, subst, List, ◌∷◌}
use Rattle.chw_types.specs.declared.kind.Kind.{Kind}
use Rattle.chw_types.specs.declared.kind.Kind.TheVariants.{Nat, Dom, Val, Cir}
use Rattle.chw_types.specs.declared.declarations.Data.{Data}
use Rattle.chw_types.specs.TypeTree.{TypeTree, vector, fun, signal, for_all}
use Rattle.chw_types.specs.Kinds.{HasFunctions, KindOf, kind_vector, kind_fun, kind_signal, kind_for_all}
use Rattle.chw_prims.specs.declared.row.Row.{Row}
use Rattle.chw_prims.specs.declared.row.Row.TheVariants.{Mapping, Applying, Delay, Memory}
use Rattle.chw_prims.specs.Schemas.{row_type}
use Rattle.steady_laws.specs.Steady.{IsSteadyRow}

-- only values go to values
pub from_values : (j : Kind) → HasFunctions j Val → j ≡ Val
from_values Val h = refl
from_values Nat h = absurd h
from_values Dom h = absurd h
from_values Cir h = absurd h

-- the parts of a type of a kind
pub result_kind : {datas : List Data} {domains : ℕ} {scope : List Kind} {a b : TypeTree} {k : Kind} → KindOf datas domains scope (fun a b) k → KindOf datas domains scope b k
result_kind (kind_fun d e h) = e

pub argument_kind : {datas : List Data} {domains : ℕ} {scope : List Kind} {a b : TypeTree} {k : Kind} → KindOf datas domains scope (fun a b) k → (j : Kind) × KindOf datas domains scope a j × HasFunctions j k
argument_kind (kind_fun {j = j} d e h) = (j, d, h)

pub argument_of_values : {datas : List Data} {domains : ℕ} {scope : List Kind} {a b : TypeTree} → KindOf datas domains scope (fun a b) Val → KindOf datas domains scope a Val
argument_of_values {datas} {domains} {scope} {a = a} d = let at = argument_kind d in subst (KindOf datas domains scope a) (from_values at.0 at.2) at.1

pub element_kind : {datas : List Data} {domains : ℕ} {scope : List Kind} {n t : TypeTree} {k : Kind} → KindOf datas domains scope (vector n t) k → KindOf datas domains scope t k
element_kind (kind_vector d e o) = e

pub bound_kind : {datas : List Data} {domains : ℕ} {scope : List Kind} {j k : Kind} {t : TypeTree} → KindOf datas domains scope (for_all j t) k → KindOf datas domains (j ∷ scope) t k
bound_kind (kind_for_all d o) = d

signal_kind : {datas : List Data} {domains : ℕ} {scope : List Kind} {d t : TypeTree} {k : Kind} → KindOf datas domains scope (signal d t) k → Cir ≡ k
signal_kind (kind_signal d e) = refl

-- a signal is no value
no_signal : {A : Type 0} {datas : List Data} {domains : ℕ} {scope : List Kind} {d t : TypeTree} → KindOf datas domains scope (signal d t) Val → A
no_signal d = let bad : Cir ≡ Val = signal_kind d in cc

-- a primitive of a type of values doesn't look at the history
pub row_of_values : {datas : List Data} {domains : ℕ} {scope : List Kind} (row : Row) → KindOf datas domains scope (row_type row) Val → IsSteadyRow row
row_of_values Mapping d = no_signal (result_kind (result_kind (bound_kind (bound_kind (bound_kind d)))))
row_of_values Applying d = no_signal (result_kind (result_kind (bound_kind (bound_kind (bound_kind d)))))
row_of_values Delay d = no_signal (result_kind (result_kind (bound_kind (bound_kind d))))
row_of_values Memory d = no_signal (result_kind (result_kind (result_kind (bound_kind (bound_kind (bound_kind (bound_kind d)))))))
row_of_values _ d = tt
