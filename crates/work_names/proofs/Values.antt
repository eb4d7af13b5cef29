-- The parameters of functions of values.
use Rattle.std.proofs.Common.{◌≡◌, ◌∙◌, sym, ap, refl, subst, List, [], ◌∷◌, ◌++◌}
use Rattle.std.specs.List.{AllByRecursion}
use Rattle.chw_types.specs.declared.declarations.Data.{Data}
use Rattle.chw_types.specs.declared.ty.TyNode.{TyNode}
use Rattle.chw_types.specs.declared.ty.TyNode.TheVariants.{Var, NatLit, Sum, Times, DomOf, Unsigned, Signed, BitVector, Vec, DataOf, Fun, Signal, Forall}
use Rattle.type_ports.specs.Representable.{Representable}
use Rattle.chw_types.specs.TypeTree.{TypeTree, fun}
use Rattle.chw_types.specs.TypeView.{tree_of}
use Rattle.chw_typing.specs.HeadTypes.{from_each}
use Rattle.work_names.specs.Functions.{IsOfValues}

abbrev IsRepresented : List Data → List TypeTree → Type 0
IsRepresented datas ts = AllByRecursion (Representable datas) ts

from_push : (ts : List TypeTree) (a t : TypeTree) → from_each (ts ++ a ∷ []) t ≡ from_each ts (fun a t)
from_push [] a t = refl
from_push (u ∷ ts) a t = ap (fun u) (from_push ts a t)

all_push : (datas : List Data) (ts : List TypeTree) (a : TypeTree) → IsRepresented datas ts → Representable datas a → IsRepresented datas (ts ++ a ∷ [])
all_push datas [] a h r = (r, tt)
all_push datas (t ∷ ts) a h r = (h.0, all_push datas ts a h.1 r)

-- the parameters so far, and the type that is left
pub record Passed (datas : List Data) (t : TypeTree) (params : List TypeTree) (rest : TypeTree) : Type 0 where
  pub is : t ≡ from_each params rest
  pub takes : IsRepresented datas params

pub passed_none : (datas : List Data) (t rest : TypeTree) (params : List TypeTree) → params ≡ [] → rest ≡ t → Passed datas t params rest
passed_none datas t rest params p q = record {
  is = sym q ∙ ap (λ ps. from_each ps rest) (sym p);
  takes = subst (IsRepresented datas) (sym p) tt;
}

pub passed_one : (datas : List Data) (t rest a b : TypeTree) (params next : List TypeTree) → Passed datas t params rest → rest ≡ fun a b → Representable datas a → next ≡ params ++ a ∷ [] → Passed datas t next b
passed_one datas t rest a b params next p form r n = record {
  is = p.is ∙ ap (from_each params) form ∙ sym (from_push params a b) ∙ ap (λ ps. from_each ps b) (sym n);
  takes = subst (IsRepresented datas) (sym n) (all_push datas params a p.takes r);
}

pub passed_all : (datas : List Data) (t rest : TypeTree) (params : List TypeTree) → Passed datas t params rest → Representable datas rest → IsOfValues datas t params
passed_all datas t rest params p r = record { gives = rest; is = p.is; takes = p.takes; result = r }

-- no function is representable
no_function : (datas : List Data) (a b t : TypeTree) → t ≡ fun a b → Representable datas t → ⊥
no_function datas a b t e h = none (subst (Representable datas) e h)
  where
    none : Representable datas (fun a b) → ⊥
    none h = elim h [ ]

abbrev pub NoValues : List Data → TypeTree → Type 0
NoValues datas t = (params : List TypeTree) → IsOfValues datas t params → ⊥

-- so a type is one of functions of values where what is left is one
no_values_passed : (datas : List Data) (ts : List TypeTree) (rest : TypeTree) → NoValues datas rest → NoValues datas (from_each ts rest)
no_values_passed datas [] rest none params v = none params v
no_values_passed datas (t ∷ ts) rest none [] v = no_function datas t (from_each ts rest) v.gives (sym v.is) v.result
no_values_passed datas (t ∷ ts) rest none (p ∷ params) v =
    let is : fun t (from_each ts rest) ≡ fun p (from_each params v.gives) = v.is in
    let behind : from_each ts rest ≡ from_each params v.gives = cc in
    no_values_passed datas ts rest none params (record { gives = v.gives; is = behind; takes = v.takes.1; result = v.result })

pub none_passed : (datas : List Data) (t rest : TypeTree) (params : List TypeTree) → Passed datas t params rest → NoValues datas rest → NoValues datas t
none_passed datas t rest params p none = subst (NoValues datas) (sym p.is) (no_values_passed datas params rest none)

-- not where the first parameter isn't representable
pub none_first : (datas : List Data) (a b t : TypeTree) → t ≡ fun a b → (Representable datas a → ⊥) → NoValues datas t
none_first datas a b t form none [] v = no_function datas a b v.gives (sym v.is ∙ form) v.result
none_first datas a b t form none (p ∷ params) v =
    let is : fun p (from_each params v.gives) ≡ fun a b = sym v.is ∙ form in
    let first : p ≡ a = cc in
    none (subst (Representable datas) first v.takes.0)

-- nor where there is none and the type isn't representable
pub none_last : (datas : List Data) (t : TypeTree) → ((a b : TypeTree) → t ≡ fun a b → ⊥) → (Representable datas t → ⊥) → NoValues datas t
none_last datas t other none [] v = none (subst (Representable datas) (sym v.is) v.result)
none_last datas t other none (p ∷ params) v = other p (from_each params v.gives) v.is

-- a node of another form is no function
pub other_form : (node : TyNode) → ((a b : _) → node ≡ Fun a b → ⊥) → (a b : TypeTree) → tree_of node ≡ fun a b → ⊥
other_form (Var x) none a b q = absurd cc
other_form (NatLit n) none a b q = absurd cc
other_form (Sum t u) none a b q = absurd cc
other_form (Times t u) none a b q = absurd cc
other_form (DomOf d) none a b q = absurd cc
other_form (Unsigned w) none a b q = absurd cc
other_form (Signed w) none a b q = absurd cc
other_form (BitVector w) none a b q = absurd cc
other_form (Vec n t) none a b q = absurd cc
other_form (DataOf d ts) none a b q = absurd cc
other_form (Fun t u) none a b q = none t u refl
other_form (Signal d t) none a b q = absurd cc
other_form (Forall k t) none a b q = absurd cc
