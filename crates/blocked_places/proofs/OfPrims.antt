-- Payloads of primitives.
use Rattle.std.proofs.Common.{◌≡◌, ◌∙◌, sym, subst, ℕ, List, Some}
use Rattle.std.specs.List.{slice_get}
use Rattle.chw_types.specs.declared.declarations.Data.{Data}
use Rattle.type_ports.specs.Representable.{Representable}
use Rattle.chw_types.specs.TypeTree.{TypeTree}
use Rattle.chw_prims.specs.declared.prim.Primitive.{Primitive as Prim}
use Rattle.chw_terms.specs.declared.term.Arg.{Arg}
use Rattle.chw_terms.specs.declared.term.Arg.TheVariants.{OfType}
use Rattle.chw_terms.specs.TermTree.{TermTree, prim}
use Rattle.chw_terms.specs.TermView.{applied}
use Rattle.normal_forms.specs.Blocked.{HasPayload}
use Rattle.blocked_places.specs.Payloads.{IsPayload}
use Rattle.blocked_places.proofs.Shapes.{same_prim}

-- the payload of a primitive on these arguments
pub record IsPayloadOf (datas : List Data) (p : Prim) (args : List Arg) (t : TypeTree) : Type 0
  where
    pub number : ℕ
    pub has : HasPayload p number
    pub type : slice_get args number ≡ Some (OfType t)
    pub refused : Representable datas t → ⊥

pub payload_of : (datas : List Data) (p : Prim) (args : List Arg) (e : TermTree) (t : TypeTree)
    → e ≡ applied (prim p) args → IsPayload datas e t → IsPayloadOf datas p args t
payload_of datas p args e t q h =
    let same = same_prim h.which p h.args args (sym h.is ∙ q) in
    subst (λ r. IsPayloadOf datas r args t) same.which
    (subst (λ xs. IsPayloadOf datas h.which xs t) same.on
    (record { number = h.number; has = h.has; type = h.type; refused = h.refused }))

-- the argument of that number
pub payload_there : (datas : List Data) (p : Prim) (args : List Arg) (t : TypeTree) (i : ℕ)
    (it : IsPayloadOf datas p args t) → it.number ≡ i → slice_get args i ≡ Some (OfType t)
payload_there datas p args t i it e = subst (λ j. slice_get args j ≡ Some (OfType t)) e it.type

pub payload_is : (args : List Arg) (i : ℕ) (u t : TypeTree) → slice_get args i ≡ Some (OfType u)
    → slice_get args i ≡ Some (OfType t) → u ≡ t
payload_is args i u t a b = let same : Some (OfType u) ≡ Some (OfType t) = sym a ∙ b in cc
