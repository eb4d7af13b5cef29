-- A data type whose only field is of itself.
use Rattle.std.proofs.Common.{◌≡◌, ℕ, zero, suc, [], ◌∷◌, Some, slice_get, refl, sym, ap, ◌∙◌, subst, codes}
use Rattle.chw_types.specs.declared.kind.Kind.{Kind}
use Rattle.chw_types.specs.declared.kind.Kind.TheVariants.{Val, Cir}
use Rattle.chw_types.specs.declared.declarations.ConDecl.{ConDecl}
use Rattle.chw_types.specs.declared.declarations.Data.{Data}
use Rattle.chw_types.specs.BuiltIn.{constructor_of}
use Rattle.chw_types.specs.TypeTree.{TypeTree, data_of, no_types}
use Rattle.chw_types.specs.Kinds.{KindOf, kind_data, no_kinds}
use Rattle.chw_types.proofs.KindsFound.{one_kind}
use Rattle.chw_terms.specs.Tidy.{HasCircuit, HasItsKind}
use Rattle.data_kinds.specs.Kinds.{HaveTheirKinds}
use Rattle.data_kinds.specs.Examples.{loop, LoopHasTwoKinds}

-- its constructor
abbrev again : ConDecl
again = constructor_of (codes "Again") (data_of 0 no_types ∷ [])

-- the data type itself
abbrev own : Kind → Data
own k = record { name = codes "Loop"; params = []; kind = k; cons = again ∷ [] }

-- its only field is of itself
field_at : (n : ℕ) (t : TypeTree) → slice_get again.fields n ≡ Some t → data_of 0 no_types ≡ t
field_at zero t h = cc
field_at (suc n) t h = absurd (cc)

field_of : (c : ℕ) (of : ConDecl) (n : ℕ) (t : TypeTree) → slice_get (again ∷ []) c ≡ Some of → slice_get of.fields n ≡ Some t → data_of 0 no_types ≡ t
field_of zero of n t h g = let same : again ≡ of = cc in field_at n t (ap (λ (c : ConDecl). slice_get c.fields n) same ∙ g)
field_of (suc c) of n t h g = absurd (cc)

-- so it has its own kind
its_kind : (k : Kind) → KindOf (loop k) 0 [] (data_of 0 no_types) k
its_kind k = kind_data {it = own k} refl no_kinds

-- whichever that is, its field gives it
own_kind : (k : Kind) → HasCircuit (loop k) 0 (own k) → k ≡ Cir
own_kind k c = one_kind (its_kind k) (subst (λ (t : TypeTree). KindOf (loop k) 0 [] t Cir) (sym (field_of c.1.con c.1.of c.1.at c.0 c.1.is_con c.1.is_field)) c.2)

no_circuit : (HasCircuit (loop Cir) 0 (own Cir) → ⊥) → ⊥
no_circuit none = none (data_of 0 no_types, record { con = 0; of = again; is_con = refl; at = 0; is_field = refl }, its_kind Cir)

-- it stands alone
all_of : (k : Kind) → HasItsKind (loop k) 0 (own k) → HaveTheirKinds (loop k) 0
all_of k has zero it h = let same : own k ≡ it = cc in subst (HasItsKind (loop k) 0) same has
all_of k has (suc d) it h = absurd (cc)

apart : loop Val ≡ loop Cir → ⊥
apart e =
    let at : Some (own Val) ≡ Some (own Cir) = ap (λ l. slice_get l 0) e in
    let items : own Val ≡ own Cir = cc in
    let kinds : Val ≡ Cir = ap (λ (it : Data). it.kind) items in
    absurd (cc)

pub two_kinds : LoopHasTwoKinds
two_kinds = record {
  values = all_of Val (record { circuit = own_kind Val; values = λ none. refl });
  circuit = all_of Cir (record { circuit = λ c. refl; values = λ none. absurd (no_circuit none) });
  same_but_kinds = refl;
  apart = apart;
}
