-- The kinds of representable types and of ports.
use Rattle.std.proofs.Common.{◌≡◌, ℕ, refl, ap, subst, ◌∙◌, List, [], ◌∷◌, reverse}
use Rattle.std.specs.Prelude.{Some}
use Rattle.std.specs.List.{slice_get, AllByRecursion}
use Rattle.chw_types.specs.declared.kind.Kind.{Kind}
use Rattle.chw_types.specs.declared.kind.Kind.TheVariants.{Val, Cir}
use Rattle.chw_types.specs.declared.declarations.Data.{Data}
use Rattle.type_ports.specs.declared.ports.Leaf.{Leaf}
use Rattle.chw_types.specs.TypeTree.{TypeTree, data_of, TypeTrees}
use Rattle.chw_types.specs.TypeMoves.{Substitution, sub}
use Rattle.chw_types.specs.Arguments.{arguments, all_fields}
use Rattle.chw_types.specs.Kinds.{KindOf, kind_scalar, kind_vector, kind_data, kind_signal, KindsOf}
use Rattle.type_ports.specs.Representable.{Representable, representable_scalar, representable_vector, representable_data, AllRepresentable, none_to_represent, represent_and}
use Rattle.type_ports.specs.Ports.{Leaves, one_leaf, leaves_of_fields, LeavesOfAll, leaves_and}
use Rattle.chw_terms.specs.References.{IsField}
use Rattle.chw_terms.specs.Tidy.{HasCircuit}
use Rattle.chw_typing.specs.Scopes.{Setting, HasKind}
use Rattle.chw_typing.specs.Programs.{IsSound}
use Rattle.chw_typing.proofs.FieldKinds.{closed_put, field_kind}
use Rattle.chw_typing.proofs.NamedParts.{of_field}

-- the type is one of values, if it has a kind
abbrev ValAtMost : Setting → TypeTree → Type 0
ValAtMost s t = (k : Kind) → HasKind s [] t k → k ≡ Val

data_kind : (s : Setting) {d : ℕ} {ts : TypeTrees} {k : Kind} (it : Data) → slice_get s.datas d ≡ Some it → HasKind s [] (data_of d ts) k → (k ≡ it.kind) × KindsOf s.datas s.domains [] ts it.params
data_kind s {ts = ts} it known (kind_data {it = other} e kinds) =
    let same : other ≡ it = cc in (ap (λ (o : Data). o.kind) same, subst (λ (o : Data). KindsOf s.datas s.domains [] ts o.params) same kinds)

module _ (s : Setting) (sound : IsSound s) where
  -- a data type all of whose fields are of values is of values
  of_values : (d : ℕ) (it : Data) (ts : TypeTrees) → slice_get s.datas d ≡ Some it → KindsOf s.datas s.domains [] ts it.params → AllByRecursion (λ f. ValAtMost s (sub f (arguments ts))) (all_fields it.cons) → it.kind ≡ Val
  of_values d it ts known kinds all = (sound.kinds d it known).values none
    where
      none : HasCircuit s.datas s.domains it → ⊥
      none h = let bad : Cir ≡ Val = of_field (λ f. ValAtMost s (sub f (arguments ts))) it h.0 h.1 all Cir (closed_put s it.params ts h.0 Cir kinds h.2) in cc

  mutual
    pub representable_val : {t : TypeTree} → Representable s.datas t → ValAtMost s t
    representable_val representable_scalar k (kind_scalar d) = refl
    representable_val (representable_vector r) k (kind_vector d e o) = representable_val r k e
    representable_val (representable_data {d = d} {it = it} {ts = ts} known many all) k has =
        let of = data_kind s it known has in of.0 ∙ of_values d it ts known of.1 (all_val all)

    all_val : {fs : List TypeTree} {σ : Substitution} → AllRepresentable s.datas fs σ → AllByRecursion (λ f. ValAtMost s (sub f σ)) fs
    all_val none_to_represent = tt
    all_val (represent_and r all) = (representable_val r, all_val all)

  mutual
    pub port_cir : {t : TypeTree} {ls : List Leaf} → Leaves s.datas t ls → (k : Kind) → HasKind s [] t k → k ≡ Cir
    port_cir (one_leaf r) k (kind_signal d e) = refl
    port_cir (leaves_of_fields {d = d} {it = it} {ts = ts} {c = c} {f = f} known many one fields all) k has =
        let of = data_kind s it known has in
        let field : IsField it f = record { con = 0; of = c; is_con = ap (λ cs. slice_get cs 0) one; at = 0; is_field = ap (λ fs. slice_get fs 0) fields } in
        let typed = field_kind s sound d it ts f known field of.1 in
        let cir = first_cir all typed.0 typed.2 in
        of.0 ∙ (sound.kinds d it known).circuit (f, field, subst (λ j. KindOf s.datas s.domains (reverse it.params) f j) cir typed.1)

    first_cir : {f : TypeTree} {fs : List TypeTree} {σ : Substitution} {ls : List Leaf} → LeavesOfAll s.datas (f ∷ fs) σ ls → (k : Kind) → HasKind s [] (sub f σ) k → k ≡ Cir
    first_cir (leaves_and l more) k has = port_cir l k has
