-- Closed types that are the same are representable alike, and are ports with the same leaves.
use Rattle.std.proofs.Common.{refl, sym, ap, subst, ◌∙◌, List, [], ◌∷◌, ◌++◌}
use Rattle.std.specs.List.{slice_get}
use Rattle.chw_types.specs.declared.kind.Kind.{Kind}
use Rattle.chw_types.specs.declared.kind.Kind.TheVariants.{Val}
use Rattle.type_ports.specs.declared.ports.Leaf.{Leaf}
use Rattle.chw_types.specs.TypeTree.{TypeTree, domain, vector, signal}
use Rattle.chw_types.specs.TypeMoves.{Substitution}
use Rattle.chw_types.specs.Arguments.{arguments}
use Rattle.chw_types.specs.Kinds.{kind_vector, kind_signal}
use Rattle.chw_types.specs.SameTypes.{SameTypes}
use Rattle.type_ports.specs.Representable.{Representable, representable_scalar, representable_vector, representable_data, AllRepresentable, none_to_represent, represent_and}
use Rattle.type_ports.specs.Ports.{leaf_of, Leaves, one_leaf, leaves_of_fields, LeavesOfAll, no_leaves, leaves_and}
use Rattle.type_laws.specs.SameKept.{FieldsKeepSame}
use Rattle.type_laws.proofs.SameForms.{as_domain, as_scalar, as_vector, as_data, as_signal}
use Rattle.chw_typing.specs.Scopes.{Setting, HasKind}
use Rattle.chw_typing.specs.Programs.{IsSound}
use Rattle.chw_typing.specs.Alike.{AreLike, AreSameLeaves}
use Rattle.chw_typing.proofs.FieldsPut.{same_count, AllLike, con_like, all_fields_like, fields_like}

pub element_like : {s : Setting} {n t u : TypeTree} {k : Kind} → HasKind s [] (vector n t) k → SameTypes t u → AreLike s t u
element_like (kind_vector {k = k} d e o) h = record { kind = k; has = e; same = h }

module _ (s : Setting) (sound : IsSound s) (keep : FieldsKeepSame) where
  mutual
    pub representable_same : {t u : TypeTree} → Representable s.datas t → AreLike s t u → Representable s.datas u
    representable_same representable_scalar l = let at = as_scalar l.same in subst (Representable s.datas) (sym at.1) representable_scalar
    representable_same {u = u} (representable_vector {n = n} {t = t} a) l =
        let at = as_vector l.same in
        subst (Representable s.datas) (sym at.2) (representable_vector (representable_same a (element_like {n = n} l.has at.4)))
    representable_same (representable_data {d = d} {it = it} {ts = ts} known as_many a) l =
        let at = as_data l.same in
        let like = all_fields_like s (arguments ts) (arguments at.0) it.cons (fields_like s sound keep d it ts at.0 l.kind known l.has at.2) in
        subst (Representable s.datas) (sym at.1) (representable_data known (same_count at.2 ∙ as_many) (all_representable_same a like))

    all_representable_same : {fs : List TypeTree} {σ τ : Substitution} → AllRepresentable s.datas fs σ → AllLike s σ τ fs → AllRepresentable s.datas fs τ
    all_representable_same none_to_represent l = none_to_represent
    all_representable_same (represent_and a b) l = represent_and (representable_same a l.0) (all_representable_same b l.1)

payload_like : {s : Setting} {d t u : TypeTree} {k : Kind} → HasKind s [] (signal d t) k → SameTypes t u → AreLike s t u
payload_like (kind_signal d e) h = record { kind = Val; has = e; same = h }

leaves_beside : (ls ms ks ns : List Leaf) → AreSameLeaves ls ks → AreSameLeaves ms ns → AreSameLeaves (ls ++ ms) (ks ++ ns)
leaves_beside [] ms [] ns a b = b
leaves_beside (l ∷ ls) ms (k ∷ ks) ns a b = (a.0, a.1, leaves_beside ls ms ks ns a.2 b)
leaves_beside [] ms (k ∷ ks) ns a b = absurd a
leaves_beside (l ∷ ls) ms [] ns a b = absurd a

module _ (s : Setting) (sound : IsSound s) (keep : FieldsKeepSame) where
  mutual
    pub leaves_same : {t u : TypeTree} {ls : List Leaf} → Leaves s.datas t ls → AreLike s t u → (ms : List Leaf) × Leaves s.datas u ms × AreSameLeaves ls ms
    leaves_same (one_leaf {dom = dom} {t = t} r) l =
        let at = as_signal l.same in
        let like = payload_like {d = domain dom.number} l.has at.4 in
        let is = at.2 ∙ ap (λ e. signal e at.1) (as_domain at.3) in (
          leaf_of dom at.1 ∷ [],
          subst (λ x. Leaves s.datas x (leaf_of dom at.1 ∷ [])) (sym is) (one_leaf (representable_same s sound keep r like)),
          (refl, at.4, tt),
        )
    leaves_same (leaves_of_fields {d = d} {it = it} {ts = ts} {c = c} {f = f} {fs = fs} known as_many one fields a) l =
        let at = as_data l.same in
        let likes = con_like s (arguments ts) (arguments at.0) it.cons 0 c (ap (λ cs. slice_get cs 0) one) (fields_like s sound keep d it ts at.0 l.kind known l.has at.2) in
        let more = all_leaves_same a (subst (AllLike s (arguments ts) (arguments at.0)) fields likes) in
        (more.0, subst (λ x. Leaves s.datas x more.0) (sym at.1) (leaves_of_fields known (same_count at.2 ∙ as_many) one fields more.1), more.2)

    all_leaves_same : {fs : List TypeTree} {σ τ : Substitution} {ls : List Leaf} → LeavesOfAll s.datas fs σ ls → AllLike s σ τ fs → (ms : List Leaf) × LeavesOfAll s.datas fs τ ms × AreSameLeaves ls ms
    all_leaves_same no_leaves l = ([], no_leaves, tt)
    all_leaves_same (leaves_and {ls = ls} {ms = ms} a b) l =
        let first = leaves_same a l.0 in
        let rest = all_leaves_same b l.1 in
        (first.0 ++ rest.0, leaves_and first.1 rest.1, leaves_beside ls ms first.0 rest.0 first.2 rest.2)
