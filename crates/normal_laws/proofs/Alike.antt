-- A type that is the same up to naturals as one whose widths hold passes no limit.
use Rattle.std.proofs.Common.{◌≡◌, ℕ, zero, suc, List, [], ◌∷◌, ◌++◌, Some, refl, sym, ap, ◌∙◌, subst}
use Rattle.std.specs.List.{slice_get}
use Rattle.chw_types.specs.declared.kind.Kind.{Kind}
use Rattle.chw_types.specs.declared.kind.Kind.TheVariants.{Val}
use Rattle.type_ports.specs.declared.ports.Leaf.{Leaf}
use Rattle.chw_types.specs.Arguments.{arguments}
use Rattle.chw_types.specs.Kinds.{kind_signal}
use Rattle.type_ports.specs.Ports.{leaf_of, Leaves, one_leaf, leaves_of_fields, LeavesOfAll, no_leaves, leaves_and}
use Rattle.chw_types.specs.SameTypes.{SameTypes}
use Rattle.chw_types.specs.TypeMoves.{Substitution}
use Rattle.chw_types.specs.TypeTree.{TypeTree, domain, signal}
use Rattle.type_laws.specs.SameKept.{FieldsKeepSame}
use Rattle.type_laws.proofs.SameForms.{as_domain, as_data, as_signal}
use Rattle.chw_typing.specs.Programs.{IsSound}
use Rattle.chw_typing.specs.Scopes.{Setting, HasKind}
use Rattle.chw_layout.specs.declared.outcome.NoLayout.{NoLayout}
use Rattle.chw_layout.specs.Measured.{fits, too_wide}
use Rattle.chw_layout.specs.Refusals.{OneMeasure}
use Rattle.layout_laws.specs.SameLayout.{SameKeepsMeasure}
use Rattle.chw_typing.specs.Alike.{AreLike}
use Rattle.chw_typing.proofs.FieldsPut.{same_count, AllLike, con_like, fields_like}
use Rattle.chw_typing.proofs.SameNames.{representable_same}
use Rattle.normal_forms.specs.Blocked.{Passes, by_width, by_leaf}
use Rattle.normal_forms.specs.Normal.{HoldsWidths}
use Rattle.normal_laws.proofs.Declared.{contains_at, fits_no_limit}

-- each leaf with the one at its place: the first has a kind, and the second is the same
abbrev LikeLeaves : Setting → List Leaf → List Leaf → Type 0
LikeLeaves s [] [] = Unit {0}
LikeLeaves s (l ∷ ls) (m ∷ ms) = AreLike s l.payload m.payload × LikeLeaves s ls ms
LikeLeaves s _ _ = ⊥

payload_like : (s : Setting) (d t u : TypeTree) (k : Kind) → HasKind s [] (signal d t) k → SameTypes t u → AreLike s t u
payload_like s d t u k (kind_signal c e) h = record { kind = Val; has = e; same = h }

leaves_beside : (s : Setting) (ls ms ks ns : List Leaf) → LikeLeaves s ls ks → LikeLeaves s ms ns → LikeLeaves s (ls ++ ms) (ks ++ ns)
leaves_beside s [] ms [] ns a b = b
leaves_beside s (l ∷ ls) ms (k ∷ ks) ns a b = (a.0, leaves_beside s ls ms ks ns a.1 b)
leaves_beside s [] ms (k ∷ ks) ns a b = absurd a
leaves_beside s (l ∷ ls) ms [] ns a b = absurd a

-- the leaf at this place
pub leaf_like : (s : Setting) (ls ms : List Leaf) (i : ℕ) (l : Leaf) → LikeLeaves s ls ms → slice_get ls i ≡ Some l → (m : Leaf) × (slice_get ms i ≡ Some m) × AreLike s l.payload m.payload
leaf_like s [] ms i l like h = absurd cc
leaf_like s (k ∷ ls) [] i l like h = absurd like
leaf_like s (k ∷ ls) (m ∷ ms) zero l like h = let same : k ≡ l = cc in (m, refl, subst (λ (x : Leaf). AreLike s x.payload m.payload) same like.0)
leaf_like s (k ∷ ls) (m ∷ ms) (suc i) l like h = leaf_like s ls ms i l like.1 h

module _ (s : Setting) (sound : IsSound s) (keep : FieldsKeepSame) where
  mutual
    pub leaves_like : {t u : TypeTree} {ls : List Leaf} → Leaves s.datas t ls → AreLike s t u → (ms : List Leaf) × Leaves s.datas u ms × LikeLeaves s ls ms
    leaves_like (one_leaf {dom = dom} {t = t} r) l =
        let at = as_signal l.same in
        let like = payload_like s (domain dom.number) t at.1 l.kind l.has at.4 in
        let is = at.2 ∙ ap (λ e. signal e at.1) (as_domain at.3) in (
          leaf_of dom at.1 ∷ [],
          subst (λ x. Leaves s.datas x (leaf_of dom at.1 ∷ [])) (sym is) (one_leaf (representable_same s sound keep r like)),
          (like, tt),
        )
    leaves_like (leaves_of_fields {d = d} {it = it} {ts = ts} {c = c} {f = f} {fs = fs} known as_many one fields a) l =
        let at = as_data l.same in
        let likes = con_like s (arguments ts) (arguments at.0) it.cons 0 c (ap (λ cs. slice_get cs 0) one) (fields_like s sound keep d it ts at.0 l.kind known l.has at.2) in
        let more = all_leaves_like a (subst (AllLike s (arguments ts) (arguments at.0)) fields likes) in
        (more.0, subst (λ x. Leaves s.datas x more.0) (sym at.1) (leaves_of_fields known (same_count at.2 ∙ as_many) one fields more.1), more.2)

    all_leaves_like : {fs : List TypeTree} {σ τ : Substitution} {ls : List Leaf} → LeavesOfAll s.datas fs σ ls → AllLike s σ τ fs → (ms : List Leaf) × LeavesOfAll s.datas fs τ ms × LikeLeaves s ls ms
    all_leaves_like no_leaves l = ([], no_leaves, tt)
    all_leaves_like (leaves_and {ls = ls} {ms = ms} a b) l =
        let first = leaves_like a l.0 in
        let rest = all_leaves_like b l.1 in
        (first.0 ++ rest.0, leaves_and first.1 rest.1, leaves_beside s ls ms first.0 rest.0 first.2 rest.2)

  pub like_passes_none : OneMeasure → SameKeepsMeasure → (t u : TypeTree) (l : NoLayout) → HoldsWidths s.datas t → AreLike s u t → Passes s.datas u l → ⊥
  like_passes_none one kept t u l h like (by_width r m) =
      let w = h.value (representable_same s sound keep r like) in fits_no_limit w.0 l (one s.datas t (fits w.0) (too_wide l) w.1 (kept (too_wide l) s u t sound like m))
  like_passes_none one kept t u l h like (by_leaf {ls = ls} {i = i} {leaf = leaf} leaves at m first) =
      let others = leaves_like leaves like in
      let other = leaf_like s ls others.0 i leaf others.2 at in
      let w = h.leaves others.0 other.0 others.1 (contains_at others.0 i other.0 other.1) in
      fits_no_limit w.0 l (one s.datas other.0.payload (fits w.0) (too_wide l) w.1 (kept (too_wide l) s leaf.payload other.0.payload sound other.2 m))
