-- The leaves of thunks of ports, where one thunk has all that another has.
use Rattle.std.specs.Prelude.{slice_get}
use Rattle.std.proofs.Common.{◌≡◌, ℕ, zero, suc, List, [], ◌∷◌, ◌++◌, length, map, Some, refl, sym, ap, ◌∙◌, subst}
use Rattle.chw_types.specs.Arguments.{arguments}
use Rattle.chw_types.specs.declared.declarations.Data.{Data}
use Rattle.chw_types.specs.declared.kind.Kind.{Kind}
use Rattle.chw_types.specs.declared.kind.Kind.TheVariants.{Val}
use Rattle.chw_types.specs.Kinds.{kind_signal}
use Rattle.chw_types.specs.SamePromises.{SameValues}
use Rattle.chw_types.specs.SameTypes.{SameTypes}
use Rattle.chw_types.specs.TypeMoves.{Substitution}
use Rattle.chw_types.specs.TypeTree.{TypeTree, domain, signal}
use Rattle.type_laws.specs.SameKept.{FieldsKeepSame}
use Rattle.chw_terms.specs.declared.program.Program.{Program}
use Rattle.chw_terms.specs.declared.scene.Sort.TheVariants.{Circuit}
use Rattle.chw_typing.specs.Programs.{IsSound, setting_of}
use Rattle.chw_typing.specs.Scopes.{Setting, HasKind}
use Rattle.chw_typing.specs.Alike.{AreLike}
use Rattle.chw_layout.specs.Measured.{HasWidth}
use Rattle.chw_meaning.specs.Values.{History, Thunk, field}
use Rattle.chw_meaning.specs.Eval.{plus, f_field}
use Rattle.chw_meaning.specs.Gives.{LeafOf, leaf_of, PortLeaves, leaf_signal, leaves_product, FieldLeaves, no_field_leaves, field_leaves}
use Rattle.net_built.specs.Data.{HaveWidths, HasParts, port_parts}
use Rattle.net_grounds.specs.Facts.{Facts}
use Rattle.net_grounds.specs.Kinds.{AllLike}
use Rattle.net_means.proofs.Lists.{found_in_map}
use Rattle.net_means.specs.CircuitBits.Leaves.{HasAllOf, IsLeaf}

-- so has the field of one what the field of the other has
pub field_has_all : {p : Program} {h : History} {th on : Thunk} (i : ℕ) → HasAllOf p h th on → HasAllOf p h (field i th) (field i on)
field_has_all i f n v (f_field {m = m} {n = k} {c = c} {ths = ths} a at b) = let x = f m _ a in (suc (plus x.0 k), f_field x.1 at b)

-- each leaf with the one at its place: its payload is the same, and it has all that the first has
abbrev pub LeavesFollow : Program → History → List LeafOf → List LeafOf → Type 0
LeavesFollow p h [] [] = Unit {0}
LeavesFollow p h (l ∷ ls) (m ∷ ms) = AreLike (setting_of p) l.payload m.payload × HasAllOf p h m.thunk l.thunk × LeavesFollow p h ls ms
LeavesFollow p h _ _ = ⊥

pub payload_like : {s : Setting} {d t u : TypeTree} {k : Kind} → HasKind s [] (signal d t) k → SameTypes t u → AreLike s t u
payload_like (kind_signal d e) h = record { kind = Val; has = e; same = h }

follow_beside : (p : Program) (h : History) (ls ms ks ns : List LeafOf) → LeavesFollow p h ls ks → LeavesFollow p h ms ns → LeavesFollow p h (ls ++ ms) (ks ++ ns)
follow_beside p h [] ms [] ns a b = b
follow_beside p h (l ∷ ls) ms (k ∷ ks) ns a b = (a.0, a.1, follow_beside p h ls ms ks ns a.2 b)
follow_beside p h [] ms (k ∷ ks) ns a b = absurd a
follow_beside p h (l ∷ ls) ms [] ns a b = absurd a

module _ (facts : Facts) (p : Program) (h : History) (sound : IsSound (setting_of p)) (keep : FieldsKeepSame) where
  mutual
    pub port_follows : {t u : TypeTree} {on : Thunk} {ls : List LeafOf} (th : Thunk) → PortLeaves p.datas t on ls → AreLike (setting_of p) t u → HasAllOf p h th on → (ms : List LeafOf) × PortLeaves p.datas u th ms × LeavesFollow p h ls ms
    port_follows th (leaf_signal {d = d} {t = t} r) l f =
        let at = facts.same.as_signal l.same in
        let like = payload_like {d = domain d} l.has at.4 in
        let is = at.2 ∙ ap (λ e. signal e at.1) (facts.same.as_domain at.3) in (
          leaf_of at.1 th ∷ [],
          subst (λ x. PortLeaves p.datas x th (leaf_of at.1 th ∷ [])) (sym is) (leaf_signal (facts.same_layout.representable_same (setting_of p) sound keep r like)),
          (like, f, tt),
        )
    port_follows th (leaves_product {d = d} {it = it} {ts = ts} {k = k} {f = f} {fs = fs} known one fields a) l g =
        let at = facts.same.as_data l.same in
        let likes = facts.kinds.con_like (setting_of p) (arguments ts) (arguments at.0) it.cons 0 k (ap (λ cs. slice_get cs 0) one) (facts.kinds.fields_like (setting_of p) sound keep d it ts at.0 l.kind known l.has at.2) in
        let more = fields_follow th a (subst (AllLike (setting_of p) (arguments ts) (arguments at.0)) fields likes) g in
        (more.0, subst (λ x. PortLeaves p.datas x th more.0) (sym at.1) (leaves_product known one fields more.1), more.2)

    fields_follow : {fs : List TypeTree} {σ τ : Substitution} {on : Thunk} {ls : List LeafOf} (th : Thunk) → FieldLeaves p.datas fs σ on ls → AllLike (setting_of p) σ τ fs → HasAllOf p h th on → (ms : List LeafOf) × FieldLeaves p.datas fs τ th ms × LeavesFollow p h ls ms
    fields_follow th no_field_leaves l g = ([], no_field_leaves, tt)
    fields_follow th (field_leaves {fs = fs} {ls = ls} {ms = ms} a b) l g =
        let first = port_follows (field (length fs) th) a l.0 (field_has_all (length fs) g) in
        let rest = fields_follow th b l.1 g in
        (first.0 ++ rest.0, field_leaves first.1 rest.1, follow_beside p h ls ms first.0 rest.0 first.2 rest.2)

-- the leaf at a place, and the one there that follows it
pub record Follower (p : Program) (h : History) (u : TypeTree) (th : Thunk) (k : ℕ) (leaf : LeafOf) : Type 0 where
  pub other : LeafOf
  pub is : IsLeaf p.datas u th k other
  pub like : AreLike (setting_of p) leaf.payload other.payload
  pub has : HasAllOf p h other.thunk leaf.thunk

record At (p : Program) (h : History) (ms : List LeafOf) (k : ℕ) (leaf : LeafOf) : Type 0 where
  other : LeafOf
  at : slice_get ms k ≡ Some other
  like : AreLike (setting_of p) leaf.payload other.payload
  has : HasAllOf p h other.thunk leaf.thunk

follow_at : (p : Program) (h : History) (ls ms : List LeafOf) (k : ℕ) (leaf : LeafOf) → LeavesFollow p h ls ms → slice_get ls k ≡ Some leaf → At p h ms k leaf
follow_at p h [] ms k leaf f e = absurd cc
follow_at p h (l ∷ ls) [] k leaf f e = absurd f
follow_at p h (l ∷ ls) (m ∷ ms) zero leaf f e =
    let is : l ≡ leaf = cc in
    subst (λ (l : LeafOf). At p h (m ∷ ms) zero l) is (record { other = m; at = refl; like = f.0; has = f.1 })
follow_at p h (l ∷ ls) (m ∷ ms) (suc k) leaf f e =
    let x = follow_at p h ls ms k leaf f.2 e in record { other = x.other; at = x.at; like = x.like; has = x.has }

pub leaf_follows : Facts → (p : Program) (h : History) → IsSound (setting_of p) → FieldsKeepSame → {t u : TypeTree} {on : Thunk} {k : ℕ} {leaf : LeafOf} (th : Thunk) → IsLeaf p.datas t on k leaf → AreLike (setting_of p) t u → HasAllOf p h th on → Follower p h u th k leaf
leaf_follows facts p h sound keep {k = k} {leaf = leaf} th is like all =
    let more = port_follows facts p h sound keep th is.are like all in
    let x = follow_at p h is.leaves more.0 k leaf more.2 is.at in
    record { other = x.other; is = record { leaves = more.0; are = more.1; at = x.at }; like = x.like; has = x.has }

-- the widths of a port's leaves
pub widths_at : (datas : List Data) (ts : List TypeTree) (ws : List ℕ) (k : ℕ) (t : TypeTree) → HaveWidths datas ts ws → slice_get ts k ≡ Some t → (w : ℕ) × (slice_get ws k ≡ Some w) × HasWidth datas t w
widths_at datas [] ws k t h e = absurd cc
widths_at datas (u ∷ ts) [] k t h e = absurd h
widths_at datas (u ∷ ts) (w ∷ ws) zero t h e = let is : u ≡ t = cc in (w, refl, subst (λ t. HasWidth datas t w) is h.0)
widths_at datas (u ∷ ts) (w ∷ ws) (suc k) t h e = widths_at datas ts ws k t h.1 e

pub leaf_width : Facts → {datas : List Data} {t : TypeTree} {ws : List ℕ} {th : Thunk} {k : ℕ} {leaf : LeafOf} → HasParts datas Circuit t ws → IsLeaf datas t th k leaf → (w : ℕ) × (slice_get ws k ≡ Some w) × HasWidth datas leaf.payload w
leaf_width facts {datas} {ws = ws} {k = k} {leaf = leaf} (port_parts {leaves = ls} l h) is =
    let same = facts.ports.leaves_agree l is.are in
    widths_at datas (map (λ (m : LeafOf). m.payload) is.leaves) ws k leaf.payload
    (subst (λ ts. HaveWidths datas ts ws) (sym same) h) (found_in_map (λ (m : LeafOf). m.payload) is.leaves k leaf is.at)

module _ (facts : Facts) (p : Program) (h : History) (sound : IsSound (setting_of p)) (values : SameValues) (keep : FieldsKeepSame) where
  widths_along : (ls ms : List LeafOf) (ws : List ℕ) → LeavesFollow p h ls ms → HaveWidths p.datas (map (λ (m : LeafOf). m.payload) ls) ws → HaveWidths p.datas (map (λ (m : LeafOf). m.payload) ms) ws
  widths_along [] [] ws f has = has
  widths_along [] (m ∷ ms) ws f has = absurd f
  widths_along (l ∷ ls) [] ws f has = absurd f
  widths_along (l ∷ ls) (m ∷ ms) [] f has = absurd has
  widths_along (l ∷ ls) (m ∷ ms) (w ∷ ws) f has = (facts.same_layout.measured_same (setting_of p) sound values keep has.0 f.0, widths_along ls ms ws f.2 has.1)

  -- ports that are the same have the same parts
  pub parts_along : {t u : TypeTree} {ws : List ℕ} → Thunk → HasParts p.datas Circuit t ws → AreLike (setting_of p) t u → HasParts p.datas Circuit u ws
  parts_along {t} {u} {ws} th (port_parts l has) like =
      let there = facts.ports.leaves_there l th in
      let more = port_follows facts p h sound keep th there.1 like (λ n v f. (n, f)) in
      let other = facts.same_layout.leaves_same (setting_of p) sound keep l like in
      port_parts other.1
      (subst (λ ts. HaveWidths p.datas ts ws) (facts.ports.leaves_agree other.1 more.1)
      (widths_along there.0 more.0 ws more.2 (subst (λ ts. HaveWidths p.datas ts ws) (sym (facts.ports.leaves_agree l there.1)) has)))
