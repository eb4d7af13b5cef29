-- The parts of ports: those of types that are the same up to naturals, and those of fields.
use Rattle.std.proofs.Common.{◌≡◌, ℕ, zero, suc, ◌+◌, arith, List, [], ◌∷◌, ◌++◌, length, map, Some, refl, sym, ap, ◌∙◌, subst, length-append}
use Rattle.std.specs.Prelude.{drop}
use Rattle.std.specs.List.{slice_get}
use Rattle.std.proofs.lemmas.List.{length-take-le, length-drop}
use Rattle.chw_base.specs.declared.index.ConId.{ConId}
use Rattle.chw_base.specs.declared.index.WireId.{WireId}
use Rattle.chw_types.specs.declared.declarations.ConDecl.{ConDecl}
use Rattle.chw_types.specs.declared.declarations.Data.{Data}
use Rattle.chw_types.specs.declared.kind.Kind.{Kind}
use Rattle.chw_types.specs.declared.kind.Kind.TheVariants.{Val}
use Rattle.type_ports.specs.declared.ports.Leaf.{Leaf}
use Rattle.chw_types.specs.Arguments.{arguments}
use Rattle.chw_types.specs.Kinds.{kind_signal}
use Rattle.type_ports.specs.Ports.{leaf_of, Leaves, one_leaf, leaves_of_fields, LeavesOfAll, no_leaves, leaves_and}
use Rattle.chw_types.specs.SameTypes.{SameTypes}
use Rattle.chw_types.specs.TypeMoves.{Substitution, sub}
use Rattle.chw_types.specs.TypeTree.{TypeTree, TypeTrees, domain, data_of, signal}
use Rattle.type_laws.specs.SameKept.{FieldsKeepSame}
use Rattle.chw_terms.specs.Constructors.{Constructor, con_at}
use Rattle.chw_terms.specs.declared.scene.Sort.TheVariants.{Circuit}
use Rattle.chw_terms.specs.declared.term.Pattern.TheVariants.{OfCon}
use Rattle.chw_typing.specs.HeadTypes.{PatternOf, of_con}
use Rattle.chw_typing.specs.Given.{AsksForNone}
use Rattle.chw_typing.specs.Programs.{IsSound}
use Rattle.chw_typing.specs.Scopes.{Setting, HasKind}
use Rattle.chw_layout.specs.Measured.{fits, HasWidth}
use Rattle.layout_laws.specs.SameLayout.{SameKeepsMeasure}
use Rattle.chw_typing.specs.Alike.{AreLike}
use Rattle.net_built.specs.Circuits.{HaveParts, field_wires}
use Rattle.net_built.specs.Data.{HaveWidths, HasParts, port_parts}
use Rattle.net_built.specs.Wires.{present, wire_count}
use Rattle.net_grounds.specs.Facts.{Facts}
use Rattle.net_grounds.specs.Kinds.{AllLike}
use Rattle.net_means.proofs.Lists.{same_some}

-- each leaf with the one at its place: the first has a kind, and the second is the same
abbrev LikeLeaves : Setting → List Leaf → List Leaf → Type 0
LikeLeaves s [] [] = Unit {0}
LikeLeaves s (l ∷ ls) (m ∷ ms) = AreLike s l.payload m.payload × LikeLeaves s ls ms
LikeLeaves s _ _ = ⊥

payload_like : {s : Setting} {d t u : TypeTree} {k : Kind} → HasKind s [] (signal d t) k → SameTypes t u → AreLike s t u
payload_like (kind_signal d e) h = record { kind = Val; has = e; same = h }

leaves_beside : (s : Setting) (ls ms ks ns : List Leaf) → LikeLeaves s ls ks → LikeLeaves s ms ns → LikeLeaves s (ls ++ ms) (ks ++ ns)
leaves_beside s [] ms [] ns a b = b
leaves_beside s (l ∷ ls) ms (k ∷ ks) ns a b = (a.0, leaves_beside s ls ms ks ns a.1 b)
leaves_beside s [] ms (k ∷ ks) ns a b = absurd a
leaves_beside s (l ∷ ls) ms [] ns a b = absurd a

module _ (facts : Facts) (s : Setting) (sound : IsSound s) (keep : FieldsKeepSame) where
  mutual
    leaves_like : {t u : TypeTree} {ls : List Leaf} → Leaves s.datas t ls → AreLike s t u → (ms : List Leaf) × Leaves s.datas u ms × LikeLeaves s ls ms
    leaves_like (one_leaf {dom = dom} {t = t} r) l =
        let at = facts.same.as_signal l.same in
        let like = payload_like {d = domain dom.number} l.has at.4 in
        let is = at.2 ∙ ap (λ e. signal e at.1) (facts.same.as_domain at.3) in (
          leaf_of dom at.1 ∷ [],
          subst (λ x. Leaves s.datas x (leaf_of dom at.1 ∷ [])) (sym is) (one_leaf (facts.same_layout.representable_same s sound keep r like)),
          (like, tt),
        )
    leaves_like (leaves_of_fields {d = d} {it = it} {ts = ts} {c = c} {f = f} {fs = fs} known as_many one fields a) l =
        let at = facts.same.as_data l.same in
        let likes = facts.kinds.con_like s (arguments ts) (arguments at.0) it.cons 0 c (ap (λ cs. slice_get cs 0) one) (facts.kinds.fields_like s sound keep d it ts at.0 l.kind known l.has at.2) in
        let more = all_leaves_like a (subst (AllLike s (arguments ts) (arguments at.0)) fields likes) in
        (more.0, subst (λ x. Leaves s.datas x more.0) (sym at.1) (leaves_of_fields known (facts.same.same_count at.2 ∙ as_many) one fields more.1), more.2)

    all_leaves_like : {fs : List TypeTree} {σ τ : Substitution} {ls : List Leaf} → LeavesOfAll s.datas fs σ ls → AllLike s σ τ fs → (ms : List Leaf) × LeavesOfAll s.datas fs τ ms × LikeLeaves s ls ms
    all_leaves_like no_leaves l = ([], no_leaves, tt)
    all_leaves_like (leaves_and {ls = ls} {ms = ms} a b) l =
        let first = leaves_like a l.0 in
        let rest = all_leaves_like b l.1 in
        (first.0 ++ rest.0, leaves_and first.1 rest.1, leaves_beside s ls ms first.0 rest.0 first.2 rest.2)

-- the types of the values at leaves
abbrev pub payloads : List Leaf → List TypeTree
payloads ls = map (λ (l : Leaf). l.payload) ls

widths_like : SameKeepsMeasure → (s : Setting) → IsSound s → (ls ms : List Leaf) (ws : List ℕ) → LikeLeaves s ls ms → HaveWidths s.datas (payloads ls) ws → HaveWidths s.datas (payloads ms) ws
widths_like law s sound [] [] ws l h = h
widths_like law s sound [] (m ∷ ms) ws l h = absurd l
widths_like law s sound (x ∷ ls) [] ws l h = absurd l
widths_like law s sound (x ∷ ls) (m ∷ ms) [] l h = absurd h
widths_like law s sound (x ∷ ls) (m ∷ ms) (w ∷ ws) l h = (law (fits w) s x.payload m.payload sound l.0 h.0, widths_like law s sound ls ms ws l.1 h.1)

-- a port that is the same up to naturals has the parts
pub parts_kept : Facts → FieldsKeepSame → SameKeepsMeasure → (s : Setting) → IsSound s → (t u : TypeTree) (ws : List ℕ) → AreLike s t u → HasParts s.datas Circuit t ws → HasParts s.datas Circuit u ws
parts_kept facts keep law s sound t u ws like (port_parts {leaves = ls} l h) =
    let at = leaves_like facts s sound keep l like in port_parts at.1 (widths_like law s sound ls at.0 ws at.2 h)

pub present_append : (xs ys : List ℕ) → present (xs ++ ys) ≡ present xs ++ present ys
present_append [] ys = refl
present_append (zero ∷ xs) ys = present_append xs ys
present_append (suc x ∷ xs) ys = ap (λ zs. suc x ∷ zs) (present_append xs ys)

pub count_append : (xs ys : List ℕ) → wire_count (xs ++ ys) ≡ wire_count xs + wire_count ys
count_append xs ys = ap (λ (ws : List ℕ). length ws) (present_append xs ys) ∙ length-append (present xs) (present ys)

-- the widths of the first leaves, and those of the others
pub record Split (datas : List Data) (ls ms : List Leaf) (ws : List ℕ) : Type 0 where
  pub first : List ℕ
  pub rest : List ℕ
  pub are : ws ≡ first ++ rest
  pub have : HaveWidths datas (payloads ls) first
  pub others : HaveWidths datas (payloads ms) rest

pub split : (datas : List Data) (ls ms : List Leaf) (ws : List ℕ) → HaveWidths datas (payloads (ls ++ ms)) ws → Split datas ls ms ws
split datas [] ms ws h = record { first = []; rest = ws; are = refl; have = tt; others = h }
split datas (l ∷ ls) ms [] h = absurd h
split datas (l ∷ ls) ms (w ∷ ws) h =
    let s = split datas ls ms ws h.1 in record { first = w ∷ s.first; rest = s.rest; are = ap (λ ws. w ∷ ws) s.are; have = (h.0, s.have); others = s.others }

-- how many wires the parts of all fields have
abbrev pub all_counts : List (List ℕ) → ℕ
all_counts [] = 0
all_counts (ws ∷ more) = wire_count ws + all_counts more

same_decl : (c d : ConDecl) (place : ℕ) → slice_get (c ∷ []) place ≡ Some d → c ≡ d
same_decl c d zero e = cc
same_decl c d (suc place) e = absurd cc

-- the leaves of a port are those of the fields of its constructor
pub con_leaves : Facts → (datas : List Data) (c d : ℕ) (it : Constructor) {ts : TypeTrees} {ls : List Leaf} → con_at datas c ≡ Some it → it.of ≡ d → Leaves datas (data_of d ts) ls → LeavesOfAll datas it.decl.fields (arguments ts) ls
con_leaves facts datas c d it {ts} {ls} known of (leaves_of_fields {it = other} {c = con} there as_many one fields a) =
    let mine = facts.constructors.is_constructor datas c it known in
    let same : it.it ≡ other = same_some mine.data_type (ap (λ i. slice_get datas i) of ∙ there) in
    let cons : it.it.cons ≡ con ∷ [] = ap (λ (x : Data). x.cons) same ∙ one in
    let decl : con ≡ it.decl = same_decl con it.decl mine.place (subst (λ cs. slice_get cs mine.place ≡ Some it.decl) cons mine.decl) in
    subst (λ fs. LeavesOfAll datas fs (arguments ts) ls) (sym fields ∙ ap (λ (x : ConDecl). x.fields) decl) a

-- the parts of a port are those of its fields
leaves_counts : Facts → {datas : List Data} {fs : List TypeTree} {σ : Substitution} {ls : List Leaf} → LeavesOfAll datas fs σ ls → (ws : List ℕ) (parts : List (List ℕ)) → HaveWidths datas (payloads ls) ws → HaveParts datas (map (λ f. sub f σ) fs) parts → wire_count ws ≡ all_counts parts
leaves_counts facts no_leaves [] [] h k = refl
leaves_counts facts no_leaves [] (x ∷ parts) h k = absurd k
leaves_counts facts no_leaves (w ∷ ws) parts h k = absurd h
leaves_counts facts (leaves_and a b) ws [] h k = absurd k
leaves_counts facts {datas} (leaves_and {ls = ls} {ms = ms} a b) ws (x ∷ parts) h k =
    let s = split datas ls ms ws h in
    let first : s.first ≡ x = facts.built.parts_once (port_parts a s.have) k.0 in
    let rest = leaves_counts facts b s.rest parts s.others k.1 in
    ap (λ ws. wire_count ws) s.are ∙ count_append s.first s.rest ∙ (λ i. wire_count (first i) + rest i)

pub pattern_counts : Facts → {datas : List Data} {t : TypeTree} {c : ConId} {n : ℕ} {fields : List TypeTree} {ws : List ℕ} (parts : List (List ℕ)) → PatternOf datas t (OfCon c n) fields → HasParts datas Circuit t ws → HaveParts datas fields parts → wire_count ws ≡ all_counts parts
pattern_counts facts {datas} {ws = ws} parts (of_con {d = d} {c = c} it known of n) (port_parts l h) k = leaves_counts facts (con_leaves facts datas c.number d it known of l) ws parts h k

-- the parts of one field
pub parts_at : (datas : List Data) (ts : List TypeTree) (parts : List (List ℕ)) (j : ℕ) (t : TypeTree) → HaveParts datas ts parts → slice_get ts j ≡ Some t → (ws : List ℕ) × (slice_get parts j ≡ Some ws) × HasParts datas Circuit t ws
parts_at datas [] parts j t h e = absurd cc
parts_at datas (u ∷ ts) [] j t h e = absurd h
parts_at datas (u ∷ ts) (ws ∷ parts) zero t h e = let is : u ≡ t = cc in (ws, refl, subst (λ t. HasParts datas Circuit t ws) is h.0)
parts_at datas (u ∷ ts) (ws ∷ parts) (suc j) t h e = parts_at datas ts parts j t h.1 e

-- and its wires
pub field_count : (j : ℕ) (parts : List (List ℕ)) (wires : List WireId) (ws : List ℕ) → slice_get parts j ≡ Some ws → length wires ≡ all_counts parts → length (field_wires j parts wires) ≡ wire_count ws
field_count j [] wires ws e h = absurd cc
field_count zero (x ∷ parts) wires ws e h =
    let is : x ≡ ws = cc in length-take-le (wire_count x) wires (omega (arith, h)) ∙ ap (λ ws. wire_count ws) is
field_count (suc j) (x ∷ parts) wires ws e h =
    let fewer = length-drop (wire_count x) wires in
    field_count j parts (drop (wire_count x) wires) ws e (omega (arith, h, fewer))

-- the parts of a signal are one, as wide as its values
pub signal_part : {datas : List Data} {d t : TypeTree} {ws : List ℕ} → HasParts datas Circuit (signal d t) ws → (w : ℕ) × HasWidth datas t w × (ws ≡ w ∷ [])
signal_part {ws = ws} (port_parts (one_leaf r) h) = one ws h
  where
    one : {datas : List Data} {t : TypeTree} (ws : List ℕ) → HaveWidths datas (t ∷ []) ws → (w : ℕ) × HasWidth datas t w × (ws ≡ w ∷ [])
    one [] h = absurd h
    one (w ∷ []) h = (w, h.0, refl)
    one (w ∷ v ∷ ws) h = absurd h.1

-- a port asks for no arguments
pub port_asks : Facts → {datas : List Data} {t : TypeTree} {ws : List ℕ} → HasParts datas Circuit t ws → (u : TypeTree) → SameTypes t u → AsksForNone u
port_asks facts (port_parts (one_leaf r) h) u same = let at = facts.same.as_signal same in subst AsksForNone (sym at.2) tt
port_asks facts (port_parts (leaves_of_fields known as_many one fields a) h) u same = let at = facts.same.as_data same in subst AsksForNone (sym at.1) tt
