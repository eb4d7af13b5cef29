-- What types and constants determine: the parts of a type, the fields of a pattern, the bits of a
-- constant.
use Rattle.std.proofs.Common.{◌≡◌, ℕ, Bool, List, [], ◌∷◌, ◌++◌, map, Option, Some, refl, sym, ap, ◌∙◌, subst}
use Rattle.chw_base.specs.declared.index.ConId.{ConId}
use Rattle.chw_base.specs.declared.index.DomId.{DomId}
use Rattle.chw_types.specs.declared.declarations.ConDecl.{ConDecl}
use Rattle.chw_types.specs.declared.declarations.Data.{Data}
use Rattle.type_ports.specs.declared.ports.Leaf.{Leaf}
use Rattle.type_ports.specs.Ports.{leaf_of, Leaves, one_leaf, leaves_of_fields, LeavesOfAll, no_leaves, leaves_and}
use Rattle.chw_types.specs.TypeMoves.{Substitution}
use Rattle.chw_types.specs.TypeTree.{TypeTree, domain, signal}
use Rattle.chw_terms.specs.declared.scene.Sort.{Sort}
use Rattle.chw_terms.specs.declared.term.Pattern.{Pattern}
use Rattle.chw_terms.specs.Constructors.{con_at}
use Rattle.chw_terms.specs.TermTree.{TermTree, con}
use Rattle.chw_typing.specs.HeadTypes.{PatternOf, of_con, of_lit, of_any, fields_at}
use Rattle.chw_layout.specs.Datum.{Datum, built, elements, Datums, no_data, datum_and}
use Rattle.chw_layout.specs.Encodes.{Encodes}
use Rattle.chw_layout.specs.Measured.{fits, HasWidth}
use Rattle.chw_layout.proofs.Encodings.{encoded_once}
use Rattle.chw_layout.proofs.Measures.{measured_once}
use Rattle.net_built.specs.Circuits.{HaveParts, IsLifted, lifted_on_one, lifted_on_more}
use Rattle.net_built.specs.Data.{HaveWidths, HasParts, value_part, port_parts}
use Rattle.net_built.specs.Memories.{Denotes, denotes_word, denotes_built, denotes_elements, DenoteEach, denote_none, denote_and, HasBits, EncodeEach, HasWords}

pub same_some : {A : Type 0} {o : Option A} {a b : A} → o ≡ Some a → o ≡ Some b → a ≡ b
same_some e f = cc

pub width_once : {datas : List Data} {t : TypeTree} {v w : ℕ} → HasWidth datas t v → HasWidth datas t w → v ≡ w
width_once {v = v} {w = w} a b = let same : fits v ≡ fits w = measured_once a b in cc

pub widths_once : (datas : List Data) (ts : List TypeTree) (a b : List ℕ) → HaveWidths datas ts a → HaveWidths datas ts b → a ≡ b
widths_once datas [] [] [] h k = refl
widths_once datas [] [] (y ∷ b) h k = absurd k
widths_once datas [] (x ∷ a) b h k = absurd h
widths_once datas (t ∷ ts) [] b h k = absurd h
widths_once datas (t ∷ ts) (x ∷ a) [] h k = absurd k
widths_once datas (t ∷ ts) (x ∷ a) (y ∷ b) h k = λ i. width_once h.0 k.0 i ∷ widths_once datas ts a b h.1 k.1 i

-- the leaf of a signal
signal_leaf : {datas : List Data} {a t : TypeTree} {ls : List Leaf} → Leaves datas (signal a t) ls → (dom : DomId) × (a ≡ domain dom.number) × (ls ≡ leaf_of dom t ∷ [])
signal_leaf (one_leaf {dom = dom} r) = (dom, refl, refl)

same_number : {m n : ℕ} → domain m ≡ domain n → m ≡ n
same_number e = cc

same_leaf : (a b : DomId) (t : TypeTree) → domain a.number ≡ domain b.number → leaf_of a t ≡ leaf_of b t
same_leaf a b t e = let n : a.number ≡ b.number = same_number e in λ i. leaf_of (record { number = n i }) t

all_leaves_along : {datas : List Data} {fs gs : List TypeTree} {σ : Substitution} {ls : List Leaf} → fs ≡ gs → LeavesOfAll datas fs σ ls → LeavesOfAll datas gs σ ls
all_leaves_along {datas} {σ = σ} {ls = ls} e a = subst (λ fs. LeavesOfAll datas fs σ ls) e a

same_fields : {x y : Data} {c d : ConDecl} {fs gs : List TypeTree} → x ≡ y → x.cons ≡ c ∷ [] → y.cons ≡ d ∷ [] → c.fields ≡ fs → d.fields ≡ gs → fs ≡ gs
same_fields {c = c} {d = d} e i j k l =
    let both : c ∷ [] ≡ d ∷ [] = sym i ∙ ap (λ (it : Data). it.cons) e ∙ j in
    let one : c ≡ d = cc in
    sym k ∙ ap (λ (c : ConDecl). c.fields) one ∙ l

mutual
  pub leaves_once : {datas : List Data} {t : TypeTree} {ls ms : List Leaf} → Leaves datas t ls → Leaves datas t ms → ls ≡ ms
  leaves_once (one_leaf {dom = dom} {t = t} r) b = let q = signal_leaf b in ap (λ leaf. leaf ∷ []) (same_leaf dom q.0 t q.1) ∙ sym q.2
  leaves_once (leaves_of_fields i n j k a) (leaves_of_fields l o m p b) = all_leaves_once a (all_leaves_along (same_fields (same_some l i) m j p k) b)

  all_leaves_once : {datas : List Data} {fs : List TypeTree} {σ : Substitution} {ls ms : List Leaf} → LeavesOfAll datas fs σ ls → LeavesOfAll datas fs σ ms → ls ≡ ms
  all_leaves_once no_leaves no_leaves = refl
  all_leaves_once (leaves_and a as') (leaves_and b bs) = λ i. leaves_once a b i ++ all_leaves_once as' bs i

pub parts_once : {datas : List Data} {sort : Sort} {t : TypeTree} {a b : List ℕ} → HasParts datas sort t a → HasParts datas sort t b → a ≡ b
parts_once (value_part v) (value_part w) = ap (λ w. w ∷ []) (width_once v w)
parts_once {datas} {b = b} (port_parts {leaves = ls} l v) (port_parts m w) =
    widths_once datas (map (λ (l : Leaf). l.payload) ls) _ _ v
    (subst (λ (ls : List Leaf). HaveWidths datas (map (λ (l : Leaf). l.payload) ls) b) (leaves_once m l) w)

pub all_parts_once : (datas : List Data) (ts : List TypeTree) (a b : List (List ℕ)) → HaveParts datas ts a → HaveParts datas ts b → a ≡ b
all_parts_once datas [] [] [] h k = refl
all_parts_once datas [] [] (y ∷ b) h k = absurd k
all_parts_once datas [] (x ∷ a) b h k = absurd h
all_parts_once datas (t ∷ ts) [] b h k = absurd h
all_parts_once datas (t ∷ ts) (x ∷ a) [] h k = absurd k
all_parts_once datas (t ∷ ts) (x ∷ a) (y ∷ b) h k = λ i. parts_once h.0 k.0 i ∷ all_parts_once datas ts a b h.1 k.1 i

patterns_once : {datas : List Data} {u v : TypeTree} {q r : Pattern} {fs gs : List TypeTree} → PatternOf datas u q fs → PatternOf datas v r gs → u ≡ v → q ≡ r → fs ≡ gs
patterns_once {datas} (of_con {c = c} {ts = ts} it i j k) (of_con {c = d} {ts = us} jt l m n) e f =
    let one : c ≡ d = cc in
    let types : ts ≡ us = cc in
    let its : it ≡ jt = same_some i (ap (λ (c : ConId). con_at datas c.number) one ∙ l) in
    λ i. fields_at (its i) (types i)
patterns_once (of_con it i j k) (of_lit l s) e f = absurd cc
patterns_once (of_con it i j k) of_any e f = absurd cc
patterns_once (of_lit l s) (of_con it i j k) e f = absurd cc
patterns_once (of_lit l s) (of_lit m r) e f = refl
patterns_once (of_lit l s) of_any e f = refl
patterns_once of_any (of_con it i j k) e f = absurd cc
patterns_once of_any (of_lit l s) e f = refl
patterns_once of_any of_any e f = refl

pub pattern_once : {datas : List Data} {u : TypeTree} {q : Pattern} {fs gs : List TypeTree} → PatternOf datas u q fs → PatternOf datas u q gs → fs ≡ gs
pattern_once a b = patterns_once a b refl refl

mutual
  pub denotes_once : {e : TermTree} {a b : Datum} → Denotes e a → Denotes e b → a ≡ b
  denotes_once denotes_word denotes_word = refl
  denotes_once denotes_word (denotes_built h all) = absurd cc
  denotes_once (denotes_built h all) denotes_word = absurd cc
  denotes_once (denotes_built {c = c} h all) (denotes_built {c = d} k every) =
      let both : con c ≡ con d = sym h ∙ k in
      let one : c ≡ d = cc in
      λ i. built (one i) (each_once all every i)
  denotes_once (denotes_built h all) (denotes_elements every) = absurd cc
  denotes_once (denotes_elements all) (denotes_built h every) = absurd cc
  denotes_once (denotes_elements all) (denotes_elements every) = ap elements (each_once all every)

  each_once : {es : List TermTree} {a b : Datums} → DenoteEach es a → DenoteEach es b → a ≡ b
  each_once denote_none denote_none = refl
  each_once (denote_and d ds) (denote_and e es) = λ i. datum_and (denotes_once d e i) (each_once ds es i)

pub bits_once : {datas : List Data} {t : TypeTree} {e : TermTree} {a b : List Bool} → HasBits datas t e a → HasBits datas t e b → a ≡ b
bits_once {datas} {t} {b = b} h k =
    encoded_once h.encodes (subst (λ v. Encodes datas t v b) (denotes_once k.denotes h.denotes) k.encodes)

encode_each_once : (datas : List Data) (t : TypeTree) (ds : Datums) (a b : List (List Bool)) → EncodeEach datas t ds a → EncodeEach datas t ds b → a ≡ b
encode_each_once datas t no_data [] [] h k = refl
encode_each_once datas t no_data [] (y ∷ b) h k = absurd k
encode_each_once datas t no_data (x ∷ a) b h k = absurd h
encode_each_once datas t (datum_and d ds) [] b h k = absurd h
encode_each_once datas t (datum_and d ds) (x ∷ a) [] h k = absurd k
encode_each_once datas t (datum_and d ds) (x ∷ a) (y ∷ b) h k = λ i. encoded_once h.0 k.0 i ∷ encode_each_once datas t ds a b h.1 k.1 i

same_elements : {a b : Datums} → elements a ≡ elements b → a ≡ b
same_elements e = cc

pub words_once : {datas : List Data} {t : TypeTree} {e : TermTree} {a b : List (List Bool)} → HasWords datas t e a → HasWords datas t e b → a ≡ b
words_once {datas} {t} {a = a} {b = b} h k =
    encode_each_once datas t h.values a b h.encode
    (subst (λ ds. EncodeEach datas t ds b) (same_elements (denotes_once k.denotes h.denotes)) k.encode)

pub lifted_once : {m n : ℕ} {u v : TermTree} {xs ys : List TermTree} → IsLifted m u xs → IsLifted n v ys → u ≡ v → (m ≡ n) × (xs ≡ ys)
lifted_once {m} {n} (lifted_on_one {x = x}) (lifted_on_one {x = y}) e =
    let one : m ≡ n = cc in let other : x ≡ y = cc in (one, ap (λ x. x ∷ []) other)
lifted_once lifted_on_one (lifted_on_more more) e = absurd cc
lifted_once (lifted_on_more more) lifted_on_one e = absurd cc
lifted_once (lifted_on_more {u = u} {x = x} more) (lifted_on_more {u = v} {x = y} others) e =
    let below : u ≡ v = cc in
    let last : x ≡ y = cc in
    let q = lifted_once more others below in
    (q.0, λ i. q.1 i ++ last i ∷ [])
