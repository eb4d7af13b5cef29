-- Types that pass limits, by their own widths and by those of their leaves.
use Rattle.std.proofs.Common.{◌≡◌, ◌∙◌, sym, ap, refl, subst, ℕ, zero, suc, ◌<◌, List, [], ◌∷◌, ◌++◌}
use Rattle.std.proofs.Common.{Option, Some, None}
use Rattle.std.specs.List.{slice_get, AllByRecursion}
use Rattle.std.proofs.lemmas.Option.{same_Some}
use Rattle.chw_base.specs.declared.index.DomId.{DomId}
use Rattle.chw_types.specs.declared.declarations.ConDecl.{ConDecl}
use Rattle.chw_types.specs.declared.declarations.Data.{Data}
use Rattle.type_ports.specs.declared.ports.Leaf.{Leaf}
use Rattle.type_ports.specs.Ports.{leaf_of, Leaves, one_leaf, leaves_of_fields, LeavesOfAll}
use Rattle.type_ports.specs.Ports.{no_leaves, leaves_and}
use Rattle.type_ports.specs.Representable.{Representable}
use Rattle.chw_types.specs.TypeMoves.{Substitution}
use Rattle.chw_types.specs.TypeTree.{TypeTree, domain, signal}
use Rattle.chw_layout.specs.declared.outcome.NoLayout.{NoLayout}
use Rattle.chw_layout.specs.declared.outcome.NoLayout.TheVariants.{NotRepresentable, Scalar}
use Rattle.chw_layout.specs.declared.outcome.NoLayout.TheVariants.{Data as OverData, Length}
use Rattle.chw_layout.specs.Measured.{Measure, fits, too_wide, Measured, HasWidth}
use Rattle.chw_layout.specs.Refusals.{IsRefusal, OneMeasure, RepresentableIsMeasured}
use Rattle.chw_layout.specs.Refusals.{MeasuredIsRepresentable}
use Rattle.normal_forms.specs.Blocked.{Passes, by_width, by_leaf}
use Rattle.blocked_places.specs.Firsts.{IsFirstOf, FindsOf, FindsFirstOf}
use Rattle.blocked_places.specs.Limits.{over, IsTooWide, IsLeafTooWide}

pub refused_told : OneMeasure → MeasuredIsRepresentable → (datas : List Data) (t : TypeTree)
    (why : NoLayout)
    → IsRefusal datas t why → FindsOf TypeTree (IsTooWide datas) t (over why)
refused_told one back datas t NotRepresentable r = λ l m. r (back datas t (too_wide l) m)
refused_told one back datas t (Scalar w) r = r
refused_told one back datas t (OverData w) r = r
refused_told one back datas t (Length w) r = r

pub width_told : OneMeasure → (datas : List Data) (t : TypeTree) (w : ℕ) → HasWidth datas t w
    → FindsOf TypeTree (IsTooWide datas) t None
width_told one datas t w h l m =
    let no : fits w ≡ too_wide l = one datas t (fits w) (too_wide l) h m in absurd cc

-- a type has one list of leaves
signal_leaf : {datas : List Data} {a t : TypeTree} {ls : List Leaf}
    → Leaves datas (signal a t) ls
    → (dom : DomId) × (a ≡ domain dom.number) × (ls ≡ leaf_of dom t ∷ [])
signal_leaf (one_leaf {dom = dom} r) = (dom, refl, refl)

same_number : {m n : ℕ} → domain m ≡ domain n → m ≡ n
same_number e = cc

same_leaf : (a b : DomId) (t : TypeTree) → domain a.number ≡ domain b.number
    → leaf_of a t ≡ leaf_of b t
same_leaf a b t e =
    let n : a.number ≡ b.number = same_number e in λ i. leaf_of (record { number = n i }) t

all_leaves_along : {datas : List Data} {fs gs : List TypeTree} {σ : Substitution} {ls : List Leaf}
    → fs ≡ gs → LeavesOfAll datas fs σ ls → LeavesOfAll datas gs σ ls
all_leaves_along {datas} {σ = σ} {ls = ls} e a = subst (λ fs. LeavesOfAll datas fs σ ls) e a

same_con : (c d : ConDecl) → c ∷ [] ≡ d ∷ [] → c ≡ d
same_con c d e = cc

same_fields : (x y : Data) (c d : ConDecl) (fs gs : List TypeTree) → x ≡ y → x.cons ≡ c ∷ []
    → y.cons ≡ d ∷ [] → c.fields ≡ fs → d.fields ≡ gs → fs ≡ gs
same_fields x y c d fs gs e m j p k =
    let one : c ≡ d = same_con c d (sym m ∙ ap (λ (it : Data). it.cons) e ∙ j) in
    sym p ∙ ap (λ (it : ConDecl). it.fields) one ∙ k

mutual
  leaves_once : {datas : List Data} {t : TypeTree} {ls ms : List Leaf}
      → Leaves datas t ls → Leaves datas t ms → ls ≡ ms
  leaves_once (one_leaf {dom = dom} {t = t} r) b =
      let q = signal_leaf b in ap (λ leaf. leaf ∷ []) (same_leaf dom q.0 t q.1) ∙ sym q.2
  leaves_once (leaves_of_fields {it = x} i n j k a) (leaves_of_fields {it = y} l o m p b) =
      all_leaves_once a
      (all_leaves_along (same_fields y x _ _ _ _ (same_Some y x (sym l ∙ i)) m j p k) b)

  all_leaves_once : {datas : List Data} {fs : List TypeTree} {σ : Substitution}
      {ls ms : List Leaf} → LeavesOfAll datas fs σ ls → LeavesOfAll datas fs σ ms → ls ≡ ms
  all_leaves_once no_leaves no_leaves = refl
  all_leaves_once (leaves_and a as') (leaves_and b bs) =
      λ i. leaves_once a b i ++ all_leaves_once as' bs i

-- the payloads of leaves are representable
abbrev HasPayload : List Data → Leaf → Type 0
HasPayload datas leaf = Representable datas leaf.payload

joined : (datas : List Data) (ls ms : List Leaf) → AllByRecursion (HasPayload datas) ls
    → AllByRecursion (HasPayload datas) ms → AllByRecursion (HasPayload datas) (ls ++ ms)
joined datas [] ms h k = k
joined datas (l ∷ ls) ms h k = (h.0, joined datas ls ms h.1 k)

mutual
  have_payloads : {datas : List Data} {t : TypeTree} {ls : List Leaf}
      → Leaves datas t ls → AllByRecursion (HasPayload datas) ls
  have_payloads (one_leaf r) = (r, tt)
  have_payloads (leaves_of_fields i n j k a) = all_payloads a

  all_payloads : {datas : List Data} {fs : List TypeTree} {σ : Substitution} {ls : List Leaf}
      → LeavesOfAll datas fs σ ls → AllByRecursion (HasPayload datas) ls
  all_payloads no_leaves = tt
  all_payloads {datas} (leaves_and {ls = ls} {ms = ms} a more) =
      joined datas ls ms (have_payloads a) (all_payloads more)

payload_at : (datas : List Data) (ls : List Leaf) (i : ℕ) (leaf : Leaf)
    → AllByRecursion (HasPayload datas) ls → slice_get ls i ≡ Some leaf → HasPayload datas leaf
payload_at datas [] i leaf h at = absurd cc
payload_at datas (l ∷ ls) zero leaf h at =
    let same : l ≡ leaf = cc in subst (HasPayload datas) same h.0
payload_at datas (l ∷ ls) (suc i) leaf h at = payload_at datas ls i leaf h.1 at

measured_width : (datas : List Data) (t : TypeTree) (m : Measure) → Measured datas t m
    → ((l : NoLayout) → IsTooWide datas t l → ⊥) → (w : ℕ) × HasWidth datas t w
measured_width datas t (fits w) h none = (w, h)
measured_width datas t (too_wide l) h none = absurd (none l h)

pub own_passed : MeasuredIsRepresentable → (datas : List Data) (t : TypeTree) (l : NoLayout)
    → IsTooWide datas t l → Passes datas t l
own_passed back datas t l h = by_width (back datas t (too_wide l) h) h

pub leaf_passed : RepresentableIsMeasured → (datas : List Data) (t : TypeTree) (ls : List Leaf)
    (l : NoLayout)
    → Leaves datas t ls → IsFirstOf Leaf (IsLeafTooWide datas) ls l → Passes datas t l
leaf_passed there datas t ls l is f = by_leaf is f.is f.passes before
  where
    before : (j : ℕ) (other : Leaf) → j < f.number → slice_get ls j ≡ Some other
        → (w : ℕ) × HasWidth datas other.payload w
    before j other less at =
        let it = there datas other.payload (payload_at datas ls j other (have_payloads is) at) in
        measured_width datas other.payload it.0 it.1 (λ k m. f.first j other k less at m)

not_passed : {datas : List Data} {t : TypeTree} {l : NoLayout} → Passes datas t l
    → (IsTooWide datas t l → ⊥)
    → ((ls : List Leaf) (i : ℕ) (leaf : Leaf) → Leaves datas t ls → slice_get ls i ≡ Some leaf
    → IsLeafTooWide datas leaf l → ⊥)
    → ⊥
not_passed (by_width r m) own leaf = own m
not_passed (by_leaf {ls = ls} {i = i} {leaf = it} is at m before) own leaf = leaf ls i it is at m

pub no_leaf_passed : (datas : List Data) (t : TypeTree) → FindsOf TypeTree (IsTooWide datas) t None
    → ((ls : List Leaf) → Leaves datas t ls → ⊥) → FindsOf TypeTree (Passes datas) t None
no_leaf_passed datas t own none l p =
    not_passed p (λ m. own l m) (λ ls i leaf is at m. none ls is)

pub none_passed : (datas : List Data) (t : TypeTree) (ls : List Leaf)
    → FindsOf TypeTree (IsTooWide datas) t None → Leaves datas t ls
    → FindsFirstOf Leaf (IsLeafTooWide datas) ls None → FindsOf TypeTree (Passes datas) t None
none_passed datas t ls own is none l p =
    not_passed p (λ m. own l m)
    (λ ms i leaf other at m. none i leaf l (subst (λ ns. slice_get ns i ≡ Some leaf) (leaves_once other is) at) m)

pub leaves_told : RepresentableIsMeasured → (datas : List Data) (t : TypeTree) (ls read : List Leaf)
    (answer : Option NoLayout)
    → FindsOf TypeTree (IsTooWide datas) t None → Leaves datas t ls → read ≡ ls
    → FindsFirstOf Leaf (IsLeafTooWide datas) read answer → FindsOf TypeTree (Passes datas) t answer
leaves_told there datas t ls read None own is same none =
    none_passed datas t ls own is (subst (λ ms. FindsFirstOf Leaf (IsLeafTooWide datas) ms None) same none)
leaves_told there datas t ls read (Some l) own is same f =
    leaf_passed there datas t ls l is (subst (λ ms. IsFirstOf Leaf (IsLeafTooWide datas) ms l) same f)
