-- A type has one list of leaves, and leads from one list of leaves to one list of leaves.
use Rattle.std.proofs.Common.{◌≡◌, ◌∙◌, ℕ, List, [], ◌∷◌, ◌++◌, refl, sym, ap, subst}
use Rattle.chw_base.specs.declared.index.DomId.{DomId}
use Rattle.chw_types.specs.declared.declarations.Data.{Data}
use Rattle.chw_types.specs.TypeMoves.{Substitution}
use Rattle.chw_types.specs.TypeTree.{TypeTree, domain, signal}
use Rattle.type_ports.specs.declared.ports.Leaf.{Leaf}
use Rattle.type_ports.specs.Ports.{leaf_of, Leaves, one_leaf, leaves_of_fields, LeavesOfAll, no_leaves, leaves_and}
use Rattle.chw_meaning.specs.Means.{LeadsFrom, leads_to, leads_from}
use Rattle.chw_meaning.proofs.Once.{same_some}
use Rattle.chw_meaning.proofs.GivenOnce.{same_fields}

-- the leaf of a signal
signal_leaf : {datas : List Data} {a t : TypeTree} {ls : List Leaf} → Leaves datas (signal a t) ls → (dom : DomId) × (a ≡ domain dom.number) × (ls ≡ leaf_of dom t ∷ [])
signal_leaf (one_leaf {dom = dom} r) = (dom, refl, refl)

same_number : {m n : ℕ} → domain m ≡ domain n → m ≡ n
same_number e = cc

same_leaf : (a b : DomId) (t : TypeTree) → domain a.number ≡ domain b.number → leaf_of a t ≡ leaf_of b t
same_leaf a b t e = let n : a.number ≡ b.number = same_number e in λ i. leaf_of (record { number = n i }) t

all_leaves_along : {datas : List Data} {fs gs : List TypeTree} {σ : Substitution} {ls : List Leaf} → fs ≡ gs → LeavesOfAll datas fs σ ls → LeavesOfAll datas gs σ ls
all_leaves_along {datas} {σ = σ} {ls = ls} e a = subst (λ fs. LeavesOfAll datas fs σ ls) e a

mutual
  pub leaves_once : {datas : List Data} {t : TypeTree} {ls ms : List Leaf} → Leaves datas t ls → Leaves datas t ms → ls ≡ ms
  leaves_once (one_leaf {dom = dom} {t = t} r) b = let q = signal_leaf b in ap (λ leaf. leaf ∷ []) (same_leaf dom q.0 t q.1) ∙ sym q.2
  leaves_once (leaves_of_fields {it = x} i n j k a) (leaves_of_fields {it = y} l o m p b) = all_leaves_once a (all_leaves_along (same_fields y x (same_some l i) m j p k) b)

  all_leaves_once : {datas : List Data} {fs : List TypeTree} {σ : Substitution} {ls ms : List Leaf} → LeavesOfAll datas fs σ ls → LeavesOfAll datas fs σ ms → ls ≡ ms
  all_leaves_once no_leaves no_leaves = refl
  all_leaves_once (leaves_and a as') (leaves_and b bs) = λ i. leaves_once a b i ++ all_leaves_once as' bs i

pub leads_once : {datas : List Data} {t : TypeTree} {ins outs ins' outs' : List Leaf} → LeadsFrom datas t ins outs → LeadsFrom datas t ins' outs' → (ins ≡ ins') × (outs ≡ outs')
leads_once (leads_to a) (leads_to b) = (refl, leaves_once a b)
leads_once (leads_to a) (leads_from b c) = elim a [ ]
leads_once (leads_from a b) (leads_to c) = elim c [ ]
leads_once (leads_from a b) (leads_from c d) = let q = leads_once b d in (λ i. leaves_once a c i ++ q.0 i, q.1)
