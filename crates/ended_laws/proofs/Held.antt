-- A type that passes no limit: its own width is within the limits, and so is that of each leaf's payload.
use Rattle.std.proofs.Common.{◌≡◌, ◌∙◌, ap, subst, ℕ, suc, zero, ◌<◌, List, [], ◌∷◌, ◌++◌, arith, Some}
use Rattle.std.specs.List.{slice_get, AllByRecursion}
use Rattle.std.proofs.lemmas.Option.{slice_get-get_or}
use Rattle.chw_types.specs.declared.declarations.Data.{Data}
use Rattle.chw_types.specs.TypeMoves.{Substitution}
use Rattle.chw_types.specs.TypeTree.{TypeTree}
use Rattle.type_ports.specs.declared.ports.Leaf.{Leaf}
use Rattle.type_ports.specs.Ports.{Leaves, one_leaf, leaves_of_fields, LeavesOfAll, no_leaves, leaves_and}
use Rattle.type_ports.specs.Representable.{Representable}
use Rattle.chw_layout.specs.declared.outcome.NoLayout.{NoLayout}
use Rattle.chw_layout.specs.Measured.{Measure, fits, too_wide, Measured, HasWidth}
use Rattle.chw_layout.specs.Refusals.{RepresentableIsMeasured}
use Rattle.normal_forms.specs.Blocked.{Passes, by_width, by_leaf}
use Rattle.normal_forms.specs.Normal.{HoldsWidths}

-- the payloads of leaves are representable
abbrev HasPayload : List Data → Leaf → Type 0
HasPayload datas leaf = Representable datas leaf.payload

payloads_beside : (datas : List Data) (ls ms : List Leaf) → AllByRecursion (HasPayload datas) ls → AllByRecursion (HasPayload datas) ms → AllByRecursion (HasPayload datas) (ls ++ ms)
payloads_beside datas [] ms h k = k
payloads_beside datas (l ∷ ls) ms h k = (h.0, payloads_beside datas ls ms h.1 k)

mutual
  payloads : {datas : List Data} {t : TypeTree} {ls : List Leaf} → Leaves datas t ls → AllByRecursion (HasPayload datas) ls
  payloads (one_leaf r) = (r, tt)
  payloads (leaves_of_fields i n j k a) = all_payloads a

  all_payloads : {datas : List Data} {fs : List TypeTree} {σ : Substitution} {ls : List Leaf} → LeavesOfAll datas fs σ ls → AllByRecursion (HasPayload datas) ls
  all_payloads no_leaves = tt
  all_payloads {datas} (leaves_and {ls = ls} {ms = ms} a more) = payloads_beside datas ls ms (payloads a) (all_payloads more)

payload_at : (datas : List Data) (ls : List Leaf) (i : ℕ) (leaf : Leaf) → AllByRecursion (HasPayload datas) ls → slice_get ls i ≡ Some leaf → HasPayload datas leaf
payload_at datas [] i leaf h at = absurd cc
payload_at datas (l ∷ ls) zero leaf h at = let same : l ≡ leaf = cc in subst (HasPayload datas) same h.0
payload_at datas (l ∷ ls) (suc i) leaf h at = payload_at datas ls i leaf h.1 at

-- what has a measure and passes no limit has a width
has_width : (datas : List Data) (t : TypeTree) (m : Measure) → Measured datas t m → ((l : NoLayout) → Measured datas t (too_wide l) → ⊥) → (w : ℕ) × HasWidth datas t w
has_width datas t (fits w) h none = (w, h)
has_width datas t (too_wide l) h none = absurd (none l h)

module _ (there : RepresentableIsMeasured) (datas : List Data) (t : TypeTree) (none : (l : NoLayout) → Passes datas t l → ⊥) where
  -- the leaves up to this one have widths: else there would be a first one that has none
  leaf_width : (ls : List Leaf) → Leaves datas t ls → (n i : ℕ) (leaf : Leaf) → i < n → slice_get ls i ≡ Some leaf → (w : ℕ) × HasWidth datas leaf.payload w
  leaf_width ls leaves zero i leaf less is = absurd (omega (arith, less))
  leaf_width ls leaves (suc n) i leaf less is =
      let whole = there datas leaf.payload (payload_at datas ls i leaf (payloads leaves) is) in
      has_width datas leaf.payload whole.0 whole.1
      (λ l over. none l (by_leaf leaves is over (λ j other before known. leaf_width ls leaves n j other (omega (arith, before, less)) known)))

  pub held : HoldsWidths datas t
  held =
      record {
        value = λ r. let whole = there datas t r in has_width datas t whole.0 whole.1 (λ l over. none l (by_width r over));
        leaves = λ ls l leaves among. leaf_width ls leaves (suc among.0) among.0 l (omega arith) (slice_get-get_or ls among.0 l among.1 ∙ ap Some among.2);
      }
