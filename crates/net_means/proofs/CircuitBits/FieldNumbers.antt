-- Which field has a leaf of a product.
use Rattle.std.specs.Prelude.{slice_get}
use Rattle.std.proofs.Common.{◌≡◌, ◌<◌, ◌≤◌, ◌⊎◌, inl, inr, ℕ, zero, suc, ◌+◌, ◌-◌, List, [], ◌∷◌, ◌++◌, length, map, Some, refl, ap, ◌∙◌, subst, arith, length-append}
use Rattle.std.proofs.lemmas.Bool.{cases_lt}
use Rattle.chw_types.specs.declared.declarations.Data.{Data}
use Rattle.type_ports.specs.declared.ports.Leaf.{Leaf}
use Rattle.type_ports.specs.Ports.{LeavesOfAll, no_leaves, leaves_and}
use Rattle.chw_types.specs.TypeMoves.{Substitution, sub}
use Rattle.chw_types.specs.TypeTree.{TypeTree, TypeTrees, data_of}
use Rattle.chw_terms.specs.Constructors.{Constructor, con_at}
use Rattle.chw_terms.specs.declared.scene.Sort.TheVariants.{Circuit}
use Rattle.net_built.specs.Circuits.{HaveParts}
use Rattle.net_built.specs.Data.{HaveWidths, HasParts, port_parts}
use Rattle.net_grounds.specs.Facts.{Facts}
use Rattle.net_means.specs.CircuitBits.Laws.{FieldWithLeaf}
use Rattle.net_means.specs.CircuitBits.Leaves.{leaves_before}
use Rattle.net_means.proofs.CircuitBits.FieldLeaves.{only_con}
use Rattle.net_means.proofs.CircuitBits.FieldWires.{in_turn, split}

-- the fields of these leaves have parts, of which the widths of the leaves are made
fields_have : {datas : List Data} {fs : List TypeTree} {σ : Substitution} {ls : List Leaf} → LeavesOfAll datas fs σ ls → (ws : List ℕ) → HaveWidths datas (map (λ (l : Leaf). l.payload) ls) ws → (parts : List (List ℕ)) × HaveParts datas (map (λ f. sub f σ) fs) parts × (ws ≡ in_turn parts)
fields_have no_leaves [] h = ([], tt, refl)
fields_have no_leaves (w ∷ ws) h = absurd h
fields_have {datas} (leaves_and {ls = ls} {ms = ms} a b) ws h =
    let s = split datas ls ms ws h in
    let rest = fields_have b s.rest s.others in
    (s.first ∷ rest.0, (port_parts a s.have, rest.1), s.are ∙ ap (λ more. s.first ++ more) rest.2)

-- the part in which a number falls
record Part (parts : List (List ℕ)) (k : ℕ) : Type 0 where
  i : ℕ
  j : ℕ
  own : List ℕ
  one : slice_get parts i ≡ Some own
  within : j < length own
  is : k ≡ leaves_before i parts + j

part_of : (parts : List (List ℕ)) (k : ℕ) → k < length (in_turn parts) → Part parts k
part_of [] k l = absurd (omega (arith, l))
part_of (ws ∷ parts) k l = by (cases_lt k (length ws)) (λ more. part_of parts (k - length ws) (let long = length-append ws (in_turn parts) in omega (arith, l, long, more)))
  where
    by : (k < length ws) ⊎ (length ws ≤ k) → (length ws ≤ k → Part parts (k - length ws)) → Part (ws ∷ parts) k
    by (inl less) rest = record { i = zero; j = k; own = ws; one = refl; within = less; is = omega arith }
    by (inr more) rest =
        let r = rest more in
        let is = r.is in
        record { i = suc r.i; j = r.j; own = r.own; one = r.one; within = r.within; is = omega (arith, is, more) }

pub leaf_field : Facts → (datas : List Data) (c : ℕ) (it : Constructor) (ts : TypeTrees) (widths : List ℕ) (k : ℕ) → con_at datas c ≡ Some it → HasParts datas Circuit (data_of it.of ts) widths → k < length widths → FieldWithLeaf datas it ts k
leaf_field facts datas c it ts widths k known (port_parts leaves has) l =
    let fields = fields_have (only_con facts datas c it known leaves).leaves widths has in
    let at = part_of fields.0 k (subst (λ ws. k < length ws) fields.2 l) in
    record { parts = fields.0; have = fields.1; field = at.i; leaf = at.j; own = at.own; one = at.one; within = at.within; is = at.is }
