-- The wires of the parts of fields, of those of all fields one after the other.
use Rattle.std.specs.Prelude.{slice_get}
use Rattle.std.proofs.Common.{◌≡◌, ◌<◌, ℕ, zero, suc, ◌+◌, List, [], ◌∷◌, ◌++◌, length, map, Some, refl, ap, ◌∙◌, subst, arith}
use Rattle.chw_base.specs.declared.index.WireId.{WireId}
use Rattle.chw_types.specs.declared.declarations.Data.{Data}
use Rattle.type_ports.specs.declared.ports.Leaf.{Leaf}
use Rattle.type_ports.specs.Ports.{LeavesOfAll, no_leaves, leaves_and}
use Rattle.chw_types.specs.TypeMoves.{Substitution, sub}
use Rattle.chw_types.specs.TypeTree.{TypeTree}
use Rattle.chw_terms.specs.declared.scene.Sort.TheVariants.{Circuit}
use Rattle.net_built.specs.Circuits.{HaveParts}
use Rattle.net_built.specs.Data.{HaveWidths, HasParts, port_parts}
use Rattle.net_built.specs.Wires.{wire_count}
use Rattle.net_grounds.specs.Facts.{Facts}
use Rattle.net_means.specs.CircuitBits.Leaves.{part_wires}

-- all widths, one after the other
abbrev pub in_turn : List (List ℕ) → List ℕ
in_turn [] = []
in_turn (ws ∷ parts) = ws ++ in_turn parts

-- of the parts of two
pub first_part : (k : ℕ) (ws more : List ℕ) (wires rest : List WireId) → k < length ws → length wires ≡ wire_count ws → part_wires k (ws ++ more) (wires ++ rest) ≡ part_wires k ws wires
first_part k [] more wires rest l e = absurd (omega (arith, l))
first_part zero (zero ∷ ws) more wires rest l e = refl
first_part zero (suc w ∷ ws) more [] rest l e = absurd (omega (arith, e))
first_part zero (suc w ∷ ws) more (a ∷ wires) rest l e = refl
first_part (suc k) (zero ∷ ws) more wires rest l e = first_part k ws more wires rest (omega (arith, l)) e
first_part (suc k) (suc w ∷ ws) more [] rest l e = absurd (omega (arith, e))
first_part (suc k) (suc w ∷ ws) more (a ∷ wires) rest l e = first_part k ws more wires rest (omega (arith, l)) (omega (arith, e))

pub rest_part : (k n : ℕ) (ws more : List ℕ) (wires rest : List WireId) → n ≡ length ws + k → length wires ≡ wire_count ws → part_wires n (ws ++ more) (wires ++ rest) ≡ part_wires k more rest
rest_part k n [] more [] rest is e = let same : n ≡ k = omega (arith, is) in ap (λ n. part_wires n more rest) same
rest_part k n [] more (a ∷ wires) rest is e = absurd (omega (arith, e))
rest_part k zero (w ∷ ws) more wires rest is e = absurd (omega (arith, is))
rest_part k (suc n) (zero ∷ ws) more wires rest is e = rest_part k n ws more wires rest (omega (arith, is)) e
rest_part k (suc n) (suc w ∷ ws) more [] rest is e = absurd (omega (arith, e))
rest_part k (suc n) (suc w ∷ ws) more (a ∷ wires) rest is e = rest_part k n ws more wires rest (omega (arith, is)) (omega (arith, e))

-- the widths of the first leaves, and those of the others
pub record Split (datas : List Data) (ls ms : List Leaf) (ws : List ℕ) : Type 0 where
  pub first : List ℕ
  pub rest : List ℕ
  pub are : ws ≡ first ++ rest
  pub have : HaveWidths datas (map (λ (l : Leaf). l.payload) ls) first
  pub others : HaveWidths datas (map (λ (l : Leaf). l.payload) ms) rest

pub split : (datas : List Data) (ls ms : List Leaf) (ws : List ℕ) → HaveWidths datas (map (λ (l : Leaf). l.payload) (ls ++ ms)) ws → Split datas ls ms ws
split datas [] ms ws h = record { first = []; rest = ws; are = refl; have = tt; others = h }
split datas (l ∷ ls) ms [] h = absurd h
split datas (l ∷ ls) ms (w ∷ ws) h =
    let s = split datas ls ms ws h.1 in record { first = w ∷ s.first; rest = s.rest; are = ap (λ ws. w ∷ ws) s.are; have = (h.0, s.have); others = s.others }

-- the parts of all fields are those of each, one after the other
pub parts_in_turn : Facts → {datas : List Data} {fs : List TypeTree} {σ : Substitution} {ls : List Leaf} → LeavesOfAll datas fs σ ls → (ws : List ℕ) (parts : List (List ℕ)) → HaveWidths datas (map (λ (l : Leaf). l.payload) ls) ws → HaveParts datas (map (λ f. sub f σ) fs) parts → ws ≡ in_turn parts
parts_in_turn facts no_leaves [] [] h k = refl
parts_in_turn facts no_leaves [] (x ∷ parts) h k = absurd k
parts_in_turn facts no_leaves (w ∷ ws) parts h k = absurd h
parts_in_turn facts (leaves_and a b) ws [] h k = absurd k
parts_in_turn facts {datas} (leaves_and {ls = ls} {ms = ms} a b) ws (x ∷ parts) h k =
    let s = split datas ls ms ws h in
    let first : s.first ≡ x = facts.built.parts_once (port_parts a s.have) k.0 in
    let rest = parts_in_turn facts b s.rest parts s.others k.1 in
    s.are ∙ (λ i. first i ++ rest i)

-- the parts of a field
pub field_parts : (datas : List Data) (ts : List TypeTree) (parts : List (List ℕ)) (i : ℕ) (t : TypeTree) → HaveParts datas ts parts → slice_get ts i ≡ Some t → (ws : List ℕ) × (slice_get parts i ≡ Some ws) × HasParts datas Circuit t ws
field_parts datas [] parts i t h e = absurd cc
field_parts datas (u ∷ ts) [] i t h e = absurd h
field_parts datas (u ∷ ts) (ws ∷ parts) zero t h e = let is : u ≡ t = cc in (ws, refl, subst (λ t. HasParts datas Circuit t ws) is h.0)
field_parts datas (u ∷ ts) (ws ∷ parts) (suc i) t h e = field_parts datas ts parts i t h.1 e
