-- The wires of a circuit's bindings don't depend on the wires in scope.
use Rattle.std.proofs.Common.{◌≡◌, ℕ, ◌+◌, ◌-◌, List, ◌++◌, ◌∷◌, length, refl, sym, ap, subst}
use Rattle.chw_base.specs.declared.index.WireId.{WireId}
use Rattle.chw_types.specs.TypeTree.{TypeTree}
use Rattle.chw_terms.specs.declared.scene.Sort.TheVariants.{Circuit}
use Rattle.chw_terms.specs.TermTree.{TermTree, Group}
use Rattle.net_built.specs.Bodies.{GroupBuilt, group_none, group_and, SideBuilt, side_of_circuit}
use Rattle.net_built.specs.Circuits.{Ground, CircuitCells}
use Rattle.net_built.specs.Terms.{head_of, types_of, operands_of, Variable, variable}
use Rattle.net_built.specs.Wires.{Piece, wire_count, wires_from}
use Rattle.net_built.proofs.CircuitsOnce.{circuit_sizes}
use Rattle.net_built.proofs.Parts.{parts_once}

-- the last wires, by the widths of all
abbrev last_by : ℕ → List ℕ → List ℕ → List WireId
last_by n widths parts = wires_from (n + length widths - wire_count parts) (wire_count parts)

side_results : {ground : Ground} {s u : List Variable} {n : ℕ} {t : TypeTree} {e : TermTree} {p q : Piece} {r v : List WireId} → SideBuilt ground Circuit s n t e p r → SideBuilt ground Circuit u n t e q v → (p.widths ≡ q.widths) × (r ≡ v)
side_results {ground} {u = u} {n = n} {e = e} {q = q} (side_of_circuit parts cells) (side_of_circuit others further) =
    let same = parts_once parts others in
    let sizes = circuit_sizes cells (subst (λ ws. CircuitCells ground u n ws (head_of e) (types_of e) (operands_of e) q) (sym same) further) in
    (sizes, λ i. last_by n (sizes i) (same i))

pub group_results : {ground : Ground} {s u : List Variable} {n : ℕ} {g : Group} {p q : Piece} {b c : List Variable} → GroupBuilt ground Circuit s n g p b → GroupBuilt ground Circuit u n g q c → (p.widths ≡ q.widths) × (b ≡ c)
group_results group_none group_none = (refl, refl)
group_results {ground} {u = u} {n = n} (group_and {t = t} {g = g} side more) (group_and {bound = c} {q = q} other others) =
    let first = side_results side other in
    let rest = group_results more (subst (λ k. GroupBuilt ground Circuit u k g q c) (sym (ap (λ (ws : List ℕ). n + length ws) first.0)) others) in
    (λ i. first.0 i ++ rest.0 i, λ i. variable t (first.1 i) ∷ rest.1 i)
