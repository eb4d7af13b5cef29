-- The block of a circuit that is ready is built: first in a scope without wires, which shows what
-- wires the bindings have, and then in theirs.
use Rattle.std.proofs.Common.{◌≡◌, ℕ, ◌+◌, ◌-◌, List, [], ◌∷◌, ◌++◌, length, reverse, refl, sym, ap, subst}
use Rattle.chw_base.specs.declared.index.WireId.{WireId}
use Rattle.chw_types.specs.TypeTree.{TypeTree}
use Rattle.chw_terms.specs.declared.scene.Sort.TheVariants.{Circuit}
use Rattle.chw_terms.specs.TermTree.{TermTree, Group}
use Rattle.chw_typing.specs.Scopes.{declared}
use Rattle.net_built.specs.Bodies.{BlockBuilt, block_variable, block_letrec, GroupBuilt, group_none, group_and, SideBuilt, side_of_circuit}
use Rattle.net_built.specs.Circuits.{Ground, CircuitCells}
use Rattle.net_built.specs.Terms.{head_of, types_of, operands_of, Variable, variable, wires_at}
use Rattle.net_built.specs.Wires.{wires_from, wire_count, Piece, nothing, ◌▸◌, after, last_wires}
use Rattle.net_built.proofs.CircuitsOnce.{circuit_sizes}
use Rattle.net_built.proofs.Parts.{parts_once}
use Rattle.net_built.proofs.ValueSizes.{bound_types}
use Rattle.net_ready.specs.Drafts.{on_wires}
use Rattle.net_ready.specs.Ready.{types_on, args_of, BlockReady, ready_variable, ready_letrec, GroupReady, ready_none, ready_and, SideReady, ready_circuit}
use Rattle.net_ready.proofs.Arguments.{terms_among, types_are, terms_are}
use Rattle.net_ready.proofs.CircuitSides.{circuit_cells}
use Rattle.net_ready.proofs.Scopes.{types_on_wires, types_with_more}

-- the last wires, by the widths of all
abbrev last_by : ℕ → List ℕ → List ℕ → List WireId
last_by n widths parts = wires_from (n + length widths - wire_count parts) (wire_count parts)

side_results : {ground : Ground} {s u : List Variable} {n : ℕ} {t : TypeTree} {e : TermTree} {p q : Piece} {r v : List WireId} → SideBuilt ground Circuit s n t e p r → SideBuilt ground Circuit u n t e q v → (p.widths ≡ q.widths) × (r ≡ v)
side_results {ground} {u = u} {n = n} {e = e} {q = q} (side_of_circuit parts cells) (side_of_circuit others further) =
    let same = parts_once parts others in
    let sizes = circuit_sizes cells (subst (λ ws. CircuitCells ground u n ws (head_of e) (types_of e) (operands_of e) q) (sym same) further) in
    (sizes, λ i. last_by n (sizes i) (same i))

-- the variables of bindings have the same wires, whatever wires are in scope
group_results : {ground : Ground} {s u : List Variable} {n : ℕ} {g : Group} {p q : Piece} {b c : List Variable} → GroupBuilt ground Circuit s n g p b → GroupBuilt ground Circuit u n g q c → (p.widths ≡ q.widths) × (b ≡ c)
group_results group_none group_none = (refl, refl)
group_results {ground} {u = u} {n = n} (group_and {t = t} {g = g} side more) (group_and {bound = c} {q = q} other others) =
    let first = side_results side other in
    let rest = group_results more (subst (λ k. GroupBuilt ground Circuit u k g q c) (sym (ap (λ (ws : List ℕ). n + length ws) first.0)) others) in
    (λ i. first.0 i ++ rest.0 i, λ i. variable t (first.1 i) ∷ rest.1 i)

side_there : (ground : Ground) {vars : List TypeTree} {t : TypeTree} {e : TermTree} → SideReady ground.datas Circuit vars t e → (u : List Variable) (n : ℕ) → types_on u ≡ vars
    → (p : Piece) × (wires : List WireId) × SideBuilt ground Circuit u n t e p wires
side_there ground {vars} (ready_circuit {e = e} {widths = widths} parts ready) u n types =
    let c = circuit_cells ground u n widths vars (head_of e) (args_of e) types ready in
    let p : Piece = c.0 in
    let typed = subst (λ ts. CircuitCells ground u n widths (head_of e) ts (terms_among (args_of e)) p) (types_are e) c.1 in
    let cells = subst (λ es. CircuitCells ground u n widths (head_of e) (types_of e) es p) (terms_are e) typed in
    (p, last_wires n p widths, side_of_circuit parts cells)

group_there : (ground : Ground) {vars : List TypeTree} {g : Group} → GroupReady ground.datas Circuit vars g → (u : List Variable) (n : ℕ) → types_on u ≡ vars
    → (p : Piece) × (bound : List Variable) × GroupBuilt ground Circuit u n g p bound
group_there ground ready_none u n types = (nothing, [], group_none)
group_there ground (ready_and {t = t} side more) u n types =
    let first = side_there ground side u n types in
    let rest = group_there ground more u (after n first.0) types in
    (first.0 ▸ rest.0, variable t first.1 ∷ rest.1, group_and first.2 rest.2)

pub block_there : (ground : Ground) {vars : List TypeTree} {e : TermTree} → BlockReady ground.datas Circuit vars e → (scope : List Variable) (n : ℕ) → types_on scope ≡ vars
    → (p : Piece) × (wires : List WireId) × BlockBuilt ground Circuit scope n e p wires
block_there ground (ready_variable {x = x}) scope n types = (nothing, wires_at scope x, block_variable)
block_there ground {vars} (ready_letrec {g = g} {x = x} group) scope n types =
    let blank : List Variable = on_wires (declared g) [] in
    let first = group_there ground group (reverse blank ++ scope) n (types_with_more blank scope (declared g) vars (types_on_wires (declared g) []) types) in
    let b : List Variable = first.1 in
    let second = group_there ground group (reverse b ++ scope) n (types_with_more b scope (declared g) vars (bound_types first.2) types) in
    let p : Piece = second.0 in
    let c : List Variable = second.1 in
    let same : b ≡ c = (group_results first.2 second.2).1 in
    (p, wires_at (reverse c ++ scope) x, block_letrec c (subst (λ (b : List Variable). GroupBuilt ground Circuit (reverse b ++ scope) n g p c) same second.2))
