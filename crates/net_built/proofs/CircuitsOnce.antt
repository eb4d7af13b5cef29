-- The body of a circuit is built in one way.
use Rattle.std.proofs.Common.{◌≡◌, ℕ, zero, suc, ◌+◌, ◌-◌, Bool, true, false, List, [], ◌∷◌, ◌++◌, length, reverse, refl, sym, ap, subst}
use Rattle.std.specs.Prelude.{if◌then◌else◌, nat_lt, ◌==◌}
use Rattle.chw_base.specs.declared.index.DomId.{DomId}
use Rattle.chw_base.specs.declared.index.WireId.{WireId}
use Rattle.chw_base.specs.declared.limits.TheConstants.{ADDRESS_BITS}
use Rattle.chw_types.specs.TypeTree.{TypeTree}
use Rattle.chw_terms.specs.declared.scene.Sort.TheVariants.{Circuit}
use Rattle.chw_terms.specs.declared.term.Pattern.TheVariants.{OfCon}
use Rattle.chw_terms.specs.TermTree.{TermTree, Group}
use Rattle.chw_typing.specs.HeadTypes.{PatternOf}
use Rattle.chw_layout.specs.Measured.{closed_value}
use Rattle.netlist.specs.declared.net.Cell.TheVariants.{Const, Reg}
use Rattle.net_built.specs.Bodies.{BlockBuilt, block_variable, block_letrec, GroupBuilt, group_none, group_and, SideBuilt, side_of_circuit, BodyBuilt, body_lambda, body_block}
use Rattle.net_built.specs.Circuits.{Ground, CircuitCells, of_variable, of_synchronizer, of_pure, of_register, of_block_ram, of_mapped, of_lifted, of_call, of_product, of_projection, used, HaveParts, field_wires}
use Rattle.net_built.specs.Memories.{address, filled_up, narrowed, memory}
use Rattle.net_built.specs.Terms.{Variable, variable, wires_at, wires_of, wires_of_all, head_of, types_of, operands_of}
use Rattle.net_built.specs.Wires.{wire, wires_from, wire_count, new_wires, present, Piece, nothing, one, copies, after, ◌▸◌}
use Rattle.net_built.specs.Words.{only}
use Rattle.net_built.proofs.Parts.{same_some, parts_once, all_parts_once, pattern_once, bits_once, words_once, lifted_once}

wires_along : {it jt : Variable} → it ≡ jt → it.wires ≡ jt.wires
wires_along e = ap (λ (v : Variable). v.wires) e

circuit_once : {ground : Ground} {scope : List Variable} {n : ℕ} {ws : List ℕ} {h : TermTree} {ts : List TypeTree} {es : List TermTree} {p q : Piece} → CircuitCells ground scope n ws h ts es p → CircuitCells ground scope n ws h ts es q → p ≡ q
circuit_once of_variable of_variable = refl
circuit_once of_synchronizer of_synchronizer = refl
circuit_once {n = n} (of_pure {w = w} b) (of_pure c) = ap (λ bits. one w (Const (wire n) bits)) (bits_once b c)
circuit_once {scope = scope} {n = n} (of_register {w = w} {d = d} {x = x} b) (of_register c) = ap (λ bits. one w (Reg (wire n) (record { number = d }) bits (only (wires_of scope x)))) (bits_once b c)
circuit_once {scope = scope} {n = n} (of_block_ram {w = w} {d = d} {k = k} {x = x} {y = y} b) (of_block_ram c) =
    ap (λ words. memory w (closed_value k) n (record { number = d }) words (wires_of scope x) (wires_of scope y)) (words_once b c)
circuit_once of_mapped of_mapped = refl
circuit_once {ground = ground} {scope = scope} {n = n} (of_lifted {widths = widths} {x = x} a) (of_lifted b) =
    let q = lifted_once a b refl in λ i. used ground (q.0 i) n (wires_of_all scope (q.1 i ++ x ∷ [])) widths
circuit_once of_call of_call = refl
circuit_once of_product of_product = refl
circuit_once {ground = ground} {n = n} (of_projection {widths = widths} {count = count} {z = z} {c = c} {it = it} {fields = fs} parts i pattern have) (of_projection {it = jt} {fields = gs} others j formed hold) =
    let same : it ≡ jt = same_some i j in
    let fields : fs ≡ gs = pattern_once pattern (subst (λ (v : Variable). PatternOf ground.datas v.ty (OfCon c count) gs) (sym same) formed) in
    let all : parts ≡ others = all_parts_once ground.datas fs parts others have (subst (λ fs. HaveParts ground.datas fs others) (sym fields) hold) in
    λ i. copies n (field_wires (count - 1 - z) (all i) (wires_along same i)) widths

by_width : (k n m : ℕ) (a b : List WireId) (is less : Bool) → (if is then nothing else (if less then filled_up k n a else narrowed k n a)).widths ≡ (if is then nothing else (if less then filled_up k m b else narrowed k m b)).widths
by_width k n m a b true less = refl
by_width k n m a b false true = refl
by_width k n m a b false false = refl

address_widths : (k n m : ℕ) (a b : List WireId) → (address k n a).widths ≡ (address k m b).widths
address_widths zero n m a b = refl
address_widths (suc k) n m a b = by_width (suc k) n m a b (suc k == ADDRESS_BITS) (nat_lt (suc k) ADDRESS_BITS)

memory_widths : (w k n : ℕ) (d e : DomId) (ws vs : List (List Bool)) (r s x y : List WireId) → (memory w k n d ws r x).widths ≡ (memory w k n e vs s y).widths
memory_widths zero k n d e ws vs r s x y = refl
memory_widths (suc w) k n d e ws vs r s x y =
    let front : List ℕ = ((1 ∷ []) ++ present (k ∷ [])) ++ (suc w ∷ []) in
    let at : ℕ = n + length front in
    let place : List WireId = new_wires (n + 1) (k ∷ []) in
    λ i. front ++ (address_widths k at at r s i ++ (address_widths k (after at (address k at r)) (after at (address k at s)) place place i ++ (suc w ∷ [])))

-- how many wires cells drive doesn't depend on the wires of the variables
pub circuit_sizes : {ground : Ground} {s u : List Variable} {n : ℕ} {ws : List ℕ} {h : TermTree} {ts : List TypeTree} {es : List TermTree} {p q : Piece} → CircuitCells ground s n ws h ts es p → CircuitCells ground u n ws h ts es q → p.widths ≡ q.widths
circuit_sizes of_variable of_variable = refl
circuit_sizes of_synchronizer of_synchronizer = refl
circuit_sizes (of_pure b) (of_pure c) = refl
circuit_sizes (of_register b) (of_register c) = refl
circuit_sizes {n = n} (of_block_ram {w = w} {d = d} {k = k} b) (of_block_ram c) = memory_widths w (closed_value k) n _ _ _ _ _ _ _ _
circuit_sizes of_mapped of_mapped = refl
circuit_sizes (of_lifted a) (of_lifted b) = refl
circuit_sizes of_call of_call = refl
circuit_sizes of_product of_product = refl
circuit_sizes (of_projection parts i pattern have) (of_projection others j formed hold) = refl

-- the last wires, by the widths of all
abbrev last_by : ℕ → List ℕ → List ℕ → List WireId
last_by n widths parts = wires_from (n + length widths - wire_count parts) (wire_count parts)

side_results : {ground : Ground} {s u : List Variable} {n : ℕ} {t : TypeTree} {e : TermTree} {p q : Piece} {r v : List WireId} → SideBuilt ground Circuit s n t e p r → SideBuilt ground Circuit u n t e q v → (p.widths ≡ q.widths) × (r ≡ v)
side_results {ground} {u = u} {n = n} {e = e} {q = q} (side_of_circuit parts cells) (side_of_circuit others further) =
    let same = parts_once parts others in
    let sizes = circuit_sizes cells (subst (λ ws. CircuitCells ground u n ws (head_of e) (types_of e) (operands_of e) q) (sym same) further) in
    (sizes, λ i. last_by n (sizes i) (same i))

-- the variables of bindings have the same wires, whatever is in scope
group_results : {ground : Ground} {s u : List Variable} {n : ℕ} {g : Group} {p q : Piece} {b c : List Variable} → GroupBuilt ground Circuit s n g p b → GroupBuilt ground Circuit u n g q c → (p.widths ≡ q.widths) × (b ≡ c)
group_results group_none group_none = (refl, refl)
group_results {ground} {u = u} {n = n} (group_and {t = t} {g = g} side more) (group_and {bound = c} {q = q} other others) =
    let first = side_results side other in
    let rest = group_results more (subst (λ k. GroupBuilt ground Circuit u k g q c) (sym (ap (λ (ws : List ℕ). n + length ws) first.0)) others) in
    (λ i. first.0 i ++ rest.0 i, λ i. variable t (first.1 i) ∷ rest.1 i)

side_once : {ground : Ground} {s : List Variable} {n : ℕ} {t : TypeTree} {e : TermTree} {p q : Piece} {r v : List WireId} → SideBuilt ground Circuit s n t e p r → SideBuilt ground Circuit s n t e q v → p ≡ q
side_once {ground} {s} {n} {e = e} {q = q} (side_of_circuit parts cells) (side_of_circuit others further) =
    circuit_once cells (subst (λ ws. CircuitCells ground s n ws (head_of e) (types_of e) (operands_of e) q) (sym (parts_once parts others)) further)

group_once : {ground : Ground} {s : List Variable} {n : ℕ} {g : Group} {p q : Piece} {b c : List Variable} → GroupBuilt ground Circuit s n g p b → GroupBuilt ground Circuit s n g q c → p ≡ q
group_once group_none group_none = refl
group_once {ground} {s} {n} (group_and {g = g} side more) (group_and {bound = c} {q = q} other others) =
    let first = side_once side other in
    let rest = group_once more (subst (λ k. GroupBuilt ground Circuit s k g q c) (sym (ap (λ (p : Piece). n + length p.widths) first)) others) in
    λ i. first i ▸ rest i

block_once : {ground : Ground} {s : List Variable} {n : ℕ} {e : TermTree} {p q : Piece} {r v : List WireId} → BlockBuilt ground Circuit s n e p r → BlockBuilt ground Circuit s n e q v → (p ≡ q) × (r ≡ v)
block_once block_variable block_variable = (refl, refl)
block_once {ground} {s} {n} {q = q} (block_letrec {x = x} {g = g} b more) (block_letrec c others) =
    let same = (group_results more others).1 in
    (group_once more (subst (λ (c : List Variable). GroupBuilt ground Circuit (reverse c ++ s) n g q c) (sym same) others), λ i. wires_at (reverse (same i) ++ s) x)

pub body_once : {ground : Ground} {s : List Variable} {n : ℕ} {e : TermTree} {ins jns : List ℕ} {p q : Piece} {r v : List WireId} → BodyBuilt ground Circuit s n e ins p r → BodyBuilt ground Circuit s n e jns q v → (ins ≡ jns) × (p ≡ q) × (r ≡ v)
body_once {ground} {s} {n} {q = q} {v = v} (body_lambda {t = t} {e = e} parts more) (body_lambda {inputs = jns} others further) =
    let same = parts_once parts others in
    let rest = body_once more (subst (λ ws. BodyBuilt ground Circuit (variable t (new_wires n ws) ∷ s) (n + wire_count ws) e jns q v) (sym same) further) in
    (λ i. present (same i) ++ rest.0 i, rest.1, rest.2)
body_once (body_lambda parts more) (body_block b) = elim b [ ]
body_once (body_block b) (body_lambda parts more) = elim b [ ]
body_once (body_block b) (body_block c) = let q = block_once b c in (refl, q.0, q.1)
