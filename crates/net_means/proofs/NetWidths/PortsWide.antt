-- Variables of circuits: the wires of each are as wide as the parts of its type.
use Rattle.std.proofs.Common.{◌≡◌, ℕ, zero, suc, ◌+◌, ◌-◌, arith, Bool, List, [], ◌∷◌, ◌++◌, length, reverse, Some, refl, sym, ap, ◌∙◌, subst, length-append}
use Rattle.std.specs.List.{slice_get}
use Rattle.chw_base.specs.declared.index.DomId.{DomId}
use Rattle.chw_base.specs.declared.index.WireId.{WireId}
use Rattle.chw_types.specs.declared.declarations.Data.{Data}
use Rattle.chw_types.specs.declared.kind.Kind.{Kind}
use Rattle.chw_types.specs.SameTypes.{SameTypes}
use Rattle.chw_types.specs.TypeTree.{TypeTree}
use Rattle.type_laws.specs.SameKept.{FieldsKeepSame}
use Rattle.chw_terms.specs.declared.scene.Sort.TheVariants.{Circuit}
use Rattle.chw_terms.specs.TermTree.{TermTree, var, Group}
use Rattle.chw_typing.specs.Programs.{IsSound}
use Rattle.chw_typing.specs.Scopes.{Setting, HasKind}
use Rattle.chw_typing.specs.Typing.{HasType}
use Rattle.chw_layout.specs.Measured.{closed_value}
use Rattle.layout_laws.specs.SameLayout.{SameKeepsMeasure}
use Rattle.netlist.specs.declared.net.Cell.{Cell}
use Rattle.netlist.specs.declared.net.Cell.TheVariants.{Cut, Ram}
use Rattle.net_built.specs.Bodies.{GroupBuilt, group_none, group_and, side_of_circuit}
use Rattle.net_built.specs.Circuits.{Ground, CircuitCells, of_variable, of_synchronizer, of_pure, of_register, of_block_ram, of_mapped, of_lifted, of_call, of_product, of_projection}
use Rattle.net_built.specs.Data.{HasParts}
use Rattle.net_built.specs.Memories.{address, address_wire, memory}
use Rattle.net_built.specs.Terms.{Variable, variable, wires_at}
use Rattle.net_built.specs.Wires.{wire, new_wires, present, Piece, nothing, one, ◌▸◌, after, last_wire, last_wires}
use Rattle.net_built.specs.Words.{only}
use Rattle.net_grounds.specs.Facts.{Facts}
use Rattle.net_means.proofs.Lists.{turned_onto}
use Rattle.net_means.specs.NetFits.Widths.{AreWide, StandFrom}
use Rattle.net_means.proofs.NetFits.CircuitDrivers.{PortsHeld}
use Rattle.net_means.proofs.NetFits.Ports.{parts_kept}
use Rattle.net_means.proofs.NetFits.Scopes.{Fits, found, var_at, wires_there}
use Rattle.net_means.proofs.NetFits.Wide.{Ends, ends_alone, ends_then, stand_parts, wide_from, wide_length}

-- a variable has wires as wide as the parts of its type
pub record PortWide (datas : List Data) (all : List ℕ) (v : Variable) : Type 0 where
  pub parts : List ℕ
  pub have : HasParts datas Circuit v.ty parts
  pub wide : AreWide all v.wires (present parts)

-- so each variable in scope
abbrev pub PortsWide : List Data → List ℕ → List Variable → Type 0
PortsWide datas all scope = (x : ℕ) (v : Variable) → slice_get scope x ≡ Some v → PortWide datas all v

pub ports_held : (s : Setting) (all : List ℕ) (scope : List Variable) → PortsWide s.datas all scope → PortsHeld s scope
ports_held s all scope h x v e = let it = h x v e in record { parts = it.parts; have = it.have; count = wide_length all v.wires (present it.parts) it.wide }

pub none_wide : (datas : List Data) (all : List ℕ) → PortsWide datas all []
none_wide datas all x v e = absurd cc

pub wide_and : (datas : List Data) (all : List ℕ) (v : Variable) (scope : List Variable) → PortWide datas all v → PortsWide datas all scope → PortsWide datas all (v ∷ scope)
wide_and datas all v scope h k zero w e = let is : v ≡ w = cc in subst (λ v. PortWide datas all v) is h
wide_and datas all v scope h k (suc x) w e = k x w e

pub wide_onto : (datas : List Data) (all : List ℕ) (b scope : List Variable) → PortsWide datas all b → PortsWide datas all scope → PortsWide datas all (reverse b ++ scope)
wide_onto datas all [] scope h k = k
wide_onto datas all (v ∷ b) scope h k =
    subst (λ l. PortsWide datas all l) (sym (turned_onto v b scope)) (wide_onto datas all b (v ∷ scope) (λ x w e. h (suc x) w e) (wide_and datas all v scope (h 0 v refl) k))

-- the piece ends with parts of these widths
record EndsWith (p : Piece) (ws : List ℕ) : Type 0 where
  pub front : List ℕ
  pub is : p.widths ≡ front ++ present ws

ends_last : (q r s : Piece) (w : ℕ) (cell : Cell) → Ends (q ▸ r ▸ s ▸ one w cell) w
ends_last q r s w cell = ends_then q (r ▸ s ▸ one w cell) w (ends_then r (s ▸ one w cell) w (ends_then s (one w cell) w (ends_alone (one w cell) w refl)))

memory_ends : (w k at : ℕ) (d : DomId) (words : List (List Bool)) (read write : List WireId) → Ends (memory w k at d words read write) w
memory_ends zero k at d words read write = ends_alone nothing zero refl
memory_ends (suc w) k at d words read write =
    let width : ℕ = suc w in
    let p : Piece = one 1 (Cut (wire at) (only write) (k + width) (k + width)) ▸ one k (Cut (wire (at + 1)) (only write) (k + width - 1) width) in
    let q : Piece = p ▸ one width (Cut (wire (after at p)) (only write) (width - 1) 0) in
    let place : List WireId = new_wires (at + 1) (k ∷ []) in
    let r : Piece = address k (after at q) read in
    let s : Piece = address k (after (after at q) r) place in
    ends_last q r s width
    (Ram (wire (after (after (after at q) r) s)) d words
    (record {
      read = address_wire k (after at q) read;
      enable = wire at;
      place = address_wire k (after (after at q) r) place;
      value = last_wire at q;
    }))

of_ends : (p : Piece) (w : ℕ) → Ends p w → EndsWith p (w ∷ [])
of_ends p w e = record { front = e.front; is = e.is }

circuit_ends : {ground : Ground} {scope : List Variable} {n : ℕ} {widths : List ℕ} {h : TermTree} {ts : List TypeTree} {es : List TermTree} {p : Piece} → CircuitCells ground scope n widths h ts es p → EndsWith p widths
circuit_ends of_variable = record { front = []; is = refl }
circuit_ends of_synchronizer = record { front = []; is = refl }
circuit_ends (of_pure b) = record { front = []; is = refl }
circuit_ends (of_register b) = record { front = []; is = refl }
circuit_ends {n = n} (of_block_ram {w = w} {d = d} {k = k} {words = words} b) = of_ends _ w (memory_ends w (closed_value k) n _ words _ _)
circuit_ends of_mapped = record { front = []; is = refl }
circuit_ends (of_lifted a) = record { front = []; is = refl }
circuit_ends of_call = record { front = []; is = refl }
circuit_ends of_product = record { front = []; is = refl }
circuit_ends (of_projection parts i pattern have) = record { front = []; is = refl }

ends_wide : (all : List ℕ) (n : ℕ) (ws : List ℕ) (p : Piece) → StandFrom all n p.widths → EndsWith p ws → AreWide all (last_wires n p ws) (present ws)
ends_wide all n ws p h e =
    let last : List ℕ = present ws in
    let count : length p.widths ≡ length e.front + length last = ap (λ (ws : List ℕ). length ws) e.is ∙ length-append e.front last in
    let place : n + length e.front ≡ n + length p.widths - length last = omega (arith, count) in
    let there : StandFrom all (n + length e.front) last = (stand_parts all n e.front last (subst (StandFrom all n) e.is h)).1 in
    wide_from all (n + length p.widths - length last) last (subst (λ n. StandFrom all n last) place there)

-- the bindings of a circuit
pub bound_wide : (all : List ℕ) {ground : Ground} {scope : List Variable} {n : ℕ} {g : Group} {p : Piece} {b : List Variable} → GroupBuilt ground Circuit scope n g p b → StandFrom all n p.widths → PortsWide ground.datas all b
bound_wide all {ground} group_none stand = none_wide ground.datas all
bound_wide all {ground} {n = n} (group_and {bound = bound} {t = t} {p = p} {q = q} (side_of_circuit {widths = widths} parts cells) more) stand =
    let stands = stand_parts all n p.widths q.widths stand in
    wide_and ground.datas all (variable t (last_wires n p widths)) bound (record { parts = widths; have = parts; wide = ends_wide all n widths p stands.0 (circuit_ends cells) }) (bound_wide all more stands.1)

-- a typed variable has wires as wide as the parts of a type that is the same up to naturals
pub port_wide : Facts → FieldsKeepSame → SameKeepsMeasure → (s : Setting) → IsSound s → (all : List ℕ) (vars : List TypeTree) (scope : List Variable) (x : ℕ) (t u : TypeTree) (k : Kind) (ws : List ℕ) → Fits vars scope → PortsWide s.datas all scope → HasType s [] vars (var x) u → HasKind s [] t k → SameTypes t u → HasParts s.datas Circuit t ws
    → AreWide all (wires_at scope x) (present ws)
port_wide facts keep law s sound all vars scope x t u k ws fit wide typed kind same has =
    let at = found facts vars scope x u fit (var_at typed) in
    let it = wide x at.it at.is in
    let kept = parts_kept facts keep law s sound t at.it.ty ws (record { kind = k; has = kind; same = facts.same.same_through same at.same }) has in
    subst (λ ws. AreWide all (wires_at scope x) (present ws)) (facts.built.parts_once it.have kept) (subst (λ (wires : List WireId). AreWide all wires (present it.parts)) (sym (wires_there scope x at.it at.is)) it.wide)
