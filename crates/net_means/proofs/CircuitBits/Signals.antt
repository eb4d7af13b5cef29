-- Signals: ports of one leaf.
use Rattle.std.specs.Prelude.{slice_get}
use Rattle.std.proofs.Common.{◌≡◌, ◌<◌, ℕ, zero, suc, ◌+◌, ◌-◌, Bool, List, [], ◌∷◌, length, Some, refl, sym, ap, ◌∙◌, subst, arith}
use Rattle.chw_base.specs.declared.index.WireId.{WireId}
use Rattle.chw_clock.specs.declared.event.Event.{Event}
use Rattle.chw_types.specs.declared.declarations.Data.{Data}
use Rattle.type_ports.specs.Ports.{one_leaf}
use Rattle.chw_types.specs.SamePromises.{SameValues}
use Rattle.chw_types.specs.SameTypes.{SameTypes}
use Rattle.chw_types.specs.TypeTree.{TypeTree, TypeTrees, signal}
use Rattle.type_laws.specs.SameKept.{FieldsKeepSame}
use Rattle.chw_terms.specs.declared.program.Program.{Program}
use Rattle.chw_terms.specs.declared.scene.Sort.TheVariants.{Circuit}
use Rattle.chw_terms.specs.TermTree.{var}
use Rattle.chw_typing.specs.Programs.{IsSound, setting_of}
use Rattle.chw_typing.specs.Scopes.{HasKind, AreTermTypes, IsTermType}
use Rattle.chw_typing.specs.Typing.{HasTypeUpTo}
use Rattle.chw_typing.specs.Alike.{AreLike}
use Rattle.rewriting.specs.Origins.{Origins, setting_at}
use Rattle.chw_layout.specs.Measured.{HasWidth}
use Rattle.chw_meaning.specs.Gives.{LeafOf, leaf_of, PortLeaves, leaf_signal}
use Rattle.chw_meaning.specs.Values.{History, Thunk, closed, Thunks}
use Rattle.carrying.specs.Carrying.{Shows}
use Rattle.netlist.specs.declared.net.Cell.{Cell}
use Rattle.netlist.specs.declared.net.Net.{Net}
use Rattle.use_laws.specs.ValueIn.{ValueIn}
use Rattle.net_built.specs.Data.{HaveWidths, HasParts, port_parts}
use Rattle.net_built.specs.Terms.{Variable, wires_at}
use Rattle.net_built.specs.Wires.{one, last_wires}
use Rattle.net_built.specs.Words.{only}
use Rattle.cell_bits.specs.Bearing.{Bears, bears_nothing, bears_bits}
use Rattle.net_grounds.specs.Facts.{Facts}
use Rattle.net_means.proofs.Lists.{found_before_map, same_some}
use Rattle.net_means.specs.SideBits.Sides.{types_in}
use Rattle.net_means.proofs.SideBits.Operands.{sound_alone, var_at}
use Rattle.net_means.specs.CircuitBits.Leaves.{part_wires, LeafHas, VariableLeaf}
use Rattle.net_means.proofs.CircuitBits.Ports.{payload_like}

pub wires_there : (scope : List Variable) (x : ℕ) (v : Variable) → slice_get scope x ≡ Some v → wires_at scope x ≡ v.wires
wires_there [] x v e = absurd cc
wires_there (u ∷ scope) zero v e = let is : u ≡ v = cc in ap (λ (v : Variable). v.wires) is
wires_there (u ∷ scope) (suc x) v e = wires_there scope x v e

-- a variable that is used at a type: its own is the same
pub operand_like : Facts → (o : Origins) (scope : List Variable) (x : ℕ) (it : Variable) (c : TypeTree) → IsSound (setting_at o) → AreTermTypes (setting_at o) [] (types_in scope) → slice_get scope x ≡ Some it → HasTypeUpTo (setting_at o) [] (types_in scope) (var x) c → AreLike (setting_of o.program) it.ty c
operand_like facts o scope x it c sound scoped known typed =
    let v = found_before_map (λ (v : Variable). v.ty) scope x typed.type (var_at typed.has) in
    let same : v.0 ≡ it = same_some v.1 known in
    let is : it.ty ≡ typed.type = ap (λ (v : Variable). v.ty) (sym same) ∙ v.2 in
    let kinded : IsTermType (setting_at o) [] typed.type = facts.terms.type_kinded typed.has sound scoped in
    record {
      kind = kinded.kind;
      has = subst (λ u. HasKind (setting_at o) [] u kinded.kind) (sym is) kinded.has;
      same = subst (λ u. SameTypes u c) (sym is) (facts.same.same_turned typed.same);
    }

-- the parts of a signal are one
pub signal_part : {datas : List Data} {d t : TypeTree} {ws : List ℕ} → HasParts datas Circuit (signal d t) ws → (w : ℕ) × HasWidth datas t w × (ws ≡ w ∷ [])
signal_part {ws = ws} (port_parts (one_leaf r) h) = single ws h
  where
    single : {datas : List Data} {t : TypeTree} (ws : List ℕ) → HaveWidths datas (t ∷ []) ws → (w : ℕ) × HasWidth datas t w × (ws ≡ w ∷ [])
    single [] h = absurd h
    single (w ∷ []) h = (w, h.0, refl)
    single (w ∷ v ∷ ws) h = absurd h.1

-- a signal of these values shows bits, and of these wires the first has them, if they are any
pub record SignalHas (p : Program) (net : Net) (path : List ℕ) (h : History) (v : TypeTree) (th : Thunk) (wires : List WireId) : Type 0 where
  pub width : ℕ
  pub wide : HasWidth p.datas v width
  pub bits : List Bool
  pub shows : Shows p v th h bits
  pub bears : Bears net path h (part_wires zero (width ∷ []) wires) bits

signal_leaves : {datas : List Data} {d v : TypeTree} {th : Thunk} {ls : List LeafOf} → PortLeaves datas (signal d v) th ls → ls ≡ leaf_of v th ∷ []
signal_leaves (leaf_signal r) = refl

pub to_signal : {p : Program} {net : Net} {path : List ℕ} {h : History} {d v : TypeTree} {th : Thunk} {wires : List WireId} → LeafHas p net path h (signal d v) th wires zero → SignalHas p net path h v th wires
to_signal {p} {net} {path} {h} {d} {v} {th} {wires} has =
    let part = signal_part has.parts in
    let is : leaf_of v th ≡ has.leaf = same_some {a = leaf_of v th} (ap (λ (ls : List LeafOf). slice_get ls zero) (signal_leaves has.is.are)) has.is.at in
    record {
      width = part.0;
      wide = part.1;
      bits = has.bits;
      shows = subst (λ (l : LeafOf). Shows p l.payload l.thunk h has.bits) (sym is) has.shows;
      bears = subst (λ ws. Bears net path h (part_wires zero ws wires) has.bits) part.2 has.bears;
    }

pub from_signal : {p : Program} {net : Net} {path : List ℕ} {h : History} {d v : TypeTree} {th : Thunk} {wires : List WireId} {ws : List ℕ} {bits : List Bool} → HasParts p.datas Circuit (signal d v) ws → Shows p v th h bits → Bears net path h (part_wires zero ws wires) bits → LeafHas p net path h (signal d v) th wires zero
from_signal {v = v} {th = th} {ws = ws} {bits = bits} (port_parts (one_leaf {dom = dom} r) has) shows bears =
    record {
      widths = ws;
      parts = port_parts (one_leaf {dom = dom} r) has;
      leaf = leaf_of v th;
      is = record { leaves = leaf_of v th ∷ []; are = leaf_signal r; at = refl };
      bits = bits;
      shows = shows;
      bears = bears;
    }

-- what a variable has that is used as a signal of these values
module _ (facts : Facts) (o : Origins) (scope : List Variable) (γ : Thunks) (δ : TypeTrees) (net : Net) (path : List ℕ) (values : SameValues) (keep : FieldsKeepSame) (sound : IsSound (setting_at o)) (scoped : AreTermTypes (setting_at o) [] (types_in scope)) where
  pub operand_signal : (x : ℕ) (d a v : TypeTree) (g : History) → HasTypeUpTo (setting_at o) [] (types_in scope) (var x) (signal d a) → SameTypes a v → VariableLeaf o.program net path scope γ g x zero → SignalHas o.program net path g v (closed (var x) γ δ) (wires_at scope x)
  operand_signal x d a v g typed same has =
      let p : Program = o.program in
      let it : Variable = has.it in
      let like = operand_like facts o scope x it (signal d a) sound scoped has.known typed in
      let at = facts.same.as_signal (facts.same.same_turned like.same) in
      let whole = to_signal (subst (λ t. LeafHas p net path g t has.thunk it.wires zero) at.2 has.has) in
      let kinded = subst (λ t. HasKind (setting_of p) [] t like.kind) at.2 like.has in
      let alike : AreLike (setting_of p) at.1 v = payload_like {d = at.0} kinded (facts.same.same_through (facts.same.same_turned at.4) same) in
      record {
        width = whole.width;
        wide = facts.same_layout.measured_same (setting_of p) (sound_alone o sound) values keep whole.wide alike;
        bits = whole.bits;
        shows = facts.shows.variable_shows has.there (facts.shows.shown_same p (sound_alone o sound) values keep whole.shows alike);
        bears = subst (λ wires. Bears net path g (part_wires zero (whole.width ∷ []) wires) whole.bits) (sym (wires_there scope x it has.known)) whole.bears;
      }

-- the wire of a cell that drives a part by itself
pub one_part : {net : Net} {path : List ℕ} {h : List Event} (w n : ℕ) (cell : Cell) (bits : List Bool) → length bits ≡ w → (0 < w → ValueIn net path h n bits) → Bears net path h (part_wires zero (w ∷ []) (last_wires n (one w cell) (w ∷ []))) bits
one_part zero n cell [] e value = bears_nothing
one_part zero n cell (bit ∷ bits) e value = absurd (omega (arith, e))
one_part (suc w) n cell [] e value = absurd (omega (arith, e))
one_part {net} {path} {h} (suc w) n cell (bit ∷ bits) e value =
    let place : n ≡ n + 1 - 1 = omega arith in
    let some : 0 < suc w = omega arith in
    bears_bits (subst (λ k. ValueIn net path h k (bit ∷ bits)) place (value some))

-- the first wire of a part with bits
pub first_value : {net : Net} {path : List ℕ} {h : List Event} (w : ℕ) (wires : List WireId) (bits : List Bool) → Bears net path h (part_wires zero (w ∷ []) wires) bits → 0 < length bits → ValueIn net path h (only wires).number bits
first_value zero wires bits bears some = empty bears some
  where
    empty : {net : Net} {path : List ℕ} {h : List Event} {a : WireId} {bits : List Bool} → Bears net path h [] bits → 0 < length bits → ValueIn net path h a.number bits
    empty bears_nothing some = absurd (omega (arith, some))
first_value (suc w) [] bits bears some = empty bears some
  where
    empty : {net : Net} {path : List ℕ} {h : List Event} {a : WireId} {bits : List Bool} → Bears net path h [] bits → 0 < length bits → ValueIn net path h a.number bits
    empty bears_nothing some = absurd (omega (arith, some))
first_value (suc w) (a ∷ wires) bits bears some = single bears
  where
    single : {net : Net} {path : List ℕ} {h : List Event} {bits : List Bool} → Bears net path h (a ∷ []) bits → ValueIn net path h a.number bits
    single (bears_bits value) = value
