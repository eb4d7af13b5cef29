-- The types of what a type leads from, parameter by parameter.
use Rattle.std.proofs.Common.{◌≡◌, ℕ, suc, zero, ◌+◌, ◌<◌, ◌≤◌, List, [], ◌∷◌, ◌++◌, take, Some, refl, sym, ap, ◌∙◌, subst, append_assoc, arith}
use Rattle.std.specs.Prelude.{slice_get}
use Rattle.std.proofs.lemmas.List.{append-nil}
use Rattle.chw_clock.specs.declared.event.Port.{Port}
use Rattle.chw_clock.specs.declared.event.Ports.{Ports}
use Rattle.type_ports.specs.Ports.{Leaves, IsNoPort}
use Rattle.chw_types.specs.TypeTree.{TypeTree, fun}
use Rattle.chw_types.specs.declared.ty.TyNode.{TyNode}
use Rattle.chw_types.specs.declared.ty.TyNode.TheVariants.{Var, NatLit, Sum, Times, DomOf, Unsigned, Signed, BitVector, Vec as VecNode, DataOf, Fun, Signal, Forall}
use Rattle.chw_types.specs.TypeView.{tree_of}
use Rattle.chw_types.specs.declared.declarations.Data.{Data}
use Rattle.type_ports.specs.declared.ports.Leaf.{Leaf}
use Rattle.chw_terms.specs.declared.program.Def.{Def}
use Rattle.chw_terms.specs.declared.program.Program.{Program}
use Rattle.chw_layout.specs.Measured.{HasWidth}
use Rattle.chw_meaning.specs.Means.{HasPorts, LeadsFrom, leads_to, leads_from, PortsOf, no_ports, port_and, no_port_and}
use Rattle.chw_meaning.proofs.Once.{same_some}
use Rattle.answers.specs.SimAnswer.Simulation.{TypesOf, no_type, type_of, no_type_of}
use Rattle.answers.specs.SimAnswer.Types.{AddsPort, AddsTypes, AreInputs, AreMeasured, AreParameters, IsMeasuredPort, LeadsFromMeasured}
use Rattle.net_build.proofs.LeavesOnce.{leaves_once}

-- ---- leaf by leaf

types_append : {datas : List Data} {as' bs : List Leaf} {ts us : List TypeTree} → TypesOf datas as' ts → TypesOf datas bs us → TypesOf datas (as' ++ bs) (ts ++ us)
types_append no_type b = b
types_append (type_of w a) b = type_of w (types_append a b)
types_append (no_type_of w a) b = no_type_of w (types_append a b)

pub adds_none : {datas : List Data} (old new : List TypeTree) → new ≡ old → AddsTypes datas [] old new
adds_none old new e = record { types = []; are = no_type; joined = e ∙ sym (append-nil old) }

-- a leaf with bits, and one without
pub adds_wide : {datas : List Data} (leaf : Leaf) (w : ℕ) (old new : List TypeTree) → HasWidth datas leaf.payload w → 0 < w → new ≡ old ++ leaf.payload ∷ [] → AddsTypes datas (leaf ∷ []) old new
adds_wide leaf zero old new has some e = absurd (omega (arith, some))
adds_wide leaf (suc w) old new has some e = record { types = leaf.payload ∷ []; are = type_of has no_type; joined = e }

pub adds_empty : {datas : List Data} (leaf : Leaf) (w : ℕ) (old new : List TypeTree) → HasWidth datas leaf.payload w → w ≤ 0 → new ≡ old → AddsTypes datas (leaf ∷ []) old new
adds_empty leaf zero old new has none e = record { types = []; are = no_type_of has no_type; joined = e ∙ sym (append-nil old) }
adds_empty leaf (suc w) old new has none e = absurd (omega (arith, none))

adds_join : {datas : List Data} (as' bs : List Leaf) (old mid new : List TypeTree) → AddsTypes datas as' old mid → AddsTypes datas bs mid new → AddsTypes datas (as' ++ bs) old new
adds_join as' bs old mid new a b = record {
  types = a.types ++ b.types;
  are = types_append a.are b.are;
  joined = b.joined ∙ ap (λ ts. ts ++ b.types) a.joined ∙ append_assoc old a.types b.types;
}

pub adds_more : {datas : List Data} (leaves : List Leaf) (i : ℕ) (leaf : Leaf) (old mid new : List TypeTree) → take (i + 1) leaves ≡ take i leaves ++ leaf ∷ [] → AddsTypes datas (take i leaves) old mid
    → AddsTypes datas (leaf ∷ []) mid new → AddsTypes datas (take (i + 1) leaves) old new
adds_more {datas} leaves i leaf old mid new one a b =
    subst (λ ls. AddsTypes datas ls old new) (sym one) (adds_join (take i leaves) (leaf ∷ []) old mid new a b)

-- a port's leaves are those that were found
pub adds_port : {datas : List Data} (t : TypeTree) (leaves : List Leaf) (old new : List TypeTree) → Leaves datas t leaves → AddsTypes datas leaves old new → AddsPort datas t old new
adds_port {datas} t leaves old new l adds others m = subst (λ ls. AddsTypes datas ls old new) (leaves_once l m) adds

pub measured_leaves : {datas : List Data} (t : TypeTree) (leaves : List Leaf) → IsMeasuredPort datas t → Leaves datas t leaves → AreMeasured datas leaves
measured_leaves {datas} t leaves port l = subst (AreMeasured datas) (leaves_once port.are l) port.measured

pub port_is_there : {datas : List Data} (t : TypeTree) → IsMeasuredPort datas t → IsNoPort datas t → ⊥
port_is_there t port none = none port.leaves port.are

-- ---- parameter by parameter

-- a node that is no function is no function's
pub no_function : (node : TyNode) → ((a b : _) → node ≡ Fun a b → ⊥) → (a b : TypeTree) → tree_of node ≡ fun a b → ⊥
no_function (Fun f t) h a b e = h f t refl
no_function (Var x) h a b e = absurd (cc)
no_function (NatLit n) h a b e = absurd (cc)
no_function (Sum l r) h a b e = absurd (cc)
no_function (Times l r) h a b e = absurd (cc)
no_function (DomOf d) h a b e = absurd (cc)
no_function (Unsigned w) h a b e = absurd (cc)
no_function (Signed w) h a b e = absurd (cc)
no_function (BitVector w) h a b e = absurd (cc)
no_function (VecNode n t) h a b e = absurd (cc)
no_function (DataOf d ts) h a b e = absurd (cc)
no_function (Signal d t) h a b e = absurd (cc)
no_function (Forall k t) h a b e = absurd (cc)

-- behind these leaves the type that is left leads from the others
pub record LedTo (datas : List Data) (rest : TypeTree) (ins outs : List Leaf) (types : List TypeTree) : Type 0 where
  pub done : List Leaf
  pub left : List Leaf
  pub joined : ins ≡ done ++ left
  pub leads : LeadsFrom datas rest left outs
  pub are : TypesOf datas done types

-- so far the types are those of the parameters
pub record Led (datas : List Data) (t rest : TypeTree) (types : List TypeTree) : Type 0 where
  pub measured : LeadsFromMeasured datas rest
  pub along : (ins outs : List Leaf) → LeadsFrom datas t ins outs → LedTo datas rest ins outs types

pub record FromFun (datas : List Data) (a b : TypeTree) (ins outs : List Leaf) : Type 0 where
  pub first : List Leaf
  pub others : List Leaf
  pub joined : ins ≡ first ++ others
  pub port : Leaves datas a first
  pub leads : LeadsFrom datas b others outs

from_fun : {datas : List Data} {a b : TypeTree} {ins outs : List Leaf} → LeadsFrom datas (fun a b) ins outs → FromFun datas a b ins outs
from_fun (leads_to l) = elim l [ ]
from_fun (leads_from {ls = ls} {ins = ins} l more) = record { first = ls; others = ins; joined = refl; port = l; leads = more }

measured_parts : (datas : List Data) (as' bs : List Leaf) → AreMeasured datas (as' ++ bs) → AreMeasured datas as' × AreMeasured datas bs
measured_parts datas [] bs all = (tt, all)
measured_parts datas (a ∷ as') bs all = let q = measured_parts datas as' bs all.1 in ((all.0, q.0), q.1)

pub led_first : {datas : List Data} (t : TypeTree) (types : List TypeTree) → LeadsFromMeasured datas t → types ≡ [] → Led datas t t types
led_first {datas} t types m none = record {
  measured = m;
  along = λ ins outs l. record { done = []; left = ins; joined = refl; leads = l; are = subst (TypesOf datas []) (sym none) no_type };
}

pub led_port : {datas : List Data} (a b : TypeTree) → LeadsFromMeasured datas (fun a b) → IsMeasuredPort datas a
led_port {datas} a b m =
    let f = from_fun m.leads in
    record { leaves = f.first; are = f.port; measured = (measured_parts datas f.first f.others (subst (AreMeasured datas) f.joined m.measured)).0 }

led_rest : {datas : List Data} (a b : TypeTree) → LeadsFromMeasured datas (fun a b) → LeadsFromMeasured datas b
led_rest {datas} a b m =
    let f = from_fun m.leads in
    record { ins = f.others; outs = m.outs; leads = f.leads; measured = (measured_parts datas f.first f.others (subst (AreMeasured datas) f.joined m.measured)).1 }

pub led_more : {datas : List Data} (t a b : TypeTree) (types more : List TypeTree) → Led datas t (fun a b) types → AddsPort datas a types more → Led datas t b more
led_more {datas} t a b types more led adds = record {
  measured = led_rest a b led.measured;
  along = λ ins outs l.
      let to = led.along ins outs l in
      let f = from_fun to.leads in
      let put = adds f.first f.port in
      record {
        done = to.done ++ f.first;
        left = f.others;
        joined = to.joined ∙ ap (λ ls. to.done ++ ls) f.joined ∙ sym (append_assoc to.done f.first f.others);
        leads = f.leads;
        are = subst (TypesOf datas (to.done ++ f.first)) (sym put.joined) (types_append to.are put.are);
      };
}

no_more : {datas : List Data} {t : TypeTree} {ins outs : List Leaf} → LeadsFrom datas t ins outs → ((a b : TypeTree) → t ≡ fun a b → ⊥) → ins ≡ []
no_more (leads_to l) other = refl
no_more (leads_from {a = a} {b = b} l more) other = absurd (other a b refl)

pub led_end : {datas : List Data} (t rest : TypeTree) (types : List TypeTree) → Led datas t rest types → ((a b : TypeTree) → rest ≡ fun a b → ⊥) → AreParameters datas t types
led_end {datas} t rest types led other ins outs l =
    let to = led.along ins outs l in
    let all : ins ≡ to.done = to.joined ∙ ap (λ ls. to.done ++ ls) (no_more to.leads other) ∙ append-nil to.done in
    subst (λ ls. TypesOf datas ls types) (sym all) to.are

-- ---- the program's

ports_measured : {datas : List Data} {leaves : List Leaf} {names : List (List ℕ)} {ports : List Port} → PortsOf datas leaves names ports → AreMeasured datas leaves
ports_measured no_ports = tt
ports_measured (port_and {w = w} has more) = ((suc w, has), ports_measured more)
ports_measured (no_port_and has more) = ((zero, has), ports_measured more)

pub top_measured : {p : Program} {ports : Ports} (it : Def) → HasPorts p ports → slice_get p.defs p.top.«def».number ≡ Some it → LeadsFromMeasured p.datas it.ty
top_measured {p} it has held = record {
  ins = has.ins;
  outs = has.outs;
  leads = subst (λ (d : Def). LeadsFrom p.datas d.ty has.ins has.outs) (same_some has.top.held held) has.top.leads;
  measured = ports_measured has.inputs;
}

pub are_inputs : {p : Program} (it : Def) (types : List TypeTree) → slice_get p.defs p.top.«def».number ≡ Some it → AreParameters p.datas it.ty types → AreInputs p types
are_inputs {p} it types held are ports has = record {
  are_ports = has;
  are_types = are has.ins has.outs (subst (λ (d : Def). LeadsFrom p.datas d.ty has.ins has.outs) (same_some has.top.held held) has.top.leads);
}
