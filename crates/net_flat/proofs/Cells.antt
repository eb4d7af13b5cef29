-- The cells of the instances are the flat cells.
use Rattle.std.proofs.Common.{◌≡◌, ℕ, zero, suc, ◌+◌, List, [], ◌∷◌, map, Some, None, slice_get, refl, sym, ap, subst, ◌∙◌}
use Rattle.std.specs.Prelude.{Option, option_map}
use Rattle.std.proofs.lemmas.Option.{slice_get-map}
use Rattle.chw_base.specs.declared.index.WireId.{WireId}
use Rattle.netlist.specs.declared.net.Cell.{Cell}
use Rattle.netlist.specs.declared.net.Cell.TheVariants.{Copy}
use Rattle.netlist.specs.declared.net.Module.{Module}
use Rattle.netlist.specs.declared.net.Net.{Net}
use Rattle.net_flat.specs.Flattened.{IsFlatCell, IsInstance, IsUse, wire_from, wires_before}
use Rattle.net_flat.specs.Flattened as flat
use Rattle.net_flat.specs.Instances.{IsOwn, IsPlaced}
use Rattle.net_flat.specs.Instances as inst
use Rattle.net_flat.specs.declared.instances.Instance.{Instance}
use Rattle.net_flat.proofs.Filled.{one_target}

-- a flat cell of an instance
pub data IsCellAt (net : Net) (x : Instance) : Cell → Type 0 where
  copied : (j : ℕ) (r : WireId) → slice_get x.reads j ≡ Some r → IsCellAt net x (Copy (record { number = x.base + j }) r)
  driven : (m : Module) (w : ℕ) (c : Cell) → slice_get net.modules x.module.number ≡ Some m → IsOwn net x.base m w c → IsCellAt net x c

pub instance_of : (net : Net) (x : Instance) → IsPlaced net x → IsInstance net x.base x.module.number
instance_of net _ (inst.top k last) = flat.top k.number last
instance_of net _ (inst.used x m before k reads drives p found u) =
    flat.used x.base x.module.number m before k reads drives (instance_of net x p) found u

own_flat : (net : Net) (x : Instance) (m : Module) (w : ℕ) (c : Cell) → IsPlaced net x → slice_get net.modules x.module.number ≡ Some m
    → IsOwn net x.base m w c → IsFlatCell net c
own_flat net x m _ _ p found (inst.cell place w c here none t) =
    flat.own x.base x.module.number place m c (instance_of net x p) found here none
own_flat net x m _ _ p found (inst.output before k reads drives u used there j w o d g) =
    flat.output x.base x.module.number m before k reads drives (instance_of net x p) found u used there j w o d g

-- an item of the flat wires of some wires
moved_item : (base : ℕ) (wires : List WireId) (j : ℕ) (r : WireId) → slice_get (map (wire_from base) wires) j ≡ Some r
    → (w : WireId) × (slice_get wires j ≡ Some w) × (wire_from base w ≡ r)
moved_item base [] j r e = absurd (let n : None ≡ Some r = e in cc)
moved_item base (w ∷ wires) zero r e = let same : wire_from base w ≡ r = cc in (w, refl, same)
moved_item base (w ∷ wires) (suc j) r e = moved_item base wires j r e

copy_flat : (net : Net) (x : Instance) (j : ℕ) (r : WireId) → IsPlaced net x → slice_get x.reads j ≡ Some r
    → IsFlatCell net (Copy (record { number = x.base + j }) r)
copy_flat net _ j r (inst.top k last) e = absurd (let n : None ≡ Some r = e in cc)
copy_flat net _ j r (inst.used x m before k reads drives p found u) e =
    let w = moved_item x.base reads j r e in
    let given = flat.input x.base x.module.number m before k reads drives (instance_of net x p) found u j w.0 w.1 in
    subst (λ (y : WireId). IsFlatCell net (Copy (record { number = x.base + wires_before net m before + j }) y)) w.2 given

pub flat_of_instance : (net : Net) (x : Instance) (c : Cell) → IsPlaced net x → IsCellAt net x c → IsFlatCell net c
flat_of_instance net x _ p (copied j r e) = copy_flat net x j r p e
flat_of_instance net x _ p (driven m w c found o) = own_flat net x m w c p found o

-- an instance of the definition is one with what its inputs read
pub record Placing (net : Net) (base i : ℕ) : Type 0 where
  pub x : Instance
  pub placed : IsPlaced net x
  pub base_is : x.base ≡ base
  pub module_is : x.module.number ≡ i

pub placing : (net : Net) (base i : ℕ) → IsInstance net base i → Placing net base i
placing net _ _ (flat.top i last) = record {
  x = record { «module» = record { number = i }; base = 0; reads = [] };
  placed = inst.top (record { number = i }) last;
  base_is = refl;
  module_is = refl;
}
placing net _ _ (flat.used base i m before k reads drives p found u) =
    let at = placing net base i p in
    let there : slice_get net.modules at.x.module.number ≡ Some m = subst (λ (n : ℕ). slice_get net.modules n ≡ Some m) (sym at.module_is) found in
    record {
      x = record { «module» = k; base = at.x.base + wires_before net m before; reads = map (wire_from at.x.base) reads };
      placed = inst.used at.x m before k reads drives at.placed there u;
      base_is = ap (λ (n : ℕ). n + wires_before net m before) at.base_is;
      module_is = refl;
    }

-- a flat cell is one of an instance
pub record FlatAt (net : Net) (c : Cell) : Type 0 where
  pub x : Instance
  pub placed : IsPlaced net x
  pub at : IsCellAt net x c

own_at : (net : Net) (base i : ℕ) (m : Module) (w : ℕ) (c : Cell) → IsInstance net base i → slice_get net.modules i ≡ Some m
    → IsOwn net base m w c → FlatAt net c
own_at net base i m w c p found o =
    let at = placing net base i p in
    let there : slice_get net.modules at.x.module.number ≡ Some m = subst (λ (n : ℕ). slice_get net.modules n ≡ Some m) (sym at.module_is) found in
    record {
      x = at.x;
      placed = at.placed;
      at = driven m w c there (subst (λ (n : ℕ). IsOwn net n m w c) (sym at.base_is) o);
    }

pub flat_at : (net : Net) (c : Cell) → IsFlatCell net c → FlatAt net c
flat_at net _ (flat.own base i place m cell p found here none) =
    let t = one_target [] 0 0 cell [] none in
    own_at net base i m t.0.number (flat.moved base cell) p found (inst.cell place t.0.number cell here none t.1)
flat_at net _ (flat.output base i m before k reads drives p found u used there j w o d g) =
    own_at net base i m w.number (Copy (wire_from base w) (wire_from (base + wires_before net m before) o)) p found
    (inst.output before k reads drives u used there j w o d g)
flat_at net _ (flat.input base i m before k reads drives p found u j r e) =
    let at = placing net base i p in
    let there : slice_get net.modules at.x.module.number ≡ Some m = subst (λ (n : ℕ). slice_get net.modules n ≡ Some m) (sym at.module_is) found in
    let item : slice_get (map (wire_from at.x.base) reads) j ≡ Some (wire_from at.x.base r) =
    slice_get-map (wire_from at.x.base) reads j ∙ ap (λ (o : Option WireId). option_map (wire_from at.x.base) o) e in
    let given : FlatAt net (Copy (record { number = at.x.base + wires_before net m before + j }) (wire_from at.x.base r)) = record {
      x = record { «module» = k; base = at.x.base + wires_before net m before; reads = map (wire_from at.x.base) reads };
      placed = inst.used at.x m before k reads drives at.placed there u;
      at = copied j (wire_from at.x.base r) item;
    } in
    subst (λ (n : ℕ). FlatAt net (Copy (record { number = n + wires_before net m before + j }) (wire_from n r))) at.base_is given
