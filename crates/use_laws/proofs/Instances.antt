-- Instances: a path has one module, and an instance with its first flat wire is one of the flat net's.
use Rattle.std.proofs.Common.{◌≡◌, ℕ, ◌+◌, List, [], ◌∷◌, take, Some, slice_get, refl, sym, ap, ◌∙◌, arith}
use Rattle.chw_base.specs.declared.index.ModId.{ModId}
use Rattle.chw_base.specs.declared.index.WireId.{WireId}
use Rattle.net_flat.specs.Flattened.{IsInstance, IsTop, wires_before}
use Rattle.net_flat.specs.Flattened as flattened
use Rattle.net_flat.proofs.Within.{stands_at}
use Rattle.netlist.specs.declared.net.Cell.TheVariants.{Use}
use Rattle.netlist.specs.declared.net.Module.{Module}
use Rattle.netlist.specs.declared.net.Net.{Net}
use Rattle.use_laws.specs.ValueIn.{BeginsAt, HasUseAt, IsModuleAt}
use Rattle.use_laws.specs.ValueIn.IsModuleAt.{top, used}
use Rattle.use_laws.specs.ValueIn.BeginsAt.{top as begins_top, used as begins_used}

-- the module of an instance that is used: the use, and the module that it names
pub record UsedAt (net : Net) (path : List ℕ) (place : ℕ) (inner : Module) : Type 0 where
  pub m : Module
  pub k : ModId
  pub reads : List WireId
  pub drives : List WireId
  pub at : IsModuleAt net path m
  pub stands : slice_get m.cells place ≡ Some (Use k reads drives)
  pub found : slice_get net.modules k.number ≡ Some inner

pub at_top : (net : Net) (m : Module) → IsModuleAt net [] m → (i : ℕ) × IsTop net i m
at_top net _ (top i m t) = (i, t)

pub at_used : (net : Net) (path : List ℕ) (place : ℕ) (inner : Module) → IsModuleAt net (place ∷ path) inner → UsedAt net path place inner
at_used net _ _ _ (used path place m inner k reads drives at stands found) =
    record { m = m; k = k; reads = reads; drives = drives; at = at; stands = stands; found = found }

-- where the wires begin of an instance that is used
pub record BeginsUsed (net : Net) (path : List ℕ) (place base : ℕ) : Type 0 where
  pub outer : ℕ
  pub m : Module
  pub begins : BeginsAt net path outer
  pub at : IsModuleAt net path m
  pub «is» : base ≡ outer + wires_before net m (take place m.cells)

pub begins_first : (net : Net) (base : ℕ) → BeginsAt net [] base → base ≡ 0
begins_first net _ begins_top = refl

pub begins_inner : (net : Net) (path : List ℕ) (place base : ℕ) → BeginsAt net (place ∷ path) base → BeginsUsed net path place base
begins_inner net _ _ _ (begins_used path base place m k reads drives begins at stands) =
    record { outer = base; m = m; begins = begins; at = at; «is» = refl }

same_module : (net : Net) (i j : ℕ) (m n : Module) → i ≡ j → slice_get net.modules i ≡ Some m → slice_get net.modules j ≡ Some n → m ≡ n
same_module net i j m n e f g =
    let both : Some m ≡ Some n = sym f ∙ ap (λ k. slice_get net.modules k) e ∙ g in cc

same_use : (m n : Module) (place : ℕ) (k l : ModId) (reads drives reads' drives' : List WireId) → m ≡ n
    → slice_get m.cells place ≡ Some (Use k reads drives) → slice_get n.cells place ≡ Some (Use l reads' drives') → k.number ≡ l.number
same_use m n place k l reads drives reads' drives' e f g =
    let both : Some (Use k reads drives) ≡ Some (Use l reads' drives') = sym f ∙ ap (λ (x : Module). slice_get x.cells place) e ∙ g in
    let same : k ≡ l = cc in ap (λ (x : ModId). x.number) same

-- a path has one module
pub one_module : (net : Net) (path : List ℕ) (m n : Module) → IsModuleAt net path m → IsModuleAt net path n → m ≡ n
one_module net _ _ n (top i m t) v =
    let other = at_top net n v in
    let same : i ≡ other.0 = omega (arith, t.last, other.1.last) in
    same_module net i other.0 m n same t.stands other.1.stands
one_module net _ _ n (used path place m inner k reads drives at stands found) v =
    let other = at_used net path place n v in
    let outer = one_module net path m other.m at other.at in
    let same = same_use m other.m place k other.k reads drives other.reads other.drives outer stands other.stands in
    same_module net k.number other.k.number inner n same found other.found

-- the module that a use of an instance names
pub module_used : (net : Net) (path : List ℕ) (place : ℕ) (reads drives : List WireId) (inner : Module)
    → (u : HasUseAt net path place reads drives) → IsModuleAt net (place ∷ path) inner → slice_get net.modules u.k.number ≡ Some inner
module_used net path place reads drives inner u at =
    let other = at_used net path place inner at in
    let same = same_use u.m other.m place u.k other.k reads drives other.reads other.drives (one_module net path u.m other.m u.at other.at) u.stands other.stands in
    ap (λ k. slice_get net.modules k) same ∙ other.found

-- the first flat wire of an instance that a use gives, by the use's module
pub begins_by : (net : Net) (path : List ℕ) (place base : ℕ) (m : Module) → (b : BeginsUsed net path place base) → IsModuleAt net path m
    → base ≡ b.outer + wires_before net m (take place m.cells)
begins_by net path place base m b at =
    b.«is» ∙ ap (λ (x : Module). b.outer + wires_before net x (take place x.cells)) (one_module net path b.m m b.at at)

-- an instance of the flat net, with its module
pub record InstanceOf (net : Net) (base : ℕ) (m : Module) : Type 0 where
  pub i : ℕ
  pub stands : IsInstance net base i
  pub found : slice_get net.modules i ≡ Some m

pub instance_of : (net : Net) (path : List ℕ) (base : ℕ) (m : Module) → BeginsAt net path base → IsModuleAt net path m → InstanceOf net base m
instance_of net _ _ m begins_top v =
    let t = at_top net m v in record { i = t.0; stands = flattened.top t.0 t.1.last; found = t.1.stands }
instance_of net _ _ m (begins_used path base place n k reads drives begins at stands) v =
    let outer = instance_of net path base n begins at in
    let u : HasUseAt net path place reads drives = record { k = k; m = n; at = at; stands = stands } in
    record {
      i = k.number;
      stands = flattened.used base outer.i n (take place n.cells) k reads drives outer.stands outer.found (stands_at n place k reads drives stands);
      found = module_used net path place reads drives m u v;
    }
