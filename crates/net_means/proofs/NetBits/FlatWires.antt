-- A flat wire of an instance has the width of the instance's wire, and a path has one module.
use Rattle.net_flat.specs.Flattened as flattened
use Rattle.use_laws.specs.ValueIn.IsModuleAt.{top, used}
use Rattle.use_laws.specs.ValueIn.BeginsAt.{top as begins_top, used as begins_used}
use Rattle.netlist.specs.declared.net.Cell.TheVariants.{Use}
use Rattle.net_flat.specs.Flattened.{IsFlatOf, IsInstance, IsTop, wires_before, widths_in}
use Rattle.std.proofs.Common.{◌≡◌, ℕ, ◌+◌, List, [], ◌∷◌, ◌++◌, length, take, Some, slice_get, sym, ap, subst, ◌∙◌, arith}
use Rattle.chw_base.specs.declared.index.ModId.{ModId}
use Rattle.chw_base.specs.declared.index.WireId.{WireId}
use Rattle.net_rules.specs.WellFormed.{WellFormed}
use Rattle.netlist.specs.declared.net.Flat.{Flat}
use Rattle.netlist.specs.declared.net.Module.{Module}
use Rattle.netlist.specs.declared.net.Net.{Net}
use Rattle.use_laws.specs.ValueIn.{BeginsAt, HasUseAt, IsModuleAt}
use Rattle.net_grounds.specs.Facts.{Facts}
use Rattle.net_grounds.specs.FlatNets.{wires_of_uses}
use Rattle.net_means.proofs.Lists.{get_left, get_right}

-- the module of an instance that is used: the use, and the module that it names
pub record UsedBy (net : Net) (path : List ℕ) (place : ℕ) (inner : Module) : Type 0 where
  pub m : Module
  pub k : ModId
  pub reads : List WireId
  pub drives : List WireId
  pub at : IsModuleAt net path m
  pub stands : slice_get m.cells place ≡ Some (Use k reads drives)
  pub found : slice_get net.modules k.number ≡ Some inner

pub at_top : (net : Net) (m : Module) → IsModuleAt net [] m → (i : ℕ) × IsTop net i m
at_top net _ (top i m t) = (i, t)

pub at_used : (net : Net) (path : List ℕ) (place : ℕ) (inner : Module) → IsModuleAt net (place ∷ path) inner → UsedBy net path place inner
at_used net _ _ _ (used path place m inner k reads drives at stands found) =
    record { m = m; k = k; reads = reads; drives = drives; at = at; stands = stands; found = found }

same_module : (net : Net) (i j : ℕ) (m n : Module) → i ≡ j → slice_get net.modules i ≡ Some m → slice_get net.modules j ≡ Some n → m ≡ n
same_module net i j m n e f g =
    let both : Some m ≡ Some n = sym f ∙ ap (λ k. slice_get net.modules k) e ∙ g in cc

same_use : (m n : Module) (place : ℕ) (k l : ModId) (reads drives reads' drives' : List WireId) → m ≡ n
    → slice_get m.cells place ≡ Some (Use k reads drives) → slice_get n.cells place ≡ Some (Use l reads' drives') → k.number ≡ l.number
same_use m n place k l reads drives reads' drives' e f g =
    let both : Some (Use k reads drives) ≡ Some (Use l reads' drives') = sym f ∙ ap (λ (x : Module). slice_get x.cells place) e ∙ g in
    let same : k ≡ l = cc in ap (λ (x : ModId). x.number) same

-- a path has one module
pub one_module : (net : Net) (path : List ℕ) (m n : Module) → IsModuleAt net path m → IsModuleAt net path n → m ≡ n
one_module net _ _ n (top i m t) v =
    let other = at_top net n v in
    let same : i ≡ other.0 = omega (arith, t.last, other.1.last) in
    same_module net i other.0 m n same t.stands other.1.stands
one_module net _ _ n (used path place m inner k reads drives at stands found) v =
    let other = at_used net path place n v in
    let outer = one_module net path m other.m at other.at in
    let same = same_use m other.m place k other.k reads drives other.reads other.drives outer stands other.stands in
    same_module net k.number other.k.number inner n same found other.found

-- the module that a use of an instance names
pub module_used : (net : Net) (path : List ℕ) (place : ℕ) (reads drives : List WireId) (inner : Module)
    → (u : HasUseAt net path place reads drives) → IsModuleAt net (place ∷ path) inner → slice_get net.modules u.k.number ≡ Some inner
module_used net path place reads drives inner u at =
    let other = at_used net path place inner at in
    let same = same_use u.m other.m place u.k other.k reads drives other.reads other.drives (one_module net path u.m other.m u.at other.at) u.stands other.stands in
    ap (λ k. slice_get net.modules k) same ∙ other.found

-- an instance of the flat net, with its module
pub record InstanceOf (net : Net) (base : ℕ) (m : Module) : Type 0 where
  pub i : ℕ
  pub stands : IsInstance net base i
  pub found : slice_get net.modules i ≡ Some m

pub instance_of : Facts → (net : Net) (path : List ℕ) (base : ℕ) (m : Module) → BeginsAt net path base → IsModuleAt net path m → InstanceOf net base m
instance_of facts net _ _ m begins_top v =
    let t = at_top net m v in record { i = t.0; stands = flattened.top t.0 t.1.last; found = t.1.stands }
instance_of facts net _ _ m (begins_used path base place n k reads drives begins at stands) v =
    let outer = instance_of facts net path base n begins at in
    let u : HasUseAt net path place reads drives = record { k = k; m = n; at = at; stands = stands } in
    record {
      i = k.number;
      stands = flattened.used base outer.i n (take place n.cells) k reads drives outer.stands outer.found (facts.flat.stands_at n place k reads drives stands);
      found = module_used net path place reads drives m u v;
    }

-- the wires of these widths are among all from this one on
abbrev Shows : List ℕ → List ℕ → ℕ → Type 0
Shows widths all base = (w n : ℕ) → slice_get widths w ≡ Some n → slice_get all (base + w) ≡ Some n

-- the wires of an instance and of those that it uses are among the flat wires, from its first on
all_shown : Facts → (net : Net) (last base i : ℕ) → WellFormed net → last + 1 ≡ length net.modules → IsInstance net base i
    → Shows (widths_in net i) (widths_in net last) base
all_shown facts net last _ _ wf end (flattened.top i e) w n found =
    let same : i ≡ last = omega arith in
    let here : w ≡ 0 + w = omega arith in
    subst (λ k. slice_get (widths_in net last) k ≡ Some n) here (subst (λ k. slice_get (widths_in net k) w ≡ Some n) same found)
all_shown facts net last _ _ wf end (flattened.used base i m before k reads drives p found u) w n shown =
    let first = m.widths ++ wires_of_uses net before in
    let rest = widths_in net k.number ++ wires_of_uses net u.after in
    let inner : slice_get rest w ≡ Some n = get_left (widths_in net k.number) (wires_of_uses net u.after) w n shown in
    let there : slice_get (widths_in net i) (length first + w) ≡ Some n =
    ap (λ (ws : List ℕ). slice_get ws (length first + w)) (facts.flat.use_split net i m before k reads drives wf found u) ∙ get_right first rest w ∙ inner in
    let place : base + (length first + w) ≡ base + wires_before net m before + w = omega (arith, facts.flat.long_before net m before) in
    subst (λ j. slice_get (widths_in net last) j ≡ Some n) place (all_shown facts net last base i wf end p (length first + w) n there)

pub flat_width : Facts → (net : Net) (flat : Flat) (base : ℕ) (m : Module) (w n : ℕ) → WellFormed net → IsFlatOf net flat → InstanceOf net base m
    → slice_get m.widths w ≡ Some n → slice_get flat.widths (base + w) ≡ Some n
flat_width facts net flat base m w n wf f inst e =
    let step = facts.flat.widths_step net inst.i m wf inst.found in
    let own : slice_get (widths_in net inst.i) w ≡ Some n =
    ap (λ (ws : List ℕ). slice_get ws w) step ∙ get_left m.widths (wires_of_uses net m.cells) w n e in
    ap (λ (ws : List ℕ). slice_get ws (base + w)) f.widths ∙ all_shown facts net f.place base inst.i wf f.top.last inst.stands w n own
