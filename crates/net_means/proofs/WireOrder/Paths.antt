-- The module and the first flat wire of an instance, as functions of its path.
use Rattle.std.specs.Prelude.{slice_index_or}
use Rattle.std.proofs.Common.{◌≡◌, ℕ, ◌+◌, ◌-◌, List, [], ◌∷◌, take, length, Option, Some, slice_get, sym, ap, ◌∙◌, subst, arith}
use Rattle.std.proofs.lemmas.Option.{get_or_from_slice_get}
use Rattle.chw_base.specs.declared.index.WireId.{WireId}
use Rattle.net_flat.specs.Flattened.{IsInstance, wires_before}
use Rattle.net_flat.specs.Flattened as flattened
use Rattle.netlist.specs.declared.net.Cell.{Cell}
use Rattle.netlist.specs.declared.net.Cell.TheVariants.{Use}
use Rattle.netlist.specs.declared.net.Module.{Module}
use Rattle.netlist.specs.declared.net.Net.{Net}
use Rattle.use_laws.specs.ValueIn.{HasUseAt, IsModuleAt}
use Rattle.use_laws.specs.ValueIn.IsModuleAt.{top, used}
use Rattle.net_grounds.specs.Facts.{Facts}

abbrev no_module : Module
no_module = record { inputs = 0; widths = []; outputs = []; cells = [] }

-- the module that a cell uses
abbrev module_used_by : Net → Option Cell → Module
module_used_by net (Some (Use k reads drives)) = slice_index_or net.modules k.number no_module
module_used_by net _ = no_module

abbrev pub module_at : Net → List ℕ → Module
module_at net [] = slice_index_or net.modules (length net.modules - 1) no_module
module_at net (place ∷ path) = module_used_by net (slice_get (module_at net path).cells place)

-- the first flat wire of the instance
abbrev pub base_at : Net → List ℕ → ℕ
base_at net [] = 0
base_at net (place ∷ path) =
    base_at net path + wires_before net (module_at net path) (take place (module_at net path).cells)

pub module_is : (net : Net) (path : List ℕ) (m : Module) → IsModuleAt net path m → module_at net path ≡ m
module_is net _ _ (top i m t) =
    let last = t.last in
    let place : length net.modules - 1 ≡ i = omega (arith, last) in
    ap (λ k. slice_index_or net.modules k no_module) place ∙ get_or_from_slice_get net.modules i m no_module t.stands
module_is net _ _ (used path place m inner k reads drives at stands found) =
    let outer = module_is net path m at in
    let cell : slice_get (module_at net path).cells place ≡ Some (Use k reads drives) = ap (λ (x : Module). slice_get x.cells place) outer ∙ stands in
    ap (λ o. module_used_by net o) cell ∙ get_or_from_slice_get net.modules k.number inner no_module found

-- where the instance of a use begins
pub base_inside : (net : Net) (path : List ℕ) (place : ℕ) (m : Module) → IsModuleAt net path m → base_at net path + wires_before net m (take place m.cells) ≡ base_at net (place ∷ path)
base_inside net path place m at = ap (λ (x : Module). base_at net path + wires_before net x (take place x.cells)) (sym (module_is net path m at))

-- an instance of the flat net, with its module
pub record InstanceOf (net : Net) (base : ℕ) (m : Module) : Type 0 where
  pub i : ℕ
  pub stands : IsInstance net base i
  pub found : slice_get net.modules i ≡ Some m

pub instance_of : Facts → (net : Net) (path : List ℕ) (m : Module) → IsModuleAt net path m → InstanceOf net (base_at net path) m
instance_of facts net _ _ (top i m t) = record { i = i; stands = flattened.top i t.last; found = t.stands }
instance_of facts net _ _ (used path place m inner k reads drives at stands found) =
    let outer = instance_of facts net path m at in
    record {
      i = k.number;
      stands = subst (λ n. IsInstance net n k.number) (base_inside net path place m at)
          (flattened.used (base_at net path) outer.i m (take place m.cells) k reads drives outer.stands outer.found (facts.flat.stands_at m place k reads drives stands));
      found = found;
    }

-- the module that a use of an instance names
pub module_used : (net : Net) (path : List ℕ) (place : ℕ) (reads drives : List WireId) (inner : Module) → (u : HasUseAt net path place reads drives) → IsModuleAt net (place ∷ path) inner → slice_get net.modules u.k.number ≡ Some inner
module_used net _ _ reads drives _ u (used path place m inner k reads' drives' at stands found) =
    let same : m ≡ u.m = sym (module_is net path m at) ∙ module_is net path u.m u.at in
    let both : Some (Use k reads' drives') ≡ Some (Use u.k reads drives) = sym stands ∙ ap (λ (x : Module). slice_get x.cells place) same ∙ u.stands in
    let number : k ≡ u.k = cc in
    ap (λ x. slice_get net.modules x.number) (sym number) ∙ found
