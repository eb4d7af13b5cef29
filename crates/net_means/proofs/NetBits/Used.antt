-- Uses of made definitions, and the blocks of their bodies.
use Rattle.std.specs.List.{AllByRecursion}
use Rattle.std.proofs.Common.{List, Some, [], ap, arith, length, refl, subst, suc, take, zero, ℕ, ◌<◌, ◌∙◌, ◌∷◌, ◌≡◌}
use Rattle.std.specs.Prelude.{slice_get}
use Rattle.net_means.proofs.CircuitBits.Instances.{module_there}
use Rattle.use_laws.specs.ValueIn.IsModuleAt.{top, used}
use Rattle.netlist.specs.declared.net.Cell.TheVariants.{Use as a_use}
use Rattle.net_built.specs.Circuits.{used as used_piece}
use Rattle.net_means.specs.CircuitBits.Instances.{Design}
use Rattle.net_built.specs.Circuits.{Ground, module_of, place_in}
use Rattle.use_laws.specs.ValueIn.{HasCellAt, IsModuleAt}
use Rattle.cell_bits.specs.Bearing.{HasCells}
use Rattle.net_built.specs.Modules.{IsModuleOf}
use Rattle.chw_terms.specs.declared.scene.Made.{Made}
use Rattle.chw_base.specs.declared.index.ModId.{ModId}
use Rattle.netlist.specs.declared.net.Module.{Module}
use Rattle.net_rules.specs.declared.well_formed.NetCode.TheVariants.{Name}
use Rattle.net_rules.specs.WellFormed.{NamesExist, NamesHold, WellFormed}
use Rattle.netlist.specs.declared.net.Net.{Net}
use Rattle.chw_terms.specs.TermTree.{TermTree, lam}
use Rattle.chw_types.specs.TypeTree.{TypeTree}
use Rattle.net_means.specs.CircuitBits.Uses.{UsedAt}
use Rattle.chw_base.specs.declared.index.WireId.{WireId}
use Rattle.net_built.specs.Built.{ground_of}
use Rattle.net_built.specs.Wires.{new_wires, wire_count}
use Rattle.carrying.specs.TermLaws.{under_lambdas}
use Rattle.net_means.proofs.CircuitBits.Uses.{use_there}
use Rattle.rewriting.specs.Origins.{with_origins}

-- the module of an instance is one of the net's
pub module_number : (net : Net) {path : List ℕ} {m : Module} → IsModuleAt net path m → (i : ℕ) × (slice_get net.modules i ≡ Some m)
module_number net (top i m is) = (i, is.stands)
module_number net (used path place m inner k reads drives at stands there) = (k.number, there)

pub each_at : {A : Type 0} (P : A → Type 0) (xs : List A) (i : ℕ) (x : A) → AllByRecursion P xs → slice_get xs i ≡ Some x → P x
each_at P [] i x all e = absurd cc
each_at P (y ∷ xs) zero x all e = let is : y ≡ x = cc in subst P is all.0
each_at P (y ∷ xs) (suc i) x all e = each_at P xs i x all.1 e

take_found : {A : Type 0} (xs : List A) (n i : ℕ) (x : A) → slice_get (take n xs) i ≡ Some x → slice_get xs i ≡ Some x
take_found [] zero i x e = e
take_found [] (suc n) i x e = e
take_found (y ∷ xs) zero i x e = absurd cc
take_found (y ∷ xs) (suc n) zero x e = e
take_found (y ∷ xs) (suc n) (suc i) x e = take_found xs n i x e

-- a use is of a module that exists
use_module : (net : Net) (path : List ℕ) (k : ModId) (reads drives : List WireId) → WellFormed net → HasCellAt net path (a_use k reads drives) → (inner : Module) × (slice_get net.modules k.number ≡ Some inner)
use_module net path k reads drives good has =
    let at = module_number net has.at in
    let names : NamesHold net at.0 has.m = good.rules at.0 has.m at.1 Name in
    let one : NamesExist (length net.ports.domains) (take at.0 net.modules) has.m.widths (a_use k reads drives) = each_at (NamesExist (length net.ports.domains) (take at.0 net.modules) has.m.widths) has.m.cells has.place (a_use k reads drives) names.cells has.stands in
    (one.part.used, take_found net.modules at.0 k.number one.part.used one.part.found)

use_cell : (ground : Ground) (m n : ℕ) (reads : List WireId) (widths : List ℕ) → 0 < wire_count widths → slice_get (used_piece ground m n reads widths).cells 0 ≡ Some (a_use (module_of ground m) reads (new_wires n widths))
use_cell ground m n reads [] some = absurd (omega (arith, some))
use_cell ground m n reads (zero ∷ widths) some = use_cell ground m n reads widths some
use_cell ground m n reads (suc w ∷ widths) some = refl

-- a use of a made definition
pub record Usage (d : Design) (path : List ℕ) (m : ℕ) (reads drives : List WireId) : Type 0 where
  pub inner : Module
  pub there : slice_get d.net.modules (place_in d.built.order m) ≡ Some inner
  pub at : UsedAt d.net path reads drives inner
  pub it : Made
  pub known : slice_get d.state m ≡ Some it
  pub of : IsModuleOf (ground_of d.program d.built.order) it inner

pub use_of : (d : Design) (path : List ℕ) (m n : ℕ) (reads : List WireId) (widths : List ℕ) → WellFormed d.net → 0 < wire_count widths → HasCells d.net path (used_piece (ground_of d.program d.built.order) m n reads widths).cells → Usage d path m reads (new_wires n widths)
use_of d path m n reads widths good some has =
    let ground : Ground = ground_of d.program d.built.order in
    let cell = has 0 (a_use (module_of ground m) reads (new_wires n widths)) (use_cell ground m n reads widths some) in
    let inner = use_module d.net path (module_of ground m) reads (new_wires n widths) good cell in
    let made_there = module_there ground d.state d.built.order d.net.modules m inner.0 d.built.modules inner.1 in
    record {
      inner = inner.0;
      there = inner.1;
      at = use_there d.net path ground m n reads widths inner.0 has some inner.1;
      it = made_there.0;
      known = made_there.1;
      of = made_there.2;
    }

-- as a whole a made definition is its body's, under its parameters
pub whole_under : (wholes : ℕ → TermTree) (params : List TypeTree) (e : TermTree) → with_origins wholes (under_lambdas params e) ≡ under_lambdas params (with_origins wholes e)
unfolding with_origins
whole_under wholes [] e = refl
whole_under wholes (t ∷ params) e = ap (lam t) (whole_under wholes params e)

pub whole_of : (d : Design) (m : ℕ) (it : Made) (params : List TypeTree) (e : TermTree) → slice_get d.state m ≡ Some it → it.body ≡ under_lambdas params e → d.wholes m ≡ under_lambdas params (with_origins d.wholes e)
whole_of d m it params e known is = d.are_wholes m it known ∙ ap (with_origins d.wholes) is ∙ whole_under d.wholes params e
