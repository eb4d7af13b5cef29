-- The modules that are built keep the rule on drivers.
use Rattle.std.proofs.Common.{◌≡◌, ℕ, zero, suc, ◌+◌, ◌<◌, ◌≤◌, arith, List, [], ◌∷◌, ◌++◌, length, Some, refl, sym, ap, subst, length-append}
use Rattle.std.specs.List.{slice_get}
use Rattle.type_laws.specs.SameKept.{FieldsKeepSame}
use Rattle.chw_types.specs.declared.declarations.Data.{Data}
use Rattle.chw_terms.specs.declared.program.Program.{Program}
use Rattle.chw_terms.specs.declared.scene.Made.{Made}
use Rattle.layout_laws.specs.SameLayout.{SameKeepsMeasure}
use Rattle.netlist.specs.declared.net.Module.{Module}
use Rattle.netlist.specs.declared.net.Net.{Net}
use Rattle.net_rules.specs.WellFormed.{DriversHold}
use Rattle.normal_forms.specs.Normal.{IsNormal}
use Rattle.rewriting.specs.Steps.{origins_in}
use Rattle.rewriting.specs.Origins.{setting_at}
use Rattle.rule_types.specs.States.{IsTypedState, StatesHaveTypedOrigins}
use Rattle.net_built.specs.Built.{Built, ground_of}
use Rattle.net_built.specs.Circuits.{Ground}
use Rattle.net_built.specs.Modules.{IsModuleOf, AreModules, HasOutputs, Visited, already, without_outputs, behind_its_uses, AllVisited, none_visited, visited_and}
use Rattle.net_built.specs.Wires.{wire_count}
use Rattle.net_grounds.specs.Facts.{Facts}
use Rattle.net_means.proofs.Lists.{same_some}
use Rattle.net_means.proofs.NetFits.EachOnce.{DrivesEachOnce}
use Rattle.net_means.proofs.NetFits.Outputs.{outputs_counted}

-- a made definition with an output
abbrev pub Outputting : List Data → List Made → ℕ → Type 0
Outputting datas state m = (it : Made) × (count : ℕ) × (slice_get state m ≡ Some it) × HasOutputs datas it (suc count)

-- so each in this list
record EachOutputs (datas : List Data) (state : List Made) (order : List ℕ) : Type 0 where
  pub each : (i m : ℕ) → slice_get order i ≡ Some m → Outputting datas state m

at_end : (datas : List Data) (state : List Made) (order : List ℕ) (m : ℕ) → Outputting datas state m → ((i n : ℕ) → slice_get order i ≡ Some n → Outputting datas state n) → (i n : ℕ) → slice_get (order ++ m ∷ []) i ≡ Some n → Outputting datas state n
at_end datas state [] m last each zero n e = let is : m ≡ n = cc in subst (λ m. Outputting datas state m) is last
at_end datas state [] m last each (suc i) n e = absurd cc
at_end datas state (x ∷ order) m last each zero n e = each zero n e
at_end datas state (x ∷ order) m last each (suc i) n e = at_end datas state order m last (λ i n e. each (suc i) n e) i n e

mutual
  visited_output : {datas : List Data} {state : List Made} {order longer : List ℕ} {m : ℕ} → Visited datas state order m longer → EachOutputs datas state order → EachOutputs datas state longer
  visited_output (already h) all = all
  visited_output (without_outputs h is none) all = all
  visited_output {datas} {state} (behind_its_uses {longer = longer} {m = m} {count = count} {it = it} h is some uses) all =
      record { each = at_end datas state longer m (it, count, is, some) (all_output uses all).each }

  all_output : {datas : List Data} {state : List Made} {order longer ms : List ℕ} → AllVisited datas state order ms longer → EachOutputs datas state order → EachOutputs datas state longer
  all_output none_visited all = all
  all_output (visited_and first more) all = all_output more (visited_output first all)

-- the module at a place of those that are built is that of the made definition there
pub record ModuleAt (ground : Ground) (state : List Made) (ms : List ℕ) (i : ℕ) (built : Module) : Type 0 where
  pub number : ℕ
  pub here : slice_get ms i ≡ Some number
  pub it : Made
  pub is : slice_get state number ≡ Some it
  pub made_of : IsModuleOf ground it built

pub module_at : (ground : Ground) (state : List Made) (ms : List ℕ) (modules : List Module) (i : ℕ) (built : Module) → AreModules ground state ms modules → slice_get modules i ≡ Some built → ModuleAt ground state ms i built
module_at ground state [] [] i built all e = absurd cc
module_at ground state [] (x ∷ modules) i built all e = absurd all
module_at ground state (m ∷ ms) [] i built all e = absurd all
module_at ground state (m ∷ ms) (x ∷ modules) zero built all e =
    let is : x ≡ built = cc in
    record { number = m; here = refl; it = all.0.0; is = all.0.1; made_of = subst (λ b. IsModuleOf ground all.0.0 b) is all.0.2 }
module_at ground state (m ∷ ms) (x ∷ modules) (suc i) built all e =
    let at = module_at ground state ms modules i built all.1 e in
    record { number = at.number; here = at.here; it = at.it; is = at.is; made_of = at.made_of }

pub as_many : (ground : Ground) (state : List Made) (ms : List ℕ) (modules : List Module) → AreModules ground state ms modules → length modules ≡ length ms
as_many ground state [] [] all = refl
as_many ground state [] (x ∷ modules) all = absurd all
as_many ground state (m ∷ ms) [] all = absurd all
as_many ground state (m ∷ ms) (x ∷ modules) all = ap suc (as_many ground state ms modules all.1)

-- all but the last
before_last : (below : List ℕ) (last i m : ℕ) → i < length below → slice_get (below ++ last ∷ []) i ≡ Some m → slice_get below i ≡ Some m
before_last [] last i m l e = absurd (omega (arith, l))
before_last (x ∷ below) last zero m l e = e
before_last (x ∷ below) last (suc i) m l e = before_last below last i m (omega (arith, l)) e

none_output : (datas : List Data) (state : List Made) → EachOutputs datas state []
none_output datas state = record { each = λ i m e. absurd cc }

-- the module of a made definition with an output has one
pub has_output : Facts → FieldsKeepSame → SameKeepsMeasure → StatesHaveTypedOrigins → (p : Program) (state : List Made) (order : List ℕ) (m : ℕ) (it : Made) (built : Module) (count : ℕ) → IsTypedState p state → IsNormal p state → slice_get state m ≡ Some it → IsModuleOf (ground_of p order) it built → HasOutputs p.datas it (suc count) → 1 ≤ length built.outputs
has_output facts keep law typed_origins p state order m it built count typed normal is made_of some =
    let body = normal.bodies m it is in
    let sound = (typed_origins p state typed).sound in
    let closed = (typed.each m it is).closed in
    let counted : length built.outputs ≡ wire_count some.widths =
    outputs_counted facts keep law (setting_at (origins_in p state)) order it.sort it.body body.inner it.ty body.typed.type closed.kind body.path body.vars made_of.inputs made_of.cells built.outputs some.widths sound made_of.body body.under body.typed.has closed.has body.typed.same (λ v. facts.built.normal_free p state normal m it is v) some.parts in
    let are = some.are in
    omega (arith, counted, are)

-- each made definition with a module but the last has an output
pub some_outputs : (p : Program) (state : List Made) (net : Net) (of : Built p state net) (i m : ℕ) → i + 1 < length net.modules → slice_get of.order i ≡ Some m → Outputting p.datas state m
some_outputs p state net of i m less here =
    let below : List ℕ = of.is_order.below in
    let many = as_many (ground_of p of.order) state of.order net.modules of.modules in
    let whole : of.order ≡ below ++ 0 ∷ [] = of.is_order.whole in
    let longer : length (below ++ 0 ∷ []) ≡ length below + 1 = length-append below (0 ∷ []) in
    let size : length of.order ≡ length (below ++ 0 ∷ []) = ap (λ (l : List ℕ). length l) whole in
    let within : i < length below = omega (arith, less, many, size, longer) in
    let before = before_last below 0 i m within (subst (λ l. slice_get l i ≡ Some m) whole here) in
    (all_output of.is_order.visited (none_output p.datas state)).each i m before

pub drivers_hold : Facts → FieldsKeepSame → SameKeepsMeasure → StatesHaveTypedOrigins → (p : Program) (state : List Made) (net : Net) (i : ℕ) (built : Module) → IsTypedState p state → IsNormal p state → (of : Built p state net) → slice_get net.modules i ≡ Some built → DrivesEachOnce built → DriversHold net i built
drivers_hold facts keep law typed_origins p state net i built typed normal of here drives =
    record {
      inputs = drives.inputs;
      drivers = drives.once;
      outputs = λ less.
          let at = module_at (ground_of p of.order) state of.order net.modules i built of.modules here in
          let out = some_outputs p state net of i at.number less at.here in
          has_output facts keep law typed_origins p state of.order at.number at.it built out.1 typed normal at.is at.made_of (subst (λ it. HasOutputs p.datas it (suc out.1)) (sym (same_some at.is out.2)) out.3);
    }

-- the top has a module
pub has_module : (p : Program) (state : List Made) (net : Net) → Built p state net → 1 ≤ length net.modules
has_module p state net of =
    let below : List ℕ = of.is_order.below in
    let many = as_many (ground_of p of.order) state of.order net.modules of.modules in
    let longer : length (below ++ 0 ∷ []) ≡ length below + 1 = length-append below (0 ∷ []) in
    let size : length of.order ≡ length (below ++ 0 ∷ []) = ap (λ (l : List ℕ). length l) of.is_order.whole in
    omega (arith, many, size, longer)
