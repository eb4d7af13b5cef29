-- The blocks of instances.
use Rattle.std.specs.Prelude.{slice_get, ◌==◌, if◌then◌else◌}
use Rattle.std.proofs.Common.{◌≡◌, ◌+◌, ℕ, suc, Bool, true, false, List, [], ◌∷◌, ◌++◌, length, Some, refl, sym, ap, ◌∙◌, subst, arith, length-append}
use Rattle.std.proofs.lemmas.Bool.Decides.{Decides-eqb}
use Rattle.chw_base.specs.declared.index.WireId.{WireId}
use Rattle.chw_types.specs.TypeTree.{TypeTree}
use Rattle.chw_terms.specs.declared.scene.Made.{Made}
use Rattle.chw_terms.specs.declared.scene.Sort.{Sort}
use Rattle.chw_terms.specs.TermTree.{TermTree, lam}
use Rattle.chw_meaning.specs.Values.{History, Thunk, Thunks}
use Rattle.carrying.specs.TermLaws.{under_lambdas}
use Rattle.netlist.specs.declared.net.Cell.{Cell}
use Rattle.netlist.specs.declared.net.Module.{Module}
use Rattle.netlist.specs.declared.net.Net.{Net}
use Rattle.use_laws.specs.ValueIn.{IsModuleAt}
use Rattle.net_built.specs.Bodies.{BlockBuilt, BodyBuilt, body_lambda, body_block}
use Rattle.net_built.specs.Built.{ground_of}
use Rattle.net_built.specs.Circuits.{Ground, place_in}
use Rattle.net_built.specs.Modules.{IsModuleOf, AreModules}
use Rattle.net_built.specs.Terms.{Variable}
use Rattle.net_built.specs.Wires.{Piece, present, wire_count}
use Rattle.cell_bits.specs.Bearing.{HasCells}
use Rattle.net_means.specs.CircuitBits.Blocks.{BodyStands}
use Rattle.net_means.specs.CircuitBits.Instances.{Design, Parameters, no_parameter, parameter_and, InstanceAt, the_body}
use Rattle.net_means.specs.CircuitBits.Memories.{HasWidths}

pub module_there : (ground : Ground) (state : List Made) (order : List ℕ) (modules : List Module) (m : ℕ) (inner : Module) → AreModules ground state order modules → slice_get modules (place_in order m) ≡ Some inner
    → (it : Made) × (slice_get state m ≡ Some it) × IsModuleOf ground it inner
module_there ground state [] [] m inner are e = absurd cc
module_there ground state [] (built ∷ more) m inner are e = absurd are
module_there ground state (k ∷ order) [] m inner are e = absurd are
module_there ground state (k ∷ order) (built ∷ more) m inner are e = by (k == m) refl e (λ f. module_there ground state order more m inner are.1 f)
  where
    by : (b : Bool) → (k == m) ≡ b → slice_get (built ∷ more) (if b then 0 else suc (place_in order m)) ≡ Some inner
        → (slice_get more (place_in order m) ≡ Some inner → (it : Made) × (slice_get state m ≡ Some it) × IsModuleOf ground it inner)
        → (it : Made) × (slice_get state m ≡ Some it) × IsModuleOf ground it inner
    by true is e rest =
        let number : k ≡ m = (Decides-eqb k m).0 is in
        let same : built ≡ inner = cc in
        let it = are.0 in
        (it.0, ap (slice_get state) (sym number) ∙ it.1, subst (λ (b : Module). IsModuleOf ground it.0 b) same it.2)
    by false is e rest = rest e

-- the block of a body, behind so many inputs
record BodyBlock (ground : Ground) (sort : Sort) (scope : List Variable) (n : ℕ) (e : TermTree) (inputs : List ℕ) (p : Piece) (outputs : List WireId) : Type 0 where
  params : List TypeTree
  term : TermTree
  is : e ≡ under_lambdas params term
  all : List Variable
  parameters : Parameters ground.datas sort n params scope all
  built : BlockBuilt ground sort all (n + length inputs) term p outputs

body_block_of : {ground : Ground} {sort : Sort} {scope : List Variable} {n : ℕ} {e : TermTree} {inputs : List ℕ} {p : Piece} {outputs : List WireId} → BodyBuilt ground sort scope n e inputs p outputs → BodyBlock ground sort scope n e inputs p outputs
body_block_of {ground} {sort} {n = n} {outputs = outputs} (body_lambda {t = t} {widths = widths} {inputs = inputs} {p = p} parts more) =
    let r = body_block_of more in
    let long = length-append (present widths) inputs in
    let place : n + wire_count widths + length inputs ≡ n + length (present widths ++ inputs) = omega (arith, long) in
    record {
      params = t ∷ r.params;
      term = r.term;
      is = ap (lam t) r.is;
      all = r.all;
      parameters = parameter_and parts r.parameters;
      built = subst (λ k. BlockBuilt ground sort r.all k r.term p outputs) place r.built;
    }
body_block_of {ground} {sort} {scope} {n} {e} {p = p} {outputs = outputs} (body_block b) =
    let place : n ≡ n + 0 = omega arith in
    record { params = []; term = e; is = refl; all = scope; parameters = no_parameter; built = subst (λ k. BlockBuilt ground sort scope k e p outputs) place b }

past : (front behind : List ℕ) (i : ℕ) → slice_get (front ++ behind) (length front + i) ≡ slice_get behind i
past [] behind i = let none : 0 + i ≡ i = omega arith in ap (slice_get behind) none
past (x ∷ front) behind i =
    let one : suc (length front) + i ≡ suc (length front + i) = omega arith in
    ap (slice_get (x ∷ (front ++ behind))) one ∙ past front behind i

module_cells : (net : Net) (path : List ℕ) (inner : Module) (cells : List Cell) → IsModuleAt net path inner → inner.cells ≡ cells → HasCells net path cells
module_cells net path inner cells at are i cell e = record { m = inner; at = at; place = i; stands = ap (λ cs. slice_get cs i) are ∙ e }

module_widths : (net : Net) (path : List ℕ) (inner : Module) (inputs widths : List ℕ) → IsModuleAt net path inner → inner.widths ≡ inputs ++ widths → HasWidths net path (0 + length inputs) widths
module_widths net path inner inputs widths at are i w e =
    let place : 0 + length inputs + i ≡ length inputs + i = omega arith in
    record { m = inner; at = at; wide = (λ j. slice_get (are j) (place j)) ∙ past inputs widths i ∙ e }

pub body_stands : (d : Design) (inputs : List Thunk) (path : List ℕ) (h : History) (m : ℕ) (γ : Thunks) (it : Made) (inner : Module) → InstanceAt d inputs path h m γ → slice_get d.state m ≡ Some it → IsModuleAt d.net path inner → IsModuleOf (ground_of d.program d.built.order) it inner
    → BodyStands d inputs path h γ it inner
body_stands d inputs path h m γ it inner at known place of =
    let r = body_block_of of.body in
    record {
      params = r.params;
      term = r.term;
      body = r.is;
      scope = r.all;
      parameters = r.parameters;
      stands = the_body at known r.is r.parameters
          (record {
            n = 0 + length of.inputs;
            piece = of.cells;
            built = r.built;
            cells = module_cells d.net path inner of.cells.cells place of.are_cells;
            widths = module_widths d.net path inner of.inputs of.cells.widths place of.are_widths;
          });
    }
