-- Bodies below their lambdas, and their modules.
use Rattle.std.proofs.Common.{◌≡◌, ◌∙◌, sym, ap, subst, ℕ, ◌+◌, List, [], ◌∷◌, ◌++◌, reverse, length, append_assoc, append-nil, length-append}
use Rattle.std.proofs.lemmas.List.{reverse-append}
use Rattle.chw_types.specs.TypeTree.{TypeTree}
use Rattle.chw_terms.specs.declared.scene.Made.{Made}
use Rattle.chw_terms.specs.declared.scene.Sort.{Sort}
use Rattle.chw_terms.specs.TermTree.{TermTree, lam}
use Rattle.netlist.specs.declared.net.Module.{Module}
use Rattle.net_built.specs.Bodies.{BodyBuilt, body_lambda, body_block}
use Rattle.net_built.specs.Circuits.{Ground}
use Rattle.net_built.specs.Modules.{IsModuleOf}
use Rattle.net_built.specs.Terms.{Variable, variable}
use Rattle.net_built.specs.Wires.{new_wires, present, wire_count}
use Rattle.value_build.specs.Bodies.{IsInput, IsUnder, IsModuleBelow}
use Rattle.value_build.specs.InScope.{in_scope, as_variables}
use Rattle.value_build.specs.declared.scope.Variable.{Variable as Held}

pub under_none : (ground : Ground) (sort : Sort) (e : TermTree) (inputs : List ℕ) (scope : List Held) → inputs ≡ [] → scope ≡ []
    → IsUnder ground sort e e inputs scope
under_none ground sort e inputs scope empty none more p outputs built =
    subst (λ ins. BodyBuilt ground sort [] 0 e (ins ++ more) p outputs) (sym empty)
    (subst (λ n. BodyBuilt ground sort [] n e more p outputs) (ap length empty)
    (subst (λ vs. BodyBuilt ground sort (in_scope vs) (length inputs) e more p outputs) none built))

pub under_lambda : (ground : Ground) (sort : Sort) (e inner body : TermTree) (t : TypeTree) (before later : List ℕ) (outer scope : List Held)
    → inner ≡ lam t body → IsInput ground sort t before later outer scope
    → IsUnder ground sort e inner before outer → IsUnder ground sort e body later scope
under_lambda ground sort e inner body t before later outer scope is it under more p outputs built =
    let ws : List ℕ = it.widths in
    let here : Variable = variable t (new_wires (length before) ws) in
    let vars : in_scope scope ≡ here ∷ in_scope outer = ap reverse it.bound ∙ reverse-append (as_variables outer) (here ∷ []) in
    let count : length later ≡ length before + wire_count ws = ap length it.inputs ∙ length-append before (present ws) in
    let below = subst (λ n. BodyBuilt ground sort (here ∷ in_scope outer) n body more p outputs) count
    (subst (λ vs. BodyBuilt ground sort vs (length later) body more p outputs) vars built) in
    let whole = subst (λ f. BodyBuilt ground sort (in_scope outer) (length before) f (present ws ++ more) p outputs) (sym is)
    (body_lambda it.parts below) in
    subst (λ ins. BodyBuilt ground sort [] 0 e ins p outputs)
    (sym (append_assoc before (present ws) more) ∙ ap (λ ins. ins ++ more) (sym it.inputs))
    (under (present ws ++ more) p outputs whole)

pub module_of_body : (ground : Ground) (sort : Sort) (it : Made) (inner : TermTree) (inputs : List ℕ) (scope : List Held) (built : Module)
    → it.sort ≡ sort → IsUnder ground sort it.body inner inputs scope
    → IsModuleBelow ground sort (in_scope scope) inputs inner built → IsModuleOf ground it built
module_of_body ground sort it inner inputs scope built of under below =
    let body = under [] below.cells built.outputs (body_block below.block) in
    record {
      inputs = inputs;
      cells = below.cells;
      body = subst (λ s. BodyBuilt ground s [] 0 it.body inputs below.cells built.outputs) (sym of)
          (subst (λ ins. BodyBuilt ground sort [] 0 it.body ins below.cells built.outputs) (append-nil inputs) body);
      are_inputs = below.are_inputs;
      are_widths = below.are_widths;
      are_cells = below.are_cells;
    }
