-- A pass that finds what is known, and passes that find other wires.
use Rattle.std.proofs.Common.{◌≡◌, ◌∙◌, sym, ap, subst, ℕ, suc, ◌+◌, ◌-◌, ◌<◌, ◌≤◌, arith, add-one, List, [], ◌++◌, length}
use Rattle.chw_base.specs.declared.index.WireId.{WireId}
use Rattle.chw_terms.specs.declared.scene.Sort.TheVariants.{Value}
use Rattle.chw_terms.specs.TermTree.{TermTree}
use Rattle.netlist.specs.declared.net.Module.{Module}
use Rattle.net_built.specs.Circuits.{Ground}
use Rattle.net_built.specs.Loops.{HasNoLoops}
use Rattle.net_built.specs.Terms.{Variable}
use Rattle.net_built.specs.Wires.{Piece, ◌▸◌}
use Rattle.net_ready.specs.Drafts.{Known, BlockDrafted, Passes, one_more, bindings_in}
use Rattle.net_ready.specs.Laws.{SettledDraftsAreBuilt, PassesAreFew}
use Rattle.value_build.specs.Bodies.{IsModuleBelow}
use Rattle.value_build.specs.Drafting.{Drafts}
use Rattle.value_build.specs.Passing.{Changes}
use Rattle.value_build.specs.declared.drafts.Draft.{Draft}

-- a draft of a block behind inputs alone
abbrev pub OnInputs : List ℕ → Draft → Type 0
OnInputs inputs s = (s.into ≡ record { widths = inputs; cells = [] }) × (s.found.items ≡ [])

-- what was drafted behind them
pub drafted_alone : (ground : Ground) (known : Known) (scope : List Variable) (inputs : List ℕ) (e : TermTree) (wires : List WireId) (s t : Draft) → OnInputs inputs s
    → (d : Drafts (λ at n p inner. BlockDrafted ground known at scope n e p wires inner) s t)
    → BlockDrafted ground known 0 scope (length inputs) e d.piece wires t.found.items
drafted_alone ground known scope inputs e wires s t alone d =
    let n : ℕ = length s.into.widths in
    let found : t.found.items ≡ d.inner = d.found ∙ ap (λ ys. ys ++ d.inner) alone.1 in
    subst (λ ks. BlockDrafted ground known 0 scope (length inputs) e d.piece wires ks) (sym found)
    (subst (λ k. BlockDrafted ground known 0 scope k e d.piece wires d.inner) (ap (λ (x : Piece). length x.widths) alone.0)
    (subst (λ k. BlockDrafted ground known k scope n e d.piece wires d.inner) (ap length alone.1) d.holds))

-- a pass that found what is known
pub module_settled : SettledDraftsAreBuilt → (ground : Ground) (known : Known) (scope : List Variable) (inputs : List ℕ) (e : TermTree) (s t : Draft) (built : Module) → OnInputs inputs s
    → Drafts (λ at n p inner. BlockDrafted ground known at scope n e p built.outputs inner) s t
    → known ≡ t.found.items → built.inputs ≡ length inputs → built.widths ≡ t.into.widths → built.cells ≡ t.into.cells
    → IsModuleBelow ground Value scope inputs e built
module_settled law ground known scope inputs e s t built alone d same count widths cells =
    let here : t.into ≡ record { widths = inputs; cells = [] } ▸ d.piece = d.is ∙ ap (λ (x : Piece). x ▸ d.piece) alone.0 in
    record {
      cells = d.piece;
      block = law ground known t.found.items scope (length inputs) e d.piece built.outputs (drafted_alone ground known scope inputs e built.outputs s t alone d) same;
      are_inputs = count;
      are_widths = widths ∙ ap (λ (x : Piece). x.widths) here;
      are_cells = cells ∙ ap (λ (x : Piece). x.cells) here;
    }

-- one that found other wires
pub pass_changed : (ground : Ground) (known : Known) (scope : List Variable) (inputs : List ℕ) (e : TermTree) (wires : List WireId) (s t : Draft) → OnInputs inputs s
    → Drafts (λ at n p inner. BlockDrafted ground known at scope n e p wires inner) s t
    → (known ≡ t.found.items → ⊥) → Changes ground known scope (length inputs) e t.found.items
pass_changed ground known scope inputs e wires s t alone d other =
    record { piece = d.piece; wires = wires; drafted = drafted_alone ground known scope inputs e wires s t alone d; other = other }

-- so there was one pass more
pub one_pass_more : (ground : Ground) (scope : List Variable) (n : ℕ) (e : TermTree) (passes later : ℕ) (known found : Known)
    → Passes ground scope n e passes known → Changes ground known scope n e found → later ≡ passes + 1 → Passes ground scope n e later found
one_pass_more ground scope n e passes later known found before change is =
    subst (λ k. Passes ground scope n e k found) (sym (is ∙ add-one passes)) (one_more before change.drafted change.other)

-- and fewer may come
pub fewer_left : PassesAreFew → (ground : Ground) (scope : List Variable) (n : ℕ) (e : TermTree) (passes later : ℕ) (found : Known)
    → HasNoLoops e → Passes ground scope n e later found → later ≡ passes + 1
    → suc (suc (bindings_in e)) - later < suc (suc (bindings_in e)) - passes
fewer_left law ground scope n e passes later found free so is =
    let few : later ≤ suc (bindings_in e) = law ground scope n e later found free so in
    omega (arith, few, is)
