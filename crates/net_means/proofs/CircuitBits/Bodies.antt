-- The block of a body, and leaves without bits.
use Rattle.std.specs.Prelude.{slice_get}
use Rattle.std.proofs.Common.{◌≡◌, ℕ, zero, suc, List, [], ◌∷◌, length, Some, refl, subst, arith}
use Rattle.chw_base.specs.declared.index.WireId.{WireId}
use Rattle.chw_types.specs.TypeTree.{TypeTree}
use Rattle.chw_terms.specs.declared.program.Program.{Program}
use Rattle.chw_terms.specs.declared.scene.Sort.{Sort}
use Rattle.chw_terms.specs.declared.scene.Sort.TheVariants.{Circuit}
use Rattle.chw_terms.specs.TermTree.{TermTree, lam}
use Rattle.chw_layout.specs.Measured.{HasWidth}
use Rattle.chw_meaning.specs.Values.{History, Thunk}
use Rattle.carrying.specs.Carrying.{shows_nothing}
use Rattle.carrying.specs.TermLaws.{under_lambdas}
use Rattle.netlist.specs.declared.net.Net.{Net}
use Rattle.net_built.specs.Bodies.{BlockBuilt, BodyBuilt, body_lambda, body_block}
use Rattle.net_built.specs.Circuits.{Ground}
use Rattle.net_built.specs.Data.{HasParts, port_parts}
use Rattle.net_built.specs.Terms.{Variable}
use Rattle.net_built.specs.Wires.{Piece}
use Rattle.cell_bits.specs.Bearing.{Bears, bears_nothing}
use Rattle.net_grounds.specs.Facts.{Facts}
use Rattle.net_means.proofs.Lists.{same_some}
use Rattle.net_means.specs.CircuitBits.Instances.{NoLambda, Parameters, no_parameter, parameter_and}
use Rattle.net_means.specs.CircuitBits.Leaves.{part_wires, IsLeaf, LeafHas}
use Rattle.net_means.proofs.CircuitBits.FieldLeaves.{as_many_leaves}
use Rattle.net_means.proofs.CircuitBits.Ports.{leaf_width}

no_block : {A : Type 0} {ground : Ground} {sort : Sort} {scope : List Variable} {n : ℕ} {t : TypeTree} {e : TermTree} {p : Piece} {outputs : List WireId} → BlockBuilt ground sort scope n (lam t e) p outputs → A
no_block b = elim b [ ]

pub body_is_block : {ground : Ground} {sort : Sort} (params : List TypeTree) (e : TermTree) {scope : List Variable} {n : ℕ} {inputs : List ℕ} {p : Piece} {outputs : List WireId} → NoLambda e → BodyBuilt ground sort scope n (under_lambdas params e) inputs p outputs
    → (all : List Variable) × (m : ℕ) × Parameters ground.datas sort n params scope all × BlockBuilt ground sort all m e p outputs
body_is_block [] e plain (body_lambda parts more) = absurd plain
body_is_block [] e {scope = scope} {n = n} plain (body_block b) = (scope, n, no_parameter, b)
body_is_block (t ∷ params) e plain (body_lambda parts more) = let r = body_is_block params e plain more in (r.0, r.1, parameter_and parts r.2, r.3)
body_is_block (t ∷ params) e plain (body_block b) = no_block b

empty_part : {net : Net} {path : List ℕ} {h : History} (k : ℕ) (widths : List ℕ) (wires : List WireId) → slice_get widths k ≡ Some zero → Bears net path h (part_wires k widths wires) []
empty_part k [] wires e = absurd cc
empty_part zero (zero ∷ widths) wires e = bears_nothing
empty_part zero (suc w ∷ widths) wires e = absurd cc
empty_part (suc k) (w ∷ widths) wires e = empty_part k widths _ e

there_at : {A : Type 0} (xs : List A) (widths : List ℕ) (k w : ℕ) → length xs ≡ length widths → slice_get widths k ≡ Some w → (x : A) × (slice_get xs k ≡ Some x)
there_at xs [] k w many e = absurd cc
there_at [] (v ∷ widths) k w many e = absurd (omega (arith, many))
there_at (x ∷ xs) (v ∷ widths) zero w many e = (x, refl)
there_at (x ∷ xs) (v ∷ widths) (suc k) w many e = there_at xs widths k w (omega (arith, many)) e

pub empty_leaf : Facts → (p : Program) (net : Net) (path : List ℕ) (h : History) (t : TypeTree) (th : Thunk) (wires : List WireId) (widths : List ℕ) (k : ℕ) → HasParts p.datas Circuit t widths → slice_get widths k ≡ Some zero → LeafHas p net path h t th wires k
empty_leaf facts p net path h t th wires widths k (port_parts {leaves = ls} l has) none =
    let parts : HasParts p.datas Circuit t widths = port_parts {leaves = ls} l has in
    let there = facts.ports.leaves_there l th in
    let at = there_at there.0 widths k zero (as_many_leaves facts parts there.1) none in
    let is : IsLeaf p.datas t th k at.0 = record { leaves = there.0; are = there.1; at = at.1 } in
    let width = leaf_width facts parts is in
    let zero_wide : width.0 ≡ zero = same_some width.1 none in
    record {
      widths = widths;
      parts = parts;
      leaf = at.0;
      is = is;
      bits = [];
      shows = shows_nothing (subst (HasWidth p.datas at.0.payload) zero_wide width.2);
      bears = empty_part k widths wires none;
    }
