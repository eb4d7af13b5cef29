-- The result of a block that stands: a variable inside it.
use Rattle.std.proofs.Common.{eq-eqb}
use Rattle.std.proofs.lemmas.Bool.{or_right}
use Rattle.std.proofs.Common.{List, Some, [], ap, arith, option_map, reverse, subst, sym, true, unwrap_or, ℕ, ◌++◌, ◌+◌, ◌∙◌, ◌≡◌}
use Rattle.std.specs.Prelude.{slice_get}
use Rattle.chw_types.specs.TypeTree.{TypeTree, no_types}
use Rattle.chw_terms.specs.Occurs.{occurs, occurs_group}
use Rattle.cell_bits.specs.Bearing.{Bears, HasCells}
use Rattle.net_grounds.specs.Facts.{Facts}
use Rattle.net_means.proofs.Lists.{found_before_map, same_some}
use Rattle.net_means.specs.CircuitBits.Instances.{Block, BlockAt, Design, HasBlock, Inside, an_alternative, inside_letrec, inside_variable, the_body, unseen_alternative}
use Rattle.net_built.specs.Bodies.{BlockBuilt, block_letrec, block_variable}
use Rattle.net_means.specs.CircuitBits.Uses.{FollowersHave}
use Rattle.net_means.proofs.NetBits.Forms.{Formed, setting, types_onto}
use Rattle.chw_terms.specs.TermTree.{Group, TermTree, no_bindings, size_of, var}
use Rattle.net_means.specs.CircuitBits.Leaves.{HasAllOf, LeafHas, VariableLeaf}
use Rattle.net_means.specs.SideBits.Sides.{HasBits, SideHas, types_in}
use Rattle.chw_typing.specs.Typing.{HasType, h_letrec}
use Rattle.net_means.specs.CircuitBits.Memories.{HasWidths}
use Rattle.chw_meaning.specs.Values.{History, Thunk, Thunks, closed, in_group}
use Rattle.chw_typing.specs.Programs.{IsSound, setting_of}
use Rattle.chw_typing.specs.Scopes.{IsTermType, declared, with_more}
use Rattle.net_built.specs.Wires.{Piece}
use Rattle.chw_terms.specs.declared.scene.Sort.{Sort}
use Rattle.net_built.specs.Terms.{Variable, wires_at}
use Rattle.chw_base.specs.declared.index.WireId.{WireId}
use Rattle.net_built.specs.Built.{ground_of}
use Rattle.net_means.proofs.CircuitBits.Follow.{group_follows}
use Rattle.net_means.proofs.NetFits.Scopes.{var_at}
use Rattle.net_means.proofs.CircuitBits.Names.{variable_has_all}
use Rattle.rewriting.specs.Origins.{with_origins, with_origins_group}

pub record Opened (d : Design) (path : List ℕ) (b : Block) (u : TypeTree) : Type 0 where
  pub g : Group
  pub scope : List Variable
  pub γ : Thunks
  pub x : ℕ
  pub it : Variable
  pub inside : Inside d path b g scope γ
  pub known : slice_get scope x ≡ Some it
  pub results : b.results ≡ it.wires
  pub type : u ≡ it.ty
  pub free : (z : ℕ) → x ≡ size_of g + z → occurs b.term z ≡ true
  pub follows : (h : History) → HasAllOf d.program h (closed (with_origins d.wholes b.term) b.outside no_types) (closed (var x) γ no_types)

pub has_block : {d : Design} {inputs : List Thunk} {path : List ℕ} {h : History} {b : Block} → BlockAt d inputs path h b → HasBlock d path b
has_block (the_body at known is parameters block) = block
has_block (an_alternative i at inside is f known first block) = block
has_block (unseen_alternative i n m widths at inside is unseen known wide pattern have cells block) = block

wires_are : (scope : List Variable) (x : ℕ) (v : Variable) → slice_get scope x ≡ Some v → wires_at scope x ≡ v.wires
wires_are scope x v e = ap (λ o. unwrap_or (option_map (λ (v : Variable). v.wires) o) []) e

opened_by : Facts → (d : Design) (path : List ℕ) (γ : Thunks) {sort : Sort} {scope : List Variable} {n : ℕ} {e : TermTree} {p : Piece} {r : List WireId} {u : TypeTree} → BlockBuilt (ground_of d.program d.built.order) sort scope n e p r → HasCells d.net path p.cells → HasWidths d.net path n p.widths → HasType (setting d) [] (types_in scope) e u
    → Opened d path (record { sort = sort; scope = scope; outside = γ; term = e; results = r }) u
unfolding with_origins occurs
opened_by facts d path γ {scope = scope} {u = u} (block_variable {x = x}) has wide typed =
    let there = found_before_map (λ (v : Variable). v.ty) scope x u (var_at typed) in
    record {
      g = no_bindings;
      scope = scope;
      γ = γ;
      x = x;
      it = there.0;
      inside = inside_variable;
      known = there.1;
      results = wires_are scope x there.0 there.1;
      type = sym there.2;
      free = λ z e. eq-eqb x z (let same : x ≡ z = omega (arith, e) in same);
      follows = λ h n v f. (n, f);
    }
opened_by facts d path γ {scope = scope} {u = u} (block_letrec {x = x} {g = g} bound more) has wide (h_letrec typed kind bindings) =
    let types : with_more (declared g) (types_in scope) ≡ types_in (reverse bound ++ scope) = ap (λ ts. with_more ts (types_in scope)) (sym (facts.built.bound_types more)) ∙ sym (types_onto bound scope) in
    let there = found_before_map (λ (v : Variable). v.ty) (reverse bound ++ scope) x u (subst (λ ts. slice_get ts x ≡ Some u) types (var_at typed)) in
    record {
      g = g;
      scope = reverse bound ++ scope;
      γ = in_group (with_origins_group d.wholes g) γ no_types;
      x = x;
      it = there.0;
      inside = inside_letrec more has wide;
      known = there.1;
      results = wires_are (reverse bound ++ scope) x there.0 there.1;
      type = sym there.2;
      free = λ z e. or_right (occurs_group g (z + size_of g)) (occurs (var x) (z + size_of g)) (eq-eqb x (z + size_of g) (let same : x ≡ z + size_of g = omega (arith, e) in same));
      follows = λ h. group_follows facts d.program h (with_origins_group d.wholes g) (var x) γ no_types;
    }

pub opened : Facts → (d : Design) {inputs : List Thunk} {path : List ℕ} {h : History} {b : Block} → BlockAt d inputs path h b → (f : Formed d b) → Opened d path b f.type
opened facts d {path = path} {b = b} at f = let block = has_block at in opened_by facts d path b.outside block.built block.cells block.widths f.typed

-- a value's block has what its result has
pub value_result : Facts → (d : Design) {path : List ℕ} {h : History} {b : Block} {u : TypeTree} (o : Opened d path b u) → HasBits d.program d.net path h o.γ o.x o.it → SideHas d.program b.outside no_types d.net path h o.it.ty (with_origins d.wholes b.term) b.results
value_result facts d {path} {h} o has =
    let its = has.1 in
    record {
      bits = has.0;
      carries = λ k. facts.shows.shows_through (o.follows k) (facts.shows.variable_shows its.there (its.carries k));
      bears = subst (λ ws. Bears d.net path h ws has.0) (sym o.results) its.bears;
    }

-- and a circuit's block at each leaf
pub leaf_result : Facts → FollowersHave → (d : Design) {path : List ℕ} {h : History} {b : Block} {u : TypeTree} (k : ℕ) (o : Opened d path b u) → IsSound (setting_of d.program) → IsTermType (setting d) [] o.it.ty → VariableLeaf d.program d.net path o.scope o.γ h o.x k
    → LeafHas d.program d.net path h o.it.ty (closed (with_origins d.wholes b.term) b.outside no_types) b.results k
leaf_result facts followers d {path} {h} {b} k o sound typed has =
    let same : has.it ≡ o.it = same_some has.known o.known in
    let own : LeafHas d.program d.net path h o.it.ty has.thunk o.it.wires k = subst (λ (v : Variable). LeafHas d.program d.net path h v.ty has.thunk v.wires k) same has.has in
    let all : HasAllOf d.program h (closed (with_origins d.wholes b.term) b.outside no_types) has.thunk = λ n v f. let one = variable_has_all {δ = no_types} has.there n v f in o.follows h one.0 v one.1 in
    subst (λ ws. LeafHas d.program d.net path h o.it.ty (closed (with_origins d.wholes b.term) b.outside no_types) ws k) (sym o.results)
    (followers d.program d.net path h o.it.ty o.it.ty has.thunk (closed (with_origins d.wholes b.term) b.outside no_types) o.it.wires k sound (record { kind = typed.kind; has = typed.has; same = facts.same.same_self o.it.ty }) all own)
