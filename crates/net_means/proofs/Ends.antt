-- The variable that a block gives.
use Rattle.std.proofs.Common.{◌≡◌, ℕ, zero, suc, List, [], ◌∷◌, ◌++◌, length, reverse, refl, sym, ap, ◌∙◌, subst}
use Rattle.std.proofs.lemmas.List.{map-append}
use Rattle.chw_base.specs.declared.index.WireId.{WireId}
use Rattle.chw_types.specs.declared.declarations.Data.{Data}
use Rattle.chw_types.specs.TypeTree.{TypeTree, no_types}
use Rattle.chw_terms.specs.declared.scene.Sort.{Sort}
use Rattle.chw_terms.specs.declared.scene.Sort.TheVariants.{Circuit}
use Rattle.chw_terms.specs.TermTree.{TermTree, var, letrec, Group, no_bindings}
use Rattle.chw_typing.specs.Scopes.{Setting, AreTermTypes, with_more, declared}
use Rattle.chw_typing.specs.Typing.{HasType, h_letrec}
use Rattle.rewriting.specs.Origins.{with_origins, with_origins_group}
use Rattle.chw_meaning.specs.Values.{History, Thunk, Thunks, closed, in_group}
use Rattle.net_built.specs.Bodies.{BlockBuilt, block_variable, block_letrec, GroupBuilt, group_none, group_and, SideBuilt, side_of_circuit}
use Rattle.net_built.specs.Built.{ground_of}
use Rattle.net_built.specs.Circuits.{Ground}
use Rattle.net_built.specs.Data.{HasParts}
use Rattle.net_built.specs.Terms.{Variable, variable, wires_at}
use Rattle.net_built.specs.Wires.{Piece, new_wires, wire_count}
use Rattle.net_grounds.specs.Facts.{Facts}
use Rattle.net_means.proofs.Lists.{map_reverse, turned_onto}
use Rattle.net_means.proofs.NetFits.Pieces.{count_from}
use Rattle.cell_bits.specs.Bearing.{HasCells}
use Rattle.net_means.specs.SideBits.Sides.{types_in}
use Rattle.net_means.specs.CircuitBits.Instances.{Design, Block, HasBlock, Inside, inside_variable, inside_letrec, Parameters, no_parameter, parameter_and, BlockAt, the_body, an_alternative, unseen_alternative, NoLambda}
use Rattle.net_means.specs.CircuitBits.Leaves.{HasAllOf, AreHeld}
use Rattle.net_means.specs.CircuitBits.Memories.{HasWidths}
use Rattle.net_means.proofs.CircuitBits.Follow.{group_follows}

-- a variable with the wires of its parts
abbrev IsHeld : List Data → Variable → Type 0
IsHeld datas it = (widths : List ℕ) × HasParts datas Circuit it.ty widths × (length it.wires ≡ wire_count widths)

one_more_held : {datas : List Data} (v : Variable) (scope : List Variable) → IsHeld datas v → AreHeld datas scope → AreHeld datas (v ∷ scope)
one_more_held {datas} v scope held all zero it e = let is : v ≡ it = cc in subst (IsHeld datas) is held
one_more_held v scope held all (suc x) it e = all x it e

pub parameters_held : {datas : List Data} {n : ℕ} {params : List TypeTree} {scope all : List Variable} → Parameters datas Circuit n params scope all → AreHeld datas scope → AreHeld datas all
parameters_held no_parameter held = held
parameters_held (parameter_and {n = n} {t = t} {widths = widths} {scope = scope} parts more) held =
    parameters_held more (one_more_held (variable t (new_wires n widths)) scope (widths, parts, count_from n (wire_count widths)) held)

side_held : {ground : Ground} {scope : List Variable} {n : ℕ} {t : TypeTree} {e : TermTree} {p : Piece} {wires : List WireId} → SideBuilt ground Circuit scope n t e p wires → IsHeld ground.datas (variable t wires)
side_held {n = n} {p = p} (side_of_circuit {widths = widths} parts cells) = (widths, parts, count_from _ (wire_count widths))

group_held : {ground : Ground} {scope : List Variable} {n : ℕ} {g : Group} {p : Piece} {bound : List Variable} (outer : List Variable) → GroupBuilt ground Circuit scope n g p bound → AreHeld ground.datas outer → AreHeld ground.datas (reverse bound ++ outer)
group_held outer group_none held = held
group_held {ground} outer (group_and {bound = bound} {t = t} {wires = wires} side more) held =
    subst (λ (l : List Variable). AreHeld ground.datas l) (sym (turned_onto (variable t wires) bound outer)) (group_held (variable t wires ∷ outer) more (one_more_held (variable t wires) outer (side_held side) held))

group_types : {ground : Ground} {sort : Sort} {scope : List Variable} {n : ℕ} {g : Group} {p : Piece} {bound : List Variable} → GroupBuilt ground sort scope n g p bound → types_in bound ≡ declared g
group_types group_none = refl
group_types (group_and {t = t} side more) = ap (λ ts. t ∷ ts) (group_types more)

inner_types : {ground : Ground} {sort : Sort} {inside : List Variable} {n : ℕ} {g : Group} {p : Piece} {bound : List Variable} (scope : List Variable) → GroupBuilt ground sort inside n g p bound → with_more (declared g) (types_in scope) ≡ types_in (reverse bound ++ scope)
inner_types {bound = bound} scope b =
    ap (λ ts. reverse ts ++ types_in scope) (sym (group_types b))
    ∙ sym (map-append (λ (v : Variable). v.ty) (reverse bound) scope ∙ ap (λ ts. ts ++ types_in scope) (map_reverse (λ (v : Variable). v.ty) bound))

-- a typed letrec
record LetTyped (s : Setting) (vars : List TypeTree) (g : Group) (e : TermTree) (t : TypeTree) : Type 0 where
  inner : HasType s [] (with_more (declared g) vars) e t
  scoped : AreTermTypes s [] (with_more (declared g) vars)

let_typed : Facts → {s : Setting} {vars : List TypeTree} {g : Group} {e : TermTree} {t : TypeTree} → AreTermTypes s [] vars → HasType s [] vars (letrec g e) t → LetTyped s vars g e t
let_typed facts {s} {vars} {g} scoped (h_letrec d k bound) = record { inner = d; scoped = facts.scopes.typed_more s [] (declared g) vars (facts.scopes.bound_typed bound) scoped }

-- the end of a block of circuits: a variable inside it, that has its type and its wires
pub record Ending (d : Design) (s : Setting) (h : History) (scope : List Variable) (outside : Thunks) (term : TermTree) (results : List WireId) (t : TypeTree) : Type 0 where
  pub g : Group
  pub inner : List Variable
  pub γ : Thunks
  pub x : ℕ
  pub inside : Inside d [] (record { sort = Circuit; scope = scope; outside = outside; term = term; results = results }) g inner γ
  pub are : results ≡ wires_at inner x
  pub typed : HasType s [] (types_in inner) (var x) t
  pub scoped : AreTermTypes s [] (types_in inner)
  pub held : AreHeld d.program.datas inner
  pub follows : HasAllOf d.program h (closed (with_origins d.wholes term) outside no_types) (closed (var x) γ no_types)

pub block_ends : Facts → (d : Design) (s : Setting) (h : History) {scope : List Variable} {n : ℕ} {term : TermTree} {piece : Piece} {results : List WireId} {t : TypeTree} (outside : Thunks) → BlockBuilt (ground_of d.program d.built.order) Circuit scope n term piece results → HasCells d.net [] piece.cells → HasWidths d.net [] n piece.widths
    → HasType s [] (types_in scope) term t → AreTermTypes s [] (types_in scope) → AreHeld d.program.datas scope → Ending d s h scope outside term results t
unfolding with_origins
block_ends facts d s h {scope = scope} outside (block_variable {x = x}) cells widths typed scoped held =
    record { g = no_bindings; inner = scope; γ = outside; x = x; inside = inside_variable; are = refl; typed = typed; scoped = scoped; held = held; follows = λ n v f. (n, f) }
block_ends facts d s h {scope = scope} {t = t} outside (block_letrec {x = x} {g = g} bound b) cells widths typed scoped held =
    let l = let_typed facts scoped typed in
    let types = inner_types scope b in
    record {
      g = g;
      inner = reverse bound ++ scope;
      γ = in_group (with_origins_group d.wholes g) outside no_types;
      x = x;
      inside = inside_letrec b cells widths;
      are = refl;
      typed = subst (λ vars. HasType s [] vars (var x) t) types l.inner;
      scoped = subst (AreTermTypes s []) types l.scoped;
      held = group_held scope b held;
      follows = group_follows facts d.program h (with_origins_group d.wholes g) (var x) outside no_types;
    }

-- a block that stands has its cells
pub stands_built : {d : Design} {inputs : List Thunk} {path : List ℕ} {h : History} {b : Block} → BlockAt d inputs path h b → HasBlock d path b
stands_built (the_body at known is parameters has) = has
stands_built (an_alternative i at inside is given known first has) = has
stands_built (unseen_alternative i n m widths at inside is unseen known wide of have cells has) = has

-- a block is no lambda
pub block_plain : {ground : Ground} {sort : Sort} {scope : List Variable} {n : ℕ} {e : TermTree} {p : Piece} {results : List WireId} → BlockBuilt ground sort scope n e p results → NoLambda e
block_plain block_variable = tt
block_plain (block_letrec bound b) = tt
