-- Which variables stand inside a block: those of its bindings, and those from outside.
use Rattle.std.proofs.Common.{List, Some, [], ap, arith, length, refl, reverse, subst, suc, zero, ℕ, ◌++◌, ◌+◌, ◌∙◌, ◌∷◌, ◌≡◌}
use Rattle.std.specs.Prelude.{slice_get}
use Rattle.net_grounds.specs.Facts.{Facts}
use Rattle.net_means.proofs.Lists.{turned_onto}
use Rattle.net_means.specs.CircuitBits.Instances.{Block, Design, Inside, inside_letrec, inside_variable}
use Rattle.netlist.specs.declared.net.Cell.{Cell}
use Rattle.net_built.specs.Circuits.{Ground}
use Rattle.chw_terms.specs.TermTree.{Group, TermTree, bind, letrec, no_bindings, size_of, var}
use Rattle.net_built.specs.Bodies.{GroupBuilt, SideBuilt, group_and, group_none}
use Rattle.cell_bits.specs.Bearing.{HasCells}
use Rattle.use_laws.specs.ValueIn.{HasWidthAt}
use Rattle.net_means.specs.CircuitBits.Memories.{HasWidths}
use Rattle.netlist.specs.declared.net.Net.{Net}
use Rattle.net_built.specs.Wires.{Piece, after, wire, ◌▸◌}
use Rattle.chw_terms.specs.declared.scene.Sort.{Sort}
use Rattle.chw_meaning.specs.Values.{Thunks, body_at, in_group, member, thunk_at}
use Rattle.net_built.specs.Terms.{Variable, variable}
use Rattle.chw_typing.specs.Scopes.{declared}
use Rattle.net_built.specs.Built.{ground_of}
use Rattle.chw_types.specs.TypeTree.{no_types}
use Rattle.rewriting.specs.Origins.{with_origins, with_origins_group}

-- of cells and of widths that stand one after the other
cells_first : (net : Net) (path : List ℕ) (xs ys : List Cell) → HasCells net path (xs ++ ys) → HasCells net path xs
cells_first net path [] ys has i cell e = absurd cc
cells_first net path (x ∷ xs) ys has zero cell e = has zero cell e
cells_first net path (x ∷ xs) ys has (suc i) cell e = cells_first net path xs ys (λ j c f. has (suc j) c f) i cell e

cells_rest : (net : Net) (path : List ℕ) (xs ys : List Cell) → HasCells net path (xs ++ ys) → HasCells net path ys
cells_rest net path [] ys has = has
cells_rest net path (x ∷ xs) ys has = cells_rest net path xs ys (λ j c f. has (suc j) c f)

pub found_first : {A : Type 0} (xs ys : List A) (i : ℕ) (w : A) → slice_get xs i ≡ Some w → slice_get (xs ++ ys) i ≡ Some w
found_first [] ys i w e = absurd cc
found_first (x ∷ xs) ys zero w e = e
found_first (x ∷ xs) ys (suc i) w e = found_first xs ys i w e

pub found_rest : {A : Type 0} (xs ys : List A) (i : ℕ) → slice_get (xs ++ ys) (length xs + i) ≡ slice_get ys i
found_rest [] ys i = let e : 0 + i ≡ i = omega arith in ap (slice_get ys) e
found_rest (x ∷ xs) ys i =
    let e : suc (length xs) + i ≡ suc (length xs + i) = omega arith in
    ap (slice_get (x ∷ (xs ++ ys))) e ∙ found_rest xs ys i

pub widths_first : (net : Net) (path : List ℕ) (n : ℕ) (p q : Piece) → HasWidths net path n (p ▸ q).widths → HasWidths net path n p.widths
widths_first net path n p q has i w e = has i w (found_first p.widths q.widths i w e)

pub widths_rest : (net : Net) (path : List ℕ) (n : ℕ) (p q : Piece) → HasWidths net path n (p ▸ q).widths → HasWidths net path (after n p) q.widths
widths_rest net path n p q has i w e =
    let place : n + (length p.widths + i) ≡ after n p + i = omega arith in
    subst (λ k. HasWidthAt net path (wire k) w) place (has (length p.widths + i) w (found_rest p.widths q.widths i ∙ e))

pub piece_first : (net : Net) (path : List ℕ) (p q : Piece) → HasCells net path (p ▸ q).cells → HasCells net path p.cells
piece_first net path p q has = cells_first net path p.cells q.cells has

pub piece_rest : (net : Net) (path : List ℕ) (p q : Piece) → HasCells net path (p ▸ q).cells → HasCells net path q.cells
piece_rest net path p q has = cells_rest net path p.cells q.cells has

-- a variable among several that come in turn before others: one of these, or one of the others
pub data Place (bound scope : List Variable) (x : ℕ) (it : Variable) : Type 0 where
  own_place : (i : ℕ) → x + suc i ≡ length bound → slice_get bound i ≡ Some it → Place bound scope x it
  outer_place : (z : ℕ) → x ≡ length bound + z → slice_get scope z ≡ Some it → Place bound scope x it

next_place : (v : Variable) (b scope : List Variable) (x : ℕ) (it : Variable) → Place b (v ∷ scope) x it → Place (v ∷ b) scope x it
next_place v b scope x it (own_place i e at) = own_place (suc i) (omega (arith, e)) at
next_place v b scope x it (outer_place zero e at) = own_place 0 (omega (arith, e)) at
next_place v b scope x it (outer_place (suc z) e at) = outer_place z (omega (arith, e)) at

pub place_of : (bound scope : List Variable) (x : ℕ) (it : Variable) → slice_get (reverse bound ++ scope) x ≡ Some it → Place bound scope x it
place_of [] scope x it e = let same : x ≡ 0 + x = omega arith in outer_place x same e
place_of (v ∷ b) scope x it e = next_place v b scope x it (place_of b (v ∷ scope) x it (subst (λ (l : List Variable). slice_get l x ≡ Some it) (turned_onto v b scope) e))

-- a binding: its right side, and what of it the instance has
pub record Binding (d : Design) (path : List ℕ) (sort : Sort) (scope : List Variable) (g : Group) (i : ℕ) (it : Variable) : Type 0 where
  pub term : TermTree
  pub at : body_at g i ≡ Some term
  pub declares : slice_get (declared g) i ≡ Some it.ty
  pub n : ℕ
  pub piece : Piece
  pub built : SideBuilt (ground_of d.program d.built.order) sort scope n it.ty term piece it.wires
  pub cells : HasCells d.net path piece.cells
  pub widths : HasWidths d.net path n piece.widths

pub binding_at : (d : Design) (path : List ℕ) {sort : Sort} {scope bound : List Variable} {g : Group} {n : ℕ} {p : Piece} → GroupBuilt (ground_of d.program d.built.order) sort scope n g p bound → HasCells d.net path p.cells → HasWidths d.net path n p.widths → (i : ℕ) (it : Variable) → slice_get bound i ≡ Some it
    → Binding d path sort scope g i it
binding_at d path group_none has wide i it e = absurd cc
binding_at d path {sort} {scope} {n = n} (group_and {t = t} {e = e} {g = g} {p = p} {q = q} {wires = wires} side more) has wide zero it at =
    let is : variable t wires ≡ it = cc in
    subst (λ (v : Variable). Binding d path sort scope (bind t e g) 0 v) is
    (record {
      term = e;
      at = refl;
      declares = refl;
      n = n;
      piece = p;
      built = side;
      cells = piece_first d.net path p q has;
      widths = widths_first d.net path n p q wide;
    })
binding_at d path {n = n} (group_and {p = p} {q = q} side more) has wide (suc i) it at =
    let r = binding_at d path more (piece_rest d.net path p q has) (widths_rest d.net path n p q wide) i it at in
    record { term = r.term; at = r.at; declares = r.declares; n = r.n; piece = r.piece; built = r.built; cells = r.cells; widths = r.widths }

pub bound_count : {ground : Ground} {sort : Sort} {scope : List Variable} {n : ℕ} {g : Group} {p : Piece} {b : List Variable} → GroupBuilt ground sort scope n g p b → length b ≡ size_of g
bound_count group_none = refl
bound_count (group_and side more) = ap suc (bound_count more)

pub size_whole : (wholes : ℕ → TermTree) (g : Group) → size_of (with_origins_group wholes g) ≡ size_of g
unfolding with_origins
size_whole wholes no_bindings = refl
size_whole wholes (bind t e g) = ap suc (size_whole wholes g)

pub body_whole : (wholes : ℕ → TermTree) (g : Group) (i : ℕ) (e : TermTree) → body_at g i ≡ Some e → body_at (with_origins_group wholes g) i ≡ Some (with_origins wholes e)
unfolding with_origins
body_whole wholes no_bindings i e at = absurd cc
body_whole wholes (bind t f g) zero e at = let is : f ≡ e = cc in ap (λ f. Some (with_origins wholes f)) is
body_whole wholes (bind t f g) (suc i) e at = body_whole wholes g i e at

-- a variable inside a block
pub data Within (d : Design) (path : List ℕ) (b : Block) (g : Group) (scope : List Variable) (γ : Thunks) (x : ℕ) (it : Variable) : Type 0 where
  of_binding : (i : ℕ) → x + suc i ≡ size_of g → Binding d path b.sort scope g i it
      → γ ≡ in_group (with_origins_group d.wholes g) b.outside no_types
      → thunk_at γ x ≡ Some (member (with_origins_group d.wholes g) i b.outside no_types) → Within d path b g scope γ x it
  from_outside : (z : ℕ) → x ≡ size_of g + z → slice_get b.scope z ≡ Some it → thunk_at γ x ≡ thunk_at b.outside z → Within d path b g scope γ x it

pub within : Facts → (d : Design) (path : List ℕ) {b : Block} {g : Group} {scope : List Variable} {γ : Thunks} → Inside d path b g scope γ → (x : ℕ) (it : Variable) → slice_get scope x ≡ Some it → Within d path b g scope γ x it
within facts d path inside_variable x it e = let same : x ≡ 0 + x = omega arith in from_outside x same e refl
within facts d path (inside_letrec {sort = sort} {scope = scope} {bound = bound} {γ = γ} {g = g} {x = y} {results = results} built has wide) x it e = by (place_of bound scope x it e)
  where
    b : Block
    b = record { sort = sort; scope = scope; outside = γ; term = letrec g (var y); results = results }

    whole : Group
    whole = with_origins_group d.wholes g

    count : length bound ≡ size_of g
    count = bound_count built

    size : size_of whole ≡ size_of g
    size = size_whole d.wholes g

    by : Place bound scope x it → Within d path b g (reverse bound ++ scope) (in_group whole γ no_types) x it
    by (own_place i place at) =
        of_binding i (omega (arith, place, count)) (binding_at d path built has wide i it at) refl
        (facts.environments.group_variables whole γ no_types x i (omega (arith, place, count, size)))
    by (outer_place z place at) =
        let there : x ≡ size_of whole + z = omega (arith, place, count, size) in
        from_outside z (omega (arith, place, count)) at
        (ap (thunk_at (in_group whole γ no_types)) there ∙ facts.environments.outside_group whole γ no_types z)
