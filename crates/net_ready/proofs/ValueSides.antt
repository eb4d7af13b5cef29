-- Right sides of values that are ready have cells.
use Rattle.std.proofs.Common.{ℕ, List, [], ◌∷◌, sym, subst}
use Rattle.chw_prims.specs.declared.prim.Primitive.{Primitive as Prim}
use Rattle.chw_prims.specs.declared.prim.Primitive.TheVariants.{VGet, VAt}
use Rattle.chw_terms.specs.declared.term.Arg.{Arg}
use Rattle.chw_terms.specs.declared.term.Arg.TheVariants.{OfTerm, OfType}
use Rattle.chw_terms.specs.TermTree.{TermTree, var, made, con, prim, lit, vec_lit}
use Rattle.net_built.specs.Bodies.{ValueCells, value_variable, value_literal, value_constructor, value_vector, value_primitive, value_element, value_element_at, value_call}
use Rattle.net_built.specs.Circuits.{Ground, used}
use Rattle.net_built.specs.Terms.{Variable, wires_of_all}
use Rattle.net_built.specs.Wires.{Piece}
use Rattle.net_ready.specs.Ready.{types_among, ElementReady, ElementAtReady, PrimitiveReady, ValueReady}
use Rattle.net_ready.proofs.Arguments.{terms_among, names_untyped}

abbrev pub SideCells : Ground → List Variable → ℕ → ℕ → TermTree → List Arg → Type 0
SideCells ground scope n w h args = (p : Piece) × ValueCells ground scope n w h (types_among args) (terms_among args) p

element_cells : (ground : Ground) (scope : List Variable) (n w : ℕ) (args : List Arg) → ElementReady args → SideCells ground scope n w (prim VGet) args
element_cells ground scope n w (OfType i ∷ OfType m ∷ OfType a ∷ OfTerm (var x) ∷ []) h = (_, value_element)
element_cells ground scope n w _ h = absurd h

element_at_cells : (ground : Ground) (scope : List Variable) (n w : ℕ) (args : List Arg) → ElementAtReady args → SideCells ground scope n w (prim VAt) args
element_at_cells ground scope n w (OfType m ∷ OfType k ∷ OfType a ∷ OfTerm (var x) ∷ OfTerm (var i) ∷ []) h = (_, value_element_at)
element_at_cells ground scope n w _ h = absurd h

primitive_cells : (ground : Ground) (scope : List Variable) (n w : ℕ) (p : Prim) (args : List Arg) → PrimitiveReady p args → SideCells ground scope n w (prim p) args
primitive_cells ground scope n w VGet args h = element_cells ground scope n w args h
primitive_cells ground scope n w VAt args h = element_at_cells ground scope n w args h
primitive_cells ground scope n w p args h = (_, value_primitive h.0)

pub value_cells : (ground : Ground) (scope : List Variable) (n w : ℕ) (h : TermTree) (args : List Arg) → ValueReady ground.datas h args → SideCells ground scope n w h args
value_cells ground scope n w (var x) [] h = (_, value_variable)
value_cells ground scope n w (lit s bits) [] h = (_, value_literal)
value_cells ground scope n w (vec_lit t es) [] h = (_, value_vector)
value_cells ground scope n w (made m) args h =
    let p : Piece = used ground m n (wires_of_all scope (terms_among args)) (w ∷ []) in
    (p, subst (λ ts. ValueCells ground scope n w (made m) ts (terms_among args) p) (sym (names_untyped args h)) value_call)
value_cells ground scope n w (con c) args h = (_, value_constructor h.held h.measured)
value_cells ground scope n w (prim p) args h = primitive_cells ground scope n w p args h
value_cells ground scope n w _ _ h = absurd h
