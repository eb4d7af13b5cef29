-- Heads of right sides that are ready, and primitives.
use Rattle.std.proofs.Common.{◌≡◌, refl, ℕ, List, [], ◌∷◌, map}
use Rattle.std.specs.List.{slice_index}
use Rattle.chw_prims.specs.declared.prim.Primitive.{Primitive as Prim}
use Rattle.chw_prims.specs.declared.prim.Primitive.TheVariants.{VGet, VAt}
use Rattle.chw_types.specs.declared.declarations.Data.{Data}
use Rattle.chw_terms.specs.declared.term.Arg.{Arg}
use Rattle.chw_terms.specs.declared.term.Arg.TheVariants.{OfTerm, OfType}
use Rattle.chw_terms.specs.declared.term.Head.{Head}
use Rattle.chw_terms.specs.declared.term.Head.TheVariants.{Var, Made, Con, PrimOf, Lit, VecLit}
use Rattle.chw_terms.specs.TermTree.{var, prim}
use Rattle.chw_terms.specs.TermView.{tree_of}
use Rattle.chw_layout.specs.Measured.{closed_value}
use Rattle.rewriting.specs.Spots.{IsOnWords}
use Rattle.net_built.specs.Bodies.{ValueCells, value_element, value_element_at, operand_at}
use Rattle.net_built.specs.Circuits.{Ground}
use Rattle.net_built.specs.Terms.{Variable, wires_of}
use Rattle.net_built.specs.Vectors.{element, element_at}
use Rattle.net_built.specs.Wires.{Piece, ◌▸◌}
use Rattle.net_ready.specs.Ready.{ElementReady, ElementAtReady, PrimitiveReady, ValueReady}
use Rattle.value_build.specs.Added.{Adds, next}
use Rattle.value_build.specs.Arguments.{terms_in, types_in}
use Rattle.value_build.proofs.Behind.{adds_one}

-- the cells of an element of a vector, by a number
pub element_added : (ground : Ground) (scope : List Variable) (w : ℕ) (args : List Arg) (s t : Piece) → ElementReady args
    → t ≡ s ▸ element w (slice_index (map closed_value (types_in args)) 1) (next s) (operand_at scope (terms_in args) 0)
    → Adds (ValueCells ground scope (next s) w (prim VGet) (types_in args) (terms_in args)) s t
element_added ground scope w (OfType i ∷ OfType m ∷ OfType a ∷ OfTerm (var x) ∷ []) s t h is =
    adds_one (ValueCells ground scope (next s) w (prim VGet) (i ∷ m ∷ a ∷ []) (var x ∷ [])) s t
    (element w (closed_value m) (next s) (wires_of scope (var x))) is value_element
element_added ground scope w _ s t h is = absurd h

-- and by a word
pub element_at_added : (ground : Ground) (scope : List Variable) (w : ℕ) (args : List Arg) (s t : Piece) → ElementAtReady args
    → t ≡ s ▸ element_at w (slice_index (map closed_value (types_in args)) 0) (slice_index (map closed_value (types_in args)) 1) (next s)
    (operand_at scope (terms_in args) 0) (operand_at scope (terms_in args) 1)
    → Adds (ValueCells ground scope (next s) w (prim VAt) (types_in args) (terms_in args)) s t
element_at_added ground scope w (OfType m ∷ OfType k ∷ OfType a ∷ OfTerm (var x) ∷ OfTerm (var y) ∷ []) s t h is =
    adds_one (ValueCells ground scope (next s) w (prim VAt) (m ∷ k ∷ a ∷ []) (var x ∷ var y ∷ [])) s t
    (element_at w (closed_value m) (closed_value k) (next s) (wires_of scope (var x)) (wires_of scope (var y))) is value_element_at
element_at_added ground scope w _ s t h is = absurd h

-- a primitive that takes no element is one on words
pub words_ready : (p : Prim) (args : List Arg) → (p ≡ VGet → ⊥) → (p ≡ VAt → ⊥) → PrimitiveReady p args → IsOnWords p
words_ready VGet args n m r = absurd (n refl)
words_ready VAt args n m r = absurd (m refl)
words_ready p args n m r = r.0

-- no other head is one of a right side
pub no_other_side : (datas : List Data) (h : Head) (args : List Arg)
    → ((x : _) → h ≡ Con x → ⊥) → ((x : _) → h ≡ PrimOf x → ⊥) → ((x : _) → h ≡ Made x → ⊥) → ((x : _) → h ≡ Var x → ⊥)
    → ((x : _) (y : _) → h ≡ Lit x y → ⊥) → ((x : _) (y : _) → h ≡ VecLit x y → ⊥)
    → ValueReady datas (tree_of h) args → ⊥
no_other_side datas (Con x) args a b c d e f r = a x refl
no_other_side datas (PrimOf x) args a b c d e f r = b x refl
no_other_side datas (Made x) args a b c d e f r = c x refl
no_other_side datas (Var x) args a b c d e f r = d x refl
no_other_side datas (Lit x y) args a b c d e f r = e x y refl
no_other_side datas (VecLit x y) args a b c d e f r = f x y refl
no_other_side datas _ args a b c d e f r = absurd r
