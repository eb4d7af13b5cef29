-- What is promised of right sides.
use Rattle.std.specs.Prelude.{◌≡◌, ℕ, ◌+◌, Bool, List, [], ◌∷◌, length, map}
use Rattle.chw_clock.specs.declared.event.Event.{Event}
use Rattle.chw_types.specs.declared.kind.Scalar.{Scalar}
use Rattle.chw_types.specs.TypeTree.{TypeTree, TypeTrees}
use Rattle.chw_prims.specs.declared.prim.Primitive.{Primitive as Prim}
use Rattle.chw_prims.specs.declared.prim.Primitive.TheVariants.{VGet, VAt}
use Rattle.chw_prims.specs.Schemas.{schema_type}
use Rattle.chw_terms.specs.TermTree.{TermTree, var, made, con, prim, lit, vec_lit}
use Rattle.chw_terms.specs.TermTree.{case_of, Alts}
use Rattle.chw_terms.specs.TermView.{terms_of}
use Rattle.rewriting.specs.Origins.{Origins, HoldsNoMade}
use Rattle.rewriting.specs.Spots.{asked_for, IsOnWords}
use Rattle.normal_forms.specs.Values.{on_names, IsSide}
use Rattle.chw_meaning.specs.Values.{Thunks}
use Rattle.netlist.specs.declared.net.Net.{Net}
use Rattle.net_built.specs.Terms.{head_of, Variable}
use Rattle.net_built.specs.Wires.{Piece, last_wires}
use Rattle.net_means.specs.SideBits.Sides.{types_in, SideGiven, SideHas}

-- where the variables at which a right side looks have bits, so have it and its last wire
abbrev pub SideBears : TermTree → Type 0
SideBears e =
    (o : Origins) (order : List ℕ) (scope : List Variable) (γ : Thunks) (δ : TypeTrees)
    (net : Net) (path : List ℕ) (h : List Event) (n w : ℕ) (t : TypeTree) (piece : Piece)
    → SideGiven o order scope γ net path h n w t e piece
    → SideHas o.program γ δ net path h t e (last_wires n piece (w ∷ []))

-- a variable
abbrev pub NamesBear : Type 0
NamesBear = (x : ℕ) → SideBears (var x)

-- a literal
abbrev pub LiteralsBear : Type 0
LiteralsBear = (s : Scalar) (bits : List Bool) → SideBears (lit s bits)

-- a vector of variables
abbrev pub VectorsBear : Type 0
VectorsBear = (t : TypeTree) (xs : List ℕ) → SideBears (vec_lit t (terms_of (map (λ x. var x) xs)))

-- a constructor on types and variables
abbrev pub ConstructorsBear : Type 0
ConstructorsBear =
    (c : ℕ) (types : List TypeTree) (xs : List ℕ) → SideBears (on_names (con c) types xs)

-- a primitive on words, with all that its type asks for
abbrev pub PrimitivesBear : Type 0
PrimitivesBear =
    (q : Prim) (types : List TypeTree) (xs : List ℕ)
    → IsOnWords q → length types + length xs ≡ asked_for (schema_type q)
    → SideBears (on_names (prim q) types xs)

-- an element of a vector, by its number
abbrev pub ElementsBear : Type 0
ElementsBear =
    (i m a : TypeTree) (x : ℕ) → SideBears (on_names (prim VGet) (i ∷ m ∷ a ∷ []) (x ∷ []))

-- and by an index, which need not have bits where there is one element
abbrev pub IndexedBear : Type 0
IndexedBear =
    (m k a : TypeTree) (x y : ℕ)
    → SideBears (on_names (prim VAt) (m ∷ k ∷ a ∷ []) (x ∷ y ∷ []))

-- so each right side of a normal block that is no call; a case has other cells than these
abbrev pub SidesBear : Type 0
SidesBear =
    (e : TermTree) (o : Origins) (order : List ℕ) (scope : List Variable) (γ : Thunks)
    (δ : TypeTrees) (net : Net) (path : List ℕ) (h : List Event) (n w : ℕ) (t : TypeTree)
    (piece : Piece)
    → IsSide o (types_in scope) e → ((m : ℕ) → ¬ (head_of e ≡ made m))
    → SideGiven o order scope γ net path h n w t e piece
    → SideHas o.program γ δ net path h t e (last_wires n piece (w ∷ []))

-- no made definition occurs in one that is neither a call nor a case: whatever is put for these, it
-- is as it was
abbrev pub SidesHoldNoMade : Type 0
SidesHoldNoMade =
    (o : Origins) (vars : List TypeTree) (e : TermTree)
    → IsSide o vars e → ((m : ℕ) → ¬ (head_of e ≡ made m))
    → ((s : TermTree) (alts : Alts) → ¬ (e ≡ case_of s alts)) → HoldsNoMade e
