-- What bits vectors carry, and their elements.
use Rattle.std.specs.Prelude.{◌≡◌, ◌<◌, ℕ, suc, ◌*◌, min, Bool, List, [], ◌∷◌, length, take, drop}
use Rattle.chw_bits.specs.Bits.{number_of}
use Rattle.chw_types.specs.declared.kind.Scalar.{Scalar}
use Rattle.chw_types.specs.TypeTree.{TypeTree, scalar, vector, TypeTrees}
use Rattle.chw_prims.specs.declared.prim.Primitive.TheVariants.{VGet, VAt}
use Rattle.chw_terms.specs.declared.program.Program.{Program}
use Rattle.chw_terms.specs.TermTree.{TermTree, prim, vec_lit, Terms}
use Rattle.chw_terms.specs.TermView.{applied}
use Rattle.chw_typing.specs.Given.{types_then}
use Rattle.chw_layout.specs.Measured.{closed_value, HasWidth}
use Rattle.chw_meaning.specs.Values.{History, Thunk, closed, element, Thunks, count_of}
use Rattle.chw_meaning.specs.Values.{closed_type, closed_all}
use Rattle.carrying.specs.Carrying.{Shows, CarryEach, Carries}

-- a vector of terms carries their bits, one after the other. The type that is written with it
-- doesn't matter.
abbrev pub VectorCarries : Type 0
VectorCarries =
    (p : Program) (n t u : TypeTree) (w : ℕ) (es : Terms) (γ : Thunks) (δ : TypeTrees)
    (b : List Bool)
    → HasWidth p.datas (vector n t) w → count_of (closed_all es γ δ) ≡ closed_value n
    → CarryEach p t (closed_all es γ δ) b → Carries p (vector n t) (closed (vec_lit u es) γ δ) b

-- an element of a thunk that shows the bits of a vector shows those at its place
abbrev pub ElementShows : Type 0
ElementShows =
    (p : Program) (n t : TypeTree) (w j : ℕ) (th : Thunk) (h : History) (b : List Bool)
    → HasWidth p.datas t w → j < closed_value n → Shows p (vector n t) th h b
    → Shows p t (element j th) h (take w (drop (j * w) b))

-- so does `vget` at its number
abbrev pub VGetShows : Type 0
VGetShows =
    (p : Program) (n t i m a : TypeTree) (w j : ℕ) (v : TermTree) (γ : Thunks) (δ : TypeTrees)
    (h : History) (b : List Bool)
    → HasWidth p.datas t w → closed_value (closed_type i δ) ≡ j → j < closed_value n
    → Shows p (vector n t) (closed v γ δ) h b
    → Shows p t (closed (applied (prim VGet) (types_then (i ∷ m ∷ a ∷ []) (v ∷ []))) γ δ) h
    (take w (drop (j * w) b))

-- and `vat` at the number of its index, or at the last place where that is past it
abbrev pub VAtShows : Type 0
VAtShows =
    (p : Program) (n t m k a : TypeTree) (s : Scalar) (c : TypeTree) (w last : ℕ)
    (v i : TermTree) (γ : Thunks) (δ : TypeTrees) (h : History) (b x : List Bool)
    → HasWidth p.datas t w → closed_value (closed_type m δ) ≡ last → closed_value n ≡ suc last
    → Shows p (vector n t) (closed v γ δ) h b
    → closed_value (closed_type k δ) ≡ length x → Shows p (scalar s c) (closed i γ δ) h x
    → Shows p t (closed (applied (prim VAt) (types_then (m ∷ k ∷ a ∷ []) (v ∷ i ∷ []))) γ δ) h
    (take w (drop (min (number_of x) last * w) b))
