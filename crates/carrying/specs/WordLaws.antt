-- What bits a primitive on words carries, by the words of its operands.
use Rattle.std.specs.Prelude.{◌≡◌, ℕ, Bool, true, false, List, [], ◌∷◌, ◌++◌, length, map, Some}
use Rattle.chw_types.specs.declared.kind.Scalar.{Scalar}
use Rattle.chw_types.specs.declared.declarations.Data.{Data}
use Rattle.chw_types.specs.BuiltIn.{built_in}
use Rattle.chw_types.specs.TypeTree.{TypeTree, scalar, TypeTrees}
use Rattle.chw_prims.specs.declared.prim.Primitive.{Primitive as Prim}
use Rattle.chw_prims.specs.declared.row.Row.{Row}
use Rattle.chw_prims.specs.declared.row.Row.TheVariants.{Compare, Reduce}
use Rattle.chw_prims.specs.Schemas.{row_of, bool}
use Rattle.prim_bits.specs.Values.{value_of as word_value}
use Rattle.chw_terms.specs.declared.program.Program.{Program}
use Rattle.chw_terms.specs.TermTree.{TermTree, prim}
use Rattle.chw_terms.specs.TermView.{applied}
use Rattle.chw_typing.specs.Given.{types_then}
use Rattle.chw_layout.specs.Measured.{closed_value, HasWidth}
use Rattle.chw_meaning.specs.Values.{History, Thunk, closed, Thunks, closed_type}
use Rattle.carrying.specs.Carrying.{Shows}
use Rattle.carrying.specs.TermLaws.{each_closed}

-- the numbers that the types mean in an environment of closed types
abbrev pub numbers_of : TypeTrees → List TypeTree → List ℕ
numbers_of δ types = map (λ t. closed_value (closed_type t δ)) types

-- each of the thunks shows its word, at a type of scalars
pub data ShowWords (p : Program) (h : History) : List Thunk → List (List Bool) → Type 0 where
  show_no_word : ShowWords p h [] []
  show_word : {s : Scalar} {n : TypeTree} {th : Thunk} {ths : List Thunk} {b : List Bool}
      {words : List (List Bool)}
      → Shows p (scalar s n) th h b
      → ShowWords p h ths words
      → ShowWords p h (th ∷ ths) (b ∷ words)

-- whether a line of the table of the primitives' types gives a truth value: a comparison and a
-- reduction do
abbrev pub is_test : Row → Bool
is_test (Compare s) = true
is_test Reduce = true
is_test _ = false

-- a primitive whose operands show words shows its value on them, at a type of its width
abbrev pub PrimitiveShows : Type 0
PrimitiveShows =
    (p : Program) (q : Prim) (types : List TypeTree) (es : List TermTree) (γ : Thunks)
    (δ : TypeTrees) (h : History) (words : List (List Bool)) (s : Scalar) (n : TypeTree)
    (b : List Bool)
    → word_value q (numbers_of δ types) words ≡ Some b → ShowWords p h (each_closed es γ δ) words
    → is_test (row_of q) ≡ false → HasWidth p.datas (scalar s n) (length b)
    → Shows p (scalar s n) (closed (applied (prim q) (types_then types es)) γ δ) h b

-- a comparison or a reduction gives a truth value, whose tag is the bit
abbrev pub TestShows : Type 0
TestShows =
    (p : Program) (q : Prim) (types : List TypeTree) (es : List TermTree) (γ : Thunks)
    (δ : TypeTrees) (h : History) (words : List (List Bool)) (b : List Bool) (others : List Data)
    → word_value q (numbers_of δ types) words ≡ Some b → ShowWords p h (each_closed es γ δ) words
    → is_test (row_of q) ≡ true → p.datas ≡ built_in ++ others
    → Shows p bool (closed (applied (prim q) (types_then types es)) γ δ) h b
