-- Values that hold bits, and thunks that show and carry them.
use Rattle.std.specs.Prelude.{◌≡◌, ℕ, zero, ◌-◌, Bool, List, [], ◌∷◌, ◌++◌, length, Some}
use Rattle.chw_bits.specs.Bits.{bits_of}
use Rattle.chw_types.specs.declared.kind.Scalar.{Scalar}
use Rattle.chw_types.specs.declared.declarations.Data.{Data}
use Rattle.chw_types.specs.TypeTree.{TypeTree, scalar, vector, data_of, TypeTrees}
use Rattle.chw_types.specs.TypeMoves.{Substitution, sub}
use Rattle.chw_types.specs.Arguments.{arguments}
use Rattle.chw_terms.specs.Constructors.{Constructor, con_at}
use Rattle.chw_terms.specs.declared.program.Program.{Program}
use Rattle.chw_layout.specs.Encodes.{first_constructor, filled}
use Rattle.chw_layout.specs.Measured.{closed_value, tag_width, HasWidth}
use Rattle.chw_meaning.specs.Zeros.{IsWide}
use Rattle.chw_meaning.specs.Values.{History, Value, bits, con_of, vec_of, Thunk, Thunks, none}
use Rattle.chw_meaning.specs.Values.{thunk_and, thunk_at, count_of}
use Rattle.chw_meaning.specs.Eval.{Forces}

-- the tag of the constructor of this number: its number among those of its data type
abbrev pub tag_of : List Data → ℕ → Constructor → List Bool
tag_of datas c it = bits_of (tag_width (length it.it.cons)) (c - first_constructor datas it.of)

mutual
  -- the value of the closed type holds these bits: a word its own, a vector those of its elements
  -- in order, and data its tag, those of its fields in order, and zeros up to the width of the
  -- type. What its parts show doesn't change with the history; so it holds its bits at each. That
  -- a part makes the same data value at each history isn't enough: its value at one history needn't
  -- make that at another.
  pub data Holds (p : Program) : TypeTree → Value → List Bool → Type 0 where
    holds_word : {s : Scalar} {n : TypeTree} {b : List Bool}
        → length b ≡ closed_value n
        → Holds p (scalar s n) (bits b) b
    holds_elements : {n t : TypeTree} {ths : Thunks} {b : List Bool}
        → count_of ths ≡ closed_value n
        → CarryEach p t ths b
        → Holds p (vector n t) (vec_of ths) b
    holds_built : {d c w : ℕ} {ts : TypeTrees} {it : Constructor} {ths : Thunks} {b : List Bool}
        → con_at p.datas c ≡ Some it
        → it.of ≡ d
        → count_of ths ≡ length it.decl.fields
        → CarryFields p it.decl.fields (arguments ts) ths b
        → HasWidth p.datas (data_of d ts) w
        → Holds p (data_of d ts) (con_of c ths) (filled w (tag_of p.datas c it ++ b))

  -- the thunk of the closed type shows these bits at the history: its value there holds them; a
  -- type of width 0 has none, without evaluation
  pub data Shows (p : Program) : TypeTree → Thunk → History → List Bool → Type 0 where
    shows_nothing : {t : TypeTree} {th : Thunk} {h : History}
        → HasWidth p.datas t zero
        → Shows p t th h []
    shows_bits : {n : ℕ} {t : TypeTree} {th : Thunk} {h : History} {v : Value} {b : List Bool}
        → IsWide p.datas t
        → Forces p n th h v
        → Holds p t v b
        → Shows p t th h b

  -- each of the thunks of the closed type carries its bits: it shows them at every history; these
  -- are the bits of all, one after the other
  pub data CarryEach (p : Program) : TypeTree → Thunks → List Bool → Type 0 where
    carry_none : {t : TypeTree} → CarryEach p t none []
    carry_each : {t : TypeTree} {th : Thunk} {ths : Thunks} {b more : List Bool}
        → ((h : History) → Shows p t th h b)
        → CarryEach p t ths more
        → CarryEach p t (thunk_and th ths) (b ++ more)

  -- the same of the fields of a constructor that have these types, with this put in; those are its
  -- last ones, and the last field stands first
  pub data CarryFields (p : Program)
      : List TypeTree → Substitution → Thunks → List Bool → Type 0 where
    carry_no_field : {σ : Substitution} {ths : Thunks} → CarryFields p [] σ ths []
    carry_field : {f : TypeTree} {fs : List TypeTree} {σ : Substitution} {th : Thunk}
        {ths : Thunks} {b more : List Bool}
        → thunk_at ths (length fs) ≡ Some th
        → ((h : History) → Shows p (sub f σ) th h b)
        → CarryFields p fs σ ths more
        → CarryFields p (f ∷ fs) σ ths (b ++ more)

-- the thunk carries the bits: it shows them at every history
abbrev pub Carries : Program → TypeTree → Thunk → List Bool → Type 0
Carries p t th b = (h : History) → Shows p t th h b
