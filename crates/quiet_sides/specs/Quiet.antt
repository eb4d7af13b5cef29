-- Right sides at which, and below which, no rule acts.
use Rattle.std.specs.Prelude.{◌≡◌, ◌⊎◌, ℕ, ◌<◌, Bool, false, List, Some}
use Rattle.std.specs.List.{slice_get}
use Rattle.chw_types.specs.TypeTree.{TypeTree}
use Rattle.chw_types.specs.declared.kind.Scalar.{Scalar}
use Rattle.chw_prims.specs.declared.prim.Primitive.{Primitive as Prim}
use Rattle.chw_prims.specs.declared.prim.Primitive.TheVariants.{Pure, Register, BlockRam}
use Rattle.chw_prims.specs.declared.row.Row.{Row}
use Rattle.chw_prims.specs.declared.row.Row.TheVariants.{Element, Constant, Delay}
use Rattle.chw_prims.specs.declared.row.Row.TheVariants.{Memory, Crossing}
use Rattle.chw_prims.specs.Schemas.{row_of}
use Rattle.chw_terms.specs.declared.term.Arg.{Arg}
use Rattle.chw_terms.specs.declared.term.Arg.TheVariants.{OfTerm}
use Rattle.chw_terms.specs.declared.term.Pattern.TheVariants.{OfCon, OfLit}
use Rattle.chw_terms.specs.TermTree.{TermTree, var, made, con, prim, lit, vec_lit, case_of}
use Rattle.chw_terms.specs.TermTree.{letrec, Terms, Alts, no_alts, alt}
use Rattle.chw_terms.specs.TermView.{applied}
use Rattle.chw_typing.specs.Groups.{binding_at}
use Rattle.chw_typing.specs.Paths.{element_at, Branch, branch_at}
use Rattle.rewriting.specs.Spots.{Spot, HasLets, IsRowOnWords}
use Rattle.rewriting.specs.Shapes.{IsVariable, IsDefaultOrNone, fmap_of, ap_of}

-- this holds of each term among the arguments, by its number
abbrev pub EachTerm : (ℕ → TermTree → Type 0) → List Arg → Type 0
EachTerm P args = (i : ℕ) (a : TermTree) → slice_get args i ≡ Some (OfTerm a) → P i a

-- this holds of each element
abbrev pub EachElement : (TermTree → Type 0) → Terms → Type 0
EachElement P es = (i : ℕ) (a : TermTree) → element_at es i ≡ Some a → P a

-- each term among the arguments is a variable
abbrev pub OnVariables : List Arg → Type 0
OnVariables args = EachTerm (λ i a. IsVariable a) args

-- a constant that is written out: a literal, a constructor and a vector of such constants
pub data IsWritten : TermTree → Type 0 where
  written_literal : {s : Scalar} {bits : List Bool} → IsWritten (lit s bits)
  written_constructor : (c : ℕ) (args : List Arg)
      → ((i : ℕ) (a : TermTree) → slice_get args i ≡ Some (OfTerm a) → IsWritten a)
      → IsWritten (applied (con c) args)
  written_vector : {t : TypeTree} {es : Terms}
      → ((i : ℕ) (a : TermTree) → element_at es i ≡ Some a → IsWritten a)
      → IsWritten (vec_lit t es)

-- the primitive's argument of this number is its content at the beginning
abbrev pub IsContent : Prim → ℕ → Type 0
IsContent Pure i = i ≡ 2
IsContent Register i = i ≡ 2
IsContent BlockRam i = i ≡ 4
IsContent _ i = ⊥

-- an argument of a primitive: a variable, or a constant as its content at the beginning
abbrev pub IsPlainArgument : Prim → ℕ → TermTree → Type 0
IsPlainArgument p i a = IsVariable a ⊎ (IsContent p i × IsWritten a)

-- the rows of primitives that no rule writes out or joins: on words, an element by a number of the
-- type, and those on signals but the ones that lift
abbrev pub IsPlainRow : Row → Type 0
IsPlainRow (Element k) = Unit {0}
IsPlainRow Constant = Unit {0}
IsPlainRow Delay = Unit {0}
IsPlainRow Memory = Unit {0}
IsPlainRow Crossing = Unit {0}
IsPlainRow row = IsRowOnWords row

-- `ap (.. (ap (fmap m x1) x2) ..) xn`: a made definition, lifted, on variables
pub data IsLifted : TermTree → Type 0 where
  lifted_on_one : {d a b : TypeTree} {m x : ℕ} → IsLifted (fmap_of d a b (made m) (var x))
  lifted_on_more : {d a b : TypeTree} {u : TermTree} {x : ℕ}
      → IsLifted u → IsLifted (ap_of d a b u (var x))

-- `C z1 .. zn -> zi` alone
abbrev pub IsProjection : Alts → Type 0
IsProjection (alt (OfCon c n) (var j) no_alts) = j < n
IsProjection _ = ⊥

-- the first alternative is for a literal; or for a constructor, and more follow than a default
abbrev pub IsOfMany : Alts → Type 0
IsOfMany (alt (OfLit s bits) e more) = Unit {0}
IsOfMany (alt (OfCon c n) e more) = IsDefaultOrNone more → ⊥
IsOfMany _ = ⊥

-- such alternatives, each of which gives a variable
pub record IsChoice (alts : Alts) : Type 0 where
  pub many : IsOfMany alts
  pub names : (i : ℕ) (a : Branch) → branch_at alts i ≡ Some a → IsVariable a.body

-- a right side at which no rule acts, at its own place or at one below it
pub data IsQuiet : TermTree → Type 0 where
  of_variable : {x : ℕ} → IsQuiet (var x)
  of_literal : {s : Scalar} {bits : List Bool} → IsQuiet (lit s bits)
  of_call : (m : ℕ) (args : List Arg) → OnVariables args → IsQuiet (applied (made m) args)
  of_constructor : (c : ℕ) (args : List Arg) → OnVariables args → IsQuiet (applied (con c) args)
  of_vector : {t : TypeTree} {es : Terms} → EachElement IsVariable es → IsQuiet (vec_lit t es)
  of_prim : (p : Prim) (args : List Arg)
      → IsPlainRow (row_of p) → EachTerm (IsPlainArgument p) args
      → IsQuiet (applied (prim p) args)
  of_lifted : {e : TermTree} → IsLifted e → IsQuiet e
  -- of a variable a field, and a choice among variables
  of_case : {x : ℕ} {alts : Alts} → IsProjection alts ⊎ IsChoice alts
      → IsQuiet (case_of (var x) alts)

-- no rule acts at the place, or below it: the term is a variable, or it is quiet where values and
-- circuits are built, at no place of a result
abbrev pub IsQuietAt : Spot → TermTree → Type 0
IsQuietAt at e =
    IsVariable e ⊎ (HasLets at.mode × ((at.result ≡ false) × IsQuiet e))

-- the term is a letrec, and its right side of this number is quiet
abbrev pub IsQuietSide : TermTree → ℕ → Type 0
IsQuietSide (letrec g e) i =
    (b : TypeTree × TermTree) × ((binding_at g i ≡ Some b) × IsQuiet b.1)
IsQuietSide _ i = ⊥
