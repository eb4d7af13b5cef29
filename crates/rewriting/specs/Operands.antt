-- The operands of a term, and the names that they get.
use Rattle.std.specs.Prelude.{◌≡◌, ◌⊎◌, ℕ, zero, List, [], ◌∷◌, length, Some}
use Rattle.std.specs.List.{slice_get}
use Rattle.chw_types.specs.TypeTree.{TypeTree}
use Rattle.chw_prims.specs.declared.prim.Primitive.{Primitive as Prim}
use Rattle.chw_prims.specs.declared.prim.Primitive.TheVariants.{Fmap, Ap, Register, BlockRam}
use Rattle.chw_prims.specs.declared.prim.Primitive.TheVariants.{UnsafeSynchronizer}
use Rattle.chw_prims.specs.Schemas.{schema_type}
use Rattle.chw_terms.specs.Constructors.{Constructor, con_at}
use Rattle.chw_terms.specs.declared.rule.Rule.{Rule}
use Rattle.chw_terms.specs.declared.rule.Rule.TheVariants.{Anf}
use Rattle.chw_terms.specs.declared.term.Arg.{Arg}
use Rattle.chw_terms.specs.declared.term.Arg.TheVariants.{OfTerm}
use Rattle.chw_terms.specs.TermMoves.{shift}
use Rattle.chw_terms.specs.TermTree.{TermTree, var, global, made, letrec, con, prim, vec_lit}
use Rattle.chw_terms.specs.TermTree.{case_of, Terms, no_bindings, bind, Alts}
use Rattle.chw_terms.specs.TermView.{applied}
use Rattle.chw_typing.specs.HeadTypes.{con_type}
use Rattle.chw_typing.specs.Typing.{HasType}
use Rattle.chw_typing.specs.Finding.{Finds}
use Rattle.chw_typing.specs.Paths.{element_at, with_part, IsEarlier, argument_path}
use Rattle.rewriting.specs.Named.{IsNamed}
use Rattle.rewriting.specs.Origins.{Origins, setting_at}
use Rattle.rewriting.specs.Spots.{Spot, HasLets, asked_for, IsOnWords, TakesElement}
use Rattle.rewriting.specs.Shapes.{IsVariable}

-- the primitive's argument of this number is a signal of which it makes another
abbrev pub IsSignal : Prim → ℕ → Type 0
IsSignal Register i = i ≡ 3
IsSignal BlockRam i = (i ≡ 5) ⊎ (i ≡ 6)
IsSignal UnsafeSynchronizer i = i ≡ 3
IsSignal Fmap i = i ≡ 4
IsSignal Ap i = (i ≡ 3) ⊎ (i ≡ 4)
IsSignal _ i = ⊥

-- where the operands of a term stand, with all the arguments that its head names
pub data StandsAt (o : Origins) (at : Spot) : TermTree → List ℕ → TermTree → Type 0 where
  -- the words of a primitive, its vector and its index, its signals
  of_prim : (p : Prim) (args : List Arg) (i : ℕ) {a : TermTree}
      → length args ≡ asked_for (schema_type p)
      → IsOnWords p ⊎ (TakesElement p ⊎ IsSignal p i)
      → slice_get args i ≡ Some (OfTerm a)
      → StandsAt o at (applied (prim p) args) (argument_path i (length args)) a
  of_case : {e : TermTree} {alts : Alts} → StandsAt o at (case_of e alts) (zero ∷ []) e
  -- not in heads: the fields of a constructor and the elements of a vector
  of_con : (c : ℕ) {it : Constructor} (args : List Arg) (i : ℕ) {a : TermTree}
      → HasLets at.mode → con_at o.program.datas c ≡ Some it
      → length args ≡ asked_for (con_type it) → slice_get args i ≡ Some (OfTerm a)
      → StandsAt o at (applied (con c) args) (argument_path i (length args)) a
  of_vector : {t : TypeTree} {es : Terms} {i : ℕ} {a : TermTree}
      → HasLets at.mode → element_at es i ≡ Some a → StandsAt o at (vec_lit t es) (i ∷ []) a

-- and where those of a call stand
pub data StandsInCall (at : Spot) : TermTree → List ℕ → TermTree → Type 0 where
  of_global : (d : ℕ) (args : List Arg) (i : ℕ) {a : TermTree}
      → HasLets at.mode → slice_get args i ≡ Some (OfTerm a)
      → StandsInCall at (applied (global d) args) (argument_path i (length args)) a
  of_made : (m : ℕ) (args : List Arg) (i : ℕ) {a : TermTree}
      → HasLets at.mode → slice_get args i ≡ Some (OfTerm a)
      → StandsInCall at (applied (made m) args) (argument_path i (length args)) a

-- an operand that needs a name: no variable, and of a named type
pub record NeedsName (o : Origins) (at : Spot) (x : TermTree) : Type 0 where
  pub no_variable : IsVariable x → ⊥
  pub type : TypeTree
  pub has : HasType (setting_at o) [] at.vars x type
  pub named : IsNamed o.program.datas at.mode type

abbrev pub IsOperand : Origins → Spot → TermTree → List ℕ → TermTree → Type 0
IsOperand o at e path x = StandsAt o at e path x × NeedsName o at x

abbrev pub IsOperandOfCall : Origins → Spot → TermTree → List ℕ → TermTree → Type 0
IsOperandOfCall o at e path x = StandsInCall at e path x × NeedsName o at x

-- of those that need a name the first
pub record IsFirstOperand
    (o : Origins) (at : Spot) (e : TermTree) (path : List ℕ) (x : TermTree) : Type 0
  where
    pub is : IsOperand o at e path x
    pub first : (q : List ℕ) (y : TermTree) → IsOperand o at e q y → IsEarlier q path → ⊥

pub record IsFirstOfCall
    (o : Origins) (at : Spot) (e : TermTree) (path : List ℕ) (x : TermTree) : Type 0
  where
    pub is : IsOperandOfCall o at e path x
    pub first : (q : List ℕ) (y : TermTree) → IsOperandOfCall o at e q y → IsEarlier q path → ⊥

-- in no part of the term to which arguments are given, and in no call, an operand needs a name
pub record NoneNeedsName (o : Origins) (at : Spot) (e : TermTree) : Type 0 where
  pub in_core : (core : TermTree) (rest : List Arg) (path : List ℕ) (x : TermTree)
      → e ≡ applied core rest → IsOperand o at core path x → ⊥
  pub in_call : (path : List ℕ) (x : TermTree) → IsOperandOfCall o at e path x → ⊥

-- the term with a name of this type for the operand at the path
abbrev pub with_name : TermTree → List ℕ → TypeTree → TermTree → TermTree
with_name e path t x =
    letrec (bind t (shift x 0 1) no_bindings) (with_part (shift e 0 1) path (var 0))

-- the first operand that needs a name gets it
pub data OfOperands (o : Origins) (at : Spot) : Rule → TermTree → TermTree → Type 0 where
  anf : {e x : TermTree} {path : List ℕ} {t : TypeTree}
      → IsFirstOperand o at e path x → Finds (setting_at o) [] at.vars x t
      → OfOperands o at Anf e (with_name e path t x)
