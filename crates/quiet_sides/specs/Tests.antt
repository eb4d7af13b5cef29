-- What the parts of the test find: the same by the head, the arguments, the elements and the
-- alternatives as they are in memory.
use Rattle.std.specs.Prelude.{◌≡◌, ◌⊎◌, ℕ, List, [], ◌∷◌, Some}
use Rattle.std.specs.List.{slice_get}
use Rattle.chw_prims.specs.declared.prim.Primitive.{Primitive as Prim}
use Rattle.chw_prims.specs.declared.prim.Primitive.TheVariants.{Fmap, Ap}
use Rattle.chw_prims.specs.Schemas.{row_of}
use Rattle.chw_terms.specs.declared.term.Alt.{Alt}
use Rattle.chw_terms.specs.declared.term.Arg.{Arg}
use Rattle.chw_terms.specs.declared.term.Arg.TheVariants.{OfTerm, OfType}
use Rattle.chw_terms.specs.declared.term.Head.{Head}
use Rattle.chw_terms.specs.declared.term.Head.TheVariants.{Var, Made, Con, PrimOf, Lit}
use Rattle.chw_terms.specs.declared.term.Head.TheVariants.{VecLit, Case}
use Rattle.chw_terms.specs.TermTree.{TermTree}
use Rattle.chw_terms.specs.TermView.{alts_of}
use Rattle.rewriting.specs.Shapes.{IsVariable, IsMade}
use Rattle.quiet_sides.specs.Quiet.{IsWritten, IsPlainArgument, IsPlainRow, IsLifted}
use Rattle.quiet_sides.specs.Quiet.{IsProjection, IsOfMany}

-- this holds of each item, by its number
abbrev pub EachItem : {X : Type 0} → (ℕ → X → Type 0) → List X → Type 0
EachItem {X} H xs = (i : ℕ) (x : X) → slice_get xs i ≡ Some x → H i x

-- this holds of the argument, if it is a term
abbrev pub IfTerm : (TermTree → Type 0) → Arg → Type 0
IfTerm P (OfTerm a) = P a
IfTerm P (OfType t) = Unit {0}

-- each term among them is a variable
abbrev pub AreNames : List Arg → Type 0
AreNames args = EachItem (λ i a. IfTerm IsVariable a) args

-- each term among them is a constant that is written out
abbrev pub AreWritten : List Arg → Type 0
AreWritten args = EachItem (λ i a. IfTerm IsWritten a) args

-- each term among them is an argument as the primitive may have it
abbrev pub ArePlain : Prim → List Arg → Type 0
ArePlain p args = EachItem (λ i a. IfTerm (IsPlainArgument p i) a) args

-- each element is a variable
abbrev pub EachVariable : List TermTree → Type 0
EachVariable es = EachItem (λ i e. IsVariable e) es

-- each element is a constant that is written out
abbrev pub EachWritten : List TermTree → Type 0
EachWritten es = EachItem (λ i e. IsWritten e) es

-- each alternative gives a variable
abbrev pub GiveVariables : List Alt → Type 0
GiveVariables alts = EachItem (λ i a. IsVariable a.body) alts

-- three types, a function of this sort, and a variable
abbrev pub LiftsOn : (TermTree → Type 0) → List Arg → Type 0
LiftsOn P (OfType d ∷ OfType a ∷ OfType b ∷ OfTerm f ∷ OfTerm s ∷ []) = P f × IsVariable s
LiftsOn P _ = ⊥

-- `fmap` of a made definition, or `ap` of one that is lifted, on a variable
abbrev pub IsLifting : Prim → List Arg → Type 0
IsLifting Fmap args = LiftsOn IsMade args
IsLifting Ap args = LiftsOn IsLifted args
IsLifting _ args = ⊥

abbrev pub QuietAlternatives : List Alt → Type 0
QuietAlternatives alts =
    IsProjection (alts_of alts) ⊎ (IsOfMany (alts_of alts) × GiveVariables alts)

-- a constant that is written out
abbrev pub WrittenHead : Head → List Arg → Type 0
WrittenHead (Lit s b) args = args ≡ []
WrittenHead (Con c) args = AreWritten args
WrittenHead (VecLit t es) args = (args ≡ []) × EachWritten es.items
WrittenHead _ args = ⊥

-- a quiet term
abbrev pub QuietHead : Head → List Arg → Type 0
QuietHead (Var x) args = args ≡ []
QuietHead (Lit s b) args = args ≡ []
QuietHead (Made m) args = AreNames args
QuietHead (Con c) args = AreNames args
QuietHead (PrimOf p) args = IsLifting p args ⊎ (IsPlainRow (row_of p) × ArePlain p args)
QuietHead (VecLit t es) args = (args ≡ []) × EachVariable es.items
QuietHead (Case e alts) args =
    (args ≡ []) × (IsVariable e.value × QuietAlternatives alts.items)
QuietHead _ args = ⊥
