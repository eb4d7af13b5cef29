-- Quiet terms by their heads and their arguments.
use Rattle.std.proofs.Common.{◌≡◌, ◌⊎◌, sym, refl, subst, ℕ, List, [], ◌∷◌}
use Rattle.chw_types.specs.TypeTree.{TypeTree}
use Rattle.chw_prims.specs.declared.prim.Primitive.{Primitive as Prim}
use Rattle.chw_prims.specs.declared.prim.Primitive.TheVariants.{Fmap, Ap}
use Rattle.chw_prims.specs.Schemas.{row_of}
use Rattle.chw_terms.specs.declared.term.Arg.{Arg}
use Rattle.chw_terms.specs.declared.term.Arg.TheVariants.{OfTerm, OfType}
use Rattle.chw_terms.specs.TermTree.{TermTree, var, made, con, prim, lit, vec_lit, case_of, Alts}
use Rattle.chw_terms.specs.TermView.{applied}
use Rattle.rewriting.specs.Shapes.{IsVariable, IsMade}
use Rattle.rewriting.proofs.Spines.{IsBare, head_of, args_of}
use Rattle.quiet_sides.specs.Quiet.{EachTerm, EachElement, OnVariables, IsWritten, written_literal, written_constructor, written_vector, IsPlainArgument, IsPlainRow, IsLifted, lifted_on_one, lifted_on_more, IsProjection, IsChoice, IsQuiet, of_variable, of_literal, of_call, of_constructor, of_vector, of_prim, of_lifted, of_case}
use Rattle.quiet_sides.proofs.Forms.{back_applied}

-- `fmap` of a made definition, or `ap` of one that is lifted, on a variable
pub data LiftsBy (p : Prim) (f : TermTree) : Type 0 where
  by_fmap : p ≡ Fmap → IsMade f → LiftsBy p f
  by_ap : p ≡ Ap → IsLifted f → LiftsBy p f

pub record Lifts (p : Prim) (args : List Arg) : Type 0 where
  pub dom : TypeTree
  pub from : TypeTree
  pub to : TypeTree
  pub function : TermTree
  pub signal : TermTree
  pub are : args ≡ OfType dom ∷ OfType from ∷ OfType to ∷ OfTerm function ∷ OfTerm signal ∷ []
  pub name : IsVariable signal
  pub by : LiftsBy p function

pub data QuietPrim (p : Prim) (args : List Arg) : Type 0 where
  plain : IsPlainRow (row_of p) → EachTerm (IsPlainArgument p) args → QuietPrim p args
  lifting : Lifts p args → QuietPrim p args

abbrev pub QuietAlts : Alts → Type 0
QuietAlts alts = IsProjection alts ⊎ IsChoice alts

abbrev pub QuietSpine : TermTree → List Arg → Type 0
QuietSpine (var x) args = args ≡ []
QuietSpine (lit s b) args = args ≡ []
QuietSpine (made m) args = OnVariables args
QuietSpine (con c) args = OnVariables args
QuietSpine (prim p) args = QuietPrim p args
QuietSpine (vec_lit t es) args = (args ≡ []) × EachElement IsVariable es
QuietSpine (case_of e alts) args = (args ≡ []) × IsVariable e × QuietAlts alts
QuietSpine _ args = ⊥

abbrev pub SpineIs : (TermTree → List Arg → Type 0) → TermTree → Type 0
SpineIs P e = P (head_of e) (args_of e)

pub prim_bare : (p : Prim) → IsBare (prim p)
prim_bare p = record { itself = refl; alone = refl }

pub con_bare : (c : ℕ) → IsBare (con c)
con_bare c = record { itself = refl; alone = refl }

pub made_bare : (m : ℕ) → IsBare (made m)
made_bare m = record { itself = refl; alone = refl }

pub lifted_spine : {e : TermTree} → IsLifted e → (p : Prim) × (args : List Arg) × (e ≡ applied (prim p) args) × Lifts p args
lifted_spine (lifted_on_one {d = d} {a = a} {b = b} {m = m} {x = x}) =
    (Fmap, OfType d ∷ OfType a ∷ OfType b ∷ OfTerm (made m) ∷ OfTerm (var x) ∷ [], refl, record { dom = d; from = a; to = b; function = made m; signal = var x; are = refl; name = tt; by = by_fmap refl tt })
lifted_spine (lifted_on_more {d = d} {a = a} {b = b} {u = u} {x = x} l) =
    (Ap, OfType d ∷ OfType a ∷ OfType b ∷ OfTerm u ∷ OfTerm (var x) ∷ [], refl, record { dom = d; from = a; to = b; function = u; signal = var x; are = refl; name = tt; by = by_ap refl l })

pub lifted_quiet : {e : TermTree} → IsLifted e → SpineIs QuietSpine e
lifted_quiet {e} l =
    let at = lifted_spine l in
    subst (SpineIs QuietSpine) (sym at.2) (back_applied QuietSpine (prim at.0) at.1 (prim_bare at.0) (lifting at.3))

pub quiet_spine : {e : TermTree} → IsQuiet e → SpineIs QuietSpine e
quiet_spine of_variable = refl
quiet_spine of_literal = refl
quiet_spine (of_call m args h) = back_applied QuietSpine (made m) args (made_bare m) h
quiet_spine (of_constructor c args h) = back_applied QuietSpine (con c) args (con_bare c) h
quiet_spine (of_vector h) = (refl, h)
quiet_spine (of_prim p args r h) = back_applied QuietSpine (prim p) args (prim_bare p) (plain r h)
quiet_spine (of_lifted l) = lifted_quiet l
quiet_spine (of_case h) = (refl, tt, h)

-- constants that are written out
abbrev pub WrittenSpine : TermTree → List Arg → Type 0
WrittenSpine (lit s b) args = args ≡ []
WrittenSpine (con c) args = EachTerm (λ i a. IsWritten a) args
WrittenSpine (vec_lit t es) args = (args ≡ []) × EachElement IsWritten es
WrittenSpine _ args = ⊥

pub written_spine : {e : TermTree} → IsWritten e → SpineIs WrittenSpine e
written_spine written_literal = refl
written_spine (written_constructor c args h) = back_applied WrittenSpine (con c) args (con_bare c) h
written_spine (written_vector h) = (refl, h)

-- an argument of a quiet primitive
pub data QuietArgument (p : Prim) (i : ℕ) (a : TermTree) : Type 0 where
  named : IsVariable a → QuietArgument p i a
  content : IsPlainRow (row_of p) → IsPlainArgument p i a → QuietArgument p i a
  function : i ≡ 3 → LiftsBy p a → QuietArgument p i a
