-- What is promised of places at rest.
use Rattle.std.specs.Prelude.{◌≡◌, ◌⊎◌, ℕ, ◌<◌, true, Bool, List, [], length, Some, reverse}
use Rattle.std.specs.List.{slice_get, AllByRecursion}
use Rattle.chw_types.specs.declared.kind.Kind.{Kind}
use Rattle.chw_types.specs.declared.kind.Kind.TheVariants.{Nat, Val}
use Rattle.chw_types.specs.declared.kind.Scalar.{Scalar}
use Rattle.chw_types.specs.Kinds.{KindsOf}
use Rattle.chw_types.specs.TypeTree.{TypeTree, nat_lit}
use Rattle.chw_types.specs.TypeView.{trees_of}
use Rattle.chw_terms.specs.Constructors.{Constructor, con_at}
use Rattle.chw_terms.specs.Evaluated.{evaluated}
use Rattle.chw_terms.specs.Occurs.{occurs}
use Rattle.chw_terms.specs.declared.scene.Mode.TheVariants.{V, K}
use Rattle.chw_terms.specs.declared.term.Arg.{Arg}
use Rattle.chw_terms.specs.declared.term.Pattern.TheVariants.{Default}
use Rattle.chw_terms.specs.TermTree.{TermTree, global, made, lam, ty_lam, letrec, con, lit, case_of}
use Rattle.chw_terms.specs.TermTree.{Group, Alts, no_alts, alt}
use Rattle.chw_terms.specs.TermSize.{tree_size}
use Rattle.chw_terms.specs.TermView.{applied}
use Rattle.chw_terms.specs.Unrolled.{at_types}
use Rattle.chw_typing.specs.Given.{AsksForNone, types_then}
use Rattle.chw_typing.specs.Programs.{IsSound}
use Rattle.chw_typing.specs.Scopes.{Setting, HasKind, AreTermTypes, declared}
use Rattle.chw_typing.specs.Typing.{HasType}
use Rattle.graph_order.specs.References.{HasNoCycle}
use Rattle.normal_forms.specs.Values.{BindingRefers}
use Rattle.rewriting.specs.Active.{Below}
use Rattle.rewriting.specs.Named.{IsNamed}
use Rattle.rewriting.specs.Origins.{Origins, setting_at}
use Rattle.rewriting.specs.Operands.{StandsAt, StandsInCall, NoneNeedsName}
use Rattle.rewriting.specs.Shapes.{IsOfHead, IsVariable, IsLet, NoLetIn}
use Rattle.rewriting.specs.Spots.{Spot, HasLets}
use Rattle.rest_places.specs.Rest.{IsRestPlace}
use Rattle.rest_places.specs.Spines.{IsSpine}

-- a term whose type takes no arguments is one of these spines
abbrev pub SpineView : Type 0
SpineView =
    (s : Setting) (vars : List TypeTree) (e : TermTree) (t : TypeTree)
    → IsSound s → AreTermTypes s [] vars → HasType s [] vars e t → AsksForNone t
    → IsSpine s vars t e

-- a lambda, a type lambda, a letrec or a case: an argument moves into it
abbrev pub IsMovedInto : TermTree → Type 0
IsMovedInto (lam t e) = Unit {0}
IsMovedInto (ty_lam k e) = Unit {0}
IsMovedInto (letrec g e) = Unit {0}
IsMovedInto (case_of e alts) = Unit {0}
IsMovedInto e = ⊥

-- at rest it has no arguments
abbrev pub NotApplied : Type 0
NotApplied =
    (o : Origins) (at : Spot) (h : TermTree) (args : List Arg) (t : TypeTree)
    → IsRestPlace o at (applied h args) t → IsMovedInto h → args ≡ []

-- in heads and in constants no head is a definition, or a made definition
abbrev pub NoDefinition : Type 0
NoDefinition =
    (o : Origins) (at : Spot) (d : ℕ) (args : List Arg) (t : TypeTree)
    → (HasLets at.mode → ⊥) → IsRestPlace o at (applied (global d) args) t → ⊥

abbrev pub NoMadeDefinition : Type 0
NoMadeDefinition =
    (o : Origins) (at : Spot) (m : ℕ) (args : List Arg) (t : TypeTree)
    → (HasLets at.mode → ⊥) → IsRestPlace o at (applied (made m) args) t → ⊥

-- where values and circuits are built each binding has a named type
abbrev pub BindingsAreNamed : Type 0
BindingsAreNamed =
    (o : Origins) (at : Spot) (g : Group) (e : TermTree) (t : TypeTree)
    → HasLets at.mode → IsRestPlace o at (letrec g e) t
    → AllByRecursion (IsNamed o.program.datas at.mode) (declared g)

-- in constants there is no letrec
abbrev pub NoConstantLetrec : Type 0
NoConstantLetrec =
    (o : Origins) (at : Spot) (g : Group) (e : TermTree) (t : TypeTree)
    → at.mode ≡ K → IsRestPlace o at (letrec g e) t → ⊥

-- but in heads no right side of a letrec is one, and its body isn't
abbrev pub NoLetInSides : Type 0
NoLetInSides =
    (o : Origins) (at : Spot) (g : Group) (e : TermTree) (t : TypeTree)
    → (IsOfHead at.mode → ⊥) → IsRestPlace o at (letrec g e) t → NoLetIn g

abbrev pub NoLetInBody : Type 0
NoLetInBody =
    (o : Origins) (at : Spot) (g : Group) (e : TermTree) (t : TypeTree)
    → (IsOfHead at.mode → ⊥) → IsRestPlace o at (letrec g e) t → IsLet e → ⊥

-- where values are built no binding leads back to itself
abbrev pub NoCycle : Type 0
NoCycle =
    (o : Origins) (at : Spot) (g : Group) (e : TermTree) (t : TypeTree)
    → (at.mode ≡ V) ⊎ (at.mode ≡ K) → IsRestPlace o at (letrec g e) t
    → HasNoCycle (BindingRefers g)

-- what is below a place at rest is at rest
abbrev pub RestBelow : Type 0
RestBelow =
    (o : Origins) (at at' : Spot) (e x : TermTree) (t : TypeTree) (path : List ℕ)
    → IsRestPlace o at e t → Below o at e path at' x → (u : TypeTree) × IsRestPlace o at' x u

-- and smaller
abbrev pub BelowIsSmaller : Type 0
BelowIsSmaller =
    (o : Origins) (at at' : Spot) (e x : TermTree) (path : List ℕ)
    → Below o at e path at' x → tree_size x < tree_size e

-- a place at rest is one with each type of its term
abbrev pub RestAtEachType : Type 0
RestAtEachType =
    (o : Origins) (at : Spot) (e : TermTree) (t u : TypeTree)
    → IsRestPlace o at e t → HasType (setting_at o) [] at.vars e u → IsRestPlace o at e u

-- what a case looks at is no constructor with its arguments, no literal, no letrec, and no case of
-- a type that isn't named; and its alternatives are more than a default
pub record LooksAtUnknown (o : Origins) (at : Spot) (e : TermTree) (alts : Alts) : Type 0 where
  pub no_constructor : (c : ℕ) (it : Constructor) (types : List TypeTree) (es : List TermTree)
      → con_at o.program.datas c ≡ Some it → length types ≡ length it.it.params
      → length es ≡ length it.decl.fields → e ≡ applied (con c) (types_then types es) → ⊥
  pub no_literal : (r : Scalar) (bits : List Bool) → e ≡ lit r bits → ⊥
  pub no_letrec : IsLet e → ⊥
  pub no_case : (f : TermTree) (inner : Alts) (u : TypeTree)
      → e ≡ case_of f inner → HasType (setting_at o) [] at.vars e u
      → (IsNamed o.program.datas at.mode u → ⊥) → ⊥
  pub no_lone_default : (f : TermTree) → alts ≡ alt Default f no_alts → ⊥

-- so a case at rest
abbrev pub CaseOnKnown : Type 0
CaseOnKnown =
    (o : Origins) (at : Spot) (e : TermTree) (alts : Alts) (t : TypeTree)
    → IsRestPlace o at (case_of e alts) t → LooksAtUnknown o at e alts

-- a closed natural is a number
abbrev pub ClosedIsNumber : Type 0
ClosedIsNumber =
    (s : Setting) (n : TypeTree) → IsSound s → HasKind s [] n Nat
    → (k : ℕ) × (evaluated n ≡ nat_lit k)

-- so is a natural of these variables, where closed types of their kinds are put
abbrev pub PutIsNumber : Type 0
PutIsNumber =
    (s : Setting) (ks : List Kind) (n : TypeTree) (types : List TypeTree)
    → IsSound s → HasKind s (reverse ks) n Nat → KindsOf s.datas s.domains [] (trees_of types) ks
    → (k : ℕ) × (at_types types n ≡ nat_lit k)

-- a variable that occurs in a term of a type of values has such a type
abbrev pub ValuesHoldValues : Type 0
ValuesHoldValues =
    (s : Setting) (kinds : List Kind) (vars : List TypeTree) (e : TermTree) (t : TypeTree)
    (x : ℕ) (u : TypeTree)
    → IsSound s → AreTermTypes s kinds vars → HasType s kinds vars e t → HasKind s kinds t Val
    → occurs e x ≡ true → slice_get vars x ≡ Some u → HasKind s kinds u Val

-- at rest no operand needs a name
abbrev pub NoneNeedsNames : Type 0
NoneNeedsNames =
    (o : Origins) (at : Spot) (e : TermTree) (t : TypeTree)
    → IsRestPlace o at e t → NoneNeedsName o at e

-- so an operand of a named type is a variable, of a core and of a call
abbrev pub OperandsAreVariables : Type 0
OperandsAreVariables =
    (o : Origins) (at : Spot) (core : TermTree) (rest : List Arg) (t : TypeTree)
    (path : List ℕ) (x : TermTree) (u : TypeTree)
    → IsRestPlace o at (applied core rest) t → StandsAt o at core path x
    → HasType (setting_at o) [] at.vars x u → IsNamed o.program.datas at.mode u → IsVariable x

abbrev pub CallOperandsAreVariables : Type 0
CallOperandsAreVariables =
    (o : Origins) (at : Spot) (e : TermTree) (t : TypeTree)
    (path : List ℕ) (x : TermTree) (u : TypeTree)
    → IsRestPlace o at e t → StandsInCall at e path x
    → HasType (setting_at o) [] at.vars x u → IsNamed o.program.datas at.mode u → IsVariable x

-- at a result place there is a variable or a letrec
abbrev pub ResultIsNamed : Type 0
ResultIsNamed =
    (o : Origins) (at : Spot) (e : TermTree) (t : TypeTree)
    → HasLets at.mode → at.result ≡ true → IsRestPlace o at e t → IsVariable e ⊎ IsLet e
