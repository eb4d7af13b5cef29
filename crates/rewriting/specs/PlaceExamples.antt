-- Worked examples of active places.
use Rattle.std.specs.Prelude.{ℕ, true, false, List, [], ◌∷◌}
use Rattle.chw_types.specs.declared.kind.Scalar.TheVariants.{U}
use Rattle.chw_types.specs.TypeTree.{TypeTree, nat_lit, domain, fun, signal}
use Rattle.chw_prims.specs.declared.prim.Primitive.TheVariants.{AddU, Ap, Register}
use Rattle.chw_prims.specs.Schemas.{bool}
use Rattle.chw_terms.specs.declared.scene.Mode.{Mode}
use Rattle.chw_terms.specs.declared.scene.Mode.TheVariants.{V, C, HC, K}
use Rattle.chw_terms.specs.declared.term.Arg.TheVariants.{OfTerm, OfType}
use Rattle.chw_terms.specs.declared.term.Pattern.TheVariants.{OfLit, Default}
use Rattle.chw_terms.specs.TermTree.{TermTree, var, lam, letrec, con, prim, lit, case_of}
use Rattle.chw_terms.specs.TermTree.{no_bindings, bind, Alts, no_alts, alt}
use Rattle.chw_terms.specs.TermView.{applied}
use Rattle.chw_typing.specs.Examples.{five}
use Rattle.rewriting.specs.SceneExamples.{bare, bits}
use Rattle.rewriting.specs.Active.{Below, IsActive}
use Rattle.rewriting.specs.Spots.{Spot, spot}

-- one step below a body of this mode, with variables of these types in scope
abbrev pub FirstBelow : Mode → List TypeTree → TermTree → List ℕ → Spot → TermTree → Type 0
FirstBelow m vars e p at' x = Below bare (spot m true vars) e p at' x

-- nothing is active there
abbrev pub NothingBelow : Mode → List TypeTree → TermTree → List ℕ → Type 0
NothingBelow m vars e p = (at' : Spot) (x : TermTree) → FirstBelow m vars e p at' x → ⊥

-- `letrec { x : Bool = True; f : Bool -> Bool = \(y : Bool) . y; } in x`
abbrev pub two_sides : TermTree
two_sides =
    letrec
    (bind bool (con 1) (bind (fun bool bool) (lam bool (var 0)) no_bindings))
    (var 1)

-- in V the side of x is below it, since `Bool` is named
abbrev pub NamedSide : Type 0
NamedSide =
    FirstBelow V [] two_sides (0 ∷ []) (spot V false (fun bool bool ∷ bool ∷ [])) (con 1)

-- the side of f isn't: a function isn't named
abbrev pub UnnamedSide : Type 0
UnnamedSide = NothingBelow V [] two_sides (1 ∷ [])

-- and the body is below it, as a result place
abbrev pub LetBody : Type 0
LetBody = FirstBelow V [] two_sides (2 ∷ []) (spot V true (fun bool bool ∷ bool ∷ [])) (var 1)

-- `Signal A (Bool -> Bool)`
abbrev pub functions : TypeTree
functions = signal (domain 0) (fun bool bool)

-- `5u8 -> s; _ -> s;`
abbrev pub on_five : Alts
on_five = alt (OfLit U five) (var 0) (alt Default (var 0) no_alts)

-- `case 5u8 of { 5u8 -> s; _ -> s; }` in C: its scrutinee is a constant
abbrev pub ConstantScrutinee : Type 0
ConstantScrutinee =
    FirstBelow C (bits ∷ []) (case_of (lit U five) on_five) (0 ∷ [])
    (spot K false (bits ∷ [])) (lit U five)

-- `ap @A @Bool @Bool u s` in C: the functions are demanded, and stand at the head of a circuit
abbrev pub mapped : TermTree
mapped =
    applied (prim Ap)
    (OfType (domain 0) ∷ OfType bool ∷ OfType bool ∷ OfTerm (var 1) ∷ OfTerm (var 0) ∷ [])

abbrev pub DemandedFunctions : Type 0
DemandedFunctions =
    FirstBelow C (bits ∷ functions ∷ []) mapped (0 ∷ 1 ∷ [])
    (spot HC false (bits ∷ functions ∷ [])) (var 1)

-- `register @A @Bool True s` in C: what it begins with is a constant
abbrev pub delayed : TermTree
delayed =
    applied (prim Register)
    (OfType (domain 0) ∷ OfType bool ∷ OfTerm (con 1) ∷ OfTerm (var 0) ∷ [])

abbrev pub FirstContent : Type 0
FirstContent =
    FirstBelow C (bits ∷ []) delayed (0 ∷ 1 ∷ []) (spot K false (bits ∷ [])) (con 1)

-- `addU @8 5u8 5u8`
abbrev pub sum_of_fives : TermTree
sum_of_fives =
    applied (prim AddU)
    (OfType (nat_lit 8) ∷ OfTerm (lit U five) ∷ OfTerm (lit U five) ∷ [])

-- in K its arguments are active
abbrev pub ConstantArgument : Type 0
ConstantArgument =
    FirstBelow K [] sum_of_fives (1 ∷ []) (spot K false []) (lit U five)

-- in V nothing below it is
abbrev pub NoWordsInValues : Type 0
NoWordsInValues = (p : List ℕ) → NothingBelow V [] sum_of_fives p

-- `register @A @Bool (case True of { _ -> False; }) s` in C: the scrutinee is two steps below
abbrev pub TwoSteps : Type 0
TwoSteps =
    IsActive bare (spot C true (bits ∷ []))
    (applied (prim Register)
    (OfType (domain 0) ∷ OfType bool ∷ OfTerm (case_of (con 1) (alt Default (con 0) no_alts))
    ∷ OfTerm (var 0) ∷ []))
    (0 ∷ 1 ∷ 0 ∷ []) (spot K false (bits ∷ [])) (con 1)
