-- Small shapes that rules look for or write.
use Rattle.std.specs.Prelude.{◌≡◌, ℕ, zero, suc, ◌+◌, ◌-◌, Bool, true, false}
use Rattle.std.specs.Prelude.{List, [], ◌∷◌, map, length}
use Rattle.chw_base.specs.declared.index.ConId.{ConId}
use Rattle.chw_types.specs.TypeTree.{TypeTree}
use Rattle.chw_types.specs.TypeMoves.{Renaming, raised}
use Rattle.chw_prims.specs.declared.prim.Primitive.{Primitive as Prim}
use Rattle.chw_prims.specs.declared.prim.Primitive.TheVariants.{Fmap, Ap, Pure}
use Rattle.chw_terms.specs.declared.scene.Mode.{Mode}
use Rattle.chw_terms.specs.declared.scene.Mode.TheVariants.{C, HV, HC}
use Rattle.chw_terms.specs.declared.term.Arg.{Arg}
use Rattle.chw_terms.specs.declared.term.Pattern.{Pattern}
use Rattle.chw_terms.specs.declared.term.Pattern.TheVariants.{OfCon, Default}
use Rattle.chw_terms.specs.Occurs.{occurs}
use Rattle.chw_terms.specs.TermMoves.{rename_group, rename_alts, shift}
use Rattle.chw_terms.specs.TermTree.{TermTree, var, made, lam, letrec, prim, case_of}
use Rattle.chw_terms.specs.TermTree.{Group, no_bindings, bind, Alts, no_alts, alt}
use Rattle.chw_terms.specs.TermView.{applied}
use Rattle.chw_terms.specs.Unrolled.{each, named}
use Rattle.chw_typing.specs.Alternatives.{Hides}
use Rattle.chw_typing.specs.Groups.{rename_arg}
use Rattle.chw_typing.specs.Given.{types_then}
use Rattle.chw_typing.specs.Paths.{Branch}

-- the place is the head of a value or of a circuit
abbrev pub IsOfHead : Mode → Type 0
IsOfHead HV = Unit {0}
IsOfHead HC = Unit {0}
IsOfHead _ = ⊥

-- the place is that of a circuit, or the head of one
abbrev pub IsOfCircuit : Mode → Type 0
IsOfCircuit C = Unit {0}
IsOfCircuit HC = Unit {0}
IsOfCircuit _ = ⊥

abbrev pub IsVariable : TermTree → Type 0
IsVariable (var x) = Unit {0}
IsVariable e = ⊥

abbrev pub IsLet : TermTree → Type 0
IsLet (letrec g e) = Unit {0}
IsLet e = ⊥

-- the bare name of a made definition
abbrev pub IsMade : TermTree → Type 0
IsMade (made m) = Unit {0}
IsMade e = ⊥

-- no variable occurs free
abbrev pub IsClosed : TermTree → Type 0
IsClosed e = (x : ℕ) → occurs e x ≡ false

-- no right side is a letrec
abbrev pub NoLetIn : Group → Type 0
NoLetIn no_bindings = Unit {0}
NoLetIn (bind t e g) = (IsLet e → ⊥) × NoLetIn g

-- how many lambdas lead
abbrev pub leading_lambdas : TermTree → ℕ
leading_lambdas (lam t e) = suc (leading_lambdas e)
leading_lambdas e = 0

-- the letrec; the body alone where nothing is bound
abbrev pub or_body : Group → TermTree → TermTree
or_body no_bindings e = e
or_body g e = letrec g e

-- room for so many more variables below those of the c innermost binders, in a group, in
-- alternatives, and in arguments
abbrev pub shift_group : Group → ℕ → ℕ → Group
shift_group g c by = rename_group g (raised c by)

abbrev pub shift_alts : Alts → ℕ → ℕ → Alts
shift_alts alts c by = rename_alts alts (raised c by)

abbrev pub shift_args : List Arg → ℕ → ℕ → List Arg
shift_args args c by = map (rename_arg (raised c by)) args

-- the bindings that are marked
abbrev pub marked : List Bool → Group → Group
marked (true ∷ marks) (bind t e g) = bind t e (marked marks g)
marked (false ∷ marks) (bind t e g) = marked marks g
marked _ _ = no_bindings

-- where variables come when those that aren't marked go; the first mark is that of the innermost
abbrev pub closed_up : List Bool → Renaming
closed_up [] x = x
closed_up (true ∷ marks) zero = zero
closed_up (true ∷ marks) (suc x) = suc (closed_up marks x)
closed_up (false ∷ marks) zero = zero
closed_up (false ∷ marks) (suc x) = closed_up marks x

-- the first alternative that takes what this pattern is for
pub data IsTakenBy (p : Pattern) : Alts → Branch → Type 0 where
  by_first : {q : Pattern} {e : TermTree} {more : Alts}
      → Hides q p → IsTakenBy p (alt q e more) (record { pattern = q; body = e })
  by_later : {q : Pattern} {e : TermTree} {more : Alts} {b : Branch}
      → (Hides q p → ⊥) → IsTakenBy p more b → IsTakenBy p (alt q e more) b

-- an alternative's body, where the names of its pattern stand for these terms of these types: a let
-- where there are any
abbrev pub with_fields : Pattern → List TypeTree → List TermTree → TermTree → TermTree
with_fields (OfCon c n) ts es e = or_body (named ts (map (λ a. shift a 0 (length es)) es)) e
with_fields _ ts es e = e

-- of a variable from outside of n names the n fields of this constructor, for these names
abbrev pub projections : ConId → ℕ → ℕ → List TermTree
projections c n x =
    each n (λ i. case_of (var (x + n)) (alt (OfCon c n) (var (n - 1 - i)) no_alts))

-- no alternatives, or a default alone
abbrev pub IsDefaultOrNone : Alts → Type 0
IsDefaultOrNone no_alts = Unit {0}
IsDefaultOrNone (alt Default e no_alts) = Unit {0}
IsDefaultOrNone _ = ⊥

-- `fmap @d @a @b f s`, `ap @d @a @b u s`, `pure @d @a v`
abbrev pub fmap_of : TypeTree → TypeTree → TypeTree → TermTree → TermTree → TermTree
fmap_of d a b f s = applied (prim Fmap) (types_then (d ∷ a ∷ b ∷ []) (f ∷ s ∷ []))

abbrev pub ap_of : TypeTree → TypeTree → TypeTree → TermTree → TermTree → TermTree
ap_of d a b u s = applied (prim Ap) (types_then (d ∷ a ∷ b ∷ []) (u ∷ s ∷ []))

abbrev pub pure_of : TypeTree → TypeTree → TermTree → TermTree
pure_of d a v = applied (prim Pure) (types_then (d ∷ a ∷ []) (v ∷ []))
