-- What is promised of rules on names: what they make of a typed term acts as the term. The types
-- that they write in a letrec don't matter.
use Rattle.std.specs.Prelude.{◌≡◌, ◌⊎◌, ℕ, ◌≤◌, min, Bool, List, [], ◌∷◌, Some, slice_get}
use Rattle.chw_bits.specs.Bits.{number_of}
use Rattle.chw_types.specs.declared.kind.Kind.{Kind}
use Rattle.chw_types.specs.declared.kind.Scalar.TheVariants.{U}
use Rattle.chw_types.specs.TypeTree.{TypeTree, nat_lit}
use Rattle.chw_types.specs.Polynomials.{greatest}
use Rattle.chw_prims.specs.declared.prim.Primitive.{Primitive as Prim}
use Rattle.chw_prims.specs.declared.prim.Primitive.TheVariants.{VGet, VGetC, VAt}
use Rattle.chw_terms.specs.declared.program.Def.{Def}
use Rattle.chw_terms.specs.declared.program.Program.{Program}
use Rattle.chw_terms.specs.TermMoves.{shift}
use Rattle.chw_terms.specs.Evaluated.{evaluated}
use Rattle.chw_terms.specs.TermTree.{TermTree, var, global, made, letrec, prim, lit, vec_lit, Terms}
use Rattle.chw_terms.specs.TermTree.{no_bindings, bind}
use Rattle.chw_terms.specs.TermView.{applied}
use Rattle.chw_typing.specs.HeadTypes.{from_each}
use Rattle.chw_typing.specs.Scopes.{AreTermTypes}
use Rattle.chw_typing.specs.Typing.{HasType}
use Rattle.chw_typing.specs.Given.{types_then}
use Rattle.chw_typing.specs.Paths.{element_at}
use Rattle.rewriting.specs.Spots.{Spot}
use Rattle.rewriting.specs.Operands.{StandsAt, StandsInCall, with_name}
use Rattle.rewriting.specs.Shapes.{fmap_of}
use Rattle.rewriting.specs.Origins.{Origins, MadeOf, origin_at, with_origins, HoldsNoMade}
use Rattle.rewriting.specs.Origins.{eta_expanded}
use Rattle.acts.specs.Terms.{ActsUnder, setting_with}
use Rattle.act_rules.specs.RuleLaws.{HasOrigins, KeepsMeaning}
use Rattle.act_rules.specs.CaseLaws.{KeepsMeaningIn}

-- a term in which the operand x stands at a path becomes `letrec { y : t = x; } in e`, where e is
-- the term with y in that place
abbrev pub OperandNameActs : Type 0
OperandNameActs =
    (origins : Origins) (at : Spot) (e x : TermTree) (path : List ℕ) (t : TypeTree)
    → StandsAt origins at e path x → KeepsMeaning (with_name e path t x) e

-- so does a call in which the argument x stands at a path
abbrev pub ArgumentNameActs : Type 0
ArgumentNameActs =
    (at : Spot) (e x : TermTree) (path : List ℕ) (t : TypeTree)
    → StandsInCall at e path x → KeepsMeaning (with_name e path t x) e

-- e becomes `letrec { x : t = e; } in x`
abbrev pub ResultNameActs : Type 0
ResultNameActs =
    (t : TypeTree) (e : TermTree)
    → KeepsMeaning (letrec (bind t (shift e 0 1) no_bindings) (var 0)) e

-- the name of a definition becomes its body
abbrev pub UnfoldGlobalActs : Type 0
UnfoldGlobalActs =
    (p : Program) (d : ℕ) (it : Def)
    → slice_get p.defs d ≡ Some it → KeepsMeaningIn p it.body (global d)

-- the name of a made definition becomes its origin
abbrev pub UnfoldMadeActs : Type 0
UnfoldMadeActs =
    (origins : Origins) (m : ℕ) (it : MadeOf) (types : List TypeTree)
    (kinds : List Kind) (vars : List TypeTree) (t : TypeTree)
    → slice_get origins.made m ≡ Some it → HoldsNoMade it.origin
    → HasOrigins origins.program types (origin_at origins)
    → AreTermTypes (setting_with origins.program types) kinds vars
    → HasType (setting_with origins.program types) kinds vars (made m) t
    → ActsUnder origins.program kinds vars
    (with_origins (origin_at origins) it.origin) (with_origins (origin_at origins) (made m)) t

-- `fmap g s` becomes `fmap (\x1 .. \xn . g x1 .. xn) s`, where g is a function of these types
abbrev pub EtaFunctionActs : Type 0
EtaFunctionActs =
    (p : Program) (types : List TypeTree) (o : ℕ → TermTree)
    (kinds : List Kind) (vars : List TypeTree)
    (d a b r t : TypeTree) (args : List TypeTree) (g s : TermTree)
    → HasOrigins p types o
    → AreTermTypes (setting_with p types) kinds vars
    → HasType (setting_with p types) kinds vars g (from_each args r)
    → HasType (setting_with p types) kinds vars (fmap_of d a b g s) t
    → ActsUnder p kinds vars
    (with_origins o (fmap_of d a b (eta_expanded args g) s)) (with_origins o (fmap_of d a b g s)) t

-- `vget @i @n @a (vec @t e0 ..)`, or its form for circuits, becomes element i. No type has a value
-- over the greatest natural, so i's number isn't over it.
abbrev pub ElementActs : Type 0
ElementActs =
    (q : Prim) (i n a t : TypeTree) (es : Terms) (j : ℕ) (e : TermTree)
    → (q ≡ VGet) ⊎ (q ≡ VGetC)
    → evaluated i ≡ nat_lit j → j ≤ greatest → element_at es j ≡ Some e
    → KeepsMeaning e (applied (prim q) (types_then (i ∷ n ∷ a ∷ []) (vec_lit t es ∷ [])))

-- `vat @n @k @a (vec @t e0 ..) i`, where i is a literal, becomes element i; the last one, which has
-- the number n, if i is greater
abbrev pub ElementAtActs : Type 0
ElementAtActs =
    (n k a t : TypeTree) (es : Terms) (bits : List Bool) (m : ℕ) (e : TermTree)
    → evaluated n ≡ nat_lit m → m ≤ greatest → element_at es (min (number_of bits) m) ≡ Some e
    → KeepsMeaning e
    (applied (prim VAt) (types_then (n ∷ k ∷ a ∷ []) (vec_lit t es ∷ lit U bits ∷ [])))
