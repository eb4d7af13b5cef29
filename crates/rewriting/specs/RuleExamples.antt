-- Worked examples: a step of a rule on a term, each by hand from the scopes of names.
use Rattle.std.specs.Prelude.{◌≡◌, ℕ, true, false, List, [], ◌∷◌, ◌++◌, codes}
use Rattle.chw_types.specs.declared.kind.Kind.TheVariants.{Cir}
use Rattle.chw_types.specs.declared.declarations.Data.{Data}
use Rattle.chw_types.specs.BuiltIn.{built_in, constructor_of}
use Rattle.chw_types.specs.declared.kind.Scalar.TheVariants.{U}
use Rattle.chw_types.specs.TypeTree.{TypeTree, nat_lit, domain, scalar, vector, data_of, fun}
use Rattle.chw_types.specs.TypeTree.{signal, no_types, type_and}
use Rattle.chw_prims.specs.declared.prim.Primitive.{Primitive as Prim}
use Rattle.chw_prims.specs.declared.prim.Primitive.TheVariants.{AddU, LtU, VAt}
use Rattle.chw_prims.specs.Schemas.{bool}
use Rattle.chw_terms.specs.declared.rule.Rule.TheVariants.{CaseCon, CaseCase, Proj, Flat, Dead}
use Rattle.chw_terms.specs.declared.rule.Rule.TheVariants.{Inline, ApPure, Anf}
use Rattle.chw_terms.specs.declared.rule.Rule.TheVariants.{AppCase, PrimLet, Delta}
use Rattle.chw_terms.specs.declared.scene.Mode.{Mode}
use Rattle.chw_terms.specs.declared.scene.Mode.TheVariants.{V, C, K}
use Rattle.chw_terms.specs.declared.term.Pattern.{Pattern}
use Rattle.chw_terms.specs.declared.term.Pattern.TheVariants.{OfCon}
use Rattle.chw_terms.specs.TermTree.{TermTree, var, global, lam, app, ty_app, letrec, con, prim}
use Rattle.chw_terms.specs.TermTree.{lit, case_of}
use Rattle.chw_terms.specs.TermView.{applied}
use Rattle.chw_typing.specs.Given.{types_then}
use Rattle.chw_terms.specs.TermTree.{Group, no_bindings, bind, Alts, no_alts, alt}
use Rattle.rewriting.specs.Origins.{Origins}
use Rattle.rewriting.specs.Spots.{Spot, spot}
use Rattle.rewriting.specs.Instances.{Makes}
use Rattle.rewriting.specs.Calls.{call_origin}
use Rattle.rewriting.specs.Shapes.{fmap_of, ap_of}

-- besides the built-in data types `data Two = Two (Signal A Bool) (Signal A Bool);`
abbrev pub bits_of_a : TypeTree
bits_of_a = signal (domain 0) bool

abbrev pub two_type : Data
two_type =
    record {
      name = codes "Two";
      params = [];
      kind = Cir;
      cons = constructor_of (codes "Two") (bits_of_a ∷ bits_of_a ∷ []) ∷ [];
    }

-- no definition is made; the definitions don't matter
abbrev pub here : Origins
here =
    record {
      program = record {
        domains = codes "A" ∷ [];
        resets = [];
        datas = built_in ++ two_type ∷ [];
        defs = [];
        top = record { «def» = record { number = 0 }; inputs = []; outputs = [] };
      };
      made = [];
    }

abbrev pub at_place : Mode → List TypeTree → Spot
at_place mode vars = spot mode true vars

abbrev pub con_pattern : ℕ → ℕ → Pattern
con_pattern c n = OfCon (record { number = c }) n

abbrev pub to_bool : TypeTree
to_bool = fun bool bool

abbrev pub two : TypeTree
two = data_of 3 no_types

abbrev pub maybe_bool : TypeTree
maybe_bool = data_of 1 (type_and bool no_types)

abbrev pub of_bool : TermTree → Group → Group
of_bool e g = bind bool e g

-- `letrec { a = b; b = letrec { p = a q; q = w; r = q; } in p c b; c = a w; } in b w`
-- becomes `letrec { a = b; p = a q; q = w; r = q; b = p c b; c = a w; } in b w`
abbrev pub inner_group : Group
inner_group =
    of_bool (app (var 5) (var 1)) (of_bool (var 6) (of_bool (var 1) no_bindings))

abbrev pub LetJoins : Type 0
LetJoins =
    Makes here (at_place V []) Flat
    (letrec
    (of_bool (var 1)
    (of_bool (letrec inner_group (app (app (var 2) (var 3)) (var 4)))
    (of_bool (app (var 2) (var 3)) no_bindings)))
    (app (var 1) (var 3)))
    (letrec
    (of_bool (var 1)
    (of_bool (app (var 5) (var 3))
    (of_bool (var 6)
    (of_bool (var 3)
    (of_bool (app (app (var 4) (var 0)) (var 1)) (of_bool (app (var 5) (var 6)) no_bindings))))))
    (app (var 1) (var 6)))

-- `letrec { x = y; z = z x; y = y w; } in x w` becomes `letrec { x = y; y = y w; } in x w`
abbrev pub before_dead : Group
before_dead =
    of_bool (var 0) (of_bool (app (var 1) (var 2)) (of_bool (app (var 0) (var 3)) no_bindings))

abbrev pub BindingGoes : Type 0
BindingGoes =
    Makes here (at_place V []) Dead
    (letrec before_dead (app (var 2) (var 3)))
    (letrec (of_bool (var 0) (of_bool (app (var 0) (var 2)) no_bindings)) (app (var 1) (var 2)))

-- `letrec { x = y; f : Bool -> Bool = g x y; y = f x; } in f y`
-- becomes `letrec { x = y; y = g x y x; } in g x y y`
abbrev pub FunctionIsPut : Type 0
FunctionIsPut =
    Makes here (at_place V []) Inline
    (letrec
    (of_bool (var 0)
    (bind to_bool (app (app (var 3) (var 2)) (var 0))
    (of_bool (app (var 1) (var 2)) no_bindings)))
    (app (var 1) (var 0)))
    (letrec
    (of_bool (var 0)
    (of_bool (app (app (app (var 2) (var 1)) (var 0)) (var 1)) no_bindings))
    (app (app (app (var 2) (var 1)) (var 0)) (var 0)))

-- `case Pair @Bool @Bool w v of { Pair p q -> g q p; }`
-- becomes `letrec { p : Bool = w; q : Bool = v; } in g q p`
abbrev pub ConstructorTaken : Type 0
ConstructorTaken =
    Makes here (at_place V []) CaseCon
    (case_of (app (app (ty_app (ty_app (con 4) bool) bool) (var 1)) (var 0))
    (alt (con_pattern 4 2) (app (app (var 4) (var 0)) (var 1)) no_alts))
    (letrec (of_bool (var 3) (of_bool (var 2) no_bindings))
    (app (app (var 4) (var 0)) (var 1)))

-- `case (case m of { Nothing -> b; Just c -> c; }) of { True -> d; False -> b; }`, in constants,
-- becomes `case m of { Nothing -> case b of ..; Just c -> case c of { True -> d; False -> b; }; }`
abbrev pub on_truth : ℕ → ℕ → Alts
on_truth x y = alt (con_pattern 1 0) (var x) (alt (con_pattern 0 0) (var y) no_alts)

abbrev pub of_maybe : TermTree → TermTree → TermTree
of_maybe e f = case_of (var 2) (alt (con_pattern 2 0) e (alt (con_pattern 3 1) f no_alts))

abbrev pub CaseMovesOut : Type 0
CaseMovesOut =
    Makes here (at_place K (bool ∷ bool ∷ maybe_bool ∷ [])) CaseCase
    (case_of (of_maybe (var 0) (var 0)) (on_truth 1 0))
    (of_maybe (case_of (var 0) (on_truth 1 0)) (case_of (var 0) (on_truth 2 1)))

-- `case t of { Two a b -> f b a; }`, in a circuit, becomes
-- `letrec { a = case t of { Two a b -> a; }; b = case t of { Two a b -> b; }; } in f b a`
abbrev pub part_of_two : ℕ → TermTree
part_of_two x = case_of (var 3) (alt (con_pattern 5 2) (var x) no_alts)

abbrev pub PartsProjected : Type 0
PartsProjected =
    Makes here (at_place C (bits_of_a ∷ two ∷ [])) Proj
    (case_of (var 1) (alt (con_pattern 5 2) (app (app (var 4) (var 0)) (var 1)) no_alts))
    (letrec (bind bits_of_a (part_of_two 1) (bind bits_of_a (part_of_two 0) no_bindings))
    (app (app (var 4) (var 0)) (var 1)))

-- `fmap @A @(Bool -> Bool) @Bool f (fmap @A @Bool @(Bool -> Bool) g s)`
-- becomes `fmap @A @Bool @Bool (\(x : Bool) . f (g x)) s`
abbrev pub FunctionsComposed : Type 0
FunctionsComposed =
    Makes here (at_place C (bits_of_a ∷ fun bool to_bool ∷ fun to_bool bool ∷ [])) ApPure
    (fmap_of (domain 0) to_bool bool (var 2) (fmap_of (domain 0) bool to_bool (var 1) (var 0)))
    (fmap_of (domain 0) bool bool (lam bool (app (var 3) (app (var 2) (var 0)))) (var 0))

-- `case g x of { True -> x; False -> y; }`
-- becomes `letrec { v : Bool = g x; } in case v of { True -> x; False -> y; }`
abbrev pub OperandNamed : Type 0
OperandNamed =
    Makes here (at_place V (bool ∷ bool ∷ to_bool ∷ [])) Anf
    (case_of (app (var 2) (var 0)) (on_truth 0 1))
    (letrec (of_bool (app (var 3) (var 1)) no_bindings) (case_of (var 0) (on_truth 1 2)))

-- `(case x of { True -> f; False -> g; }) y`
-- becomes `letrec { v : Bool = y; } in case x of { True -> f v; False -> g v; }`
abbrev pub applied_on_truth : TermTree
applied_on_truth =
    case_of (var 1)
    (alt (con_pattern 1 0) (app (var 3) (var 0))
    (alt (con_pattern 0 0) (app (var 4) (var 0)) no_alts))

abbrev pub ArgumentMoves : Type 0
ArgumentMoves =
    Makes here (at_place V (bool ∷ bool ∷ to_bool ∷ to_bool ∷ [])) AppCase
    (app (case_of (var 0) (on_truth 2 3)) (var 1))
    (letrec (of_bool (var 2) no_bindings) applied_on_truth)

-- `vat @1 @3 @(Bool -> Bool) (letrec { x : Bool = y; } in v) i`
-- becomes `letrec { x : Bool = y; } in vat @1 @3 @(Bool -> Bool) v i`
abbrev pub word : ℕ → TypeTree
word n = scalar U (nat_lit n)

abbrev pub functions : TypeTree
functions = vector (nat_lit 2) to_bool

abbrev pub element_of : TermTree → TermTree → TermTree
element_of v i =
    applied (prim VAt) (types_then (nat_lit 1 ∷ nat_lit 3 ∷ to_bool ∷ []) (v ∷ i ∷ []))

abbrev pub LetLeavesVector : Type 0
LetLeavesVector =
    Makes here (at_place V (word 3 ∷ bool ∷ functions ∷ [])) PrimLet
    (element_of (letrec (of_bool (var 2) no_bindings) (var 3)) (var 0))
    (letrec (of_bool (var 2) no_bindings) (element_of (var 3) (var 1)))

-- `addU @3 5u3 6u3`, in constants, becomes `3u3`, and `ltU @3 5u3 6u3` becomes `True`
abbrev pub on_words : Prim → TermTree
on_words p =
    applied (prim p)
    (types_then (nat_lit 3 ∷ [])
    (lit U (true ∷ false ∷ true ∷ []) ∷ lit U (true ∷ true ∷ false ∷ []) ∷ []))

abbrev pub SumComputed : Type 0
SumComputed = Makes here (at_place K []) Delta (on_words AddU) (lit U (false ∷ true ∷ true ∷ []))

abbrev pub TruthComputed : Type 0
TruthComputed = Makes here (at_place K []) Delta (on_words LtU) (con 1)

-- `ap @A @(Bool -> Bool) @Bool u (fmap @A @Bool @(Bool -> Bool) g w)` becomes
-- `ap @A @Bool @Bool (fmap @A @((Bool -> Bool) -> Bool) @(Bool -> Bool) (\h . \x . h (g x)) u) w`
abbrev pub from_function : TypeTree
from_function = fun to_bool bool

abbrev pub composing : TermTree
composing = lam from_function (lam bool (app (var 1) (app (var 3) (var 0))))

abbrev pub FunctionsBehind : Type 0
FunctionsBehind =
    Makes here
    (at_place C (bits_of_a ∷ fun bool to_bool ∷ signal (domain 0) from_function ∷ [])) ApPure
    (ap_of (domain 0) to_bool bool (var 2) (fmap_of (domain 0) bool to_bool (var 1) (var 0)))
    (ap_of (domain 0) bool bool
    (fmap_of (domain 0) from_function to_bool composing (var 2)) (var 0))

-- the call `f y x y`, with x the variable 0 and y the variable 1, is closed as
-- `\(y : Unsigned 3) . \(x : Bool) . f y x y`
abbrev pub CallClosed : Type 0
CallClosed =
    call_origin here (word 3 ∷ bool ∷ [])
    (app (app (app (global 0) (var 1)) (var 0)) (var 1))
    ≡ lam (word 3) (lam bool (app (app (app (global 0) (var 1)) (var 0)) (var 1)))
