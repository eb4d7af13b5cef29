-- Worked examples: bodies in normal form, and bodies that aren't.
use Rattle.std.specs.Prelude.{ℕ, false, List, [], ◌∷◌, codes}
use Rattle.chw_types.specs.BuiltIn.{built_in}
use Rattle.chw_types.specs.declared.kind.Scalar.TheVariants.{U}
use Rattle.chw_types.specs.TypeTree.{TypeTree, nat_lit, domain, scalar, fun, signal}
use Rattle.chw_prims.specs.declared.prim.Primitive.TheVariants.{AddU, Register}
use Rattle.chw_prims.specs.Schemas.{bool}
use Rattle.chw_terms.specs.declared.scene.Made.{Made}
use Rattle.chw_terms.specs.declared.scene.Sort.TheVariants.{Value, Circuit}
use Rattle.chw_terms.specs.declared.term.Pattern.{Pattern}
use Rattle.chw_terms.specs.declared.term.Pattern.TheVariants.{OfCon}
use Rattle.chw_terms.specs.TermTree.{TermTree, var, made, lam, letrec, con, prim, lit, vec_lit}
use Rattle.chw_terms.specs.TermTree.{case_of, Group, no_bindings, bind, no_alts, alt}
use Rattle.chw_terms.specs.TermView.{applied, terms_of}
use Rattle.chw_typing.specs.Given.{types_then}
use Rattle.rewriting.specs.Origins.{MadeOf, Origins}
use Rattle.rewriting.specs.Shapes.{fmap_of, ap_of}
use Rattle.normal_forms.specs.Circuits.{IsConstant, IsCircuitSide, IsCircuitBody}
use Rattle.normal_forms.specs.Normal.{HoldsWidths, IsNormalBody}
use Rattle.normal_forms.specs.Uses.{IsAcyclic, WholeOf}
use Rattle.normal_forms.specs.Values.{on_names, IsBlock, IsSide}

abbrev pub byte : TypeTree
byte = scalar U (nat_lit 8)

abbrev pub bytes : TypeTree
bytes = signal (domain 0) byte

abbrev pub zeros : TermTree
zeros = lit U (false ∷ false ∷ false ∷ false ∷ false ∷ false ∷ false ∷ false ∷ [])

-- three made definitions: a circuit of bytes, and functions on one byte and on two
abbrev pub counting : MadeOf
counting = record { origin = var 0; ty = bytes; sort = Circuit }

abbrev pub of_byte : MadeOf
of_byte = record { origin = lam byte (var 0); ty = fun byte byte; sort = Value }

abbrev pub of_two_bytes : MadeOf
of_two_bytes = record { origin = lam byte of_byte.origin; ty = fun byte of_byte.ty; sort = Value }

abbrev pub here : Origins
here =
    record {
      program = record {
        domains = codes "A" ∷ [];
        resets = [];
        datas = built_in;
        defs = [];
        top = record { «def» = record { number = 0 }; inputs = []; outputs = [] };
      };
      made = counting ∷ of_byte ∷ of_two_bytes ∷ [];
    }

-- `register @A @U8 c x`
abbrev pub register_of : TermTree → ℕ → TermTree
register_of c x =
    applied (prim Register) (types_then (domain 0 ∷ byte ∷ []) (c ∷ var x ∷ []))

-- `fmap @A @U8 @U8 m1 x`
abbrev pub lifted : ℕ → TermTree
lifted x = fmap_of (domain 0) byte byte (made 1) (var x)

-- a counter: `letrec { s : Signal A U8 = register 0u8 t; t : Signal A U8 = fmap m1 s; } in s`
abbrev pub counter : TermTree
counter = letrec (bind bytes (register_of zeros 0) (bind bytes (lifted 1) no_bindings)) (var 1)

abbrev pub CounterIsCircuit : Type 0
CounterIsCircuit = IsCircuitBody here counter

-- and as the body of m0 it is in normal form
abbrev pub CounterIsNormal : Type 0
CounterIsNormal = IsNormalBody here counting counter

-- `ap (fmap m x) y` is a right side for m2, which takes two bytes, and not for m1
abbrev pub lifted_on_two : ℕ → TermTree
lifted_on_two m =
    let on_one : TermTree = fmap_of (domain 0) byte (fun byte byte) (made m) (var 0) in
    ap_of (domain 0) byte byte on_one (var 1)

abbrev pub TwoLifted : Type 0
TwoLifted = IsCircuitSide here (lifted_on_two 2)

abbrev pub OneTooMany : Type 0
OneTooMany = IsCircuitSide here (lifted_on_two 1) → ⊥

-- `Just @U8 0u8` and `vec @U8 [0u8, 0u8]` are constants
abbrev pub Constants : Type 0
Constants =
    IsConstant built_in (applied (con 3) (types_then (byte ∷ []) (zeros ∷ [])))
    × IsConstant built_in (vec_lit byte (terms_of (zeros ∷ zeros ∷ [])))

abbrev pub con_pattern : ℕ → ℕ → Pattern
con_pattern c n = OfCon (record { number = c }) n

-- with x : Bool and b : U8 in scope
-- `letrec { y : U8 = case x of {
--   True -> b;
--   False -> letrec { z : U8 = addU @8 b b; w : U8 = m1 z; } in w;
-- }; } in y`
abbrev pub inner_group : Group
inner_group =
    bind byte (on_names (prim AddU) (nat_lit 8 ∷ []) (4 ∷ 4 ∷ []))
    (bind byte (on_names (made 1) [] (1 ∷ [])) no_bindings)

abbrev pub chosen : TermTree
chosen =
    case_of (var 1)
    (alt (con_pattern 1 0) (var 2) (alt (con_pattern 0 0) (letrec inner_group (var 0)) no_alts))

abbrev pub CaseOfBlocks : Type 0
CaseOfBlocks =
    IsBlock here (bool ∷ byte ∷ []) (letrec (bind byte chosen no_bindings) (var 0))

-- `letrec { x : U8 = y; y : U8 = x; } in x` is no block
abbrev pub cyclic : Group
cyclic = bind byte (var 0) (bind byte (var 1) no_bindings)

abbrev pub NoCycle : Type 0
NoCycle = IsBlock here [] (letrec cyclic (var 1)) → ⊥

-- a lambda is no right side, in values and in circuits
abbrev pub NoLambda : Type 0
NoLambda =
    ((vars : List TypeTree) → IsSide here vars (lam byte (var 0)) → ⊥)
    × (IsCircuitSide here (lam byte (var 0)) → ⊥)

-- `register x y`: what it begins with is no constant
abbrev pub NoVariableBegins : Type 0
NoVariableBegins = IsCircuitSide here (register_of (var 0) 1) → ⊥

-- a byte has a width, and a scalar of 129 bits hasn't
abbrev pub WidthHolds : Type 0
WidthHolds = HoldsWidths built_in byte

abbrev pub WidthFails : Type 0
WidthFails = HoldsWidths built_in (scalar U (nat_lit 129)) → ⊥

-- a state of two: m0 is `\(x : U8) . m1 x`, and m1 is `\(x : U8) . x`; m0 is a whole
abbrev pub made_of_body : TermTree → Made
made_of_body e =
    record { origin = of_byte.origin; body = e; ty = of_byte.ty; sort = of_byte.sort }

abbrev pub two_made : List Made
two_made =
    made_of_body (lam byte (on_names (made 1) [] (0 ∷ []))) ∷ made_of_body (lam byte (var 0)) ∷ []

abbrev pub WholeOfFirst : Type 0
WholeOfFirst =
    WholeOf two_made 0 (lam byte (applied (lam byte (var 0)) (types_then [] (var 0 ∷ []))))

-- where m0 is `\(x : U8) . m0 x`, it uses itself
abbrev pub UsesItself : Type 0
UsesItself = IsAcyclic (made_of_body (lam byte (on_names (made 0) [] (0 ∷ []))) ∷ []) → ⊥
