-- Worked examples: what is built of small bodies and of a whole program.
use Rattle.std.specs.Prelude.{◌≡◌, ℕ, Bool, true, false, List, [], ◌∷◌, ◌++◌, map, codes}
use Rattle.chw_bits.specs.Bits.{bits_of}
use Rattle.chw_types.specs.BuiltIn.{built_in, constructor_of, data_type_of}
use Rattle.chw_types.specs.declared.declarations.Data.{Data}
use Rattle.chw_types.specs.declared.kind.Kind.TheVariants.{Cir}
use Rattle.chw_types.specs.declared.kind.Scalar.TheVariants.{U, B}
use Rattle.chw_types.specs.TypeTree.{TypeTree, ty_var, nat_lit, domain, scalar, data_of}
use Rattle.chw_types.specs.TypeTree.{fun, signal, no_types, type_and}
use Rattle.chw_prims.specs.declared.prim.Primitive.{Primitive as Prim}
use Rattle.chw_prims.specs.declared.prim.Primitive.TheVariants.{XmulS}
use Rattle.chw_prims.specs.declared.prim.Primitive.TheVariants.{Register}
use Rattle.chw_prims.specs.Schemas.{maybe}
use Rattle.chw_terms.specs.declared.scene.Made.{Made}
use Rattle.chw_terms.specs.declared.scene.Sort.{Sort}
use Rattle.chw_terms.specs.declared.scene.Sort.TheVariants.{Value, Circuit}
use Rattle.chw_terms.specs.declared.term.Pattern.{Pattern}
use Rattle.chw_terms.specs.declared.term.Pattern.TheVariants.{OfCon, OfLit, Default}
use Rattle.chw_terms.specs.TermTree.{TermTree, var, made, lam, app, ty_app, letrec, con, prim, lit}
use Rattle.chw_terms.specs.TermTree.{case_of, Group, no_bindings, bind, no_alts, alt}
use Rattle.netlist.specs.declared.net.Cell.{Cell}
use Rattle.netlist.specs.declared.net.Cell.TheVariants.{Const, Copy, Join, Cut, Bin, Mux, Reg}
use Rattle.netlist.specs.declared.net.Cell.TheVariants.{Ram}
use Rattle.netlist.specs.declared.net.Op2.TheVariants.{Mul, Eq, LtU}
use Rattle.net_built.specs.Bodies.{BodyBuilt}
use Rattle.net_built.specs.Circuits.{Ground}
use Rattle.net_built.specs.Memories.{address, memory}
use Rattle.net_built.specs.Modules.{IsOrderOfModules}
use Rattle.net_built.specs.Vectors.{element_at}
use Rattle.net_built.specs.Wires.{wire}
use Rattle.net_built.specs.Words.{word_cells}

abbrev pub word : ℕ → TypeTree
word n = scalar U (nat_lit n)

abbrev pub stream : TypeTree → TypeTree
stream t = signal (domain 0) t

-- the built-in data types, and
-- `data PairC (a : Cir) (b : Cir) = PairC a b; data T = P (Unsigned 2) | Q | R (BitVector 1);`
abbrev pub some_datas : List Data
some_datas =
    built_in
    ++ record {
      name = codes "PairC";
      params = Cir ∷ Cir ∷ [];
      kind = Cir;
      cons = constructor_of (codes "PairC") (ty_var 1 ∷ ty_var 0 ∷ []) ∷ [];
    }
    ∷ data_type_of (codes "T") []
    (constructor_of (codes "P") (word 2 ∷ []) ∷ constructor_of (codes "Q") []
    ∷ constructor_of (codes "R") (scalar B (nat_lit 1) ∷ []) ∷ [])
    ∷ []

-- with one made definition, 1, that has a module
abbrev pub here : Ground
here = record { datas = some_datas; order = 1 ∷ 0 ∷ [] }

-- a body has inputs of these widths, and then wires of these that its cells drive, and outputs
abbrev pub Gives : Sort → TermTree → List ℕ → List ℕ → List Cell → List ℕ → Type 0
Gives sort e inputs widths cells outputs =
    BodyBuilt here sort [] 0 e inputs (record { widths = widths; cells = cells })
    (map wire outputs)

-- a letrec of one binding, which is the result
abbrev pub let_of : TypeTree → TermTree → TermTree
let_of t e = letrec (bind t e no_bindings) (var 0)

abbrev pub literal : (n number : ℕ) → TermTree
literal n number = lit U (bits_of n number)

-- `\(x : Signal Sys (Unsigned 8)) . letrec { y = x; } in y`
abbrev pub CopyIsBuilt : Type 0
CopyIsBuilt =
    Gives Circuit (lam (stream (word 8)) (let_of (stream (word 8)) (var 1))) (8 ∷ []) (8 ∷ [])
    (Copy (wire 1) (wire 0) ∷ []) (1 ∷ [])

-- `register (Just 5u3) x`
abbrev pub just_five : TermTree
just_five = app (ty_app (con 3) (word 3)) (literal 3 5)

abbrev pub register_of : TypeTree → TermTree → ℕ → TermTree
register_of t c x = app (app (ty_app (ty_app (prim Register) (domain 0)) t) c) (var x)

abbrev pub RegisterIsBuilt : Type 0
RegisterIsBuilt =
    let t : TypeTree = maybe (word 3) in
    Gives Circuit (lam (stream t) (let_of (stream t) (register_of t just_five 1))) (4 ∷ []) (4 ∷ [])
    (Reg (wire 1) (record { number = 0 }) (bits_of 4 13) (wire 0) ∷ []) (1 ∷ [])

abbrev pub con_pattern : ℕ → ℕ → Pattern
con_pattern c n = OfCon (record { number = c }) n

-- `\(m : Maybe (Unsigned 8)) . case m of { Just x -> x; Nothing -> 0u8; }`: the tag, the field of
-- the first, the literal of the second, the test for the first's tag, the choice
abbrev pub or_zero : TermTree
or_zero =
    case_of (var 1)
    (alt (con_pattern 3 1) (var 0)
    (alt (con_pattern 2 0) (let_of (word 8) (literal 8 0)) no_alts))

abbrev pub CaseOnDataIsBuilt : Type 0
CaseOnDataIsBuilt =
    Gives Value (lam (maybe (word 8)) (let_of (word 8) or_zero)) (9 ∷ [])
    (1 ∷ 8 ∷ 8 ∷ 1 ∷ 1 ∷ 8 ∷ [])
    (Cut (wire 1) (wire 0) 8 8 ∷ Cut (wire 2) (wire 0) 7 0 ∷ Const (wire 3) (bits_of 8 0)
    ∷ Const (wire 4) (true ∷ []) ∷ Bin (wire 5) Eq (wire 1) (wire 4)
    ∷ Mux (wire 6) (wire 5) (wire 2) (wire 3) ∷ [])
    (6 ∷ [])

-- `\(a : Unsigned 2) . \(c : Unsigned 2) . case a of { 1u2 -> c; 3u2 -> 2u2; _ -> a; }`: the last
-- test chooses first
abbrev pub three_ways : TermTree
three_ways =
    case_of (var 2)
    (alt (OfLit U (bits_of 2 1)) (var 1)
    (alt (OfLit U (bits_of 2 3)) (let_of (word 2) (literal 2 2)) (alt Default (var 2) no_alts)))

abbrev pub CaseOnWordsIsBuilt : Type 0
CaseOnWordsIsBuilt =
    Gives Value (lam (word 2) (lam (word 2) (let_of (word 2) three_ways))) (2 ∷ 2 ∷ [])
    (2 ∷ 2 ∷ 1 ∷ 2 ∷ 1 ∷ 2 ∷ 2 ∷ [])
    (Const (wire 2) (bits_of 2 2) ∷ Const (wire 3) (bits_of 2 1)
    ∷ Bin (wire 4) Eq (wire 0) (wire 3) ∷ Const (wire 5) (bits_of 2 3)
    ∷ Bin (wire 6) Eq (wire 0) (wire 5) ∷ Mux (wire 7) (wire 6) (wire 2) (wire 0)
    ∷ Mux (wire 8) (wire 4) (wire 1) (wire 7) ∷ [])
    (8 ∷ [])

-- `\(z : Unsigned 0) . \(v : Unsigned 8) . case z of { 0u0 -> v; _ -> case v of { _ -> v; }; }`:
-- a test without bits is a constant, and a case of one alternative has the wire of its block
abbrev pub without_bits : TermTree
without_bits =
    case_of (var 2)
    (alt (OfLit U []) (var 1)
    (alt Default (let_of (word 8) (case_of (var 2) (alt Default (var 2) no_alts))) no_alts))

abbrev pub CaseOnNothingIsBuilt : Type 0
CaseOnNothingIsBuilt =
    Gives Value (lam (word 0) (lam (word 8) (let_of (word 8) without_bits))) (8 ∷ []) (1 ∷ 8 ∷ [])
    (Const (wire 1) (true ∷ []) ∷ Mux (wire 2) (wire 1) (wire 0) (wire 0) ∷ []) (2 ∷ [])

-- `\(v : Unsigned 8) . case v of { 1u8 -> 0u0; _ -> 0u0; }`: of a choice without bits there are the
-- tests alone, and no output
abbrev pub test_alone : TermTree
test_alone =
    case_of (var 1)
    (alt (OfLit U (bits_of 8 1)) (let_of (word 0) (literal 0 0))
    (alt Default (let_of (word 0) (literal 0 0)) no_alts))

abbrev pub ChoiceOfNothingIsBuilt : Type 0
ChoiceOfNothingIsBuilt =
    Gives Value (lam (word 8) (let_of (word 0) test_alone)) (8 ∷ []) (8 ∷ 1 ∷ [])
    (Const (wire 1) (bits_of 8 1) ∷ Bin (wire 2) Eq (wire 0) (wire 1) ∷ []) []

-- `\(b : BitVector 1) . R b`: the tag of the third constructor, the field, and a zero up to the
-- widest
abbrev pub ConstructorIsBuilt : Type 0
ConstructorIsBuilt =
    Gives Value
    (lam (scalar B (nat_lit 1)) (let_of (data_of 4 no_types) (app (con 8) (var 1)))) (1 ∷ [])
    (2 ∷ 1 ∷ 4 ∷ [])
    (Const (wire 1) (true ∷ false ∷ []) ∷ Const (wire 2) (false ∷ [])
    ∷ Join (wire 3) (wire 1 ∷ wire 0 ∷ wire 2 ∷ []) ∷ [])
    (3 ∷ [])

-- `\(x : Signal Sys (Unsigned 8)) . \(z : Signal Sys (Unsigned 0)) . letrec { p = PairC z x;
-- y = case p of { PairC a b -> b; }; } in y`
abbrev pub product_type : TypeTree
product_type = data_of 3 (type_and (stream (word 0)) (type_and (stream (word 8)) no_types))

abbrev pub product_group : Group
product_group =
    bind product_type
    (app (app (ty_app (ty_app (con 5) (stream (word 0))) (stream (word 8))) (var 2)) (var 3))
    (bind (stream (word 8)) (case_of (var 1) (alt (con_pattern 5 2) (var 0) no_alts)) no_bindings)

abbrev pub ProductIsBuilt : Type 0
ProductIsBuilt =
    Gives Circuit
    (lam (stream (word 8)) (lam (stream (word 0)) (letrec product_group (var 0)))) (8 ∷ [])
    (8 ∷ 8 ∷ []) (Copy (wire 1) (wire 0) ∷ Copy (wire 2) (wire 1) ∷ []) (2 ∷ [])

-- `xmulS @2 @2` on wires 3 and 5, from wire 6 on: each operand with two copies of its sign
abbrev pub SignedProductIsBuilt : Type 0
SignedProductIsBuilt =
    word_cells XmulS 2 2 6 (wire 3 ∷ []) (wire 5 ∷ [])
    ≡ record {
      widths = 1 ∷ 4 ∷ 1 ∷ 4 ∷ 4 ∷ [];
      cells = Cut (wire 6) (wire 3) 1 1 ∷ Join (wire 7) (wire 6 ∷ wire 6 ∷ wire 3 ∷ [])
          ∷ Cut (wire 8) (wire 5) 1 1 ∷ Join (wire 9) (wire 8 ∷ wire 8 ∷ wire 5 ∷ [])
          ∷ Bin (wire 10) Mul (wire 7) (wire 9) ∷ [];
    }

-- `vat @2 @0` on a vector of three elements of 4 bits: past the first comes the last
abbrev pub ElementByNothingIsBuilt : Type 0
ElementByNothingIsBuilt =
    element_at 4 2 0 1 (wire 0 ∷ []) []
    ≡ record {
      widths = 4 ∷ 4 ∷ 4 ∷ 1 ∷ 4 ∷ [];
      cells = Cut (wire 1) (wire 0) 11 8 ∷ Cut (wire 2) (wire 0) 7 4 ∷ Cut (wire 3) (wire 0) 3 0
          ∷ Const (wire 4) (true ∷ []) ∷ Mux (wire 5) (wire 4) (wire 1) (wire 3) ∷ [];
    }

-- addresses of 0, 1, 12 and 13 bits on wire 2, from wire 7 on
abbrev pub AddressesAreBuilt : Type 0
AddressesAreBuilt =
    (address 0 7 []
    ≡ record { widths = 12 ∷ []; cells = Const (wire 7) (bits_of 12 0) ∷ [] })
    × (address 1 7 (wire 2 ∷ [])
    ≡ record {
      widths = 11 ∷ 12 ∷ [];
      cells = Const (wire 7) (bits_of 11 0) ∷ Join (wire 8) (wire 7 ∷ wire 2 ∷ []) ∷ [];
    })
    × (address 12 7 (wire 2 ∷ []) ≡ record { widths = []; cells = [] })
    × (address 13 7 (wire 2 ∷ [])
    ≡ record {
      widths = 13 ∷ 1 ∷ 12 ∷ 12 ∷ 12 ∷ [];
      cells = Const (wire 7) (bits_of 13 0xffe) ∷ Bin (wire 8) LtU (wire 7) (wire 2)
          ∷ Const (wire 9) (bits_of 12 0xfff) ∷ Cut (wire 10) (wire 2) 11 0
          ∷ Mux (wire 11) (wire 8) (wire 9) (wire 10) ∷ [];
    })

abbrev pub two_words : List (List Bool)
two_words = bits_of 8 10 ∷ bits_of 8 20 ∷ []

-- a memory of words of 8 bits: an address of 12 bits on wire 2, and a write on wire 3
abbrev pub MemoryIsBuilt : Type 0
MemoryIsBuilt =
    memory 8 12 4 (record { number = 0 }) two_words (wire 2 ∷ []) (wire 3 ∷ [])
    ≡ record {
      widths = 1 ∷ 12 ∷ 8 ∷ 8 ∷ [];
      cells = Cut (wire 4) (wire 3) 20 20 ∷ Cut (wire 5) (wire 3) 19 8 ∷ Cut (wire 6) (wire 3) 7 0
          ∷ Ram (wire 7) (record { number = 0 }) two_words
          (record { read = wire 2; enable = wire 4; place = wire 5; value = wire 6 }) ∷ [];
    }

-- four made definitions on bytes: 0 uses 1, 3 and then 2, and 1 uses 2; 3 gives no bits, and has no
-- module
abbrev pub using : TypeTree → TermTree → Made
using t e = record { origin = e; body = e; ty = fun (word 8) t; sort = Value }

abbrev pub four_made : List Made
four_made =
    using (word 8) (app (app (made 1) (made 3)) (made 2)) ∷ using (word 8) (made 2)
    ∷ using (word 8) (var 0) ∷ using (word 0) (made 1) ∷ []

abbrev pub PostorderIsBuilt : Type 0
PostorderIsBuilt = IsOrderOfModules built_in four_made (2 ∷ 1 ∷ 0 ∷ [])
