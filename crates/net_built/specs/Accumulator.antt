-- A worked example: the net that is built of the accumulator.
use Rattle.std.specs.Prelude.{ℕ, List, [], ◌∷◌, codes}
use Rattle.chw_bits.specs.Bits.{bits_of}
use Rattle.chw_clock.specs.declared.event.Port.{Port}
use Rattle.chw_types.specs.BuiltIn.{built_in}
use Rattle.chw_types.specs.TypeTree.{TypeTree, nat_lit, domain, fun}
use Rattle.chw_prims.specs.declared.prim.Primitive.TheVariants.{AddU, Fmap, Ap}
use Rattle.chw_terms.specs.declared.program.Program.{Program}
use Rattle.chw_terms.specs.declared.scene.Made.{Made}
use Rattle.chw_terms.specs.declared.scene.Sort.TheVariants.{Value, Circuit}
use Rattle.chw_terms.specs.TermTree.{TermTree, var, made, lam, app, ty_app, letrec, prim}
use Rattle.chw_terms.specs.TermTree.{no_bindings, bind}
use Rattle.netlist.specs.declared.net.Cell.TheVariants.{Copy, Bin, Reg, Use}
use Rattle.netlist.specs.declared.net.Net.{Net}
use Rattle.netlist.specs.declared.net.Op2.TheVariants.{Add}
use Rattle.net_built.specs.Built.{Built}
use Rattle.net_built.specs.Examples.{word, stream, let_of, literal, register_of}
use Rattle.net_built.specs.Wires.{wire}

-- The accumulator: `domain Sys; def main : Signal Sys (Unsigned 8) -> Signal Sys (Unsigned 8) = ..;
-- top main (x) (o);`. Made definition 0 is `\x . letrec { y = x; s = register 0u8 t;
-- t = ap (fmap m1 s) y; } in s`, and 1 is `\a . \b . letrec { c = addU @8 a b; } in c`.
abbrev pub bytes : TypeTree
bytes = stream (word 8)

abbrev pub lifted : TermTree
lifted =
    let one : TermTree =
    app (app (ty_app (ty_app (ty_app (prim Fmap) (domain 0)) (word 8)) (fun (word 8) (word 8)))
    (made 1)) (var 1) in
    app (app (ty_app (ty_app (ty_app (prim Ap) (domain 0)) (word 8)) (word 8)) one) (var 2)

abbrev pub sums_up : TermTree
sums_up =
    lam bytes
    (letrec
    (bind bytes (var 3)
    (bind bytes (register_of (word 8) (literal 8 0) 0) (bind bytes lifted no_bindings))) (var 1))

abbrev pub adds : TermTree
adds =
    lam (word 8)
    (lam (word 8) (let_of (word 8) (app (app (ty_app (prim AddU) (nat_lit 8)) (var 2)) (var 1))))

abbrev pub accumulating : List Made
accumulating =
    record { origin = sums_up; body = sums_up; ty = fun bytes bytes; sort = Circuit }
    ∷ record { origin = adds; body = adds; ty = fun (word 8) (fun (word 8) (word 8)); sort = Value }
    ∷ []

abbrev pub accumulator : Program
accumulator =
    record {
      domains = codes "Sys" ∷ [];
      resets = [];
      datas = built_in;
      defs = record { name = codes "main"; ty = fun bytes bytes; body = sums_up } ∷ [];
      top = record {
        «def» = record { number = 0 };
        inputs = codes "x" ∷ [];
        outputs = codes "o" ∷ [];
      };
    }

abbrev pub port : List ℕ → Port
port name = record { name = name; dom = record { number = 0 }; width = 8 }

-- its net: the addition as a module of its own, and then the top
abbrev pub accumulator_net : Net
accumulator_net =
    record {
      ports = record {
        domains = codes "Sys" ∷ [];
        resets = [];
        inputs = port (codes "x") ∷ [];
        outputs = port (codes "o") ∷ [];
      };
      modules =
          record {
            inputs = 2;
            widths = 8 ∷ 8 ∷ 8 ∷ [];
            outputs = wire 2 ∷ [];
            cells = Bin (wire 2) Add (wire 0) (wire 1) ∷ [];
          }
          ∷ record {
            inputs = 1;
            widths = 8 ∷ 8 ∷ 8 ∷ 8 ∷ [];
            outputs = wire 2 ∷ [];
            cells = Copy (wire 1) (wire 0)
                ∷ Reg (wire 2) (record { number = 0 }) (bits_of 8 0) (wire 3)
                ∷ Use (record { number = 0 }) (wire 2 ∷ wire 1 ∷ []) (wire 3 ∷ []) ∷ [];
          }
          ∷ [];
    }

abbrev pub AccumulatorIsBuilt : Type 0
AccumulatorIsBuilt = Built accumulator accumulating accumulator_net
