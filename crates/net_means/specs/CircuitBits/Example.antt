-- A worked example: the accumulator, whose register is on its own output through an adder.
use Rattle.std.specs.Prelude.{◌≡◌, zero, Bool, List, [], ◌∷◌}
use Rattle.chw_bits.specs.Bits.{bits_of}
use Rattle.chw_types.specs.TypeTree.{domain, fun, no_types}
use Rattle.chw_terms.specs.TermTree.{var, Group, no_bindings, bind}
use Rattle.rewriting.specs.Shapes.{fmap_of, ap_of}
use Rattle.chw_meaning.specs.Values.{History, Thunk, member, none, thunk_and}
use Rattle.chw_meaning.specs.Whole.{with_input}
use Rattle.chw_meaning.specs.Writing.{words}
use Rattle.net_built.specs.Accumulator.{bytes, adds, accumulator, accumulator_net}
use Rattle.net_built.specs.Examples.{word, literal, register_of}
use Rattle.net_built.specs.Wires.{wire}
use Rattle.net_means.specs.CircuitBits.Leaves.{LeafHas}

-- its bindings as a whole: `y = x; s = register 0u8 t; t = ap (fmap adds s) y;`
abbrev pub whole_bindings : Group
whole_bindings =
    bind bytes (var 3)
    (bind bytes (register_of (word 8) (literal 8 0) 0)
    (bind bytes
    (ap_of (domain 0) (word 8) (word 8)
    (fmap_of (domain 0) (word 8) (fun (word 8) (word 8)) adds (var 1)) (var 2))
    no_bindings))

-- its register `s`, on the inputs 5 and 7
abbrev pub the_sum : Thunk
the_sum = member whole_bindings 1 (thunk_and (words 8 (5 ∷ 7 ∷ [])) none) no_types

-- at the history the register shows these bits, and in its net wire 2 has them
abbrev pub SumHas : History → List Bool → Type 0
SumHas h b =
    (l : LeafHas accumulator accumulator_net [] h bytes the_sum (wire 2 ∷ []) zero) × (l.bits ≡ b)

-- 0 at the first event, and 5 at the second
pub record AccumulatorHas : Type 0 where
  pub first : SumHas (with_input 5 ∷ []) (bits_of 8 0)
  pub second : SumHas (with_input 7 ∷ with_input 5 ∷ []) (bits_of 8 5)
