-- The accumulator's net is built.
use Rattle.std.proofs.Common.{refl, [], ◌∷◌}
use Rattle.chw_types.specs.BuiltIn.{built_in}
use Rattle.type_ports.specs.Ports.{Leaves, leaf_of, one_leaf}
use Rattle.type_ports.specs.Representable.{representable_scalar}
use Rattle.chw_types.specs.SamePromises.{natural_value}
use Rattle.chw_terms.specs.declared.scene.Sort.TheVariants.{Circuit}
use Rattle.chw_layout.specs.Datum.{word as Word}
use Rattle.chw_layout.specs.Encodes.{scalar_bits}
use Rattle.chw_layout.specs.Measured.{HasWidth, measured_scalar}
use Rattle.chw_meaning.specs.Means.{leads_to, leads_from, no_ports, port_and, HasPorts}
use Rattle.netlist.specs.declared.net.Cell.TheVariants.{Copy, Bin, Reg, Use}
use Rattle.netlist.specs.declared.net.Op2.TheVariants.{Add}
use Rattle.chw_bits.specs.Bits.{bits_of}
use Rattle.net_built.specs.Accumulator.{bytes, accumulator, accumulator_net, AccumulatorIsBuilt}
use Rattle.net_built.specs.Bodies.{value_primitive, block_letrec, group_none, group_and, side_of_value, side_of_circuit, body_lambda, body_block}
use Rattle.net_built.specs.Circuits.{of_variable, of_register, of_lifted, lifted_on_one}
use Rattle.net_built.specs.Data.{HasParts, value_part, port_parts}
use Rattle.net_built.specs.Examples.{word, literal}
use Rattle.net_built.specs.Memories.{HasBits, denotes_word}
use Rattle.net_built.specs.Modules.{behind_its_uses, none_visited, visited_and}
use Rattle.net_built.specs.Terms.{variable}
use Rattle.net_built.specs.Wires.{wire}

byte_width : HasWidth built_in (word 8) 8
unfolding natural_value
byte_width = measured_scalar

byte_leaf : Leaves built_in bytes (leaf_of (record { number = 0 }) (word 8) ∷ [])
byte_leaf = one_leaf {dom = record { number = 0 }} representable_scalar

byte_part : HasParts built_in Circuit bytes (8 ∷ [])
byte_part = port_parts byte_leaf (byte_width, tt)

has_ports : HasPorts accumulator accumulator_net.ports
has_ports =
    record {
      it = _;
      ins = leaf_of (record { number = 0 }) (word 8) ∷ [];
      outs = leaf_of (record { number = 0 }) (word 8) ∷ [];
      top = record { held = refl; leads = leads_from byte_leaf (leads_to byte_leaf) };
      domains = refl;
      resets = refl;
      inputs = port_and byte_width no_ports;
      outputs = port_and byte_width no_ports;
    }

zero_bits : HasBits built_in (word 8) (literal 8 0) (bits_of 8 0)
unfolding natural_value
zero_bits = record { value = Word (bits_of 8 0); denotes = denotes_word; encodes = scalar_bits refl }

pub accumulator_built : AccumulatorIsBuilt
unfolding natural_value
accumulator_built =
    record {
      ports = has_ports;
      order = 1 ∷ 0 ∷ [];
      is_order = record {
        top = _;
        is_top = refl;
        below = 1 ∷ [];
        visited = visited_and (behind_its_uses {count = 0} refl refl (record { widths = 8 ∷ []; parts = value_part byte_width; are = refl }) none_visited) none_visited;
        whole = refl;
      };
      modules = (
        (
          _,
          refl,
          record {
            inputs = 8 ∷ 8 ∷ [];
            cells = record { widths = 8 ∷ []; cells = Bin (wire 2) Add (wire 0) (wire 1) ∷ [] };
            body =
                body_lambda {widths = 8 ∷ []} (value_part byte_width)
                (body_lambda {widths = 8 ∷ []} (value_part byte_width)
                (body_block (block_letrec (variable (word 8) (wire 2 ∷ []) ∷ []) (group_and (side_of_value byte_width (value_primitive tt)) group_none))));
            are_inputs = refl;
            are_widths = refl;
            are_cells = refl;
          },
        ),
        (
          (
            _,
            refl,
            record {
              inputs = 8 ∷ [];
              cells = record {
                widths = 8 ∷ 8 ∷ 8 ∷ [];
                cells = Copy (wire 1) (wire 0) ∷ Reg (wire 2) (record { number = 0 }) (bits_of 8 0) (wire 3) ∷ Use (record { number = 0 }) (wire 2 ∷ wire 1 ∷ []) (wire 3 ∷ []) ∷ [];
              };
              body =
                  body_lambda {widths = 8 ∷ []} byte_part
                  (body_block (block_letrec (variable bytes (wire 1 ∷ []) ∷ variable bytes (wire 2 ∷ []) ∷ variable bytes (wire 3 ∷ []) ∷ [])
                  (group_and (side_of_circuit {widths = 8 ∷ []} byte_part of_variable)
                  (group_and (side_of_circuit {widths = 8 ∷ []} byte_part (of_register zero_bits))
                  (group_and (side_of_circuit {widths = 8 ∷ []} byte_part (of_lifted lifted_on_one)) group_none)))));
              are_inputs = refl;
              are_widths = refl;
              are_cells = refl;
            },
          ),
          tt,
        ),
      );
    }
