-- The inputs of a filter's stimulus are encodings of values.
use Rattle.std.proofs.Common.{◌≡◌, ℕ, zero, suc, ◌*◌, List, [], ◌∷◌, sym, ap, subst, ◌∙◌}
use Rattle.std.specs.List.{AllByRecursion}
use Rattle.std.specs.Prelude.{codes}
use Rattle.chw_clock.specs.declared.event.Port.{Port}
use Rattle.type_ports.specs.Ports.{leaf_of}
use Rattle.chw_types.specs.TypeTree.{TypeTree, scalar}
use Rattle.chw_types.specs.declared.declarations.Data.{Data}
use Rattle.chw_types.specs.declared.kind.Scalar.{Scalar}
use Rattle.type_ports.specs.declared.ports.Leaf.{Leaf}
use Rattle.chw_layout.specs.Datum.{word}
use Rattle.chw_layout.specs.Encodes.{scalar_bits}
use Rattle.chw_layout.specs.Measured.{HasWidth}
use Rattle.chw_layout.proofs.Fitting.{scalar_width}
use Rattle.chw_meaning.specs.Means.{PortsOf, no_port_and, no_ports, port_and}
use Rattle.answers.specs.SimAnswer.Simulation.{HasValues, TypesOf, no_type, type_of}
use Rattle.answers.specs.MakeAnswer.Events.{event_at, events_below, input_at}
use Rattle.answers.specs.MakeAnswer.Laws.{MadeStimuliAreValues}
use Rattle.answers.proofs.MakeAnswer.Digits.{DigitsReadBack, MadeLength, input_length}
use Rattle.answers.proofs.MakeAnswer.Stimuli.{all_push, made_stimuli}

-- the one leaf has the width of the one port
alone : {datas : List Data} {leaf : Leaf} {names : List (List ℕ)} {ports : List Port} (port : Port)
    → PortsOf datas (leaf ∷ []) names ports → ports ≡ port ∷ [] → HasWidth datas leaf.payload port.width
alone {datas} {leaf} port (port_and v no_ports) same =
    let width = ap (λ (ps : List Port). widths_of ps) same in
    subst (HasWidth datas leaf.payload) width v
  where
    widths_of : List Port → ℕ
    widths_of [] = zero
    widths_of (p ∷ ps) = p.width
alone port (no_port_and v no_ports) same = absurd cc

module _ (lengths : MadeLength) (datas : List Data) (s : Scalar) (width : TypeTree) (has : HasWidth datas (scalar s width) 16) where
  all_values : (n : ℕ) → AllByRecursion (HasValues datas (scalar s width ∷ [])) (events_below n)
  all_values zero = tt
  all_values (suc j) =
      all_push (HasValues datas (scalar s width ∷ [])) (events_below j) (event_at j) (all_values j)
      ((word (input_at j), scalar_bits (input_length lengths j ∙ scalar_width has)), tt)

pub of_values : MadeLength → DigitsReadBack → MadeStimuliAreValues
of_values lengths law p ports taps dom s width few x has ins =
    let types = scalar s width ∷ [] in
    let wide : HasWidth p.datas (scalar s width) 16 =
    alone (record { name = codes "x"; dom = x.domain_of_x; width = 16 })
    (subst (λ ls. PortsOf p.datas ls p.top.inputs ports.inputs) ins has.inputs) x.inputs in
    record {
      types = types;
      has = record {
        are_ports = has;
        are_types = subst (λ ls. TypesOf p.datas ls types) (sym ins) (type_of {leaf = leaf_of dom (scalar s width)} {w = 15} wide no_type);
      };
      read = made_stimuli lengths law taps ports few x;
      values = all_values lengths p.datas s width wide (4 * taps);
    }
