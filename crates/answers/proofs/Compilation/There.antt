-- A program whose run ends in a small state is compiled to some net.
use Rattle.std.proofs.Common.{ℕ, inl, inr, length, ap, arith}
use Rattle.std.proofs.lemmas.Bool.{cases_lt}
use Rattle.chw_base.specs.declared.limits.TheConstants.{FLAT_WIRES}
use Rattle.chw_norm.specs.Laws.{LastStatesAreTyped}
use Rattle.chw_norm.specs.Rules.{built}
use Rattle.chw_terms.specs.declared.program.Program.{Program}
use Rattle.chw_terms.specs.Tidy.{IsTidy}
use Rattle.chw_typing.specs.Programs.{IsTyped}
use Rattle.ended_laws.specs.Laws.{EndedIsNormal}
use Rattle.net_flat.specs.Entering.{FitsWhole}
use Rattle.net_flat.specs.Flattened.{IsFlatOf, widths_in}
use Rattle.net_rules.specs.WellFormed.{WellFormed}
use Rattle.net_there.specs.Laws.{RunsHaveNets}
use Rattle.netlist.specs.Orders.{HasNoLoop}
use Rattle.netlist.specs.declared.net.Flat.{Flat}
use Rattle.netlist.specs.declared.net.Net.{Net}
use Rattle.normal_forms.specs.Normal.{IsNormal}
use Rattle.answers.specs.Compilation.Compiling.{EndsSmall, HasCircuit, HasFewWires, HasManyWires}
use Rattle.answers.specs.Compilation.Laws.{SmallEndsCompile}
use Rattle.answers.proofs.Compilation.Ends.{is_ended, is_few, is_run, is_typed}
use Rattle.answers.proofs.Compilation.FlatNets.{flat_net_there}

-- the flat wires of a net that hasn't too many are within the limit
fits_whole : (net : Net) → (HasManyWires net → ⊥) → FitsWhole net
fits_whole net few top last = elim (cases_lt FLAT_WIRES (length (widths_in net top))) [
  | inl many ↦ absurd (few (top, last, many))
  | inr within ↦ within
]

-- and so are those of its flat net
has_few : (net : Net) (flat : Flat) → FitsWhole net → IsFlatOf net flat → HasFewWires flat
has_few net flat fits is =
    let within = fits is.place is.top.last in
    let wires = ap length is.widths in
    omega (arith, within, wires)

-- it has a circuit where it has no loop
circuit_there : (net : Net) → WellFormed net → FitsWhole net → ((flat : Flat) → IsFlatOf net flat → HasNoLoop flat)
    → (flat : Flat) × HasCircuit net flat
circuit_there net formed fits no_loop =
    let flat = flat_net_there net formed fits in
    (flat.0, record { «is» = flat.1; few = has_few net flat.0 fits flat.1; no_loop = no_loop flat.0 flat.1 })

-- the state in which the run ends is in normal form, since nothing of it is blocked
is_normal : LastStatesAreTyped → EndedIsNormal → (p : Program) (budget : ℕ) → IsTidy p → IsTyped p
    → (e : EndsSmall p budget) → IsNormal p e.state
is_normal typed_ ended p budget tidy typed e =
    (ended p e.state (is_typed typed_ tidy typed e.run) (is_ended e.run)).0 e.free

pub small_ends_compile : LastStatesAreTyped → EndedIsNormal → RunsHaveNets → SmallEndsCompile
small_ends_compile typed_ ended nets p budget tidy typed e =
    let normal = is_normal typed_ ended p budget tidy typed e in
    let net = nets built p (length e.run.steps) e.run.steps e.state tidy typed (is_run e.run) (is_few e.run) normal e.acyclic in
    let circuit = circuit_there net.0 net.2 (fits_whole net.0 (e.small.few net.0 net.1)) (λ flat is. e.small.no_loop net.0 flat net.1 is) in (
      net.0,
      circuit.0,
      record {
        net_is = record {
          state = e.state;
          run = e.run;
          finished = record { normal = normal; free = e.free; acyclic = e.acyclic };
          «is» = net.1;
        };
        circuit = circuit.1;
      },
    )
