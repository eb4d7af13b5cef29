-- A sum of numbers of at most 32 bits is below 2 to the 64.
use Rattle.std.proofs.Common.{◌≡◌, ℕ, zero, suc, ◌*◌, ◌%◌, ◌^◌, ◌<◌, ◌≤◌, ◌==◌, Bool, true, false, List, [], ◌∷◌, length, Some, refl, subst, ◌∙◌, arith}
use Rattle.std.specs.Prelude.{cond, slice_get}
use Rattle.chw_bits.specs.Bits.{number_of}
use Rattle.chw_bits.proofs.Numbers.{lt-pow, number_of_lt}
use Rattle.chw_base.specs.declared.limits.TheConstants.{EVENTS}
use Rattle.chw_clock.specs.declared.event.Event.{Event}
use Rattle.chw_clock.specs.declared.event.Port.{Port}
use Rattle.chw_clock.specs.declared.event.Ports.{Ports}
use Rattle.chw_types.specs.declared.declarations.Data.{Data}
use Rattle.type_ports.specs.declared.ports.Leaf.{Leaf}
use Rattle.chw_terms.specs.declared.program.Program.{Program}
use Rattle.chw_layout.specs.EncodingPromises.{EncodingHasWidth}
use Rattle.chw_layout.specs.Measured.{HasWidth}
use Rattle.chw_meaning.specs.Means.{HasPorts, IsPortAt, PortsOf, no_port_and, no_ports, port_and, port_here, port_of, port_past}
use Rattle.chw_meaning.specs.Values.{History}
use Rattle.chw_meaning.proofs.GivenOnce.{wide_and_empty}
use Rattle.chw_meaning.proofs.Once.{same_some}
use Rattle.answers.specs.SimAnswer.Simulation.{AreMeant, MeantAt, meant_at_more, meant_at_none}
use Rattle.answers.proofs.SimAnswer.Tops.{top_once}
use Rattle.answers.specs.MakeAnswer.Laws.{SumsAreWhole}
use Rattle.answers.specs.MakeAnswer.Sums.{first_number, sum_from}
use Rattle.answers.specs.MakeAnswer.Tally.{IsNarrow}

-- the first port, which is that of the leaf
record FirstPort (datas : List Data) (ports : List Port) (leaf : Leaf) : Type 0 where
  pub port : Port
  pub is : slice_get ports 0 ≡ Some port
  pub wide : HasWidth datas leaf.payload port.width

first_port : {datas : List Data} {leaves : List Leaf} {names : List (List ℕ)} {ports : List Port} {j : ℕ}
    (leaf : Leaf) → PortsOf datas leaves names ports → IsPortAt datas leaves j zero
    → slice_get leaves j ≡ Some leaf → FirstPort datas ports leaf
first_port leaf no_ports port at = elim port [ ]
first_port {datas} leaf (port_and {leaf = here} {name = name} {w = w} v more) (port_here u) at = record {
  port = port_of name here (suc w);
  is = refl;
  wide = subst (λ (l : Leaf). HasWidth datas l.payload (suc w)) (same_some refl at) v;
}
first_port leaf (port_and v more) (port_past u rest) at = wide_and_empty u (_, v)
first_port leaf (no_port_and v more) (port_here u) at = wide_and_empty v (_, u)
first_port leaf (no_port_and v more) (port_past u rest) at = first_port leaf more rest at

module _ (widths : EncodingHasWidth) (p : Program) (ports : Ports) (has : HasPorts p ports) (narrow : IsNarrow ports) where
  -- the number of the first output
  number_below : (many : ℕ) (h : History) (outputs : List (List Bool)) → AreMeant p many h outputs
      → first_number outputs < 2 ^ 32
  number_below many h [] meant = omega arith
  number_below many h (bits ∷ others) meant =
      let m = meant.each zero bits refl in
      let outs : m.means.outs ≡ has.outs = (top_once m.means.top has.top).1 in
      let is_port = subst (λ ls. IsPortAt p.datas ls m.means.leaf zero) outs m.means.is_port in
      let at = subst (λ ls. slice_get ls m.means.leaf ≡ Some m.leaf) outs m.is_leaf in
      let first = first_port m.leaf has.outputs is_port at in
      let long : length bits ≡ first.port.width =
      widths p.datas m.leaf.payload m.value first.port.width bits first.wide m.encodes in
      let short : first.port.width ≤ 32 = narrow first.port first.is in
      lt-pow (number_of bits) (length bits) 32 (number_of_lt bits) (omega (arith, long, short))

  either_below : (odd : Bool) (n : ℕ) → n < 2 ^ 32 → cond odd n 0 < 2 ^ 32
  either_below true n below = below
  either_below false n below = omega arith

  -- the sum at some events
  sum_below : {many : ℕ} {past events : List Event} {outputs : List (List (List Bool))} (j : ℕ)
      → MeantAt p many past events outputs → sum_from j outputs ≤ length events * 2 ^ 32
  sum_below j (meant_at_none past) = omega arith
  sum_below {many} j (meant_at_more past events event outputs others meant rest) =
      let here = either_below (j % 2 == 1) (first_number outputs)
      (number_below many (event ∷ past) outputs meant) in
      let after = sum_below (suc j) rest in
      omega (arith, here, after)

pub sums_are_whole : EncodingHasWidth → SumsAreWhole
sums_are_whole widths p text sum s narrow =
    let below = sum_below widths p s.ports s.stimulus.has.are_ports narrow 0 s.meant in
    let few : length s.events ≤ EVENTS = s.stimulus.read.few in
    s.sum_is ∙ (omega (arith, below, few))
