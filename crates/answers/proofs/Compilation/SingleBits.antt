-- The net of single bits means what the flat net means that becomes it.
use Rattle.std.proofs.Common.{◌≡◌, ◌<◌, refl, ℕ, suc, zero, Bool, List, [], ◌∷◌, length, Some, subst, arith}
use Rattle.std.specs.Prelude.{slice_get}
use Rattle.bit_laws.specs.Bitnet.{HaveBits}
use Rattle.bit_laws.specs.Blast.{blast, output_names}
use Rattle.chw_base.specs.declared.index.WireId.{WireId}
use Rattle.chw_clock.specs.Histories.{FitsPorts}
use Rattle.chw_clock.specs.declared.event.Event.{Event}
use Rattle.chw_clock.specs.declared.event.Port.{Port}
use Rattle.chw_clock.specs.declared.event.Ports.{Ports}
use Rattle.chw_meaning.specs.Laws.{OnePorts}
use Rattle.chw_meaning.specs.Means.{Fit}
use Rattle.chw_meaning.specs.Values.{History}
use Rattle.chw_terms.specs.declared.program.Program.{Program}
use Rattle.net_means.specs.Outputs.{NetMeans}
use Rattle.netlist.specs.NetValue.{NetValue}
use Rattle.netlist.specs.Orders.{HasNoLoop}
use Rattle.netlist.specs.Sound.{Sound}
use Rattle.netlist.specs.declared.net.Flat.{Flat}
use Rattle.answers.specs.Compilation.Laws.{SingleBitsMean}
use Rattle.answers.specs.Compilation.SingleBits.{BitsMean, OutputBitsMean}

-- the names of an output have the bits that its wire has
abbrev pub KeepsOutputBits : Type 0
KeepsOutputBits = (flat : Flat) (h : List Event) (k : ℕ) (port : Port) (o : WireId) (bits : List Bool) → Sound flat → HasNoLoop flat → FitsPorts flat.ports h
    → slice_get flat.ports.outputs k ≡ Some port → slice_get flat.outputs k ≡ Some o → NetValue flat h o.number bits
    → HaveBits flat.ports (blast flat) h (output_names flat.ports port) bits

-- there is something at a place within a list
there : {X : Type 0} (xs : List X) (k : ℕ) → k < length xs → (x : X) × (slice_get xs k ≡ Some x)
there [] k within = absurd (omega (arith, within))
there (x ∷ xs) zero within = (x, refl)
there (x ∷ xs) (suc k) within = there xs k (omega (arith, within))

module _ (one : OnePorts) (keeps : KeepsOutputBits) (p : Program) (flat : Flat) (sound : Sound flat) (no_loop : HasNoLoop flat) (means : NetMeans p flat) where
  output_bits : (h : History) (k : ℕ) → Fit p h → k < length flat.ports.outputs → OutputBitsMean p flat h k
  output_bits h k fit within =
      let m = means.each h k fit (let n = means.as_many in omega (arith, n, within)) in
      let fits : FitsPorts flat.ports h = subst (λ (ports : Ports). FitsPorts ports h) (one p fit.ports flat.ports fit.are_ports means.ports) fit.fits in
      let port = there flat.ports.outputs k within in
      record {
        value = m.value;
        means = m.means;
        leaf = m.leaf;
        is_leaf = m.is_leaf;
        port = port.0;
        is_port = port.1;
        bits = m.bits;
        have = keeps flat h k port.0 m.wire m.bits sound no_loop fits port.1 m.is_output m.has;
        encodes = m.encodes;
      }

  pub bits_mean : BitsMean p flat
  bits_mean = record { ports = means.ports; each = output_bits }

pub single_bits_mean : OnePorts → KeepsOutputBits → SingleBitsMean
single_bits_mean one keeps p flat sound no_loop means = bits_mean one keeps p flat sound no_loop means
