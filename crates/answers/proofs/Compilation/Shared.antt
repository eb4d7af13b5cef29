-- The shared net means what the flat net means of which it is made.
use Rattle.std.proofs.Common.{◌≡◌, ◌∙◌, sym, refl, ap, ℕ, suc, zero, Bool, List, [], ◌∷◌, length, Some, subst, arith}
use Rattle.std.specs.Prelude.{◌↔◌, slice_get}
use Rattle.chw_base.specs.declared.index.WireId.{WireId}
use Rattle.chw_clock.specs.Histories.{FitsPorts}
use Rattle.chw_clock.specs.declared.event.Event.{Event}
use Rattle.chw_clock.specs.declared.event.Ports.{Ports}
use Rattle.chw_meaning.specs.Laws.{OnePorts}
use Rattle.chw_meaning.specs.Means.{Fit, HasPorts}
use Rattle.chw_meaning.specs.Values.{History}
use Rattle.chw_terms.specs.declared.program.Program.{Program}
use Rattle.net_means.specs.Outputs.{NetMeans, OutputMeans}
use Rattle.netlist.specs.NetValue.{NetValue}
use Rattle.netlist.specs.Orders.{HasNoLoop}
use Rattle.netlist.specs.Sound.{Sound}
use Rattle.netlist.specs.declared.net.Flat.{Flat}
use Rattle.share_laws.specs.Shares.{AllBecome, Shares}
use Rattle.answers.specs.Compilation.Laws.{SharedNetMeans}

-- an output has the bits of the output that it becomes
abbrev pub KeepsOutputs : Type 0
KeepsOutputs = (flat shared : Flat) (h : List Event) (k : ℕ) (o p : WireId) (bits : List Bool) → Sound flat → HasNoLoop flat → FitsPorts flat.ports h
    → Shares flat shared → slice_get flat.outputs k ≡ Some o → slice_get shared.outputs k ≡ Some p
    → (NetValue flat h o.number bits ↔ NetValue shared h p.number bits)

-- wires become as many
become_as_many : (flat : Flat) (kept : List ℕ) (wires others : List WireId) → AllBecome flat kept wires others → length wires ≡ length others
become_as_many flat kept [] [] all = refl
become_as_many flat kept [] (n ∷ others) all = absurd all
become_as_many flat kept (w ∷ wires) [] all = absurd all
become_as_many flat kept (w ∷ wires) (n ∷ others) all = ap suc (become_as_many flat kept wires others all.1)

-- what the wire at a place becomes
becomes_at : (flat : Flat) (kept : List ℕ) (wires others : List WireId) (k : ℕ) (w : WireId) → AllBecome flat kept wires others
    → slice_get wires k ≡ Some w → (n : WireId) × (slice_get others k ≡ Some n)
becomes_at flat kept [] [] k w all at = absurd cc
becomes_at flat kept [] (n ∷ others) k w all at = absurd all
becomes_at flat kept (v ∷ wires) [] k w all at = absurd all
becomes_at flat kept (v ∷ wires) (n ∷ others) zero w all at = (n, refl)
becomes_at flat kept (v ∷ wires) (n ∷ others) (suc k) w all at = becomes_at flat kept wires others k w all.1 at

module _ (one : OnePorts) (keeps : KeepsOutputs) (p : Program) (flat shared : Flat) (sound : Sound flat) (no_loop : HasNoLoop flat) (shares : Shares flat shared)
    (means : NetMeans p flat) where
  as_many : length flat.outputs ≡ length shared.outputs
  as_many = become_as_many flat shares.kept flat.outputs shared.outputs shares.outputs

  output_means : (h : History) (k : ℕ) → Fit p h → OutputMeans p flat h k → OutputMeans p shared h k
  output_means h k fit m =
      let fits : FitsPorts flat.ports h = subst (λ (ports : Ports). FitsPorts ports h) (one p fit.ports flat.ports fit.are_ports means.ports) fit.fits in
      let at = becomes_at flat shares.kept flat.outputs shared.outputs k m.wire shares.outputs m.is_output in
      record {
        value = m.value;
        means = m.means;
        leaf = m.leaf;
        is_leaf = m.is_leaf;
        wire = at.0;
        is_output = at.1;
        bits = m.bits;
        has = (keeps flat shared h k m.wire at.0 m.bits sound no_loop fits shares m.is_output at.1).0 m.has;
        encodes = m.encodes;
      }

  pub net_means : NetMeans p shared
  net_means = record {
    ports = subst (HasPorts p) (sym shares.ports) means.ports;
    as_many = sym as_many ∙ means.as_many ∙ ap (λ (ports : Ports). length ports.outputs) (sym shares.ports);
    each = λ h k fit within. output_means h k fit (means.each h k fit (let n = as_many in omega (arith, n, within)));
  }

pub shared_net_means : OnePorts → KeepsOutputs → SharedNetMeans
shared_net_means one keeps p flat shared sound no_loop shares means = net_means one keeps p flat shared sound no_loop shares means
