-- Each wire of an instance has bits, of its width, and only these.
use Rattle.std.proofs.Common.{Bool, List, length, subst, sym, take, ℕ, ◌+◌, ◌<◌, ◌↔◌, ◌≡◌}
use Rattle.use_laws.specs.ValueIn.IsModuleAt.{top as first_module, used as used_module}
use Rattle.use_laws.specs.ValueIn.BeginsAt.{top as first_begins, used as used_begins}
use Rattle.net_grounds.specs.Facts.{Facts}
use Rattle.net_means.proofs.Lists.{same_some}
use Rattle.net_means.proofs.NetBits.FlatWires.{flat_width}
use Rattle.net_means.proofs.NetBits.FlatWires.{instance_of}
use Rattle.use_laws.specs.ValueIn.{BeginsAt, HasWidthAt, IsModuleAt, ValueIn}
use Rattle.chw_clock.specs.declared.event.Event.{Event}
use Rattle.chw_clock.specs.Histories.{FitsPorts}
use Rattle.netlist.specs.declared.net.Flat.{Flat}
use Rattle.netlist.specs.Orders.{HasNoLoop, IsLoop, IsOrder}
use Rattle.netlist.specs.NetValue.{HasValue, NetValue}
use Rattle.chw_meaning.specs.Values.{History}
use Rattle.net_flat.specs.Flattened.{IsFlatOf, wires_before}
use Rattle.netlist.specs.declared.net.Module.{Module}
use Rattle.netlist.specs.declared.net.Net.{Net}
use Rattle.netlist.specs.Sound.{Sound}
use Rattle.net_rules.specs.WellFormed.{WellFormed}
use Rattle.chw_base.specs.declared.index.WireId.{WireId}
use Rattle.net_means.proofs.NetBits.There.{found_within}

abbrev pub ThroughUses : Type 0
ThroughUses =
    (net : Net) (flat : Flat) (path : List ℕ) (m : Module) (base : ℕ) (h : List Event) (w : ℕ) (bits : List Bool)
    → WellFormed net → IsFlatOf net flat → IsModuleAt net path m → BeginsAt net path base → w < length m.widths → (ValueIn net path h w bits ↔ NetValue flat h (base + w) bits)

abbrev pub OrderExcludesLoops : Type 0
OrderExcludesLoops = (flat : Flat) (places : List ℕ) (cycle : List WireId) → Sound flat → IsOrder flat places → IsLoop flat cycle → ⊥

abbrev pub EachHasValue : Type 0
EachHasValue = (flat : Flat) (h : List Event) (w : ℕ) → Sound flat → HasNoLoop flat → FitsPorts flat.ports h → w < length flat.widths → HasValue flat h w

abbrev pub OneValue : Type 0
OneValue = (flat : Flat) (h : List Event) (w : ℕ) (a b : List Bool) → Sound flat → NetValue flat h w a → NetValue flat h w b → a ≡ b

-- each wire of an instance has bits of its width at a history
abbrev pub WiresHave : Net → History → Type 0
WiresHave net h = (path : List ℕ) (w : WireId) (n : ℕ) → HasWidthAt net path w n → (bits : List Bool) × ValueIn net path h w.number bits × (length bits ≡ n)

-- and only one list of bits
abbrev pub WiresOnce : Net → History → Type 0
WiresOnce net h = (path : List ℕ) (w : WireId) (n : ℕ) (a b : List Bool) → HasWidthAt net path w n → ValueIn net path h w.number a → ValueIn net path h w.number b → a ≡ b

begins : (net : Net) {path : List ℕ} {m : Module} → IsModuleAt net path m → (base : ℕ) × BeginsAt net path base
begins net (first_module i m is) = (0, first_begins)
begins net (used_module path place m inner k reads drives at stands there) =
    let b = begins net at in
    (b.0 + wires_before net m (take place m.cells), used_begins path b.0 place m k reads drives b.1 at stands)

module _ (facts : Facts) (through : ThroughUses) (loops : OrderExcludesLoops) (values : EachHasValue) (once : OneValue) (net : Net) (flat : Flat) (places : List ℕ) (good : WellFormed net) (of : IsFlatOf net flat) (sound : Sound flat) (ordered : IsOrder flat places) (h : History) (fits : FitsPorts net.ports h) where
  free : HasNoLoop flat
  free cycle loop = loops flat places cycle sound ordered loop

  fits_flat : FitsPorts flat.ports h
  fits_flat = subst (λ ports. FitsPorts ports h) (sym of.ports) fits

  pub wires_have : WiresHave net h
  wires_have path w n at =
      let b = begins net at.at in
      let inst = instance_of facts net path b.0 at.m b.1 at.at in
      let there = flat_width facts net flat b.0 at.m w.number n good of inst at.wide in
      let value = values flat h (b.0 + w.number) sound free fits_flat (found_within flat.widths (b.0 + w.number) n there) in
      let l = found_within at.m.widths w.number n at.wide in
      (value.bits, (through net flat path at.m b.0 h w.number value.bits good of at.at b.1 l).1 value.value, same_some value.width there)

  pub wires_once : WiresOnce net h
  wires_once path w n a b at one other =
      let p = begins net at.at in
      let l = found_within at.m.widths w.number n at.wide in
      once flat h (p.0 + w.number) a b sound ((through net flat path at.m p.0 h w.number a good of at.at p.1 l).0 one) ((through net flat path at.m p.0 h w.number b good of at.at p.1 l).0 other)
