-- What stays while wires are settled.
use Rattle.std.proofs.Common.{◌≡◌, ℕ, Bool, List, ◌∷◌, Option, Some, None, slice_get, refl, sym, ap, subst, ◌∙◌}
use Rattle.std.specs.Prelude.{option_map}
use Rattle.std.proofs.lemmas.Option.{slice_get-map, slice_get_within}
use Rattle.chw_base.specs.declared.index.WireId.{WireId}
use Rattle.chw_clock.specs.declared.event.Event.{Event}
use Rattle.chw_clock.specs.declared.event.Port.{Port}
use Rattle.netlist.specs.NetValue.{NetValue}
use Rattle.netlist.specs.Sound.{IsWire, Sound}
use Rattle.netlist.specs.declared.net.Cell.TheVariants.{Reg, Ram}
use Rattle.netlist.specs.declared.net.Flat.{Flat}
use Rattle.net_sim.specs.Settling.{KeepsKeepers}
use Rattle.net_sim.specs.Stepping.{StandsFor}
use Rattle.net_sim.specs.Ticking.{MemoriesFit, Stepped}

-- a table in which registers and RAMs show what they showed stands for what it stood for
pub stands_kept : (flat : Flat) (table table' : List (List Bool)) (memories : List (List (List Bool))) (past : List Event)
    → StandsFor flat table memories past → KeepsKeepers flat table table' → StandsFor flat table' memories past
stands_kept flat table table' memories past stands kept = record {
  registers = λ present w a domain initial has.
      subst (NetValue flat (present ∷ past) w.number) (sym (kept (Reg w domain initial a) w.number has (λ keeps. keeps) refl))
      (stands.registers present w a domain initial has);
  rams = λ present w ram has.
      subst (NetValue flat (present ∷ past) w.number) (sym (kept (Ram w ram.domain ram.words ram.inputs) w.number has (λ keeps. keeps) refl))
      (stands.rams present w ram has);
  words = stands.words;
}

-- a step from equal tables
pub step_along : (flat : Flat) (event : Event) (table other : List (List Bool)) (memories others : List (List (List Bool)))
    (table' : List (List Bool)) (memories' : List (List (List Bool))) → table ≡ other → memories ≡ others
    → Stepped flat event table memories table' memories' → Stepped flat event other others table' memories'
step_along flat event table other memories others table' memories' same all step =
    subst (λ l. Stepped flat event l others table' memories') same (subst (λ m. Stepped flat event table m table' memories') all step)

no_width : (widths : List ℕ) (w : ℕ) (ports : List Port) (k : ℕ)
    → Some (slice_get widths w) ≡ option_map (λ (port : Port). Some port.width) (slice_get ports k) → (n : ℕ) × (slice_get widths w ≡ Some n)
no_width widths w ports k e = from (slice_get ports k) e
  where
    from : (port : Option Port) → Some (slice_get widths w) ≡ option_map (λ (port : Port). Some port.width) port → (n : ℕ) × (slice_get widths w ≡ Some n)
    from None e = absurd (cc)
    from (Some port) e = (port.width, cc)

-- the wire of an output is there
pub output_wire : (flat : Flat) (k : ℕ) (w : WireId) → Sound flat → slice_get flat.outputs k ≡ Some w → IsWire flat.widths w
output_wire flat k w sound at =
    let read : WireId → Option ℕ = λ w. slice_get flat.widths w.number in
    let wide : Port → Option ℕ = λ port. Some port.width in
    let left = slice_get-map read flat.outputs k ∙ ap (option_map read) at in
    let right = slice_get-map wide flat.ports.outputs k in
    let found = no_width flat.widths w.number flat.ports.outputs k (sym left ∙ ap (λ l. slice_get l k) sound.outputs ∙ right) in
    slice_get_within flat.widths w.number found.0 found.1

-- along equal tables and memories
pub fit_both : (table other : List (List Bool)) (memories others : List (List (List Bool))) → other ≡ table → others ≡ memories
    → MemoriesFit table memories → MemoriesFit other others
fit_both table other memories others same all fit =
    subst (λ l. MemoriesFit l others) (sym same) (subst (λ m. MemoriesFit table m) (sym all) fit)

pub stands_both : (flat : Flat) (table other : List (List Bool)) (memories others : List (List (List Bool))) (past : List Event) → other ≡ table
    → others ≡ memories → StandsFor flat table memories past → StandsFor flat other others past
stands_both flat table other memories others past same all stands =
    subst (λ l. StandsFor flat l others past) (sym same) (subst (λ m. StandsFor flat table m past) (sym all) stands)
