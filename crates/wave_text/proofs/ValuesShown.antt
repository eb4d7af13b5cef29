-- A printed wave has the values of its events at their times.
use Rattle.std.proofs.Common.{◌≡◌, ℕ, ◌+◌, ◌*◌, ◌<◌, Bool, true, false, List, [], ◌∷◌, length, map, Some, None, slice_get, sym, ap, ◌∙◌, subst, arith}
use Rattle.std.specs.List.{AllByRecursion}
use Rattle.std.proofs.lemmas.List.{length-map}
use Rattle.chw_clock.specs.Histories.{HaveWidths}
use Rattle.chw_clock.specs.declared.event.Event.{Event}
use Rattle.chw_clock.specs.declared.event.Ports.{Ports}
use Rattle.waves.specs.Vcd.{values_at, variables}
use Rattle.waves.specs.declared.wave.WaveVar.{WaveVar}
use Rattle.wave_text.specs.Printable.{ArePrintable}
use Rattle.wave_text.specs.PrintedWave.{events_steps, vcd_wave}
use Rattle.wave_text.specs.Values.{at_time}
use Rattle.wave_text.proofs.Showing.{Shows, Wide, at_event}

-- the widths of values, by the law of the printer
abbrev Widths : Type 0
Widths =
    (ports : Ports) (risen : Bool) (event : Event) (outputs : List (List Bool)) → HaveWidths ports.inputs event.inputs
    → HaveWidths ports.outputs outputs → map length (values_at ports risen event outputs) ≡ map (λ (it : WaveVar). it.width) (variables ports)

as_many : (values : List (List Bool)) (vars : List WaveVar) → map length values ≡ map (λ (it : WaveVar). it.width) vars → length values ≡ length vars
as_many values vars same = sym (length-map values length) ∙ ap length same ∙ length-map vars (λ (it : WaveVar). it.width)

wide : Widths → (ports : Ports) (events : List Event) (outputs : List (List (List Bool))) → AllByRecursion (λ (event : Event). HaveWidths ports.inputs event.inputs) events
    → AllByRecursion (HaveWidths ports.outputs) outputs → Wide (length (variables ports)) ports events outputs
wide widths ports [] outputs ins outs = tt
wide widths ports (event ∷ events) [] ins outs = tt
wide widths ports (event ∷ events) (shown ∷ outputs) ins outs = (
  as_many (values_at ports false event shown) (variables ports) (widths ports false event shown ins.0 outs.0),
  as_many (values_at ports true event shown) (variables ports) (widths ports true event shown ins.0 outs.0),
  wide widths ports events outputs ins.1 outs.1,
)

pub all_shown : Widths → (ports : Ports) (events : List Event) (outputs : List (List (List Bool))) (k var : ℕ) (event : Event) (shown : List (List Bool))
    → ArePrintable ports events outputs → slice_get events k ≡ Some event → slice_get outputs k ≡ Some shown → var < length (variables ports)
    → (at_time (vcd_wave ports events outputs) var (2 * k) ≡ slice_get (values_at ports false event shown) var)
    × (at_time (vcd_wave ports events outputs) var (2 * k + 1) ≡ slice_get (values_at ports true event shown) var)
all_shown widths ports events outputs k var event shown known there beside within =
    let place : 0 + k ≡ k = omega arith in
    subst (λ (n : ℕ). Shows var (2 * n) None (events_steps 0 ports [] events outputs) ports event shown) place
    (at_event k 0 var (length (variables ports)) ports [] events outputs None event shown within
    (wide widths ports events outputs known.events_fit known.outputs_fit) (λ bits nothing. cc) there beside)
