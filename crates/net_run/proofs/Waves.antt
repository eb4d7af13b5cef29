-- One event more in the waves.
use Rattle.std.proofs.Common.{◌≡◌, ℕ, ◌+◌, Bool, List, [], ◌∷◌, ◌++◌, length, take, map, ap, sym, subst, ◌∙◌, arith}
use Rattle.std.specs.Prelude.{drop}
use Rattle.chw_clock.specs.Histories.{HaveWidths}
use Rattle.chw_clock.specs.declared.event.Event.{Event}
use Rattle.chw_clock.specs.declared.event.Port.{Port}
use Rattle.netlist.specs.NetValue.{ReadValues}
use Rattle.netlist.specs.declared.net.Flat.{Flat}
use Rattle.net_run.specs.Runs.{IsWaveRun, OutputsAt}
use Rattle.net_run.proofs.Lines.{outputs_more, past_after}
use Rattle.waves.specs.Holding.{HoldsVcd, Printed, with_event}
use Rattle.waves.specs.Vcd.{Vcd}

-- bits of the widths of ports
pub have_widths : (ports : List Port) (values : List (List Bool)) → map length values ≡ map (λ (port : Port). port.width) ports → HaveWidths ports values
have_widths [] [] same = tt
have_widths [] (bits ∷ values) same = let none = ap length same in absurd (omega (arith, none))
have_widths (port ∷ ports) [] same = let none = ap length same in absurd (omega (arith, none))
have_widths (port ∷ ports) (bits ∷ values) same =
    let wide : length bits ≡ port.width = cc in
    (wide, have_widths ports values (ap (drop 1) same))

-- the printer holds the waves of the net at these events
pub record HoldsRun (flat : Flat) (events : List Event) (it : Printed) : Type 0 where
  pub outputs : List (List (List Bool))
  pub shown : OutputsAt flat [] events outputs
  pub holds : HoldsVcd events outputs it
  pub ports : it.ports ≡ flat.ports

pub run_holds : (flat : Flat) (events : List Event) (n : ℕ) (event : Event) (outputs : List (List Bool)) (old new : Printed)
    → take (n + 1) events ≡ take n events ++ event ∷ [] → HoldsRun flat (take n events) old
    → ReadValues flat (event ∷ past_after [] (take n events)) flat.outputs outputs → new ≡ with_event event outputs old
    → ((es : List Event) (os : List (List (List Bool))) → HoldsVcd es os old → HoldsVcd (es ++ event ∷ []) (os ++ outputs ∷ []) new)
    → HoldsRun flat (take (n + 1) events) new
run_holds flat events n event outputs old new one run read is more =
    subst (λ es. HoldsRun flat es new) (sym one)
    (record {
      outputs = run.outputs ++ outputs ∷ [];
      shown = outputs_more flat [] (take n events) event outputs run.outputs run.shown read;
      holds = more (take n events) run.outputs run.holds;
      ports = ap (λ (it : Printed). it.ports) is ∙ run.ports;
    })

pub waves_held : (flat : Flat) (events : List Event) (it : Printed) (text : List ℕ) → HoldsRun flat events it → text ≡ it.text → IsWaveRun flat events text
waves_held flat events it text run is = record {
  outputs = run.outputs;
  shown = run.shown;
  text_is = is ∙ run.holds.text ∙ ap (λ ps. Vcd ps events run.outputs) run.ports;
}
