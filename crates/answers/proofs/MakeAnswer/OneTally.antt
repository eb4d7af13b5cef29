-- A program and a text have one tally.
use Rattle.std.proofs.Common.{◌≡◌, ℕ, ◌%◌, ◌^◌, List, [], length, sym, ap, subst, ◌∙◌}
use Rattle.chw_clock.specs.declared.event.Event.{Event}
use Rattle.chw_clock.specs.declared.event.Ports.{Ports}
use Rattle.chw_terms.specs.declared.program.Program.{Program}
use Rattle.chw_meaning.specs.Laws.{OnePorts}
use Rattle.answers.specs.Compilation.Laws.{OneCompiled, OneCount}
use Rattle.netlist.specs.declared.net.Flat.{Flat}
use Rattle.answers.specs.SimAnswer.Laws.{OneMeant}
use Rattle.answers.specs.SimAnswer.Simulation.{MeantAt}
use Rattle.stimulus.specs.Stimulus.{Stim}
use Rattle.answers.specs.MakeAnswer.Laws.{OneTally}
use Rattle.answers.specs.MakeAnswer.Sums.{odd_sum}
use Rattle.answers.specs.MakeAnswer.Tally.{IsSummed, registers_of}
use Rattle.answers.specs.declared.make_answer.tally.Tally.{Tally}

-- a text is a stimulus of one list of events
abbrev pub OneStimulus : Type 0
OneStimulus =
    (text : List ℕ) (ports : Ports) (a b : List Event) → Stim text ports a → Stim text ports b → a ≡ b

one_sum : OnePorts → OneStimulus → OneMeant → (p : Program) (text : List ℕ) (a b : ℕ)
    → IsSummed p text a → IsSummed p text b → a ≡ b
one_sum ports_once once meant_once p text a b x y =
    let ports : y.ports ≡ x.ports = ports_once p y.ports x.ports y.stimulus.has.are_ports x.stimulus.has.are_ports in
    let events : y.events ≡ x.events =
    once text x.ports y.events x.events (subst (λ ps. Stim text ps y.events) ports y.stimulus.read) x.stimulus.read in
    let meant : MeantAt p (length x.ports.outputs) [] x.events y.outputs =
    subst (λ es. MeantAt p (length x.ports.outputs) [] es y.outputs) events
    (subst (λ (ps : Ports). MeantAt p (length ps.outputs) [] y.events y.outputs) ports y.meant) in
    let outputs : x.outputs ≡ y.outputs =
    meant_once p (length x.ports.outputs) [] x.events x.outputs y.outputs x.meant meant in
    x.sum_is ∙ ap (λ os. odd_sum os % 2 ^ 64) outputs ∙ sym y.sum_is

same_tally : (a b : Tally) → a.definitions ≡ b.definitions → a.rewrites ≡ b.rewrites → a.cells ≡ b.cells
    → a.registers ≡ b.registers → a.sum ≡ b.sum → a ≡ b
same_tally a b definitions rewrites cells registers sum = λ i. record {
  definitions = definitions i;
  rewrites = rewrites i;
  cells = cells i;
  registers = registers i;
  sum = sum i;
}

pub one_tally : OneCompiled → OneCount → OnePorts → OneStimulus → OneMeant → OneTally
one_tally one_net counts ports once meant p budget other text a b x y =
    let n = counts p budget other a.rewrites b.rewrites a.definitions b.definitions x.counted.counts y.counted.counts in
    let flat : x.counted.flat ≡ y.counted.flat =
    (one_net p budget other x.counted.net y.counted.net x.counted.flat y.counted.flat x.counted.compiles y.counted.compiles).1 in
    let cells : a.cells ≡ b.cells = x.counted.cells ∙ ap (λ (f : Flat). length f.cells) flat ∙ sym y.counted.cells in
    let registers : a.registers ≡ b.registers = x.counted.registers ∙ ap registers_of flat ∙ sym y.counted.registers in
    same_tally a b n.1 n.0 cells registers (one_sum ports once meant p text a.sum b.sum x.summed y.summed)
