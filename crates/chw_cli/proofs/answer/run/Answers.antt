use Rattle.std.proofs.Common.{[], ◌∷◌, refl}
use Rattle.std.proofs.lemmas.Result.{IfErr-weaker, IfOk-weaker, err_from_is_err_and}
use Rattle.chw_cli.specs.Answer.RunAnswer.{ran}
use Rattle.chw_cli.specs.Reads.{stimulus_in, verilog_in}
use Rattle.chw_cli.specs.Refusals.{RefusesStimulus, RefusesVerilog}
use Rattle.chw_words.specs.declared.command.Command.TheVariants.{Run}
use Rattle.chw_cli.proofs.Reasons.{file_refuses, run_is_text, second_answers, second_refuses, stimulus_answers, verilog_answers}
use Rattle.chw_cli.proofs.answer.run.Goals as goal

pub read_circuit-requires : goal.read_circuit-requires
read_circuit-requires g c = (run_is_text c.args.words.now c.args.verilog.now c.args.stimulus.now c.requires).0

pub run_lines-requires : goal.run_lines-requires
run_lines-requires g c = record {
  file = (run_is_text c.args.words.now c.args.verilog.now c.args.stimulus.now c.requires).1;
  steps = c.in_ok-circuit.ensures.circuit.2.steps;
}

pub returns-in_err-circuit-clause-refuses : goal.returns-in_err-circuit-clause-refuses
returns-in_err-circuit-clause-refuses g c =
    let p = err_from_is_err_and c.from_residual.result c.from_residual.ensures.1 in
    rw (p.1, p.2)
    (file_refuses g.F.Shelf.fetch_gives g.F.Shelf.told g.F.Shelf.faults c.args.words.now c.args.shelf.now c.read_circuit.new.shelf
    (Run c.args.verilog.now c.args.stimulus.now) (verilog_in c.args.verilog.now) (stimulus_in c.args.stimulus.now ∷ []) c.requires refl RefusesVerilog
    (λ text r w. verilog_answers c.args.verilog.now c.args.stimulus.now text r w) c.in_err-circuit.field-0.0 c.in_err-circuit.ensures.refused)

pub returns-clause-answers : goal.returns-clause-answers
returns-clause-answers g c =
    let circuit = c.in_ok-circuit.circuit in
    let text = c.in_ok-circuit.ensures.circuit.0 in
    let can = c.in_ok-circuit.ensures.circuit.2.runs in
    IfOk-weaker c.run_lines.result _ _
    (λ lines r. second_answers g.F.Shelf.fetch_gives g.F.Shelf.told g.F.Shelf.faults c.args.words.now c.args.shelf.now c.run_lines.new.shelf
    (Run c.args.verilog.now c.args.stimulus.now) (verilog_in c.args.verilog.now) (stimulus_in c.args.stimulus.now) c.requires refl text
    c.read_circuit.new.shelf c.in_ok-circuit.ensures.circuit.1 (circuit.flat, can) r.0 lines.items r.1
    (ran text r.0 lines.items circuit.flat can r.2))
    c.run_lines.ensures.lines

pub returns-clause-refuses : goal.returns-clause-refuses
returns-clause-refuses g c =
    let circuit = c.in_ok-circuit.circuit in
    let text = c.in_ok-circuit.ensures.circuit.0 in
    let can = c.in_ok-circuit.ensures.circuit.2.runs in
    IfErr-weaker c.run_lines.result _ _
    (λ r w. second_refuses g.F.Shelf.fetch_gives g.F.Shelf.told g.F.Shelf.faults c.args.words.now c.args.shelf.now c.run_lines.new.shelf
    (Run c.args.verilog.now c.args.stimulus.now) (verilog_in c.args.verilog.now) (stimulus_in c.args.stimulus.now) c.requires refl text
    c.read_circuit.new.shelf c.in_ok-circuit.ensures.circuit.1 (circuit.flat, can) (RefusesStimulus circuit.flat)
    (λ bytes q v. stimulus_answers c.args.verilog.now c.args.stimulus.now text circuit.flat can bytes q v) r w)
    c.run_lines.ensures.refused
