use Rattle.std.proofs.Common.{Ok, refl, sym, subst}
use Rattle.std.proofs.lemmas.Result.{err_from_is_err_and}
use Rattle.chw_cli.specs.Answer.{CompileAnswer}
use Rattle.chw_cli.specs.Answer.CompileAnswer.{compiled}
use Rattle.verilog_text.specs.Text.{net_text}
use Rattle.verilog_text.specs.VText.{VText}
use Rattle.chw_words.specs.declared.command.EmitForm.TheVariants.{Verilog}
use Rattle.chw_cli.proofs.Emitting.{net_refuses}
use Rattle.chw_cli.proofs.emit.text_of.Goals as goal

pub returns-in_err-made-clause-refused : goal.returns-in_err-made-clause-refused
returns-in_err-made-clause-refused c =
    let p = err_from_is_err_and c.from_residual.result c.from_residual.ensures.1 in
    rw (p.1, p.2) (net_refuses c.args.program.now c.args.budget Verilog c.in_err-made.field-0.0 c.in_err-made.ensures.refused)

pub returns-clause-emitted : goal.returns-clause-emitted
returns-clause-emitted c =
    let made = c.in_ok-made.made in
    let is = c.in_ok-made.ensures.compiled in
    let denoted : VText (net_text made.net) made.net =
    subst (λ text. VText text made.net) c.in_ok-readable_text.ensures.text c.in_ok-readable_text.ensures.denotes in
    subst (λ bytes. CompileAnswer c.args.program.now c.args.budget Verilog (Ok bytes)) (sym c.in_ok-readable_text.ensures.text)
    (compiled (net_text made.net) (
      made.net,
      record {
        flat = made.flat;
        compiles = is.compiles;
        first_order = λ m it at.
            c.normal_is_first_order.ensures c.args.program.now is.compiles.net_is.state m it
            is.compiles.net_is.finished.normal at;
        well_formed = is.well_formed;
        text = record {
          denotes = denoted;
          only = λ other h. c.one_net.ensures (net_text made.net) other made.net h denoted;
        };
        sound = is.sound;
        means = is.means;
      },
      refl,
    ))
