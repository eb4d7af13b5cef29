use Rattle.std.proofs.Common.{Ok, refl, sym, subst}
use Rattle.std.proofs.lemmas.Result.{err_from_is_err_and}
use Rattle.chw_cli.specs.Answer.{CompileAnswer}
use Rattle.chw_cli.specs.Answer.CompileAnswer.{compiled}
use Rattle.chw_words.specs.declared.command.EmitForm.TheVariants.{Shared}
use Rattle.verilog_text.specs.Text.{net_text}
use Rattle.verilog_text.specs.VText.{VText}
use Rattle.chw_cli.proofs.Emitting.{net_refuses}
use Rattle.chw_cli.proofs.SharedNets.{ports_hold}
use Rattle.chw_cli.proofs.emit.shared_text_of.Goals as goal

pub returns-in_err-whole-clause-refused : goal.returns-in_err-whole-clause-refused
returns-in_err-whole-clause-refused c =
    let p = err_from_is_err_and c.from_residual.result c.from_residual.ensures.1 in
    rw (p.1, p.2) (net_refuses c.args.program.now c.args.budget Shared c.in_err-whole.field-0.0 c.in_err-whole.ensures.refused)

pub share-requires-clause-ports : goal.share-requires-clause-ports
share-requires-clause-ports c =
    let is = c.in_ok-whole.ensures.compiled in
    ports_hold c.in_ok-whole.whole.net c.in_ok-whole.whole.flat is.well_formed is.compiles.circuit.«is»

pub returns-clause-emitted : goal.returns-clause-emitted
returns-clause-emitted c =
    let made = c.in_ok-whole.whole in
    let is = c.in_ok-whole.ensures.compiled in
    let net = c.in_ok-net.net in
    let shared = c.in_ok-net.ensures in
    let denoted : VText (net_text net) net =
    subst (λ text. VText text net) c.in_ok-readable_text.ensures.text c.in_ok-readable_text.ensures.denotes in
    subst (λ bytes. CompileAnswer c.args.program.now c.args.budget Shared (Ok bytes)) (sym c.in_ok-readable_text.ensures.text)
    (compiled (net_text net) (
      net,
      record {
        from = made.net;
        flat = made.flat;
        compiles = is.compiles;
        first_order = λ m it at.
            c.normal_is_first_order.ensures c.args.program.now is.compiles.net_is.state m it
            is.compiles.net_is.finished.normal at;
        from_sound = is.sound;
        shared = shared.shared;
        shares = shared.shares;
        same = shared.same;
        well_formed = shared.well_formed;
        text = record {
          denotes = denoted;
          only = λ other h. c.one_net.ensures (net_text net) other net h denoted;
        };
        flattens = shared.flattens;
        sound = shared.sound;
        no_loop = shared.no_loop;
        means = c.shared_net_means.ensures c.args.program.now made.flat shared.shared is.sound is.compiles.circuit.no_loop shared.shares is.means;
      },
      refl,
    ))
