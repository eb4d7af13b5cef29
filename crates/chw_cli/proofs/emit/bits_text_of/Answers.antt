use Rattle.std.proofs.Common.{◌≡◌, Ok, refl, sym, subst}
use Rattle.std.proofs.lemmas.Result.{err_from_is_err_and}
use Rattle.bit_laws.specs.Blast.{blast}
use Rattle.blif_text.specs.BlifText.{BlifText}
use Rattle.blif_text.specs.Printed.{blif_text}
use Rattle.chw_cli.specs.Answer.{CompileAnswer}
use Rattle.chw_cli.specs.Answer.CompileAnswer.{compiled}
use Rattle.chw_cli.specs.Bits.{HasFewBits}
use Rattle.chw_words.specs.declared.command.EmitForm.TheVariants.{Blif}
use Rattle.chw_cli.proofs.Emitting.{bits_refuse, net_refuses}
use Rattle.chw_cli.proofs.SharedNets.{ports_hold}
use Rattle.chw_cli.proofs.SingleBits.{few_bits, fits_in_a_word, text_of_nodes}
use Rattle.chw_cli.proofs.emit.bits_text_of.Goals as goal

pub returns-in_err-compiled-clause-refused : goal.returns-in_err-compiled-clause-refused
returns-in_err-compiled-clause-refused c =
    let p = err_from_is_err_and c.from_residual.result c.from_residual.ensures.1 in
    rw (p.1, p.2) (net_refuses c.args.program.now c.args.budget Blif c.in_err-compiled.field-0.0 c.in_err-compiled.ensures.refused)

pub returns-in_err-nodes-clause-refused : goal.returns-in_err-nodes-clause-refused
returns-in_err-nodes-clause-refused c =
    let p = err_from_is_err_and c.from_residual-in_err-nodes.result c.from_residual-in_err-nodes.ensures.1 in
    rw (p.1, p.2)
    (bits_refuse c.args.program.now c.args.budget c.in_ok-compiled.compiled.net c.in_ok-compiled.compiled.flat c.in_err-nodes.field-0.0
    c.in_ok-compiled.ensures.compiled.compiles c.in_err-nodes.ensures.many)

pub returns-clause-emitted : goal.returns-clause-emitted
returns-clause-emitted c =
    let p = c.args.program.now in
    let made = c.in_ok-compiled.compiled in
    let is = c.in_ok-compiled.ensures.compiled in
    let flat = made.flat in
    let hold = ports_hold made.net flat is.well_formed is.compiles.circuit.«is» in
    let few : HasFewBits flat = few_bits flat c.in_ok-nodes.nodes c.in_ok-nodes.ensures.nodes c.in_ok-nodes.ensures.few in
    let text = blif_text (blast flat) in
    let same : c.into_vec.result.items ≡ text =
    text_of_nodes flat c.in_ok-nodes.nodes c.as_slice.result.now c.in_ok-text.text c.into_vec.result.items c.as_slice.ensures
    c.in_ok-nodes.ensures.nodes c.in_ok-text.ensures c.into_vec.ensures in
    let denoted : BlifText text (blast flat) = c.printed_bits_are_read.ensures (blast flat) (c.blasted_bits_are_right.ensures flat is.sound hold (fits_in_a_word flat few)) in
    subst (λ bytes. CompileAnswer p c.args.budget Blif (Ok bytes)) (sym same)
    (compiled text
    (record {
      net = made.net;
      flat = flat;
      compiles = is.compiles;
      first_order = λ m it at.
          c.normal_is_first_order.ensures p is.compiles.net_is.state m it
          is.compiles.net_is.finished.normal at;
      well_formed = is.well_formed;
      sound = is.sound;
      few = few;
      same = refl;
      bits = record { denotes = denoted; only = λ other h. c.one_bitnet.ensures text other (blast flat) h denoted };
      once = λ h name a b fits x y.
          c.one_bit_value.ensures flat h name a b is.sound hold (fits_in_a_word flat few) fits x y;
      mean = c.single_bits_mean.ensures p flat is.sound is.compiles.circuit.no_loop is.means;
    }))
