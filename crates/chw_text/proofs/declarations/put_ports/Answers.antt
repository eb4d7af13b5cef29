use Rattle.std.proofs.Common.{arith}
use Rattle.chw_text.proofs.DeclarationForms.{ports_put}
use Rattle.chw_text.proofs.declarations.put_ports.Goals as goal

pub returns : goal.returns
returns c = ports_put c.loop-i.i c.args.names.now c.in_ok-put_sign.ensures c.loop-i.invariant (omega (arith, c.loop-i-test.false)) c.in_ok-put_sign-2.ensures
