use Rattle.std.proofs.Common.{◌≡◌, [], List, subst}
use Rattle.std.specs.Prelude.{IfOk}
use Rattle.chw_base.specs.Outcome.{IfFault}
use Rattle.blif_text.specs.BlifText.{EachIs, HasLength, HasNames, net_said}
use Rattle.blif_text.specs.declared.fault.BlifFault.{BlifFault}
use Rattle.blif_read.specs.Nets.{IsRuleFault, bitnet_of}
use Rattle.blif_read.specs.Shown.{all_said}
use Rattle.blif_read.specs.declared.bitnet.Bitnet.{Bitnet}
use Rattle.blif_read.specs.declared.statement.Said.{Said as ReadSaid}
use Rattle.blif_read.proofs.Judging.{rule_fault, text_is}
use Rattle.blif_read.proofs.reading.read.Goals as goal

pub returns-in-Ok-clause-bitnet : goal.returns-in-Ok-clause-bitnet
returns-in-Ok-clause-bitnet c =
    let all = all_said c.in-Ok.all.items in
    let same = c.deref.ensures.value in
    text_is c.args.text.now all c.judged.result c.in-Ok.ensures.says
    (subst (λ (xs : List ReadSaid). IfOk c.judged.result (λ (b : Bitnet). EachIs (HasNames (all_said xs)) [] (all_said xs))) same c.judged.ensures.names)
    (subst (λ (xs : List ReadSaid). IfOk c.judged.result (λ (b : Bitnet). EachIs HasLength [] (all_said xs))) same c.judged.ensures.lengths)
    (subst (λ (xs : List ReadSaid). IfOk c.judged.result (λ (b : Bitnet). bitnet_of b ≡ net_said (all_said xs))) same c.judged.ensures.net)

pub returns-in-Ok-clause-fault : goal.returns-in-Ok-clause-fault
returns-in-Ok-clause-fault c =
    rule_fault c.args.text.now (all_said c.in-Ok.all.items) c.judged.result c.in-Ok.ensures.says
    (subst (λ (xs : List ReadSaid). IfFault c.judged.result (λ (fault : BlifFault). IsRuleFault (all_said xs) fault.code fault.line)) c.deref.ensures.value c.judged.ensures.fault)
