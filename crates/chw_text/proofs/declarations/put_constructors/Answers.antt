use Rattle.chw_text.proofs.DeclarationForms.{constructor_puts}
use Rattle.chw_text.proofs.declarations.put_constructors.Goals as goal

pub loop-i-preserved : goal.loop-i-preserved
loop-i-preserved c =
    constructor_puts c.loop-i.i c.index-constructors-i.result c.args.constructors.now c.loop-i-test.true c.index-constructors-i.is c.loop-i.invariant c.in_ok-put_before.ensures c.in_ok-put_constructor.ensures
