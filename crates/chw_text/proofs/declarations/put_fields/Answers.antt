use Rattle.chw_grammar.specs.declared.stand.Stand.TheVariants.{Simple}
use Rattle.chw_grammar.specs.Text.{type_lexemes}
use Rattle.chw_text.proofs.DeclarationForms.{item_puts}
use Rattle.chw_text.proofs.declarations.put_fields.Goals as goal

pub loop-field-preserved : goal.loop-field-preserved
loop-field-preserved c =
    item_puts (type_lexemes Simple) c.loop-field.field-index c.field-item.result c.args.fields.now c.loop-field-test.true c.field-item.is c.loop-field.invariant c.in_ok-put_type.ensures
