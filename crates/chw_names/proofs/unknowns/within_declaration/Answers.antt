use Rattle.std.proofs.Common.{◌≡◌, sym}
use Rattle.std.proofs.lemmas.Result.{on_ok_weaker}
use Rattle.chw_grammar.specs.declared.program.Declaration.TheVariants.{Data}
use Rattle.chw_names.proofs.Whole.{data_meets, def_meets}
use Rattle.chw_names.proofs.unknowns.within_declaration.Goals as goal

pub returns-in-Data : goal.returns-in-Data
returns-in-Data c =
    let whole : Data c.in-Data.field-0 c.as_slice-parameters.result.now c.as_slice-constructors.result.now ≡ c.args.declaration.now = rw (c.as_slice-parameters.ensures, c.as_slice-constructors.ensures) (sym c.in-Data.is) in
    on_ok_weaker c.within_data-outcome.result (data_meets c.args.globals.now c.in-Data.field-0 c.as_slice-parameters.result.now c.as_slice-constructors.result.now whole c.new-types.ensures) c.within_data-outcome.ensures

pub returns-in-Def : goal.returns-in-Def
returns-in-Def c =
    on_ok_weaker c.typed-outcome.result
    (def_meets c.args.globals.now c.in-Def.field-0 c.in-Def.annotation c.in-Def.body (sym c.in-Def.is) c.new-types-in-Def.ensures c.new-values.ensures) c.typed-outcome.ensures
