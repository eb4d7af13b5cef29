use Rattle.std.proofs.Common.{◌≡◌, List, Some, subst}
use Rattle.chw_check.specs.Names.{IsDataName, IsDefName}
use Rattle.chw_check.proofs.Told.{kind_of_data_told, kind_of_def_told}
use Rattle.chw_check.proofs.checking.check_kinds.Goals as goal
use Rattle.chw_terms.specs.declared.program.Def.{Def}
use Rattle.chw_types.specs.declared.declarations.Data.{Data}
use Rattle.chw_check.specs.declared.kinds.first.Unkinded.TheVariants.{OfData, OfDef}

pub returns-in_ok-name-in-Some-OfData-clause-fault : goal.returns-in_ok-name-in-Some-OfData-clause-fault
returns-in_ok-name-in-Some-OfData-clause-fault c =
    let found : c.in_ok-first_unkinded.field-0 ≡ Some (OfData c.in-Some-OfData.at) = cc in
    let first = rw found at c.in_ok-first_unkinded.ensures in
    kind_of_data_told c.args.program.now c.in-Some-OfData.at c.in_ok-name-in-Some-OfData.name first
    (subst (λ (datas : List Data). IsDataName datas c.in-Some-OfData.at.number c.in_ok-name-in-Some-OfData.name) c.as_slice.ensures c.in_ok-name-in-Some-OfData.ensures)

pub returns-in_ok-name-in-Some-OfDef-clause-fault : goal.returns-in_ok-name-in-Some-OfDef-clause-fault
returns-in_ok-name-in-Some-OfDef-clause-fault c =
    let found : c.in_ok-first_unkinded.field-0 ≡ Some (OfDef c.in-Some-OfDef.at) = cc in
    let first = rw found at c.in_ok-first_unkinded.ensures in
    kind_of_def_told c.args.program.now c.in-Some-OfDef.at c.in_ok-name-in-Some-OfDef.name first
    (subst (λ (defs : List Def). IsDefName defs c.in-Some-OfDef.at.number c.in_ok-name-in-Some-OfDef.name) c.as_slice-in-Some-OfDef.ensures c.in_ok-name-in-Some-OfDef.ensures)
