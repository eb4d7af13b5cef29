use Rattle.std.proofs.Common.{List, sym, subst}
use Rattle.std.specs.Prelude.{IsSome}
use Rattle.chw_check.specs.Names.{IsConName, IsDefName}
use Rattle.chw_check.proofs.Lacking.{first_known}
use Rattle.chw_check.proofs.Told.{missing_told, no_default_told}
use Rattle.chw_check.proofs.checking.check_cases.Goals as goal
use Rattle.chw_terms.specs.Constructors.{con_at}
use Rattle.chw_terms.specs.declared.program.Def.{Def}
use Rattle.chw_types.specs.declared.declarations.Data.{Data}

pub con_name-requires : goal.con_name-requires
con_name-requires c =
    let first = rw c.in-Some.is at c.in_ok-found.ensures in
    subst (λ (datas : List Data). IsSome (con_at datas c.in-Constructor.at.number)) (sym c.requires.table)
    (first_known c.args.program.now c.in-Some.found c.in-Constructor.at first c.in-Constructor.is)

pub returns-in_ok-con-in-Constructor-clause-fault : goal.returns-in_ok-con-in-Constructor-clause-fault
returns-in_ok-con-in-Constructor-clause-fault c =
    let first = rw c.in-Some.is at c.in_ok-found.ensures in
    missing_told c.args.program.now c.in-Some.found c.requires.fit c.requires.typed first c.in_ok-name.name
    (subst (λ (defs : List Def). IsDefName defs c.in-Some.found.«def».number c.in_ok-name.name) c.as_slice.ensures c.in_ok-name.ensures)
    c.in-Constructor.at c.in_ok-con-in-Constructor.con c.in-Constructor.is
    (subst (λ (datas : List Data). IsConName datas c.in-Constructor.at.number c.in_ok-con-in-Constructor.con) c.requires.table c.in_ok-con-in-Constructor.ensures)

pub returns-in-Default-clause-fault : goal.returns-in-Default-clause-fault
returns-in-Default-clause-fault c =
    let first = rw c.in-Some.is at c.in_ok-found.ensures in
    no_default_told c.args.program.now c.in-Some.found c.requires.fit c.requires.typed first c.in_ok-name.name
    (subst (λ (defs : List Def). IsDefName defs c.in-Some.found.«def».number c.in_ok-name.name) c.as_slice.ensures c.in_ok-name.ensures) c.in-Default.is
