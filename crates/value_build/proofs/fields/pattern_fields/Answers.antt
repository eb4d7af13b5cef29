use Rattle.std.proofs.Common.{subst, sym}
use Rattle.chw_terms.specs.declared.term.Pattern.TheVariants.{OfLit, Default}
use Rattle.chw_typing.specs.HeadTypes.{PatternOf, of_any}
use Rattle.value_build.specs.ReadyParts.{IsPattern}
use Rattle.value_build.proofs.Patterns.{literal_fields}
use Rattle.value_build.proofs.fields.pattern_fields.Goals as goal

pub constructor_fields-requires : goal.constructor_fields-requires
constructor_fields-requires c = subst (λ q. IsPattern c.args.base.now.datas c.args.ty.now q) c.in-OfCon.is c.requires

pub returns-in-OfLit : goal.returns-in-OfLit
returns-in-OfLit c =
    let datas = c.args.base.now.datas in
    let literal = OfLit c.in-OfLit.field-0 c.in-OfLit.field-1 in
    subst (λ q. PatternOf datas c.args.ty.now q c.new.result.items) (sym c.in-OfLit.is)
    (subst (PatternOf datas c.args.ty.now literal) (sym c.new.ensures.items)
    (literal_fields (subst (λ q. PatternOf datas c.args.ty.now q c.requires.0) c.in-OfLit.is c.requires.1)))

pub returns-in-Default : goal.returns-in-Default
returns-in-Default c =
    let datas = c.args.base.now.datas in
    subst (λ q. PatternOf datas c.args.ty.now q c.new-in-Default.result.items) (sym c.in-Default.is)
    (subst (PatternOf datas c.args.ty.now Default) (sym c.new-in-Default.ensures.items) of_any)
