use Rattle.std.proofs.Common.{subst}
use Rattle.value_build.specs.ReadyParts.{IsPattern}
use Rattle.value_build.proofs.cases.word.Goals as goal

pub constructor_word-requires : goal.constructor_word-requires
constructor_word-requires c =
    (c.in-OfCon.field-1, subst (λ q. IsPattern c.args.base.now.datas c.args.ty.now q) c.in-OfCon.is c.requires)
