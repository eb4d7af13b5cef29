use Rattle.std.proofs.Common.{refl}
use Rattle.chw_types.specs.declared.kind.Kind.TheVariants.{Nat}
use Rattle.chw_types.specs.Arguments.{arguments}
use Rattle.chw_types.proofs.SameLaws.{same_self}
use Rattle.type_laws.proofs.Arguing.{same_arguments, kinds_of_arguments}
use Rattle.type_laws.proofs.OneKind.{nat_natural}
use Rattle.type_laws.proofs.PutSame.{same_put}
use Rattle.type_laws.proofs.Slots.{sum_slot}
use Rattle.type_laws.proofs.laws.fields_keep_same.Goals as goal

pub returns : goal.returns
returns c datas domains scope params f ts us k of d ds g =
    same_put (same_self f) (arguments ts) (arguments us) (same_arguments ts us g)
    (λ x s. nat_natural of (kinds_of_arguments datas domains scope params ts ds x Nat (sum_slot d d x s)) refl)
