use Rattle.std.proofs.Common.{◌≡◌, ◌<◌, ◌∷◌, codes, length, ap, arith}
use Rattle.std.proofs.lemmas.Grind.{common_steps}
use Rattle.std.proofs.lemmas.List.{nil_from_length}
use Rattle.stimulus.specs.Texts.{texts}
use Rattle.blif_read.proofs.Lists.{length-texts}
use Rattle.blif_read.proofs.Sayings.{not_end}
use Rattle.blif_read.proofs.saying.end.Goals as goal

pub returns-then-is_empty-clause-some : goal.returns-then-is_empty-clause-some
returns-then-is_empty-clause-some c =
    let none : length c.args.others.now ≡ 0 = grind (arith, common_steps) in
    (ap (λ ws. codes ".end" ∷ texts ws) (nil_from_length c.args.others.now none), tt)

pub returns-else-is_empty-clause-none : goal.returns-else-is_empty-clause-none
returns-else-is_empty-clause-none c =
    let some : 0 < length c.args.others.now = grind (arith, common_steps) in
    not_end (texts c.args.others.now) (omega (arith, length-texts c.args.others.now))
