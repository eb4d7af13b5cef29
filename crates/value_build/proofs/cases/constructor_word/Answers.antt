use Rattle.std.proofs.Common.{◌≡◌, ◌∙◌, ◌-◌, ap, sym}
use Rattle.std.proofs.lemmas.Result.{IfOk-weaker}
use Rattle.chw_bits.specs.Bits.{bits_of}
use Rattle.chw_terms.specs.Constructors.{Constructor}
use Rattle.con_places.specs.Constructing.{constructor_of}
use Rattle.value_build.specs.Tests.{first_of}
use Rattle.value_build.proofs.Patterns.{place_is, of_con_is, con_there, con_once}
use Rattle.value_build.proofs.cases.constructor_word.Goals as goal

pub unreachable-requires : goal.unreachable-requires
unreachable-requires c =
    let k = of_con_is c.requires.1.1 in
    con_there c.args.base.now.datas c.args.at.number k.it k.at c.in_default.ensures

pub returns : goal.returns
returns c =
    let datas = c.args.base.now.datas in
    let at = c.args.at.number in
    let ty = c.args.ty.now in
    let it = c.in-Some.it in
    let k = of_con_is c.requires.1.1 in
    let same : k.it ≡ constructor_of it = con_once datas at k.it (constructor_of it) k.at c.in-Some.ensures.is in
    IfOk-weaker c.number.result (λ b. b ≡ bits_of c.args.bits it.place) (λ b. b ≡ bits_of c.args.bits (at - first_of datas ty))
    (λ b is. is ∙ ap (bits_of c.args.bits) (place_is datas at it.place k.it.of it.of.number k.args ty
    c.in-Some.ensures.number (ap (λ (x : Constructor). x.of) same) (sym k.ty)))
    c.number.ensures
