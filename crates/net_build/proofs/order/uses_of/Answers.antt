use Rattle.std.proofs.Common.{◌≡◌, refl, length}
use Rattle.std.proofs.lemmas.Option.{slice_get_read}
use Rattle.std.proofs.lemmas.Result.{IfOk-weaker}
use Rattle.normal_form.specs.MadeIn.{made_in}
use Rattle.net_build.specs.Tasks.{AreUsesOf}
use Rattle.net_build.proofs.Uses.{uses_of_body}
use Rattle.net_build.proofs.order.uses_of.Goals as goal

pub returns : goal.returns
returns c =
    let made = c.args.made.now in
    let m = c.args.m in
    let it = c.index-made-m.result in
    IfOk-weaker c.body_made.result (λ ms. ms.items ≡ made_in it.body) (λ ms. AreUsesOf made m ms.items)
    (λ ms is. uses_of_body made m it ms.items c.requires.there (slice_get_read made (length made) m it refl c.requires.m c.index-made-m.is) is) c.body_made.ensures
