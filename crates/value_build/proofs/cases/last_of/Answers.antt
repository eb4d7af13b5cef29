use Rattle.std.proofs.Common.{◌≡◌, ◌∙◌, sym}
use Rattle.std.proofs.lemmas.Result.{IfOk-weaker}
use Rattle.net_built.specs.Data.{last_of}
use Rattle.net_pieces.proofs.Choosing.{last_at}
use Rattle.value_build.proofs.cases.last_of.Goals as goal

pub returns-in-Some : goal.returns-in-Some
returns-in-Some c =
    IfOk-weaker c.copy_wires.result (λ ws. ws ≡ c.as_slice.result.now) (λ ws. ws ≡ last_of c.args.results.now)
    (λ ws is. is ∙ c.as_slice.ensures ∙ sym (last_at c.args.results.now c.in-Some.last.now (sym c.in-Some.ensures.value)))
    c.copy_wires.ensures
