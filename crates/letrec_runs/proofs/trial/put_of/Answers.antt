use Rattle.std.proofs.Common.{◌≡◌, ◌∙◌, sym, true, false}
use Rattle.std.proofs.lemmas.Option.{IfSome_then}
use Rattle.letrec_runs.proofs.trial.put_of.Goals as goal

pub returns : goal.returns
returns c =
    IfSome_then c.made_by.result c.made_by.ensures
    (λ it p. (p.0, p.1, λ q. let both : true ≡ false = sym (c.is_special.ensures.1 (sym p.0 ∙ q)) ∙ c.if-is_special.false in absurd cc))
