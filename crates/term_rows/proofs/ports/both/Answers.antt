use Rattle.std.proofs.Common.{sym, ap, subst, ◌∙◌, ◌∷◌, []}
use Rattle.std.proofs.lemmas.List.{append-nil}
use Rattle.chw_types.specs.Arguments.{all_fields}
use Rattle.chw_types.specs.References.{HasNoCycle}
use Rattle.chw_types.proofs.NoCycles.{two_variables}
use Rattle.term_rows.proofs.ports.both.Goals as goal

pub returns : goal.returns
returns c =
    subst HasNoCycle (sym c.in_ok-from_array.ensures.items)
    (two_variables _ 1 0
    (ap all_fields (c.from-5.ensures ∙ c.in_ok-cons.ensures.items) ∙ append-nil c.from-2.result ∙ c.from-2.ensures ∙ c.in_ok-fields.ensures.items
    ∙ (λ i. c.var-first.ensures i ∷ c.var-second.ensures i ∷ [])))
