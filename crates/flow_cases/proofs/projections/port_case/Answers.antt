use Rattle.std.proofs.Common.{◌≡◌, ◌∙◌, ◌<◌, ◌⊎◌, ℕ, ap, sym, refl, inl, inr, length}
use Rattle.chw_terms.specs.TermTree.{var, alt}
use Rattle.chw_terms.specs.TermView.{alts_of}
use Rattle.chw_typing.specs.Alternatives.{HasDefault}
use Rattle.flow_cases.proofs.Branches.{has_default}
use Rattle.flow_cases.proofs.Makings.{not_empty}
use Rattle.flow_cases.proofs.projections.port_case.Goals as goal
use Rattle.flow_cases.proofs.projections.port_case.Goals.{else-is_empty-via-then-is_empty+else-is_name, else-is_empty-via-else-is_empty}

pub returns : goal.returns
returns c =
    let first = c.in-Some-split_first.first.now in
    let others = c.in-Some-split_first.others.now in
    let alone = c.are_default_or_none.ensures.0 c.if-not-are_default_or_none.false in
    let whole : ((j : ℕ) → j < c.in-OfCon.names → first.body ≡ var j → ⊥) ⊎ HasDefault (alts_of others) =
    elim c.else-is_empty.branch [
      | else-is_empty-via-then-is_empty+else-is_name w ↦ inl (λ j l q. let yes = w.is_name.ensures.1 (j, l, q) in let no = w.if-is_name.false in absurd cc)
      | else-is_empty-via-else-is_empty w ↦ inr (has_default others alone (not_empty others (length others) refl (sym c.is_empty.ensures ∙ w.if-is_empty.false)))
    ] in
    record {
      variable = c.in-Some.ensures;
      more = alts_of others;
      first = ap alts_of c.in-Some-split_first.ensures.cases.0 ∙ ap (λ q. alt q first.body (alts_of others)) c.in-OfCon.is;
      others = alone;
      whole = whole;
    }
