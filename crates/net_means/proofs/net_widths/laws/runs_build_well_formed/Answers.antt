use Rattle.net_means.proofs.net_widths.laws.runs_build_well_formed.Goals as goal

pub returns : goal.returns
returns c = record {
  states = λ p state net typed normal of begins few.
      c.built_is_well_formed.ensures.states p state net typed normal of begins
      (record { widths = λ i m here. c.widths_are_kept.ensures p state net i m typed normal of begins here; limits = λ i m here. c.limits_are_kept.ensures p state net i m typed normal of few here });
  runs = λ rules p n steps state net run typed normal of few.
      c.built_is_well_formed.ensures.runs rules p n steps state net run typed normal of
      (record { widths = λ i m here. c.widths_are_kept.ensures p state net i m typed normal of (c.runs_begin_with_top.ensures rules p n steps state run) here; limits = λ i m here. c.limits_are_kept.ensures p state net i m typed normal of few here });
}
