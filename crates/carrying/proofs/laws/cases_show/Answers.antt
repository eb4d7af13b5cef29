use Rattle.carrying.proofs.Cases.{goes_on_shows, takes_shows, looks_shows}
use Rattle.carrying.proofs.CasesCarry.{case_carries}
use Rattle.carrying.proofs.laws.cases_show.Goals as goal

pub returns : goal.returns
returns c = record {
  goes_on = goes_on_shows;
  takes = takes_shows;
  looks = λ p u t s alts a fields γ δ h x b parts is wide are shown found of ps body. looks_shows p u t s alts a fields γ δ h x b parts c.number_of_made_bits.ensures.whole is wide are shown found of ps body;
  every = λ p u t s alts a fields γ δ x b parts wide are shown found of ps body h. case_carries p u t s alts a fields γ δ x b parts c.number_of_made_bits.ensures.whole c.same_naturals_mean_one_number.ensures wide are shown found of ps body h;
}
