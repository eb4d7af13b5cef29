use Rattle.carrying.proofs.Terms.{literal_carries, variable_shows, global_shows, let_shows, member_shows}
use Rattle.carrying.proofs.laws.simple_terms_show.Goals as goal

pub returns : goal.returns
returns c = record {
  literal = λ p s n b γ δ has h. literal_carries p s n b γ δ h has;
  variable = λ p t x th γ δ h b at s. variable_shows at s;
  global = λ p t d it γ δ h b at s. global_shows at s;
  group = λ p t g e γ δ h b s. let_shows s;
  member = λ p t g i e γ δ h b at s. member_shows at s;
}
