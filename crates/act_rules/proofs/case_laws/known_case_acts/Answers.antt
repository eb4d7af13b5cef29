use Rattle.act_rules.proofs.Known.{case_con}
use Rattle.act_rules.proofs.Literals.{case_lit, case_default}
use Rattle.act_rules.proofs.case_laws.known_case_acts.Goals as goal

pub returns : goal.returns
returns c = record {
  constructors = λ p k it us params es alts b held on_types on_terms on_names taken types o kinds vars t origins g d. case_con p (c.typed_is_sound.ensures p origins.tidy origins.typed) origins.typed types o origins.closed origins.have_types k it us params es b.pattern b.body held on_types on_terms on_names taken g d;
  literals = λ r b alts a taken p types o kinds vars t origins g d. case_lit p (c.typed_is_sound.ensures p origins.tidy origins.typed) origins.typed types o origins.closed origins.have_types r b taken g d;
  defaults = λ e f p types o kinds vars t origins g d. case_default p (c.typed_is_sound.ensures p origins.tidy origins.typed) origins.typed types o origins.closed origins.have_types g d;
}
