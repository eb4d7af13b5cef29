use Rattle.act_rules.proofs.Unfolded.{unfold_global, unfold_made}
use Rattle.act_rules.proofs.name_laws.unfolding_acts.Goals as goal

pub returns : goal.returns
returns c = record {
  globals = λ p d it held types o kinds vars t origins g has. unfold_global p (c.typed_is_sound.ensures p origins.tidy origins.typed) origins.typed types o origins.closed origins.have_types d it held has;
  made = λ os m it types kinds vars t held alone origins g has. unfold_made os.program (c.typed_is_sound.ensures os.program origins.tidy origins.typed) origins.typed types os origins.closed origins.have_types m it held alone g has;
}
