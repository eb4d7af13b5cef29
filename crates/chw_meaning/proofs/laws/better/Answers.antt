use Rattle.chw_meaning.proofs.laws.better.Goals as goal

pub returns : goal.returns
returns c = record {
  reflexive = λ p t e ins h k d g. g;
  transitive = λ p t a b c x y ins h k d g. y ins h k d (x ins h k d g);
}
