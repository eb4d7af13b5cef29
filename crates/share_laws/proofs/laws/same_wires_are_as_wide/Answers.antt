use Rattle.share_laws.proofs.Widths.{known_width, same_width}
use Rattle.share_laws.proofs.laws.same_wires_are_as_wide.Goals as goal

pub returns : goal.returns
returns c = record {
  same = λ flat v w sound s. same_width flat sound v w s;
  known = λ flat w bits sound k. known_width flat sound w bits k;
}
