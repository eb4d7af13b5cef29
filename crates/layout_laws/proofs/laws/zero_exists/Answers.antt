use Rattle.chw_layout.specs.Measured.{fits}
use Rattle.layout_laws.proofs.ZeroThere.{zero_there}
use Rattle.layout_laws.proofs.laws.zero_exists.Goals as goal

pub returns : goal.returns
returns c = record {
  of_width = λ datas t w some h. zero_there some (c.measured_types.ensures.back datas t (fits w) h);
  representable = λ datas t some h. zero_there some h;
}
