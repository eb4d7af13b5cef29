use Rattle.net_built.proofs.Parts.{width_once}
use Rattle.chw_layout.proofs.Fitting.{scalar_width, element_width, cons_width, con_width, field_width}
use Rattle.carrying.proofs.Widths.{whole_width}
use Rattle.net_grounds.proofs.laws.widths_of_types.Goals as goal

pub returns : goal.returns
returns c = record {
  width_once = width_once;
  scalar_width = scalar_width;
  element_width = λ d. let x = element_width d in record { a = x.a; element = x.element; is = x.is };
  cons_width = λ it known d. let x = cons_width it known d in record { a = x.a; cons = x.cons; is = x.is; within = x.within };
  con_width = λ cs i con e d. let x = con_width cs i con e d in record { s = x.s; fields = x.fields; within = x.within };
  field_width = λ l d. let x = field_width l d in record { a = x.a; b = x.b; first = x.first; rest = x.rest; is = x.is };
  whole_width = λ p i d it ts w at of has. let x = whole_width p i d it ts w at of has in record { s = x.s; fields = x.fields; small = x.small; within = x.within };
}
