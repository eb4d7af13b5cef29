use Rattle.chw_layout.proofs.Measures.{scalar_measured, vector_measured, data_measured, measured_within, no_cons, next_con, no_fields, fields_once}
use Rattle.chw_layout.proofs.Fitting.{then_fits, or_fits}
use Rattle.net_grounds.proofs.laws.measures_of_types.Goals as goal

pub returns : goal.returns
returns c = record {
  scalar_measured = scalar_measured;
  vector_measured = λ d. let x = vector_measured d in record { of = x.of; measured = x.measured; is = x.is };
  data_measured = λ d. let x = data_measured d in record { it = x.it; known = x.known; as_many = x.as_many; of = x.of; measured = x.measured; is = x.is };
  measured_within = measured_within;
  no_cons = no_cons;
  next_con = λ d. let x = next_con d in record { one = x.one; others = x.others; first = x.first; rest = x.rest; is = x.is };
  no_fields = no_fields;
  fields_once = fields_once;
  then_fits = λ m n s e. let x = then_fits m n s e in record { a = x.a; b = x.b; one = x.one; others = x.others; is = x.is };
  or_fits = λ m n s e. let x = or_fits m n s e in record { a = x.a; b = x.b; one = x.one; others = x.others; is = x.is };
}
