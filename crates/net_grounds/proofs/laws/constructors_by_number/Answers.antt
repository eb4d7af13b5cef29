use Rattle.chw_typing.proofs.Heads.{is_constructor}
use Rattle.layout_laws.proofs.Numbering.{has_place, at_place}
use Rattle.carrying.proofs.Yields.{place_of}
use Rattle.net_grounds.proofs.laws.constructors_by_number.Goals as goal

pub returns : goal.returns
returns c = record {
  is_constructor = λ datas c it e. let x = is_constructor datas c it e in record { data_type = x.data_type; place = x.place; decl = x.decl };
  has_place = has_place;
  at_place = at_place;
  one_numbering = c.numbers_of_constructors.ensures.one;
  place_of = λ datas c it e. let x = place_of datas c it e in record { in_datas = x.in_datas; number = x.number; in_cons = x.in_cons };
}
