use Rattle.layout_laws.proofs.LeavesAgree.{leaves_agree, leaves_there, takes_streams, as_many_streams, port_given}
use Rattle.layout_laws.proofs.laws.leaves_agree.Goals as goal

pub returns : goal.returns
returns c = record {
  agree = λ datas t th ls ms l p. leaves_agree l p;
  there = λ datas t th ls l. leaves_there l th;
  streams = λ datas t ls ins more th l g. let s = takes_streams l g in (s, as_many_streams datas ls s.streams s.each);
  given = λ datas t ls ins more l s. port_given l s;
}
