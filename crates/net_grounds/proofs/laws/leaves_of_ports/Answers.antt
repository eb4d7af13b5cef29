use Rattle.layout_laws.proofs.LeavesAgree.{leaves_agree, leaves_there, streams_give}
use Rattle.chw_meaning.proofs.GivenOnce.{same_fields}
use Rattle.net_grounds.proofs.laws.leaves_of_ports.Goals as goal

pub returns : goal.returns
returns c = record {
  leaves_agree = leaves_agree;
  leaves_there = leaves_there;
  streams_give = streams_give;
  same_fields = same_fields;
}
