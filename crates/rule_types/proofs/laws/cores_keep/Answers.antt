use Rattle.std.proofs.Common.{[]}
use Rattle.rewriting.specs.Origins.{setting_at}
use Rattle.chw_typing.proofs.TypedSpines.{head_changed}
use Rattle.rule_types.proofs.Complete.{core_complete}
use Rattle.rule_types.proofs.laws.cores_keep.Goals as goal

pub returns : goal.returns
returns c = record {
  types = λ o at core core' rest h keeps t d. head_changed (setting_at o) [] at.vars core core' rest t h.sound h.vars keeps d;
  complete = core_complete;
}
