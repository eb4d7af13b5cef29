use Rattle.rewriting.proofs.Names.{kind_of_named, named_decided, named_kept}
use Rattle.rewriting.proofs.scene_laws.names_of_modes.Goals as goal

pub returns : goal.returns
returns c = record {
  kept = named_kept c.same_types_keep_names.ensures.representable c.same_types_keep_names.ensures.leaves;
  kind = kind_of_named c.kinds_of_named_types.ensures.representable c.kinds_of_named_types.ensures.port;
  decided = named_decided c.named_types_are_decided.ensures.representable c.named_types_are_decided.ensures.port;
}
