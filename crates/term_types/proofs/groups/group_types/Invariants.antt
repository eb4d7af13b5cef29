use Rattle.std.proofs.Common.{take, map}
use Rattle.std.specs.Prelude.{reverse}
use Rattle.chw_types.specs.Kinds.{IsOfTerms}
use Rattle.term_types.specs.Groups.{IsGroupKind, AreKinded}
use Rattle.chw_typing.specs.Scopes.{setting_in}
use Rattle.term_types.proofs.groups.group_types.Given as goal

abbrev pub invariant-loop-b : goal.invariant-loop-b
invariant-loop-b l = record {
  so_far : IsGroupKind (setting_in l.scene) (reverse l.kinds) (take l.b-index l.bindings) l.all;
  of_terms : IsOfTerms l.all;
  types : AreKinded (setting_in l.scene) (reverse l.kinds) (map (λ b. b.ty) (take l.b-index l.bindings)) l.types.items;
}
