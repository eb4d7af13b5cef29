-- each of the fields so far has a type that terms have
use Rattle.std.proofs.Common.{reverse}
use Rattle.chw_types.specs.TypeTree.{TypeTree}
use Rattle.chw_typing.specs.Programs.{setting_of}
use Rattle.chw_typing.specs.Scopes.{IsTermType}
use Rattle.chw_check.proofs.EachItem.{EachBefore}
use Rattle.chw_check.proofs.kinds.fields.fields_fit.Given as goal

abbrev pub invariant-loop-field : goal.invariant-loop-field
invariant-loop-field l = EachBefore (λ (t : TypeTree). IsTermType (setting_of l.fn.program) (reverse l.fn.params) t) l.fn.con.fields l.field-index
