use Rattle.std.proofs.Common.{◌≡◌, take, map, length, []}
use Rattle.chw_types.specs.KindFound.{kind_found}
use Rattle.term_frames.proofs.signature.declared_kinds.Given as goal

abbrev pub invariant-loop-it : goal.invariant-loop-it
invariant-loop-it l =
    l.kinds.items ≡ map (λ d. kind_found l.program.datas (length l.program.domains) [] d.ty) (take l.it-index l.it-items)
