use Rattle.std.proofs.Common.{◌≡◌}
use Rattle.chw_terms.specs.TermMoves.{exchanged}
use Rattle.moved_in_place.specs.Moves.{renamed_binding}
use Rattle.moved_in_place.proofs.InPlace.{mapped_to}
use Rattle.open_letrec.proofs.parts.exchange_group.Given as goal

abbrev pub invariant-loop-binding : goal.invariant-loop-binding
invariant-loop-binding l = l.group ≡ mapped_to (renamed_binding (exchanged l.first l.next)) l.binding-index l.fn.group
