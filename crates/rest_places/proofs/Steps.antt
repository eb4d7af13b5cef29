-- At a place at rest no rule acts on the term itself, and nothing blocks it.
use Rattle.std.proofs.Common.{[], List}
use Rattle.chw_types.specs.TypeTree.{TypeTree}
use Rattle.chw_terms.specs.declared.rule.Rule.{Rule}
use Rattle.chw_terms.specs.declared.term.Arg.{Arg}
use Rattle.chw_terms.specs.TermTree.{TermTree}
use Rattle.chw_terms.specs.TermView.{applied}
use Rattle.chw_typing.specs.Typing.{HasType}
use Rattle.normal_forms.specs.Blocked.{Block, BlocksAt}
use Rattle.rewriting.specs.Active.{at_it}
use Rattle.rewriting.specs.Calls.{OfWhole}
use Rattle.rewriting.specs.Instances.{Makes, on_core, on_whole}
use Rattle.rewriting.specs.Origins.{Origins, setting_at}
use Rattle.rewriting.specs.Spots.{Spot}
use Rattle.rest_places.specs.Rest.{IsRestPlace}

-- of its core, whatever arguments are left after it
pub no_core : {o : Origins} {at : Spot} {t : TypeTree} (r : Rule) (core new : TermTree) (rest : List Arg) → Makes o at r core new → IsRestPlace o at (applied core rest) t → ⊥
no_core {at = at} r core new rest m p = p.rest.still [] at (applied core rest) (applied new rest) r at_it (on_core core new rest m p.has)

-- of the whole term
pub no_whole : {o : Origins} {at : Spot} {e new : TermTree} {t : TypeTree} (r : Rule) → OfWhole o at r e new → IsRestPlace o at e t → ⊥
no_whole {at = at} {e = e} {new = new} r m p = p.rest.still [] at e new r at_it (on_whole m p.has)

pub no_block : {o : Origins} {at : Spot} {e : TermTree} {t : TypeTree} (b : Block) → BlocksAt o at e b → IsRestPlace o at e t → ⊥
no_block {at = at} {e = e} b h p = p.rest.free [] at e b at_it h

-- a place at rest with another type of its term
pub retyped : {o : Origins} {at : Spot} {e : TermTree} {t u : TypeTree} → IsRestPlace o at e t → HasType (setting_at o) [] at.vars e u → IsRestPlace o at e u
retyped p d = record { place = p.place; acyclic = p.acyclic; has = d; complete = p.complete; named = p.named; rest = p.rest }
