-- What stands at a place among the names of definitions.
use Rattle.std.proofs.Common.{◌≡◌, ℕ, ◌-◌, ◌<◌, ◌≤◌, length, Option, refl, sym, ap}
use Rattle.std.specs.List.{slice_index_or}
use Rattle.std.proofs.lemmas.Option.{slice_get_past, slice_get_read}
use Rattle.chw_prims.specs.declared.prim.Primitive.{Primitive}
use Rattle.chw_terms.specs.TermTree.{global, prim}
use Rattle.chw_prims.specs.declared.names.TheConstants.{ALL}
use Rattle.chw_resolve.specs.Terms.{definition_at, primitive_or, primitives}

pub a_primitive : (place : ℕ) (p : Primitive) → place < length ALL → p ≡ slice_index_or ALL place p → prim p ≡ definition_at place
unfolding definition_at
a_primitive place p lt is = ap (λ (o : Option Primitive). primitive_or o place) (sym (slice_get_read ALL (length ALL) place p refl lt is))

pub behind_all : (place : ℕ) → length ALL ≤ place → global (place - primitives) ≡ definition_at place
unfolding definition_at
behind_all place le = ap (λ (o : Option Primitive). primitive_or o place) (sym (slice_get_past ALL place le))
