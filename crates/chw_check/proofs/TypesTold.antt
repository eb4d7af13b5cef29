-- What comparing types tells of a body.
use Rattle.std.proofs.Common.{Bool, true, false, [], Result, Ok, Err, IfOk, IsTrue, ◌↔◌, MatchBool, refl}
use Rattle.chw_base.specs.declared.outcome.NoMemory.{NoMemory}
use Rattle.chw_terms.specs.declared.program.Def.{Def}
use Rattle.chw_terms.specs.declared.program.Program.{Program}
use Rattle.chw_types.proofs.SameLaws.{same_through}
use Rattle.chw_types.specs.SameTypes.{SameTypes}
use Rattle.chw_types.specs.TypeTree.{TypeTree}
use Rattle.chw_typing.specs.Laws.{OneType}
use Rattle.chw_typing.specs.Programs.{HasItsType, IsSound, setting_of}
use Rattle.chw_typing.specs.Typing.{HasType}

module _ (p : Program) (it : Def) (found : TypeTree) (one : OneType) (sound : IsSound (setting_of p)) (has : HasType (setting_of p) [] [] it.body found) where
  -- each type of the body is the same as the one that was found
  declared_is_found : HasItsType p it → SameTypes it.ty found
  declared_is_found h = same_through h.same (one (setting_of p) [] [] it.body h.type found sound tt h.has has)

  pub compared : (r : Result Bool NoMemory) → IfOk r (λ same. IsTrue same ↔ SameTypes it.ty found) → IfOk r (λ same. MatchBool same (HasItsType p it) (HasItsType p it → ⊥))
  compared (Ok true) h = record { type = found; has = has; same = h.0 refl }
  compared (Ok false) h = λ typed. let same : IsTrue false = h.1 (declared_is_found typed) in absurd (cc)
  compared (Err e) h = tt
