-- What a walk over active places goes over.
use Rattle.std.specs.Prelude.{List, []}
use Rattle.chw_types.specs.References.{HasNoCycle}
use Rattle.chw_types.specs.TypeTree.{TypeTree}
use Rattle.chw_terms.specs.declared.scene.Place.{Place}
use Rattle.chw_terms.specs.TermTree.{TermTree}
use Rattle.chw_typing.specs.Programs.{IsSound}
use Rattle.chw_typing.specs.Scopes.{Setting, setting_in, AreTermTypes}
use Rattle.chw_typing.specs.Typing.{HasType}
use Rattle.rewriting.specs.Spots.{Spot}
use Rattle.term_frames.specs.Signatures.{IsSignature}
use Rattle.active_parts.specs.declared.ground.Ground.{Ground}

-- a sound scene over data types without cycles, with the signature of its program
pub record IsGround (g : Ground) : Type 0 where
  pub sound : IsSound (setting_in g.scene.now)
  pub acyclic : HasNoCycle g.scene.now.program.now.datas
  pub table : IsSignature g.scene.now.program.now g.signature.now

-- a place with variables of these types in scope
abbrev pub with_variables : Place → List TypeTree → Place
with_variables at vars = record at { vars = vars }

-- terms are typed there: terms have the types of the variables, and the term has a type
abbrev pub IsTypedAt : Setting → Spot → TermTree → Type 0
IsTypedAt s at e = AreTermTypes s [] at.vars × ((t : TypeTree) × HasType s [] at.vars e t)
