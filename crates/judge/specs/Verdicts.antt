-- What a verdict says of a body.
use Rattle.std.specs.Prelude.{◌≡◌, ℕ, Some, slice_get}
use Rattle.chw_terms.specs.declared.scene.Made.{Made}
use Rattle.chw_terms.specs.declared.scene.Scene.{Scene}
use Rattle.chw_terms.specs.TermTree.{TermTree}
use Rattle.rewriting.specs.Origins.{MadeOf, Origins}
use Rattle.normal_forms.specs.Blocked.{IsBlocked}
use Rattle.normal_forms.specs.Normal.{IsNormalBody}
use Rattle.blocked_places.specs.Answers.{block_of}
use Rattle.blocked_places.specs.Walks.{IsFirstAt, NothingBlocks}
use Rattle.judge.specs.declared.judging.Verdict.{Verdict}
use Rattle.judge.specs.declared.judging.Verdict.TheVariants.{Normal, Blocked}

-- a made definition of the scene
abbrev pub IsMadeOf : Scene → Made → Type 0
IsMadeOf scene it = (m : ℕ) × (slice_get scene.made.now m ≡ Some it)

-- it is in normal form, and nothing blocks it; or it isn't, and this blocks it first
abbrev pub Judges : Origins → MadeOf → TermTree → Verdict → Type 0
Judges o it body Normal = IsNormalBody o it body × NothingBlocks (IsBlocked o it body)
Judges o it body (Blocked part) =
    (IsNormalBody o it body → ⊥)
    × IsFirstAt (IsBlocked o it body) part.path.items (block_of part.block)
