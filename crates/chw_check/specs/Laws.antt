-- What is promised of the kinds and of the cases of terms and programs.
use Rattle.std.specs.Prelude.{List, ◌↔◌}
use Rattle.chw_check.specs.FirstCase.{KeepsAll}
use Rattle.chw_check.specs.Fits.{AllDeclarationsFit}
use Rattle.chw_check.specs.declared.cases.lacks.Sought.{Sought}
use Rattle.chw_terms.specs.TermTree.{TermTree}
use Rattle.chw_terms.specs.Tidy.{IsTidy}
use Rattle.chw_terms.specs.declared.program.Program.{Program}
use Rattle.chw_types.specs.TypeTree.{TypeTree}
use Rattle.chw_types.specs.declared.kind.Kind.{Kind}
use Rattle.chw_typing.specs.Programs.{IsComplete, IsSound, setting_of}
use Rattle.chw_typing.specs.Scopes.{Setting}
use Rattle.chw_typing.specs.Typing.{HasType}

-- what the terms of a tidy program are typed over is sound, if all its declarations fit
abbrev pub WhatFitsIsSound : Type 0
WhatFitsIsSound = (p : Program) → IsTidy p → AllDeclarationsFit p → IsSound (setting_of p)

-- a term that has a type is complete exactly if no case in it leaves out a constructor or a default
abbrev pub CompleteLeavesNothingOut : Type 0
CompleteLeavesNothingOut =
    (s : Setting) (kinds : List Kind) (vars : List TypeTree) (e : TermTree) (t : TypeTree)
    → HasType s kinds vars e t
    → ((sought : Sought) → KeepsAll s.datas sought e) ↔ IsComplete s.datas e
