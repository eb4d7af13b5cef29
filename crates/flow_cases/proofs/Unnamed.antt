-- A type of a term is named where another one is.
use Rattle.std.proofs.Common.{[], List}
use Rattle.chw_types.specs.TypeTree.{TypeTree}
use Rattle.chw_terms.specs.declared.scene.Mode.{Mode}
use Rattle.chw_terms.specs.TermTree.{TermTree}
use Rattle.chw_typing.specs.Laws.{OneType, TypesAreTermTypes}
use Rattle.chw_typing.specs.Programs.{IsSound}
use Rattle.chw_typing.specs.Scopes.{Setting, AreTermTypes}
use Rattle.chw_typing.specs.Typing.{HasType}
use Rattle.rewriting.specs.SceneLaws.{SameKeepsNamed}
use Rattle.rewriting.specs.Named.{IsNamed}

pub named_again : OneType → TypesAreTermTypes → SameKeepsNamed → (s : Setting) (vars : List TypeTree) (mode : Mode) (e : TermTree) (t u : TypeTree) → IsSound s → AreTermTypes s [] vars → HasType s [] vars e t → HasType s [] vars e u → IsNamed s.datas mode t → IsNamed s.datas mode u
named_again one kinds kept s vars mode e t u sound scope h g n =
    let k = kinds s [] vars e t sound scope h in
    kept s mode t u k.kind sound k.has (one s [] vars e t u sound scope h g) n
