-- What is promised of the state with which a program opens.
use Rattle.std.specs.Prelude.{List}
use Rattle.chw_terms.specs.declared.program.Program.{Program}
use Rattle.chw_terms.specs.declared.scene.Made.{Made}
use Rattle.chw_terms.specs.declared.scene.Scene.{Scene}
use Rattle.chw_terms.specs.Tidy.{IsTidy}
use Rattle.chw_typing.specs.Programs.{IsTyped}
use Rattle.rewriting.specs.Typed.{IsTypedScene}
use Rattle.rewriting.specs.Runs.{IsOpening}
use Rattle.rule_types.specs.States.{IsTypedState}

-- a tidy and typed program opens with a typed state
abbrev pub OpeningIsTyped : Type 0
OpeningIsTyped =
    (p : Program) (made : List Made)
    → IsTidy p → IsTyped p → IsOpening p made → IsTypedState p made

-- and so with a typed scene
abbrev pub OpeningSceneIsTyped : Type 0
OpeningSceneIsTyped =
    (scene : Scene)
    → IsTidy scene.program.now → IsTyped scene.program.now
    → IsOpening scene.program.now scene.made.now → IsTypedScene scene
