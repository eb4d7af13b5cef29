-- What is promised of the places of a term.
use Rattle.std.specs.Prelude.{◌≡◌, ℕ, List, ◌++◌, Some}
use Rattle.chw_types.specs.declared.kind.Kind.{Kind}
use Rattle.chw_types.specs.declared.declarations.Data.{Data}
use Rattle.chw_types.specs.TypeTree.{TypeTree}
use Rattle.chw_terms.specs.TermTree.{TermTree}
use Rattle.chw_typing.specs.Scopes.{Setting, AreTermTypes}
use Rattle.chw_typing.specs.Programs.{IsSound, IsComplete}
use Rattle.chw_typing.specs.Typing.{HasType, HasTypeUpTo}
use Rattle.chw_typing.specs.Paths.{part_at, with_part}
use Rattle.chw_typing.specs.Around.{Around}

-- what is at a place is the part there
abbrev pub AroundIsPart : Type 0
AroundIsPart =
    (s : Setting) (kinds ks : List Kind) (vars vs : List TypeTree) (e x : TermTree) (p : List ℕ)
    → Around s kinds vars e p ks vs x
    → part_at e p ≡ Some x

-- the path leads to a place with this part
pub record HasPlace (s : Setting) (kinds : List Kind) (vars : List TypeTree) (e : TermTree)
    (p : List ℕ) (x : TermTree) : Type 0 where
  pub inner_kinds : List Kind
  pub inner_vars : List TypeTree
  pub around : Around s kinds vars e p inner_kinds inner_vars x

-- and each part of a typed term is at a place
abbrev pub PartHasPlace : Type 0
PartHasPlace =
    (s : Setting) (kinds : List Kind) (vars : List TypeTree) (e x : TermTree) (t : TypeTree)
    (p : List ℕ)
    → HasType s kinds vars e t
    → part_at e p ≡ Some x
    → HasPlace s kinds vars e p x

-- a place of what is at a place is a place of the whole
abbrev pub AroundBehind : Type 0
AroundBehind =
    (s : Setting) (kinds ks ks' : List Kind) (vars vs vs' : List TypeTree) (e x y : TermTree)
    (p q : List ℕ)
    → Around s kinds vars e p ks vs x
    → Around s ks vs x q ks' vs' y
    → Around s kinds vars e (p ++ q) ks' vs' y

-- what is at a place of a typed term has a type, in a scope of types that terms have
abbrev pub PartIsTyped : Type 0
PartIsTyped =
    (s : Setting) (kinds ks : List Kind) (vars vs : List TypeTree) (e x : TermTree) (t : TypeTree)
    (p : List ℕ)
    → IsSound s
    → AreTermTypes s kinds vars
    → HasType s kinds vars e t
    → Around s kinds vars e p ks vs x
    → AreTermTypes s ks vs × ((u : TypeTree) × HasType s ks vs x u)

-- the type is kept, up to naturals, where what has the types of a part takes its place
abbrev pub PlugKeepsType : Type 0
PlugKeepsType =
    (s : Setting) (kinds ks : List Kind) (vars vs : List TypeTree) (e x y : TermTree)
    (t : TypeTree) (p : List ℕ)
    → IsSound s
    → AreTermTypes s kinds vars
    → HasType s kinds vars e t
    → Around s kinds vars e p ks vs x
    → ((u : TypeTree) → HasType s ks vs x u → HasTypeUpTo s ks vs y u)
    → HasTypeUpTo s kinds vars (with_part e p y) t

-- the parts of a complete term are complete
abbrev pub PartIsComplete : Type 0
PartIsComplete =
    (datas : List Data) (e x : TermTree) (p : List ℕ)
    → IsComplete datas e → part_at e p ≡ Some x → IsComplete datas x

-- and a term stays so where what is complete takes the place of a part
abbrev pub PlugKeepsComplete : Type 0
PlugKeepsComplete =
    (datas : List Data) (e x y : TermTree) (p : List ℕ)
    → IsComplete datas e
    → part_at e p ≡ Some x
    → IsComplete datas y
    → IsComplete datas (with_part e p y)
