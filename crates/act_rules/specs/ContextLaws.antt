-- What is promised of terms with another part in one place, and of definitions with their
-- parameters written out.
use Rattle.std.specs.Prelude.{◌≡◌, ℕ, List, Some, slice_get}
use Rattle.chw_types.specs.declared.kind.Kind.{Kind}
use Rattle.chw_types.specs.TypeTree.{TypeTree}
use Rattle.chw_terms.specs.declared.program.Def.{Def}
use Rattle.chw_terms.specs.declared.program.Program.{Program}
use Rattle.chw_terms.specs.TermTree.{TermTree, global}
use Rattle.chw_terms.specs.Tidy.{IsTidy}
use Rattle.chw_typing.specs.Scopes.{AreTermTypes}
use Rattle.chw_typing.specs.HeadTypes.{from_each}
use Rattle.chw_typing.specs.Programs.{IsTyped, AreClosed, setting_of}
use Rattle.chw_typing.specs.Typing.{HasType}
use Rattle.chw_meaning.specs.Gives.{Better}
use Rattle.rewriting.specs.Origins.{with_origins, eta_expanded}
use Rattle.acts.specs.Terms.{ActsUnder, OriginsTyped, setting_with}
use Rattle.chw_typing.specs.Paths.{with_part}
use Rattle.chw_typing.specs.Around.{Around}

-- in this scope the first term acts as the second at each type of the second, both with the terms
-- for the made definitions
abbrev pub ActsAtTypes :
    Program → List TypeTree → (ℕ → TermTree) → List Kind → List TypeTree → TermTree → TermTree
    → Type 0
ActsAtTypes p types o kinds vars e' e =
    (u : TypeTree) → HasType (setting_with p types) kinds vars e u
    → ActsUnder p kinds vars (with_origins o e') (with_origins o e) u

-- a typed term with another part at a place acts as the term, where the new part acts as the old
-- one in the scope of the place
abbrev pub PlugActs : Type 0
PlugActs =
    (p : Program) (types : List TypeTree) (o : ℕ → TermTree)
    (kinds ks : List Kind) (vars vs : List TypeTree) (e x' x : TermTree) (t : TypeTree)
    (path : List ℕ)
    → IsTidy p → IsTyped p
    → AreClosed (setting_of p) types → OriginsTyped p types o
    → AreTermTypes (setting_with p types) kinds vars
    → HasType (setting_with p types) kinds vars e t
    → Around (setting_with p types) kinds vars e path ks vs x
    → ActsAtTypes p types o ks vs x' x
    → ActsUnder p kinds vars (with_origins o (with_part e path x')) (with_origins o e) t

-- a definition, as the top, with its first parameters written out gives nothing that the definition
-- itself doesn't
abbrev pub OpeningGives : Type 0
OpeningGives =
    (p : Program) (d : ℕ) (it : Def) (args : List TypeTree) (r : TypeTree)
    → IsTidy p → IsTyped p
    → slice_get p.defs d ≡ Some it → it.ty ≡ from_each args r
    → Better p it.ty (eta_expanded args (global d)) (global d)
