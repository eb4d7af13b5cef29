-- What values are at rest: right sides and blocks of the normal form.
use Rattle.std.specs.Prelude.{◌≡◌, ◌⊎◌, true, false}
use Rattle.chw_types.specs.TypeTree.{TypeTree}
use Rattle.type_ports.specs.Representable.{Representable}
use Rattle.chw_terms.specs.declared.scene.Mode.TheVariants.{V}
use Rattle.chw_terms.specs.TermTree.{TermTree}
use Rattle.normal_forms.specs.Values.{IsSide, IsBlock}
use Rattle.rewriting.specs.Origins.{Origins}
use Rattle.rewriting.specs.Shapes.{IsLet}
use Rattle.rewriting.specs.Spots.{Spot}
use Rattle.rest_places.specs.Chains.{MadeAreNamed}
use Rattle.rest_places.specs.Rest.{IsRestPlace}

-- where values are built, a term of a representable type at rest is a right side or a letrec
abbrev pub SidesStand : Type 0
SidesStand =
    (o : Origins) (at : Spot) (e : TermTree) (t : TypeTree)
    → MadeAreNamed o → at.mode ≡ V → at.result ≡ false → IsRestPlace o at e t
    → Representable o.program.datas t → IsSide o at.vars e ⊎ IsLet e

-- and at a result place it is a block
abbrev pub BlocksStand : Type 0
BlocksStand =
    (o : Origins) (at : Spot) (e : TermTree) (t : TypeTree)
    → MadeAreNamed o → at.mode ≡ V → at.result ≡ true → IsRestPlace o at e t
    → Representable o.program.datas t → IsBlock o at.vars e
