-- Fields of ports, by their wires.
use Rattle.std.specs.Prelude.{◌≡◌, ℕ, zero, suc, ◌-◌, List, [], ◌∷◌, map, take, drop}
use Rattle.chw_base.specs.declared.index.ConId.{ConId}
use Rattle.chw_base.specs.declared.index.WireId.{WireId}
use Rattle.chw_types.specs.declared.declarations.Data.{Data}
use Rattle.chw_types.specs.TypeTree.{TypeTree}
use Rattle.chw_terms.specs.declared.term.Pattern.{Pattern}
use Rattle.chw_terms.specs.declared.term.Pattern.TheVariants.{OfCon}
use Rattle.chw_typing.specs.HeadTypes.{PatternOf}
use Rattle.net_built.specs.Circuits.{HaveParts, field_wires}
use Rattle.net_built.specs.Terms.{Variable}
use Rattle.net_built.specs.Wires.{Piece, ◌▸◌, wire_count, copies}
use Rattle.value_build.specs.Added.{next}

-- the fields, which are ports, have so many wires, each at its place
pub record AreCounts (datas : List Data) (fields : List TypeTree) (counts : List ℕ) : Type 0 where
  pub parts : List (List ℕ)
  pub have : HaveParts datas fields parts
  pub are : counts ≡ map wire_count parts

-- of the wires of fields that have so many those of the field of this number
abbrev pub counted_field : ℕ → List ℕ → List WireId → List WireId
counted_field i [] wires = []
counted_field zero (n ∷ counts) wires = take n wires
counted_field (suc i) (n ∷ counts) wires = counted_field i counts (drop n wires)

-- copies of the wires of the field of this number were put behind what was there
pub record IsFieldCopied (datas : List Data) (fields : List TypeTree) (number : ℕ)
    (wires : List WireId) (widths : List ℕ) (before later : Piece) : Type 0 where
  pub parts : List (List ℕ)
  pub have : HaveParts datas fields parts
  pub is : later ≡ before ▸ copies (next before) (field_wires number parts wires) widths

-- so were copies of the wires of a field of a variable: the pattern is one for a constructor, and
-- binds the field by this number
pub record IsProjected (datas : List Data) (it : Variable) (q : Pattern) (z : ℕ)
    (widths : List ℕ) (before later : Piece) : Type 0 where
  pub c : ConId
  pub count : ℕ
  pub of_con : q ≡ OfCon c count
  pub fields : List TypeTree
  pub binds : PatternOf datas it.ty (OfCon c count) fields
  pub copied : IsFieldCopied datas fields (count - 1 - z) it.wires widths before later
