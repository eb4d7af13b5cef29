-- What is added to a draft: cells, and the wires of the bindings of letrecs.
use Rattle.std.specs.Prelude.{◌≡◌, ℕ, ◌-◌, List, [], ◌∷◌, ◌++◌, length, reverse, slice_set}
use Rattle.chw_base.specs.declared.index.WireId.{WireId}
use Rattle.chw_types.specs.TypeTree.{TypeTree}
use Rattle.chw_terms.specs.declared.term.Pattern.{Pattern}
use Rattle.chw_terms.specs.TermTree.{TermTree, Alts}
use Rattle.chw_typing.specs.HeadTypes.{PatternOf}
use Rattle.chw_layout.specs.Measured.{HasWidth}
use Rattle.net_built.specs.Circuits.{Ground}
use Rattle.net_built.specs.Data.{HaveWidths, field_cuts, variables_from, Tested, tested_of}
use Rattle.net_built.specs.Data.{case_cells, case_wires}
use Rattle.net_built.specs.Terms.{Variable}
use Rattle.net_built.specs.Wires.{Piece, ◌▸◌, after}
use Rattle.net_ready.specs.Drafts.{Known, BlockDrafted, AltsDrafted}
use Rattle.value_build.specs.Added.{next}
use Rattle.value_build.specs.declared.drafts.Draft.{Draft}

-- cells and the wires of letrecs were put behind others, of which this holds from the number of the
-- next letrec and that of the next wire on
pub record Drafts (P : (at n : ℕ) → Piece → Known → Type 0) (before later : Draft) : Type 0 where
  pub piece : Piece
  pub inner : Known
  pub is : later.into ≡ before.into ▸ piece
  pub found : later.found.items ≡ before.found.items ++ inner
  pub holds : P (length before.found.items) (next before.into) piece inner

-- there is a place of this number for the wires of the next letrec
pub record IsOpened (before later : Draft) (place : ℕ) : Type 0 where
  pub at : place ≡ length before.found.items
  pub cells : later.into ≡ before.into
  pub found : later.found.items ≡ before.found.items ++ [] ∷ []

-- these wires came to the place of this number
pub record IsFilled (before later : Draft) (place : ℕ) (wires : List (List WireId)) : Type 0 where
  pub cells : later.into ≡ before.into
  pub found : later.found.items ≡ slice_set before.found.items place wires

-- an alternative on a variable, with so many bits below what is tested, has these cells, its result
-- these wires, and its letrecs these: the cells are those of the fields, and of the block
pub record AltDrafted (ground : Ground) (known : Known) (at : ℕ) (scope : List Variable)
    (it : Variable) (below n : ℕ) (q : Pattern) (e : TermTree) (piece : Piece)
    (wires : List WireId) (inner : Known) : Type 0 where
  pub fields : List TypeTree
  pub widths : List ℕ
  pub binds : PatternOf ground.datas it.ty q fields
  pub are : HaveWidths ground.datas fields widths
  pub block : Piece
  pub drafted :
      BlockDrafted ground known at (reverse (variables_from n fields widths) ++ scope)
      (after n (field_cuts below it.wires widths n)) e block wires inner
  pub whole : piece ≡ field_cuts below it.wires widths n ▸ block

-- a case of so many bits on a variable has these cells, its result these wires, and the letrecs in
-- its alternatives these
pub record CaseDrafted (ground : Ground) (known : Known) (at : ℕ) (scope : List Variable)
    (it : Variable) (n w : ℕ) (alts : Alts) (piece : Piece) (wires : List WireId) (inner : Known)
    : Type 0 where
  pub whole : ℕ
  pub width : HasWidth ground.datas it.ty whole
  pub cells : Piece
  pub results : List (List WireId)
  pub alternatives :
      let on : Tested = tested_of ground.datas it.ty whole n it.wires in
      AltsDrafted ground known at scope it (whole - on.bits) (after n on.cells) alts cells results
      inner
  pub is :
      let on : Tested = tested_of ground.datas it.ty whole n it.wires in
      piece ≡ case_cells on alts w n cells results
  pub result :
      let on : Tested = tested_of ground.datas it.ty whole n it.wires in
      wires ≡ case_wires on alts w n cells results
