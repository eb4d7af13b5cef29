-- Payloads of registers, block RAMs and synchronizers.
use Rattle.std.specs.Prelude.{◌≡◌, ℕ, List, Some, Option, MatchOption}
use Rattle.std.specs.List.{slice_get}
use Rattle.chw_types.specs.declared.declarations.Data.{Data}
use Rattle.type_ports.specs.Representable.{Representable}
use Rattle.chw_types.specs.TypeTree.{TypeTree}
use Rattle.chw_prims.specs.declared.prim.Primitive.{Primitive as Prim}
use Rattle.chw_terms.specs.declared.term.Arg.{Arg}
use Rattle.chw_terms.specs.declared.term.Arg.TheVariants.{OfType}
use Rattle.chw_terms.specs.TermTree.{TermTree, prim}
use Rattle.chw_terms.specs.TermView.{applied}
use Rattle.normal_forms.specs.Blocked.{HasPayload}

-- the term is such a primitive at this payload, which isn't representable
pub record IsPayload (datas : List Data) (e : TermTree) (t : TypeTree) : Type 0 where
  pub which : Prim
  pub args : List Arg
  pub number : ℕ
  pub is : e ≡ applied (prim which) args
  pub has : HasPayload which number
  pub type : slice_get args number ≡ Some (OfType t)
  pub refused : Representable datas t → ⊥

-- the answer is such a payload, or nothing where there is none
abbrev pub FindsPayload : List Data → TermTree → Option TypeTree → Type 0
FindsPayload datas e answer =
    MatchOption answer ((t : TypeTree) → IsPayload datas e t → ⊥) (IsPayload datas e)

-- the answer is the number of the argument that is a primitive's payload
abbrev pub FindsNumber : Prim → Option ℕ → Type 0
FindsNumber p answer =
    MatchOption answer ((j : ℕ) → HasPayload p j → ⊥)
    (λ i. HasPayload p i × ((j : ℕ) → HasPayload p j → j ≡ i))
