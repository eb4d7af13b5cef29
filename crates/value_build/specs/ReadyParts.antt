-- Parts of what is ready to be built.
use Rattle.std.specs.Prelude.{◌≡◌, ℕ, List, Some, slice_get}
use Rattle.chw_types.specs.declared.declarations.Data.{Data}
use Rattle.chw_types.specs.TypeMoves.{Substitution}
use Rattle.chw_types.specs.TypeTree.{TypeTree}
use Rattle.chw_terms.specs.declared.scene.Sort.TheVariants.{Value}
use Rattle.chw_terms.specs.declared.term.Pattern.{Pattern}
use Rattle.chw_terms.specs.TermTree.{TermTree, var, Alts}
use Rattle.chw_typing.specs.HeadTypes.{PatternOf}
use Rattle.chw_typing.specs.Scopes.{with_more}
use Rattle.chw_layout.specs.Measured.{fits, HasWidth, MeasuredFields}
use Rattle.net_built.specs.Data.{HaveWidths}
use Rattle.net_ready.specs.Ready.{BlockReady, AltsReady}

-- the type has a width
abbrev pub IsMeasured : List Data → TypeTree → Type 0
IsMeasured datas t = (w : ℕ) × HasWidth datas t w

-- so has each of these
abbrev pub AreMeasured : List Data → List TypeTree → Type 0
AreMeasured datas ts = (widths : List ℕ) × HaveWidths datas ts widths

-- the fields, with this put in, have a width together
abbrev pub FieldsMeasured : List Data → List TypeTree → Substitution → Type 0
FieldsMeasured datas fields σ = (w : ℕ) × MeasuredFields datas fields σ (fits w)

-- the term is a variable
abbrev pub IsName : TermTree → Type 0
IsName e = (x : ℕ) × (e ≡ var x)

-- the pattern is one for values of the type
abbrev pub IsPattern : List Data → TypeTree → Pattern → Type 0
IsPattern datas t q = (fields : List TypeTree) × PatternOf datas t q fields

-- and its fields have widths
pub record PatternReady (datas : List Data) (t : TypeTree) (q : Pattern) : Type 0 where
  pub fields : List TypeTree
  pub binds : PatternOf datas t q fields
  pub are : AreMeasured datas fields

-- an alternative on values of the type
pub record AltReady (datas : List Data) (vars : List TypeTree) (t : TypeTree) (q : Pattern)
    (e : TermTree) : Type 0 where
  pub pattern : PatternReady datas t q
  pub block : BlockReady datas Value (with_more pattern.fields vars) e

-- alternatives on values of the type, whatever is in scope
abbrev pub AreAlternatives : List Data → TypeTree → Alts → Type 0
AreAlternatives datas t alts = (vars : List TypeTree) × AltsReady datas vars t alts

-- a case on a variable in scope
pub record CaseReady (datas : List Data) (vars : List TypeTree) (on : TermTree) (alts : Alts)
    : Type 0 where
  pub x : ℕ
  pub is : on ≡ var x
  pub ty : TypeTree
  pub held : slice_get vars x ≡ Some ty
  pub measured : IsMeasured datas ty
  pub alternatives : AltsReady datas vars ty alts
