-- What a case leaves out.
use Rattle.std.specs.Prelude.{◌≡◌, ℕ, ◌<◌, Bool, List, Some}
use Rattle.chw_base.specs.declared.index.ConId.{ConId}
use Rattle.chw_types.specs.declared.kind.Scalar.{Scalar}
use Rattle.chw_types.specs.declared.declarations.Data.{Data}
use Rattle.chw_terms.specs.declared.term.Pattern.TheVariants.{OfCon, OfLit}
use Rattle.chw_terms.specs.TermTree.{TermTree, Alts, alt}
use Rattle.chw_terms.specs.Constructors.{Constructor as Declared, con_at}
use Rattle.chw_typing.specs.Alternatives.{HasDefault, IsFor}
use Rattle.chw_check.specs.declared.cases.lacks.Lacks.{Lacks}
use Rattle.chw_check.specs.declared.cases.lacks.Lacks.TheVariants.{Constructor, Default}
use Rattle.chw_check.specs.declared.cases.lacks.Sought.{Sought}
use Rattle.chw_check.specs.declared.cases.lacks.Sought.TheVariants.{Constructors, Defaults}

-- the case with these alternatives leaves this out, of what is sought: it has no default, and its
-- first alternative tells what it looks at
pub data LeavesOut (datas : List Data) : Sought → Alts → Lacks → Type 0 where
  -- the first constructor, in order of declaration, of the data type that the first alternative is
  -- of, for which there is no alternative
  a_constructor : {c d : ConId} {n : ℕ} {e : TermTree} {more : Alts} (it lacking : Declared)
      → (HasDefault (alt (OfCon c n) e more) → ⊥)
      → con_at datas c.number ≡ Some it → con_at datas d.number ≡ Some lacking → lacking.of ≡ it.of
      → (IsFor d.number (alt (OfCon c n) e more) → ⊥)
      → ((b : ℕ) (earlier : Declared) → b < d.number → con_at datas b ≡ Some earlier
      → earlier.of ≡ it.of → IsFor b (alt (OfCon c n) e more))
      → LeavesOut datas Constructors (alt (OfCon c n) e more) (Constructor d)
  -- the default of a case on a scalar
  a_default : {s : Scalar} {bits : List Bool} {e : TermTree} {more : Alts}
      → (HasDefault (alt (OfLit s bits) e more) → ⊥)
      → LeavesOut datas Defaults (alt (OfLit s bits) e more) Default

-- the case with these alternatives leaves out nothing of what is sought
abbrev pub LeavesNothing : List Data → Sought → Alts → Type 0
LeavesNothing datas sought alts = (l : Lacks) → LeavesOut datas sought alts l → ⊥
