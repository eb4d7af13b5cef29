-- Which terms need names.
use Rattle.std.proofs.Common.{[]}
use Rattle.chw_types.specs.TypeTree.{TypeTree}
use Rattle.chw_terms.specs.TermTree.{TermTree}
use Rattle.chw_typing.specs.Laws.{OneType, TypesAreTermTypes}
use Rattle.chw_typing.specs.Finding.{Finds}
use Rattle.chw_typing.specs.FoundLaws.{FoundIsType}
use Rattle.term_types.specs.Answers.{IsReady}
use Rattle.rewriting.specs.SceneLaws.{SameKeepsNamed}
use Rattle.rewriting.specs.Named.{IsNamed}
use Rattle.rewriting.specs.Origins.{Origins, setting_at}
use Rattle.rewriting.specs.Spots.{Spot}
use Rattle.rewriting.specs.Operands.{NeedsName}
use Rattle.rewriting.specs.Shapes.{IsVariable}
use Rattle.work_operands.specs.Firsts.{NeedsNameOf}

-- one that is no variable does where the type that is found is named
pub needs_found : {o : Origins} {at : Spot} (x : TermTree) (t : TypeTree) → FoundIsType
    → (IsVariable x → ⊥) → Finds (setting_at o) [] at.vars x t
    → IsNamed o.program.datas at.mode t → NeedsNameOf o at x t
needs_found {o} {at} x t is_type none found named = (
  record {
    no_variable = none;
    type = t;
    has = is_type
        (setting_at o) [] at.vars x t found;
    named = named;
  },
  found,
)

-- the type that is found for a term that needs a name is named
pub found_is_named : {o : Origins} {at : Spot} (x : TermTree) (t : TypeTree) → OneType
    → TypesAreTermTypes → FoundIsType → SameKeepsNamed → IsReady (setting_at o) [] at.vars
    → Finds (setting_at o) [] at.vars x t → NeedsName o at x → IsNamed o.program.datas at.mode t
found_is_named {o} {at} x t one kinded is_type kept ready found needs =
    let s = setting_at o in
    let kind = kinded s [] at.vars x needs.type ready.0 ready.1 needs.has in
    kept s at.mode needs.type t kind.kind ready.0 kind.has
    (one s [] at.vars x needs.type t ready.0 ready.1 needs.has (is_type s [] at.vars x t found))
    needs.named
