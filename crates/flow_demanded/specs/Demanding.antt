-- Demanded arguments of a form.
use Rattle.std.specs.Prelude.{◌≡◌, ℕ, ◌<◌, List, []}
use Rattle.chw_types.specs.TypeTree.{TypeTree}
use Rattle.chw_prims.specs.declared.prim.Primitive.{Primitive as Prim}
use Rattle.chw_terms.specs.declared.scene.Mode.TheVariants.{K}
use Rattle.chw_terms.specs.declared.term.Arg.{Arg}
use Rattle.chw_terms.specs.TermTree.{TermTree}
use Rattle.chw_typing.specs.Typing.{HasType}
use Rattle.rewriting.specs.Named.{IsNamed}
use Rattle.rewriting.specs.Origins.{Origins, setting_at}
use Rattle.rewriting.specs.Active.{Demands}
use Rattle.rewriting.specs.Spots.{Spot}
use Rattle.flow_demanded.specs.Forms.{HasForm}
use Rattle.flow_demanded.specs.declared.forms.Form.{Form}

-- what is demanded of an argument itself: the place isn't one of a constant, and there the term has
-- a type that isn't named
pub record IsUnnamed (o : Origins) (at : Spot) (a : TermTree) : Type 0 where
  pub no_constant : at.mode ≡ K → ⊥
  pub type : TypeTree
  pub has : HasType (setting_at o) [] at.vars a type
  pub unnamed : IsNamed o.program.datas at.mode type → ⊥

-- the primitive's demanded argument of this number has this form
abbrev pub DemandsForm : Origins → Spot → Prim → List Arg → Form → ℕ → Type 0
DemandsForm o at p args form i = (a : TermTree) × Demands o at p args i a × HasForm form a

-- this is the first one
pub record IsFirstOfForm
    (o : Origins) (at : Spot) (p : Prim) (args : List Arg) (form : Form) (i : ℕ) (a : TermTree)
    : Type 0
  where
    pub demands : Demands o at p args i a
    pub of_form : HasForm form a
    pub first : (j : ℕ) → j < i → DemandsForm o at p args form j → ⊥

-- there is none
abbrev pub NoneOfForm : Origins → Spot → Prim → List Arg → Form → Type 0
NoneOfForm o at p args form = (j : ℕ) → DemandsForm o at p args form j → ⊥
