-- What the steps of checking tell of a program's first fault.
use Rattle.std.proofs.Common.{◌≡◌, ℕ, List, Option, Some, None, refl, sym, subst}
use Rattle.std.specs.Prelude.{IsSomeAnd}
use Rattle.std.specs.List.{slice_get}
use Rattle.chw_check.specs.Incomplete.{IsFirstIncomplete}
use Rattle.chw_check.specs.declared.cases.lacks.Incomplete.{Incomplete}
use Rattle.chw_check.specs.declared.cases.lacks.Lacks.TheVariants.{Constructor, Default}
use Rattle.chw_base.specs.declared.index.ConId.{ConId}
use Rattle.chw_base.specs.declared.index.DataId.{DataId}
use Rattle.chw_base.specs.declared.index.DefId.{DefId}
use Rattle.chw_check.specs.Bodies.{AllHaveTheirTypes, IsFirstUntyped}
use Rattle.chw_check.specs.Faults.{IsTypeFault, kind_of_data, kind_of_def, typing, missing, no_default}
use Rattle.chw_check.specs.Names.{IsConName, IsDataName, IsDefName}
use Rattle.chw_check.specs.declared.fault.TypeFault.TheVariants.{Kind, Typing, Missing, NoDefault}
use Rattle.chw_terms.specs.Constructors.{con_at}
use Rattle.chw_terms.specs.declared.program.Def.{Def}
use Rattle.chw_terms.specs.declared.program.Program.{Program}
use Rattle.chw_check.specs.Fits.{AllDeclarationsFit}
use Rattle.chw_check.specs.Unkinded.{IsFirstUnkinded}
use Rattle.chw_check.specs.declared.kinds.first.Unkinded.TheVariants.{OfData, OfDef}

-- where there is such a value, it is one
record There {X : Type 0} (o : Option X) (P : X → Type 0) : Type 0 where
  pub it : X
  pub is : o ≡ Some it
  pub holds : P it

there : {X : Type 0} {P : X → Type 0} (o : Option X) → IsSomeAnd o P → There o P
there None h = absurd h
there (Some x) h = record { it = x; is = refl; holds = h }

pub kind_of_data_told : (p : Program) (d : DataId) (name : List ℕ) → IsFirstUnkinded p (OfData d) → IsDataName p.datas d.number name → IsTypeFault p (Kind name)
kind_of_data_told p d name first named =
    let w = there (slice_get p.datas d.number) named in
    subst (λ (n : List ℕ). IsTypeFault p (Kind n)) (sym w.holds) (kind_of_data d w.it first w.is)

pub kind_of_def_told : (p : Program) (d : DefId) (name : List ℕ) → IsFirstUnkinded p (OfDef d) → IsDefName p.defs d.number name → IsTypeFault p (Kind name)
kind_of_def_told p d name first named =
    let w = there (slice_get p.defs d.number) named in
    subst (λ (n : List ℕ). IsTypeFault p (Kind n)) (sym w.holds) (kind_of_def d w.it first w.is)

pub typing_told : (p : Program) (it : Def) (name : List ℕ) → AllDeclarationsFit p → IsFirstUntyped p it → name ≡ it.name → IsTypeFault p (Typing name)
typing_told p it name fit first named = subst (λ (n : List ℕ). IsTypeFault p (Typing n)) (sym named) (typing it fit first)

module _ (p : Program) (i : Incomplete) (fit : AllDeclarationsFit p) (have : AllHaveTheirTypes p) (first : IsFirstIncomplete p i) (name : List ℕ) (named : IsDefName p.defs i.«def».number name) where
  pub missing_told : (c : ConId) (constructor : List ℕ) → i.lacks ≡ Constructor c → IsConName p.datas c.number constructor → IsTypeFault p (Missing name constructor)
  missing_told c constructor lacks called =
      let w = there (slice_get p.defs i.«def».number) named in
      let v = there (con_at p.datas c.number) called in
      subst (λ (n : List ℕ). IsTypeFault p (Missing n constructor)) (sym w.holds)
      (subst (λ (n : List ℕ). IsTypeFault p (Missing w.it.name n)) (sym v.holds) (missing i c w.it v.it fit have first lacks w.is v.is))

  pub no_default_told : i.lacks ≡ Default → IsTypeFault p (NoDefault name)
  no_default_told lacks =
      let w = there (slice_get p.defs i.«def».number) named in
      subst (λ (n : List ℕ). IsTypeFault p (NoDefault n)) (sym w.holds) (no_default i w.it fit have first lacks w.is)
