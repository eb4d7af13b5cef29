-- A case on a variable, with an alternative for one constructor.
use Rattle.std.specs.Prelude.{◌≡◌, ◌⊎◌, ℕ, ◌<◌}
use Rattle.chw_base.specs.declared.index.ConId.{ConId}
use Rattle.chw_terms.specs.declared.term.Pattern.TheVariants.{OfCon}
use Rattle.chw_terms.specs.TermTree.{TermTree, var, Alts, alt}
use Rattle.chw_typing.specs.Alternatives.{HasDefault}
use Rattle.rewriting.specs.Shapes.{IsDefaultOrNone}

-- it looks at the variable x, and its first alternative is for the constructor c with n names and
-- has the body e; there is no other but a default, and it isn't a projection itself
pub record IsPortCase (on : TermTree) (alts : Alts) (x : ℕ) (c : ConId) (n : ℕ) (e : TermTree)
    : Type 0
  where
    pub variable : on ≡ var x
    pub more : Alts
    pub first : alts ≡ alt (OfCon c n) e more
    pub others : IsDefaultOrNone more
    pub whole : ((j : ℕ) → j < n → e ≡ var j → ⊥) ⊎ HasDefault more
