-- Terms that are applications.
use Rattle.chw_terms.specs.TermTree.{TermTree, app, ty_app}

-- the term is applied to a term or at a type
abbrev pub IsApplied : TermTree → Type 0
IsApplied (app f a) = Unit {0}
IsApplied (ty_app f t) = Unit {0}
IsApplied _ = ⊥
