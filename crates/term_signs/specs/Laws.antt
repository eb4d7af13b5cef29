-- What signs tell of terms.
use Rattle.std.specs.Prelude.{◌≡◌}
use Rattle.chw_terms.specs.TermTree.{TermTree}
use Rattle.term_signs.specs.TermSigns.{signs}

-- terms of the same signs are the same tree
abbrev pub SignsTell : Type 0
SignsTell = (a b : TermTree) → signs a ≡ signs b → a ≡ b
