-- The forms of terms that move out of arguments.
use Rattle.chw_terms.specs.TermTree.{TermTree, case_of}
use Rattle.rewriting.specs.Shapes.{IsLet}
use Rattle.flow_demanded.specs.declared.forms.Form.{Form}
use Rattle.flow_demanded.specs.declared.forms.Form.TheVariants.{Letrec, Case}

abbrev pub IsCase : TermTree → Type 0
IsCase (case_of e alts) = Unit {0}
IsCase e = ⊥

abbrev pub HasForm : Form → TermTree → Type 0
HasForm Letrec e = IsLet e
HasForm Case e = IsCase e
