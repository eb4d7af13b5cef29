-- The printed lines of a run: one for each step, and then one for each made definition.
use Rattle.std.specs.Prelude.{ℕ, suc, List, [], ◌∷◌, ◌++◌, codes, decimal}
use Rattle.std.specs.List.{join_by}
use Rattle.chw_terms.specs.declared.rule.Rule.{Rule}
use Rattle.chw_terms.specs.declared.rule.Rule.TheVariants.{TyBeta, Beta, AppLet, AppCase}
use Rattle.chw_terms.specs.declared.rule.Rule.TheVariants.{CaseCon, CaseLet, CaseCase, Proj}
use Rattle.chw_terms.specs.declared.rule.Rule.TheVariants.{PrimLet, PrimCase, Flat, Dead, Inline}
use Rattle.chw_terms.specs.declared.rule.Rule.TheVariants.{Unfold, Unroll, Elem, Delta, ApPure}
use Rattle.chw_terms.specs.declared.rule.Rule.TheVariants.{Eta, Spec, Anf}
use Rattle.chw_terms.specs.declared.scene.Made.{Made}
use Rattle.chw_terms.specs.declared.scene.Sort.{Sort}
use Rattle.chw_terms.specs.declared.scene.Sort.TheVariants.{Value, Circuit}
use Rattle.chw_terms.specs.TermTree.{TermTree, lam, letrec, size_of}
use Rattle.rewriting.specs.Shapes.{leading_lambdas}
use Rattle.rewriting.specs.Steps.{Where}

-- the names of the rules
abbrev pub rule_name : Rule → List ℕ
rule_name TyBeta = codes "TYBETA"
rule_name Beta = codes "BETA"
rule_name AppLet = codes "APPLET"
rule_name AppCase = codes "APPCASE"
rule_name CaseCon = codes "CASECON"
rule_name CaseLet = codes "CASELET"
rule_name CaseCase = codes "CASECASE"
rule_name Proj = codes "PROJ"
rule_name PrimLet = codes "PRIMLET"
rule_name PrimCase = codes "PRIMCASE"
rule_name Flat = codes "FLAT"
rule_name Dead = codes "DEAD"
rule_name Inline = codes "INLINE"
rule_name Unfold = codes "UNFOLD"
rule_name Unroll = codes "UNROLL"
rule_name Elem = codes "ELEM"
rule_name Delta = codes "DELTA"
rule_name ApPure = codes "APPURE"
rule_name Eta = codes "ETA"
rule_name Spec = codes "SPEC"
rule_name Anf = codes "ANF"

-- the words for the sorts
abbrev pub sort_name : Sort → List ℕ
sort_name Value = codes "value"
sort_name Circuit = codes "circuit"

-- the numbers of the children along a path, joined by dots; a dash for the root
abbrev pub path_text : List ℕ → List ℕ
path_text [] = codes "-"
path_text (n ∷ path) = join_by decimal (codes ".") (n ∷ path)

-- what is under the leading lambdas
abbrev pub under_lambdas : TermTree → TermTree
under_lambdas (lam t e) = under_lambdas e
under_lambdas e = e

-- how many variables a letrec binds
abbrev pub bindings_of : TermTree → ℕ
bindings_of (letrec g e) = size_of g
bindings_of e = 0

-- a step: its number, its rule, the made definition, and the path in its body
abbrev pub step_line : ℕ → Where → List ℕ
step_line number step =
    decimal number ++ codes " " ++ rule_name step.rule ++ codes " " ++ decimal step.number
    ++ codes " " ++ path_text step.path ++ codes "\n"

-- how many parameters a body has, and how many bindings under them
abbrev pub counts_text : TermTree → List ℕ
counts_text body =
    codes "params " ++ decimal (leading_lambdas body)
    ++ codes " bindings " ++ decimal (bindings_of (under_lambdas body))

-- a made definition: its number, its sort, and what its body has
abbrev pub made_line : ℕ → Made → List ℕ
made_line number it =
    codes "made " ++ decimal number ++ codes " " ++ sort_name it.sort ++ codes " "
    ++ counts_text it.body ++ codes "\n"

-- a line for each of a list, by its number, the first of this number
abbrev pub lines_from : {A : Type 0} → (ℕ → A → List ℕ) → ℕ → List A → List ℕ
lines_from line number [] = []
lines_from line number (x ∷ xs) = line number x ++ lines_from line (suc number) xs

-- the lines of a run that made these steps, and left these definitions
abbrev pub normal_lines : List Where → List Made → List ℕ
normal_lines steps made = lines_from step_line 0 steps ++ lines_from made_line 0 made
