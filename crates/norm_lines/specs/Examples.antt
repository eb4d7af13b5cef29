-- Worked examples: lines, as they are printed.
use Rattle.std.specs.Prelude.{◌≡◌, ℕ, List, [], ◌∷◌, codes}
use Rattle.chw_types.specs.declared.kind.Scalar.TheVariants.{U}
use Rattle.chw_types.specs.TypeTree.{TypeTree, nat_lit, scalar}
use Rattle.chw_terms.specs.declared.rule.Rule.{Rule}
use Rattle.chw_terms.specs.declared.rule.Rule.TheVariants.{Beta, CaseCase, Dead}
use Rattle.chw_terms.specs.declared.scene.Made.{Made}
use Rattle.chw_terms.specs.declared.scene.Sort.{Sort}
use Rattle.chw_terms.specs.declared.scene.Sort.TheVariants.{Value, Circuit}
use Rattle.chw_terms.specs.TermTree.{TermTree, var, global, lam, app, letrec, no_bindings, bind}
use Rattle.rewriting.specs.Steps.{Where}
use Rattle.norm_lines.specs.Lines.{step_line, made_line, normal_lines}

abbrev pub byte : TypeTree
byte = scalar U (nat_lit 8)

abbrev pub step_at : ℕ → List ℕ → Rule → Where
step_at number path rule = record { number = number; path = path; rule = rule }

-- what was made of the first definition of a program
abbrev pub made_with : TermTree → Sort → Made
made_with body sort = record { origin = global 0; body = body; ty = byte; sort = sort }

-- `letrec { y = x; } in y`
abbrev pub one_binding : TermTree
one_binding = letrec (bind byte (var 1) no_bindings) (var 0)

-- a run of one step, which leaves `\x . letrec { y = x; } in y`
abbrev pub RunPrinted : Type 0
RunPrinted =
    normal_lines (step_at 0 (0 ∷ []) Beta ∷ []) (made_with (lam byte one_binding) Circuit ∷ [])
    ≡ codes "0 BETA 0 0\nmade 0 circuit params 1 bindings 1\n"

-- a step in the tail of a body
abbrev pub DeepStepPrinted : Type 0
DeepStepPrinted =
    step_line 3 (step_at 0 (0 ∷ 1 ∷ 12 ∷ []) CaseCase) ≡ codes "3 CASECASE 0 0.1.12\n"

-- a step on a whole body
abbrev pub RootStepPrinted : Type 0
RootStepPrinted = step_line 10 (step_at 2 [] Dead) ≡ codes "10 DEAD 2 -\n"

-- of `(letrec { y = x; } in y) z` neither a lambda nor a binding is counted
abbrev pub AppliedPrinted : Type 0
AppliedPrinted =
    made_line 1 (made_with (app one_binding (var 1)) Value)
    ≡ codes "made 1 value params 0 bindings 0\n"
