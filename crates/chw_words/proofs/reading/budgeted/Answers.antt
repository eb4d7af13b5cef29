use Rattle.std.proofs.Common.{◌≡◌, ◌∙◌, sym, ap, subst, Some, None, codes, option_map}
use Rattle.clap.specs.Matches.{found_of}
use Rattle.clap.specs.Walk.{first_of, rows_of}
use Rattle.clap.proofs.WalkLemmas.{first_value-rows}
use Rattle.chw_words.specs.Parsing.{BudgetIs}
use Rattle.chw_words.proofs.reading.budgeted.Goals as goal

pub returns-in_default-clause-fault : goal.returns-in_default-clause-fault
returns-in_default-clause-fault c =
    let found = found_of c.args.matches.now in
    let none : first_of (codes "file") (rows_of found) ≡ None =
    sym (first_value-rows found (codes "file")) ∙ sym c.get_str.ensures ∙ ap (option_map (λ s. s.now)) c.in_default.is in
    λ file n b.
    let bad : None ≡ Some file = sym none ∙ b.is_file in
    cc

pub returns-in_default-budget-clause-fault : goal.returns-in_default-budget-clause-fault
returns-in_default-budget-clause-fault c =
    let found = found_of c.args.matches.now in
    let said : option_map (λ s. s.now) c.get_str-2.result ≡ first_of (codes "budget") (rows_of found) = c.get_str-2.ensures ∙ first_value-rows found (codes "budget") in
    λ file n b. c.in_default-budget.ensures n (subst (λ o. BudgetIs o n) (sym said) b.is_budget)

pub returns-clause-budgeted : goal.returns-clause-budgeted
returns-clause-budgeted c =
    let found = found_of c.args.matches.now in
    let file = c.in_ok-name.field-0 in
    let budget = c.in-Some-budget.budget in
    let named : first_of (codes "file") (rows_of found) ≡ Some file =
    sym (first_value-rows found (codes "file")) ∙ sym c.in-Some.ensures ∙ ap Some (sym c.in_ok-name.ensures) in
    let said : option_map (λ s. s.now) c.get_str-2.result ≡ first_of (codes "budget") (rows_of found) = c.get_str-2.ensures ∙ first_value-rows found (codes "budget") in
    record { is_file = named; is_budget = subst (λ o. BudgetIs o budget) said c.in-Some-budget.ensures }
