use Rattle.std.proofs.Common.{◌≡◌, ◌-◌, length, ap, ◌∙◌, sym, arith, Some}
use Rattle.name_tables.specs.Binders.{level_of}
use Rattle.name_tables.proofs.Scopes.{count_of_names, found, level_below, placed}
use Rattle.name_tables.proofs.scope.Scope.find.Goals as goal

pub returns-in_err-level : goal.returns-in_err-level
returns-in_err-level c =
    let names = c.args.self.now in
    let level : c.flatten.result ≡ level_of names c.args.name.now =
    c.flatten.ensures ∙ found c.self.inside.innermost c.self.inside.binders.items names c.args.name c.copied.result c.self.invariant c.self.view_is
    (c.copied.ensures ∙ c.get.ensures.value) in
    c.from_residual.ensures ∙ placed names c.args.name.now _ (sym c.in_err-level.was ∙ level)

pub overflow_sub-result : goal.overflow_sub-result
overflow_sub-result c =
    let names = c.args.self.now in
    let level : c.flatten.result ≡ level_of names c.args.name.now =
    c.flatten.ensures ∙ found c.self.inside.innermost c.self.inside.binders.items names c.args.name c.copied.result c.self.invariant c.self.view_is
    (c.copied.ensures ∙ c.get.ensures.value) in
    let below = level_below names c.args.name.now c.in_ok-level.level (sym level ∙ c.in_ok-level.was) in
    let count = ap length (sym c.self.view_is) ∙ count_of_names c.self.inside.binders.items in
    omega arith

pub overflow_sub-result-2 : goal.overflow_sub-result-2
overflow_sub-result-2 c =
    let names = c.args.self.now in
    let level : c.flatten.result ≡ level_of names c.args.name.now =
    c.flatten.ensures ∙ found c.self.inside.innermost c.self.inside.binders.items names c.args.name c.copied.result c.self.invariant c.self.view_is
    (c.copied.ensures ∙ c.get.ensures.value) in
    let below = level_below names c.args.name.now c.in_ok-level.level (sym level ∙ c.in_ok-level.was) in
    let count = ap length (sym c.self.view_is) ∙ count_of_names c.self.inside.binders.items in
    omega arith

pub returns : goal.returns
returns c =
    let names = c.args.self.now in
    let level : c.flatten.result ≡ level_of names c.args.name.now =
    c.flatten.ensures ∙ found c.self.inside.innermost c.self.inside.binders.items names c.args.name c.copied.result c.self.invariant c.self.view_is
    (c.copied.ensures ∙ c.get.ensures.value) in
    let count : c.len.result ≡ length names =
    let len : c.len.result ≡ length c.self.inside.binders.items = omega arith in
    len ∙ sym (count_of_names c.self.inside.binders.items) ∙ ap length c.self.view_is in
    ap (λ n. Some (n - 1 - c.in_ok-level.level)) count ∙ placed names c.args.name.now _ (sym c.in_ok-level.was ∙ level)
