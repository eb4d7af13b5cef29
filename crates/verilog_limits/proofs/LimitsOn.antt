-- The limits on modules, one by one.
use Rattle.std.proofs.Common.{◌≡◌, ℕ, ◌+◌, ◌<◌, ◌≤◌, List, [], ◌∷◌, ◌++◌, length, get_or, drop, Option, None, sym, ap, ◌∙◌, arith, append_assoc}
use Rattle.std.proofs.lemmas.List.{append-nil, at_drop_all, at_drop_more}
use Rattle.verilog_checks.proofs.Steps.{least_after_both, least_after_is}
use Rattle.verilog_checks.specs.Least.{least_after}
use Rattle.verilog_rules.specs.Checks.{least_broken}
use Rattle.verilog_rules.specs.Limits.{limits_from, module_limits}
use Rattle.verilog_tree.specs.declared.module.Module.{Module}

-- the limits on one module more
pub module_more : (ms : List Module) (k : ℕ) (m d : Module) (least next whole : Option ℕ) → k < length ms → m ≡ get_or ms k d → next ≡ least_after least (module_limits k m)
    → least_after least (limits_from k (drop k ms)) ≡ whole → least_after next (limits_from (k + 1) (drop (k + 1) ms)) ≡ whole
module_more ms k m d least next whole lt is taken left =
    ap (λ l. least_after l (limits_from (k + 1) (drop (k + 1) ms))) (taken ∙ ap (λ x. least_after least (module_limits k x)) is)
    ∙ sym (least_after_both least (module_limits k (get_or ms k d)) (limits_from (k + 1) (drop (k + 1) ms)))
    ∙ sym (at_drop_more (λ xs. least_after least (limits_from k xs)) ms k d lt) ∙ left

-- those on all modules
pub all_limits : (ms : List Module) (k : ℕ) (least whole : Option ℕ) → length ms ≤ k → least_after least (limits_from k (drop k ms)) ≡ whole → least ≡ whole
all_limits ms k least whole le left = sym (at_drop_all (λ xs. least_after least (limits_from k xs)) ms k le) ∙ left

-- the limits on the last module come behind those on the others
pub limits_with_last : (k : ℕ) (ms : List Module) (last : Module) → limits_from k (ms ++ last ∷ []) ≡ limits_from k ms ++ module_limits (k + length ms) last
limits_with_last k [] last = append-nil (module_limits k last) ∙ (let h : k ≡ k + 0 = omega arith in ap (λ n. module_limits n last) h)
limits_with_last k (m ∷ ms) last =
    ap (λ checks. module_limits k m ++ checks) (limits_with_last (k + 1) ms last)
    ∙ (let h : k + 1 + length ms ≡ k + length (m ∷ ms) = omega arith in ap (λ n. module_limits k m ++ (limits_from (k + 1) ms ++ module_limits n last)) h)
    ∙ sym (append_assoc (module_limits k m) (limits_from (k + 1) ms) (module_limits (k + length (m ∷ ms)) last))

-- the least place of all, found module by module
pub least_of_all : (ms earlier : List Module) (last : Module) (k : ℕ) (start mid found place : Option ℕ) → ms ≡ earlier → k ≡ length ms → start ≡ None
    → mid ≡ least_after start (limits_from 0 ms) → found ≡ least_after mid (module_limits k last) → place ≡ found
    → place ≡ least_broken (limits_from 0 (earlier ++ last ∷ []))
least_of_all ms earlier last k start mid found place same count none first then is =
    let here : k ≡ 0 + length ms = omega (arith, count) in
    is ∙ then ∙ ap (λ l. least_after l (module_limits k last)) (first ∙ ap (λ s. least_after s (limits_from 0 ms)) none)
    ∙ sym (least_after_both None (limits_from 0 ms) (module_limits k last))
    ∙ ap (λ n. least_after None (limits_from 0 ms ++ module_limits n last)) here
    ∙ ap (least_after None) (sym (limits_with_last 0 ms last)) ∙ least_after_is None (limits_from 0 (ms ++ last ∷ []))
    ∙ ap (λ xs. least_broken (limits_from 0 (xs ++ last ∷ []))) same
