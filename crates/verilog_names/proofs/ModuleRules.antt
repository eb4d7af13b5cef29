-- The modules of a text, resolved one after the other.
use Rattle.std.proofs.Common.{◌≡◌, ℕ, ◌+◌, ◌<◌, List, [], ◌∷◌, ◌++◌, length, get_or, drop, take, Option, None, not, sym, ap, ◌∙◌, append_assoc}
use Rattle.std.proofs.lemmas.List.{append-nil, at_drop_more, map-append, take_more}
use Rattle.std.specs.List.{flat_map}
use Rattle.std.specs.Str.{bytes_eq}
use Rattle.chw_clock.specs.declared.event.Ports.{Ports}
use Rattle.name_tables.specs.Names.{is_among}
use Rattle.verilog_tree.specs.Sources.{bytes_of}
use Rattle.verilog_text.specs.Names.{top_name}
use Rattle.verilog_checks.proofs.Steps.{least_after_both, least_after_is}
use Rattle.verilog_checks.specs.Least.{least_after}
use Rattle.verilog_names.specs.Resolves.{module_items, port_rules}
use Rattle.verilog_rules.specs.Checks.{Check, broken_at, check, least_broken, lesser}
use Rattle.verilog_rules.specs.Declarations.{declared_words, ports_in, signals_of}
use Rattle.verilog_rules.specs.NameRules.{Place, earlier_checks, last_checks, module_checks, module_names, once_checks, order_checks, port_form, same_signals, signal_checks}
use Rattle.verilog_rules.specs.Resolving.{resolved_module, resolved_modules}
use Rattle.verilog_rules.specs.declared.resolved.ResolvedModule.{ResolvedModule}
use Rattle.verilog_tree.specs.declared.module.Module.{Module}

-- the rules on a module are those before its items, and those on its items
pub module_parts : (place : Place) (m : Module) → module_checks place m ≡ port_rules place m ++ module_items place m
module_parts place m =
    let order : List Check = order_checks 0 (ports_in m) in
    let signals : List Check = signal_checks None (signals_of (ports_in m)) in
    let once : List Check = once_checks [] (declared_words m) in
    ap (λ cs. check m.name.at (not (is_among (module_names place.earlier) (bytes_of m.name))) ∷ cs) (sym (append_assoc order (signals ++ once) (module_items place m) ∙ ap (λ cs. order ++ cs) (append_assoc signals once (module_items place m))))

abbrev pub placed : Ports → List Module → Place
placed ports earlier = record { ports = ports; earlier = earlier }

-- one module more is resolved
pub resolved_more : (ports : Ports) (ms : List Module) (i : ℕ) (m d : Module) (before after whole : List ResolvedModule) → i < length ms → m ≡ get_or ms i d
    → after ≡ before ++ resolved_module (placed ports (take i ms)) m ∷ [] → before ++ resolved_modules ports (take i ms) (drop i ms) ≡ whole
    → after ++ resolved_modules ports (take (i + 1) ms) (drop (i + 1) ms) ≡ whole
resolved_more ports ms i m d before after whole lt is more left =
    ap (λ l. l ++ resolved_modules ports (take (i + 1) ms) (drop (i + 1) ms)) (more ∙ ap (λ x. before ++ resolved_module (placed ports (take i ms)) x ∷ []) is)
    ∙ append_assoc before (resolved_module (placed ports (take i ms)) (get_or ms i d) ∷ []) (resolved_modules ports (take (i + 1) ms) (drop (i + 1) ms))
    ∙ ap (λ e. before ++ resolved_module (placed ports (take i ms)) (get_or ms i d) ∷ resolved_modules ports e (drop (i + 1) ms)) (take_more ms i d lt)
    ∙ sym (at_drop_more (λ xs. before ++ resolved_modules ports (take i ms) xs) ms i d lt) ∙ left

-- the rules on one module more
pub earlier_more : (ports : Ports) (last : Module) (ms : List Module) (i : ℕ) (m d : Module) (least mid next whole : Option ℕ) → i < length ms → m ≡ get_or ms i d
    → mid ≡ lesser least (broken_at (same_signals last m)) → next ≡ least_after mid (module_checks (placed ports (take i ms)) m)
    → least_after least (earlier_checks ports last (take i ms) (drop i ms)) ≡ whole
    → least_after next (earlier_checks ports last (take (i + 1) ms) (drop (i + 1) ms)) ≡ whole
earlier_more ports last ms i m d least mid next whole lt is first then left =
    ap (λ l. least_after l (earlier_checks ports last (take (i + 1) ms) (drop (i + 1) ms)))
    (then ∙ ap (λ l. least_after l (module_checks (placed ports (take i ms)) m)) first
    ∙ ap (λ x. least_after (lesser least (broken_at (same_signals last x))) (module_checks (placed ports (take i ms)) x)) is)
    ∙ sym (least_after_both (lesser least (broken_at (same_signals last (get_or ms i d)))) (module_checks (placed ports (take i ms)) (get_or ms i d)) (earlier_checks ports last (take (i + 1) ms) (drop (i + 1) ms)))
    ∙ ap (λ e. least_after (lesser least (broken_at (same_signals last (get_or ms i d)))) (module_checks (placed ports (take i ms)) (get_or ms i d) ++ earlier_checks ports last e (drop (i + 1) ms))) (take_more ms i d lt)
    ∙ sym (at_drop_more (λ xs. least_after least (earlier_checks ports last (take i ms) xs)) ms i d lt) ∙ left

-- the last module stands behind the others
pub resolved_with_last : (ports : Ports) (earlier ms : List Module) (last : Module)
    → resolved_modules ports earlier (ms ++ last ∷ []) ≡ resolved_modules ports earlier ms ++ resolved_module (placed ports (earlier ++ ms)) last ∷ []
resolved_with_last ports earlier [] last = ap (λ e. resolved_module (placed ports e) last ∷ []) (sym (append-nil earlier))
resolved_with_last ports earlier (m ∷ ms) last =
    ap (λ rs. resolved_module (placed ports earlier) m ∷ rs) (resolved_with_last ports (earlier ++ m ∷ []) ms last
    ∙ ap (λ e. resolved_modules ports (earlier ++ m ∷ []) ms ++ resolved_module (placed ports e) last ∷ []) (append_assoc earlier (m ∷ []) ms))

-- one module more is named
pub named_more : (ms : List Module) (i : ℕ) (m d : Module) (before after : List (List ℕ)) → i < length ms → m ≡ get_or ms i d
    → before ≡ module_names (take i ms) → after ≡ before ++ bytes_of m.name ∷ [] → after ≡ module_names (take (i + 1) ms)
named_more ms i m d before after lt is so more =
    more ∙ ap (λ l. l ++ bytes_of m.name ∷ []) so ∙ ap (λ (x : Module). module_names (take i ms) ++ bytes_of x.name ∷ []) is
    ∙ sym (map-append (λ (x : Module). bytes_of x.name) (take i ms) (get_or ms i d ∷ [])) ∙ ap module_names (sym (take_more ms i d lt))

-- the rules on the last module, taken part by part
pub last_taken : (ports : Ports) (earlier : List Module) (last : Module) (least named formed whole : Option ℕ)
    → named ≡ lesser least (broken_at (check last.name.at (bytes_eq (bytes_of last.name) top_name)))
    → formed ≡ least_after named (flat_map (port_form ports.domains) (ports_in last))
    → whole ≡ least_after formed (module_checks (placed ports earlier) last) → whole ≡ least_after least (last_checks ports earlier last)
last_taken ports earlier last least named formed whole first then done =
    let top : Option ℕ = lesser least (broken_at (check last.name.at (bytes_eq (bytes_of last.name) top_name))) in
    let forms : List Check = flat_map (port_form ports.domains) (ports_in last) in
    done ∙ ap (λ l. least_after l (module_checks (placed ports earlier) last)) (then ∙ ap (λ l. least_after l forms) first)
    ∙ sym (least_after_both top forms (module_checks (placed ports earlier) last))

-- all modules are resolved
pub resolved_whole : (ports : Ports) (earlier ms : List Module) (last : Module) (none before after : List ResolvedModule) (r : ResolvedModule) → none ≡ [] → ms ≡ earlier
    → before ≡ none ++ resolved_modules ports [] ms → r ≡ resolved_module (placed ports earlier) last → after ≡ before ++ r ∷ []
    → after ≡ resolved_modules ports [] (earlier ++ last ∷ [])
resolved_whole ports earlier ms last none before after r empty is so its more =
    more ∙ ap (λ l. l ++ r ∷ []) (so ∙ ap (λ l. l ++ resolved_modules ports [] ms) empty ∙ ap (λ es. resolved_modules ports [] es) is)
    ∙ ap (λ x. resolved_modules ports [] earlier ++ x ∷ []) its ∙ sym (resolved_with_last ports [] earlier last)

-- the rules on all modules
pub rules_whole : (ports : Ports) (earlier ms : List Module) (last : Module) (least mid whole : Option ℕ) → ms ≡ earlier
    → mid ≡ least_after least (earlier_checks ports last [] ms) → whole ≡ least_after mid (last_checks ports earlier last)
    → whole ≡ least_after least (earlier_checks ports last [] earlier ++ last_checks ports earlier last)
rules_whole ports earlier ms last least mid whole is first then =
    then ∙ ap (λ l. least_after l (last_checks ports earlier last)) (first ∙ ap (λ es. least_after least (earlier_checks ports last [] es)) is)
    ∙ sym (least_after_both least (earlier_checks ports last [] earlier) (last_checks ports earlier last))

-- the least place of all rules
pub least_from_none : (checks : List Check) (first least : Option ℕ) → first ≡ None → least ≡ least_after first checks → least_broken checks ≡ least
least_from_none checks first least none so = sym (so ∙ ap (λ l. least_after l checks) none ∙ least_after_is None checks)
