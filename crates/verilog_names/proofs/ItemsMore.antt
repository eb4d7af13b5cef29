-- Items added one by one, each behind the wires that are declared before it.
use Rattle.std.proofs.Common.{◌≡◌, ℕ, ◌+◌, ◌<◌, List, ◌++◌, length, get_or, drop, Option, sym, ap, ◌∙◌, append_assoc}
use Rattle.std.specs.List.{flat_map}
use Rattle.std.proofs.lemmas.List.{at_drop_more}
use Rattle.verilog_checks.proofs.Steps.{least_after_both}
use Rattle.verilog_checks.specs.Least.{least_after}
use Rattle.verilog_rules.specs.Declarations.{wires_by}
use Rattle.verilog_rules.specs.NameRules.{Place, item_checks, items_checks}
use Rattle.verilog_rules.specs.Resolving.{driver_of, drivers_of}
use Rattle.verilog_rules.specs.declared.resolved.Driver.{Driver}
use Rattle.verilog_rules.specs.declared.resolved.Wire.{Wire}
use Rattle.verilog_tree.specs.declared.item.Item.{Item}

pub wires_more : (items : List Item) (i : ℕ) (x d : Item) (before after whole : List Wire) → i < length items → x ≡ get_or items i d → after ≡ before ++ wires_by x
    → before ++ flat_map wires_by (drop i items) ≡ whole → after ++ flat_map wires_by (drop (i + 1) items) ≡ whole
wires_more items i x d before after whole lt is more left =
    ap (λ l. l ++ flat_map wires_by (drop (i + 1) items)) (more ∙ ap (λ y. before ++ wires_by y) is)
    ∙ append_assoc before (wires_by (get_or items i d)) (flat_map wires_by (drop (i + 1) items))
    ∙ sym (at_drop_more (λ ys. before ++ flat_map wires_by ys) items i d lt) ∙ left

pub drivers_more : (place : Place) (outputs : List (List ℕ)) (items : List Item) (i : ℕ) (x d : Item) (wires wires' : List Wire) (before after whole : List Driver) → i < length items
    → x ≡ get_or items i d → wires' ≡ wires ++ wires_by x → after ≡ before ++ driver_of place outputs wires x → before ++ drivers_of place outputs wires (drop i items) ≡ whole
    → after ++ drivers_of place outputs wires' (drop (i + 1) items) ≡ whole
drivers_more place outputs items i x d wires wires' before after whole lt is grown more left =
    ap (λ l. l ++ drivers_of place outputs wires' (drop (i + 1) items)) more
    ∙ append_assoc before (driver_of place outputs wires x) (drivers_of place outputs wires' (drop (i + 1) items))
    ∙ ap (λ ws. before ++ (driver_of place outputs wires x ++ drivers_of place outputs ws (drop (i + 1) items))) grown
    ∙ ap (λ y. before ++ (driver_of place outputs wires y ++ drivers_of place outputs (wires ++ wires_by y) (drop (i + 1) items))) is
    ∙ sym (at_drop_more (λ ys. before ++ drivers_of place outputs wires ys) items i d lt) ∙ left

pub rules_more : (place : Place) (outputs : List (List ℕ)) (items : List Item) (i : ℕ) (x d : Item) (wires wires' : List Wire) (least next whole : Option ℕ) → i < length items
    → x ≡ get_or items i d → wires' ≡ wires ++ wires_by x → next ≡ least_after least (item_checks place outputs wires x)
    → least_after least (items_checks place outputs wires (drop i items)) ≡ whole → least_after next (items_checks place outputs wires' (drop (i + 1) items)) ≡ whole
rules_more place outputs items i x d wires wires' least next whole lt is grown taken left =
    ap (λ l. least_after l (items_checks place outputs wires' (drop (i + 1) items))) taken
    ∙ sym (least_after_both least (item_checks place outputs wires x) (items_checks place outputs wires' (drop (i + 1) items)))
    ∙ ap (λ ws. least_after least (item_checks place outputs wires x ++ items_checks place outputs ws (drop (i + 1) items))) grown
    ∙ ap (λ y. least_after least (item_checks place outputs wires y ++ items_checks place outputs (wires ++ wires_by y) (drop (i + 1) items))) is
    ∙ sym (at_drop_more (λ ys. least_after least (items_checks place outputs wires ys)) items i d lt) ∙ left
