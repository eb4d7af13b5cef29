-- Modules found by their names.
use Rattle.std.proofs.Common.{◌≡◌, ℕ, ◌+◌, ◌<◌, Bool, true, false, cond, List, [], ◌∷◌, length, Option, Some, None, refl, sym, ap, ◌∙◌, add-one, arith}
use Rattle.std.specs.Prelude.{slice_get}
use Rattle.std.specs.Option.{option_map}
use Rattle.std.specs.Str.{bytes_eq}
use Rattle.std.proofs.lemmas.List.{length-map}
use Rattle.std.proofs.lemmas.Option.{none-some, same_Some}
use Rattle.name_tables.specs.Names.{place_of}
use Rattle.verilog_rules.specs.NameRules.{module_named, module_names}
use Rattle.verilog_tree.specs.Sources.{bytes_of}
use Rattle.verilog_tree.specs.declared.module.Module.{Module}

-- the module of a name is that at its place
pub module_at_place : (ms : List Module) (name : List ℕ) (k : ℕ) → place_of (module_names ms) name ≡ Some k → module_named ms name ≡ slice_get ms k
module_at_place [] name k e = absurd (none-some k e)
module_at_place (m ∷ ms) name k e = by (bytes_eq name (bytes_of m.name)) (place_of (module_names ms) name) k (module_at_place ms name) e
  where
    by : (b : Bool) (o : Option ℕ) (j : ℕ) → ((p : ℕ) → o ≡ Some p → module_named ms name ≡ slice_get ms p)
        → cond b (Some 0) (option_map (λ (p : ℕ). p + 1) o) ≡ Some j
        → cond b (Some m) (module_named ms name) ≡ slice_get (m ∷ ms) j
    by true o j rest h = ap (slice_get (m ∷ ms)) (same_Some 0 j h)
    by false None j rest h = absurd (none-some j h)
    by false (Some p) j rest h = rw add-one (rest p refl) ∙ ap (slice_get (m ∷ ms)) (same_Some (p + 1) j h)

-- a name without a place is that of no module
pub no_module : (ms : List Module) (name : List ℕ) → place_of (module_names ms) name ≡ None → module_named ms name ≡ None
no_module [] name e = refl
no_module (m ∷ ms) name e = by (bytes_eq name (bytes_of m.name)) (place_of (module_names ms) name) (no_module ms name) e
  where
    by : (b : Bool) (o : Option ℕ) → (o ≡ None → module_named ms name ≡ None) → cond b (Some 0) (option_map (λ (p : ℕ). p + 1) o) ≡ None → cond b (Some m) (module_named ms name) ≡ None
    by true o rest h = absurd (none-some 0 (sym h))
    by false (Some p) rest h = absurd (none-some (p + 1) (sym h))
    by false None rest h = rest refl

-- a place is one of a name
pub place_within : (names : List (List ℕ)) (name : List ℕ) (k : ℕ) → place_of names name ≡ Some k → k < length names
place_within [] name k e = absurd (none-some k e)
place_within (n ∷ names) name k e = by (bytes_eq name n) (place_of names name) k (place_within names name) e
  where
    by : (b : Bool) (o : Option ℕ) (j : ℕ) → ((p : ℕ) → o ≡ Some p → p < length names) → cond b (Some 0) (option_map (λ (p : ℕ). p + 1) o) ≡ Some j → j < length (n ∷ names)
    by true o j rest h = let e : 0 ≡ j = same_Some 0 j h in omega arith
    by false None j rest h = absurd (none-some j h)
    by false (Some p) j rest h =
        let e : p + 1 ≡ j = same_Some (p + 1) j h in
        let l : p < length names = rest p refl in
        omega arith

-- the same of names that are those of the modules
pub named_at : (ms : List Module) (names : List (List ℕ)) (name : List ℕ) (place : Option ℕ) (k : ℕ) → names ≡ module_names ms → place ≡ place_of names name → place ≡ Some k
    → module_named ms name ≡ slice_get ms k
named_at ms names name place k are is e = module_at_place ms name k (ap (λ ns. place_of ns name) (sym are) ∙ sym is ∙ e)

pub named_none : (ms : List Module) (names : List (List ℕ)) (name : List ℕ) (place : Option ℕ) → names ≡ module_names ms → place ≡ place_of names name → place ≡ None
    → module_named ms name ≡ None
named_none ms names name place are is e = no_module ms name (ap (λ ns. place_of ns name) (sym are) ∙ sym is ∙ e)

pub named_within : (ms : List Module) (names : List (List ℕ)) (name : List ℕ) (place : Option ℕ) (k : ℕ) → names ≡ module_names ms → place ≡ place_of names name → place ≡ Some k → k < length ms
named_within ms names name place k are is e =
    let l : k < length (module_names ms) = place_within (module_names ms) name k (ap (λ ns. place_of ns name) (sym are) ∙ sym is ∙ e) in
    omega (arith, length-map ms (λ (m : Module). bytes_of m.name))
