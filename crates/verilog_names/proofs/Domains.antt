-- Domains found by the names of their clocks.
use Rattle.std.proofs.Common.{◌≡◌, ℕ, ◌+◌, ◌==◌, Bool, true, false, cond, List, [], ◌∷◌, ◌++◌, length, drop, map, Option, Some, None, refl, sym, ap, ◌∙◌}
use Rattle.std.specs.Prelude.{◌&&◌, codes}
use Rattle.std.specs.Option.{option_map}
use Rattle.std.specs.Str.{bytes_eq}
use Rattle.std.proofs.lemmas.Bool.{eq-eqb, eqb-true, false≢true}
use Rattle.name_tables.specs.Names.{place_of}
use Rattle.verilog_rules.specs.Declarations.{is_clock, signal_domain}
use Rattle.verilog_rules.specs.Texts.{begins_with}
use Rattle.verilog_text.specs.Names.{clock_name}

eq_swapped : (a b : ℕ) → (a == b) ≡ (b == a)
eq_swapped a b = by (a == b) (b == a) refl refl
  where
    by : (p q : Bool) → (a == b) ≡ p → (b == a) ≡ q → p ≡ q
    by true true e f = refl
    by false false e f = refl
    by true false e f = absurd (false≢true (sym f ∙ eq-eqb b a (sym (eqb-true a b e))))
    by false true e f = absurd (false≢true (sym e ∙ eq-eqb a b (sym (eqb-true b a f))))

and_assoc : (p q r : Bool) → (p && (q && r)) ≡ ((p && q) && r)
and_assoc true q r = refl
and_assoc false q r = refl

-- a name is a front and another name where it begins with the front, and the other stands behind that
pub front_of : (front name other : List ℕ) → bytes_eq name (front ++ other) ≡ (begins_with front name && bytes_eq (drop (length front) name) other)
front_of [] name other = refl
front_of (x ∷ front) [] other = refl
front_of (x ∷ front) (n ∷ name) other =
    ap (λ b. (n == x) && b) (front_of front name other)
    ∙ and_assoc (n == x) (begins_with front name) (bytes_eq (drop (length front) name) other)
    ∙ ap (λ b. (b && begins_with front name) && bytes_eq (drop (length front) name) other) (eq_swapped n x)

none_either : (b : Bool) (o : Option ℕ) → o ≡ cond b o o
none_either true o = refl
none_either false o = refl

-- the place of a clock is that of its domain
place_of_clock : (domains : List (List ℕ)) (name : List ℕ) → place_of (map clock_name domains) name ≡ cond (is_clock name) (place_of domains (signal_domain name)) None
place_of_clock [] name = none_either (is_clock name) None
place_of_clock (d ∷ domains) name =
    ap (λ b. cond b (Some 0) (option_map (λ (p : ℕ). p + 1) (place_of (map clock_name domains) name))) (front_of (codes "clk_") name d)
    ∙ ap (λ o. cond (is_clock name && bytes_eq (signal_domain name) d) (Some 0) (option_map (λ (p : ℕ). p + 1) o)) (place_of_clock domains name)
    ∙ by (is_clock name)
  where
    by : (b : Bool) → cond (b && bytes_eq (signal_domain name) d) (Some 0) (option_map (λ (p : ℕ). p + 1) (cond b (place_of domains (signal_domain name)) None))
        ≡ cond b (place_of (d ∷ domains) (signal_domain name)) None
    by true = refl
    by false = refl

pub clock_found : (domains : List (List ℕ)) (name : List ℕ) → is_clock name ≡ true → place_of (map clock_name domains) name ≡ place_of domains (signal_domain name)
clock_found domains name e = place_of_clock domains name ∙ ap (λ b. cond b (place_of domains (signal_domain name)) None) e

pub clock_missed : (domains : List (List ℕ)) (name : List ℕ) → is_clock name ≡ false → place_of (map clock_name domains) name ≡ None
clock_missed domains name e = place_of_clock domains name ∙ ap (λ b. cond b (place_of domains (signal_domain name)) None) e
