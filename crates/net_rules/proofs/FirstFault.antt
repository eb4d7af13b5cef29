-- The first rule that a net breaks, module by module.
use Rattle.std.proofs.Common.{◌≡◌, ℕ, ◌+◌, ◌==◌, ◌<◌, ◌≤◌, Bool, true, false, ◌⊎◌, inl, inr, List, [], ◌∷◌, length, Some, refl, sym, ◌∙◌, subst, arith}
use Rattle.std.specs.Prelude.{slice_get}
use Rattle.std.proofs.lemmas.Bool.{cases_lt, false≢true}
use Rattle.std.proofs.lemmas.Bool.Decides.{Decides-eqb}
use Rattle.std.proofs.lemmas.Option.{slice_get_within}
use Rattle.chw_base.specs.declared.limits.TheConstants.{MODULES}
use Rattle.net_rules.specs.WellFormed.{EachRuleHolds, IsBrokenIn, IsNetFault, WellFormed, broken}
use Rattle.netlist.specs.declared.net.Module.{Module}
use Rattle.netlist.specs.declared.net.Net.{Net}
use Rattle.net_rules.specs.declared.well_formed.NetCode.{NetCode}
use Rattle.net_rules.specs.declared.well_formed.NetCode.TheVariants.{Limit}

-- the rules hold of each module before this place
abbrev pub EarlierHold : Net → ℕ → Type 0
EarlierHold net i = (j : ℕ) (m : Module) → j < i → slice_get net.modules j ≡ Some m → EachRuleHolds net j m

-- of one more
pub earlier_more : (net : Net) (i : ℕ) (m : Module) → slice_get net.modules i ≡ Some m → EarlierHold net i → EachRuleHolds net i m → EarlierHold net (i + 1)
earlier_more net i m here before rules j k l e = by (cases_lt j i)
  where
    by : (j < i) ⊎ (i ≤ j) → EachRuleHolds net j k
    by (inl h) = before j k h e
    by (inr h) =
        let place : j ≡ i = omega (arith, h, l) in
        let there : slice_get net.modules i ≡ Some k = subst (λ n. slice_get net.modules n ≡ Some k) place e in
        let same : m ≡ k = cc in
        let one : EachRuleHolds net i k = subst (EachRuleHolds net i) same rules in
        subst (λ n. EachRuleHolds net n k) (sym place) one

-- the modules are few where the rules hold of the first
pub few_modules : (net : Net) (i : ℕ) (m : Module) → EachRuleHolds net i m → (0 < i → length net.modules ≤ MODULES) → length net.modules ≤ MODULES
few_modules net i m rules before = by (cases_lt 0 i)
  where
    by : (0 < i) ⊎ (i ≤ 0) → length net.modules ≤ MODULES
    by (inl h) = before h
    by (inr h) = (rules Limit).modules (omega (arith, h))

nothing : (xs : List Module) → length xs ≡ 0 → xs ≡ []
nothing [] e = refl
nothing (x ∷ xs) e = absurd (omega (arith, e))

-- a list without items
pub no_items : (ms xs : List Module) (r : Bool) → ms ≡ xs → r ≡ (length ms == 0) → r ≡ true → xs ≡ []
no_items ms xs r same e is = sym same ∙ nothing ms ((Decides-eqb (length ms) 0).0 (sym e ∙ is))

-- a list with an item
pub some_item : (ms xs : List Module) (r : Bool) → ms ≡ xs → r ≡ (length ms == 0) → r ≡ false → 1 ≤ length xs
some_item ms xs r same e is = subst (λ (ys : List Module). 1 ≤ length ys) same (by (cases_lt 0 (length ms)))
  where
    by : (0 < length ms) ⊎ (length ms ≤ 0) → 1 ≤ length ms
    by (inl h) = omega (arith, h)
    by (inr h) =
        let none : length ms ≡ 0 = omega (arith, h) in
        absurd (false≢true (sym is ∙ (e ∙ (Decides-eqb (length ms) 0).1 none)))

-- the first broken rule is what is wrong
pub first_fault : (net : Net) (i number : ℕ) (m : Module) (code : NetCode) → slice_get net.modules i ≡ Some m → number ≡ i → EarlierHold net i
    → IsBrokenIn net number m code → IsNetFault net (record { «module» = record { number = number }; code = code })
first_fault net i number m code here is before breaks =
    broken (record { «module» = record { number = number }; code = code }) (record {
      broken_in = m;
      found = subst (λ n. slice_get net.modules n ≡ Some m) (sym is) here;
      earlier = subst (EarlierHold net) (sym is) before;
      breaks = breaks;
    })

-- the rules hold of all
pub all_hold : (net : Net) (ms : List Module) (i : ℕ) → ms ≡ net.modules → 1 ≤ length net.modules → length ms ≤ i → EarlierHold net i → WellFormed net
all_hold net ms i same some all before = record {
  some = some;
  rules = λ j m e. before j m (let l : j < length net.modules = slice_get_within net.modules j m e in let n : length net.modules ≤ i = subst (λ (ys : List Module). length ys ≤ i) same all in omega (arith, l, n)) e;
}
