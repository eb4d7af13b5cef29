-- The first step is one.
use Rattle.std.proofs.Common.{◌≡◌, ◌∙◌, sym, ap, refl, subst, inl, inr, ◌⊎◌, ◌-◌, ◌<◌, List, [], ◌∷◌, Some, slice_get}
use Rattle.std.proofs.lemmas.Bool.{cases_order}
use Rattle.chw_terms.specs.declared.program.Program.{Program}
use Rattle.chw_terms.specs.declared.rule.Rule.{Rule}
use Rattle.chw_terms.specs.declared.rule.Rule.TheVariants.{TyBeta, Beta, AppLet, AppCase, CaseCon, CaseLet, CaseCase, Proj, PrimLet, PrimCase, Flat, Dead, Inline, Unfold, Unroll, Elem, Delta, ApPure, Eta, Spec, Anf}
use Rattle.chw_terms.specs.declared.scene.Made.{Made}
use Rattle.chw_terms.specs.TermTree.{TermTree}
use Rattle.chw_typing.specs.Paths.{IsEarlier}
use Rattle.chw_typing.proofs.Order.{one_is_earlier}
use Rattle.rewriting.specs.Origins.{made_of}
use Rattle.rewriting.specs.Active.{IsPlaceOf}
use Rattle.rewriting.specs.PlaceLaws.{OnePlace}
use Rattle.rewriting.specs.Spots.{Spot}
use Rattle.rewriting.specs.Instances.{HasInstance}
use Rattle.rewriting.specs.Steps.{number_of, origins_in, Where, IsBefore, HasStep, IsFirst}
use Rattle.rewriting.proofs.Makes.{one_instance}

all_rules : List Rule
all_rules = TyBeta ∷ Beta ∷ AppLet ∷ AppCase ∷ CaseCon ∷ CaseLet ∷ CaseCase ∷ Proj ∷ PrimLet ∷ PrimCase ∷ Flat ∷ Dead ∷ Inline ∷ Unfold ∷ Unroll ∷ Elem ∷ Delta ∷ ApPure ∷ Eta ∷ Spec ∷ Anf ∷ []

rule_at : (r : Rule) → slice_get all_rules (number_of r - 1) ≡ Some r
unfolding all_rules
rule_at TyBeta = refl
rule_at Beta = refl
rule_at AppLet = refl
rule_at AppCase = refl
rule_at CaseCon = refl
rule_at CaseLet = refl
rule_at CaseCase = refl
rule_at Proj = refl
rule_at PrimLet = refl
rule_at PrimCase = refl
rule_at Flat = refl
rule_at Dead = refl
rule_at Inline = refl
rule_at Unfold = refl
rule_at Unroll = refl
rule_at Elem = refl
rule_at Delta = refl
rule_at ApPure = refl
rule_at Eta = refl
rule_at Spec = refl
rule_at Anf = refl

one_number_each : (r q : Rule) → number_of r ≡ number_of q → r ≡ q
one_number_each r q e = let is : Some r ≡ Some q = sym (rule_at r) ∙ ap (λ n. slice_get all_rules (n - 1)) e ∙ rule_at q in cc

same_place : (a b : Where) → a.number ≡ b.number → a.path ≡ b.path → a.rule ≡ b.rule → a ≡ b
same_place a b n p r = λ i. record { number = n i; path = p i; rule = r i }

-- of two places of steps one is before
in_order : (a b : Where) → (a ≡ b) ⊎ (IsBefore a b ⊎ IsBefore b a)
in_order a b = by_number (cases_order a.number b.number)
  where
    by_rule : a.number ≡ b.number → a.path ≡ b.path → (number_of a.rule ≡ number_of b.rule) ⊎ ((number_of a.rule < number_of b.rule) ⊎ (number_of b.rule < number_of a.rule)) → (a ≡ b) ⊎ (IsBefore a b ⊎ IsBefore b a)
    by_rule n p (inl r) = inl (same_place a b n p (one_number_each a.rule b.rule r))
    by_rule n p (inr (inl l)) = inr (inl (inr (n, inr (p, l))))
    by_rule n p (inr (inr l)) = inr (inr (inr (sym n, inr (sym p, l))))

    by_path : a.number ≡ b.number → (a.path ≡ b.path) ⊎ (IsEarlier a.path b.path ⊎ IsEarlier b.path a.path) → (a ≡ b) ⊎ (IsBefore a b ⊎ IsBefore b a)
    by_path n (inl p) = by_rule n p (cases_order (number_of a.rule) (number_of b.rule))
    by_path n (inr (inl l)) = inr (inl (inr (n, inl l)))
    by_path n (inr (inr l)) = inr (inr (inr (sym n, inl l)))

    by_number : (a.number ≡ b.number) ⊎ ((a.number < b.number) ⊎ (b.number < a.number)) → (a ≡ b) ⊎ (IsBefore a b ⊎ IsBefore b a)
    by_number (inl n) = by_path n (one_is_earlier a.path b.path)
    by_number (inr (inl l)) = inr (inl (inl l))
    by_number (inr (inr l)) = inr (inr (inl l))

-- a step at a place is made on one term, and makes one
pub record SameStep (it it' : Made) (at at' : Spot) (term term' new new' : TermTree) : Type 0 where
  pub made : it ≡ it'
  pub spot : at ≡ at'
  pub old : term ≡ term'
  pub result : new ≡ new'

pub one_step : {p : Program} {made : List Made} {w v : Where} {a b : TermTree} → OnePlace → (h : HasStep p made w a) → (g : HasStep p made v b) → w ≡ v → SameStep h.it g.it h.at g.at h.term g.term a b
one_step {p} {made} {w} {v} {a} {b} law h g q =
    let first : slice_get made w.number ≡ Some h.it = h.is in
    let second : slice_get made w.number ≡ Some g.it = ap (λ (w : Where). slice_get made w.number) q ∙ g.is in
    let item : h.it ≡ g.it = cc in
    let there : IsPlaceOf (origins_in p made) (made_of h.it) h.it.body w.path g.at g.term =
    subst (λ (it : Made). IsPlaceOf (origins_in p made) (made_of it) it.body w.path g.at g.term) (sym item)
    (subst (λ (w : Where). IsPlaceOf (origins_in p made) (made_of g.it) g.it.body w.path g.at g.term) (sym q) g.place) in
    let same = law (origins_in p made) (made_of h.it) h.it.body h.term g.term w.path h.at g.at h.place there in
    let made_here : HasInstance (origins_in p made) h.at w.rule g.term b =
    subst (λ at. HasInstance (origins_in p made) at w.rule g.term b) (sym same.0)
    (subst (λ (w : Where). HasInstance (origins_in p made) g.at w.rule g.term b) (sym q) g.made_new) in
    record { made = item; spot = same.0; old = same.1; result = one_instance h.made_new made_here same.1 }

pub one_first_place : {rules : List Rule} {p : Program} {made : List Made} {w v : Where} {a b : TermTree} → IsFirst rules p made w a → IsFirst rules p made v b → w ≡ v
one_first_place {w = w} {v = v} {a = a} {b = b} h g = by (in_order w v)
  where
    by : (w ≡ v) ⊎ (IsBefore w v ⊎ IsBefore v w) → w ≡ v
    by (inl q) = q
    by (inr (inl l)) = absurd (g.first w a h.step l)
    by (inr (inr l)) = absurd (h.first v b g.step l)
