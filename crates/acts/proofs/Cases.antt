-- A case acts so where what it goes on with does.
use Rattle.std.proofs.Common.{◌≡◌, ℕ, suc, zero, Bool, true, false, if◌then◌else◌, Some, refl, sym, ap, ◌∙◌, subst}
use Rattle.chw_types.specs.TypeTree.{TypeTree, ty_var, nat_lit, nat_sum, nat_product, domain, scalar, vector, data_of, fun, signal, for_all, TypeTrees}
use Rattle.chw_terms.specs.declared.program.Program.{Program}
use Rattle.chw_terms.specs.declared.term.Pattern.{Pattern}
use Rattle.chw_terms.specs.TermTree.{TermTree, case_of, Alts, alt}
use Rattle.chw_typing.specs.HeadTypes.{IsLookedAt}
use Rattle.chw_meaning.specs.Values.{History, Value, closed, Thunks, joined, fields_from}
use Rattle.chw_meaning.specs.Eval.{plus, goes_on, takes, looks, choice, Arm, matches, bound, arm_of, Evals, e_goes_on, e_takes, e_looks}
use Rattle.chw_meaning.proofs.Once.{same_some}
use Rattle.acts.specs.Levels.{Levels, later, Alike, term_has}
use Rattle.acts.specs.Acts.{act_step}
use Rattle.acts.proofs.Forms.{TermsAct}
use Rattle.acts.proofs.Levels.{at_end, later_plus, IsLevels, at_later, cost, more, opens}

pub goes_on_acts : {p : Program} {r : Levels} → IsLevels p r → (t : TypeTree) (s' s e' e : TermTree) (alts' alts : Alts) (γ' γ : Thunks) (δ' δ : TypeTrees) → choice p.datas alts' ≡ goes_on e' → choice p.datas alts ≡ goes_on e → TermsAct p r t e' γ' δ' e γ δ → TermsAct p r t (case_of s' alts') γ' δ' (case_of s alts) γ δ
goes_on_acts {p} l t s' s e' e alts' alts γ' γ δ' δ first second acts h' h m v al (e_goes_on {n = j} {e = f} picked d) =
    let same : f ≡ e' = cc in
    cost l j t v _ (more l j t v (term_has p e γ δ h) (term_has p (case_of s alts) γ δ h) (λ w q. (suc q.0, e_goes_on second q.1)) (acts h' h j v al (subst (λ f. Evals p j f γ' δ' h' v) same d)))
goes_on_acts l t s' s e' e alts' alts γ' γ δ' δ first second acts h' h m v al (e_takes picked d) = cc
goes_on_acts l t s' s e' e alts' alts γ' γ δ' δ first second acts h' h m v al (e_looks picked d found b) = cc

pub takes_acts : {p : Program} {r : Levels} → IsLevels p r → (t : TypeTree) (k : ℕ) (s' s e' e : TermTree) (alts' alts : Alts) (γ' γ : Thunks) (δ' δ : TypeTrees) → choice p.datas alts' ≡ takes k e' → choice p.datas alts ≡ takes k e → TermsAct p r t e' (fields_from zero k (closed s' γ' δ') γ') δ' e (fields_from zero k (closed s γ δ) γ) δ → TermsAct p r t (case_of s' alts') γ' δ' (case_of s alts) γ δ
takes_acts {p} l t k s' s e' e alts' alts γ' γ δ' δ first second acts h' h m v al (e_takes {n = j} {k = i} {e = f} picked d) =
    let same : f ≡ e' = cc in
    let number : i ≡ k = cc in
    let moved = subst (λ i. Evals p j e' (fields_from zero i (closed s' γ' δ') γ') δ' h' v) number (subst (λ f. Evals p j f (fields_from zero i (closed s' γ' δ') γ') δ' h' v) same d) in
    cost l j t v _ (more l j t v (term_has p e (fields_from zero k (closed s γ δ) γ) δ h) (term_has p (case_of s alts) γ δ h) (λ w q. (suc q.0, e_takes second q.1)) (acts h' h j v al moved))
takes_acts l t k s' s e' e alts' alts γ' γ δ' δ first second acts h' h m v al (e_goes_on picked d) = cc
takes_acts l t k s' s e' e alts' alts γ' γ δ' δ first second acts h' h m v al (e_looks picked d found b) = cc

pub looked_alike : (u : TypeTree) (h' h : History) → IsLookedAt u → Alike u h' h
looked_alike (ty_var x) h' h i = tt
looked_alike (nat_lit n) h' h i = tt
looked_alike (nat_sum a b) h' h i = tt
looked_alike (nat_product a b) h' h i = tt
looked_alike (domain d) h' h i = tt
looked_alike (scalar x w) h' h i = tt
looked_alike (vector n t) h' h i = tt
looked_alike (data_of d ts) h' h i = tt
looked_alike (fun a b) h' h i = tt
looked_alike (signal d a) h' h i = absurd i
looked_alike (for_all k t) h' h i = tt

-- for one of the values there is an arm, and the first side's arm acts as it
pub record ArmActs (p : Program) (r : Levels) (t : TypeTree) (alts : Alts) (γ' : Thunks) (δ' : TypeTrees) (γ : Thunks) (δ : TypeTrees) (s : Value → Type 0) (first : Arm) : Type 0 where
  pub value : Value
  pub has_value : s value
  pub second : Arm
  pub is_arm : arm_of value alts ≡ Some second
  pub acts : TermsAct p r t first.body (joined first.fields γ') δ' second.body (joined second.fields γ) δ

pub looks_acts : {p : Program} {r : Levels} → IsLevels p r → (u t : TypeTree) (s' s : TermTree) (alts' alts : Alts) (γ' γ : Thunks) (δ' δ : TypeTrees) → IsLookedAt u → choice p.datas alts' ≡ looks → choice p.datas alts ≡ looks → TermsAct p r u s' γ' δ' s γ δ → ((k : ℕ) (v : Value) (set : Value → Type 0) (a : Arm) → act_step p (later (suc k) r) u v set → arm_of v alts' ≡ Some a → ArmActs p (later (suc k) r) t alts γ' δ' γ δ set a) → TermsAct p r t (case_of s' alts') γ' δ' (case_of s alts) γ δ
looks_acts {p} {r} l u t s' s alts' alts γ' γ δ' δ looked first second acts arms h' h m w al (e_looks {m = k} {n = j} {v = v} {a = a} picked d found b) =
    let result = opens l k u v (term_has p s γ δ h) (λ q. later j q zero t w (term_has p (case_of s alts) γ δ h)) (at_end p j t w _) (acts h' h k v (looked_alike u h' h looked) d) step in
    subst (λ q. q zero t w (term_has p (case_of s alts) γ δ h)) (sym (later_plus (suc k) j r)) result
  where
    step : act_step p (later (suc k) r) u v (term_has p s γ δ h) → later j (later (suc k) r) zero t w (term_has p (case_of s alts) γ δ h)
    step asked =
        let arm = arms k v (term_has p s γ δ h) a asked found in
        more (at_later (suc k) l) j t w (term_has p arm.second.body (joined arm.second.fields γ) δ h) (term_has p (case_of s alts) γ δ h) (λ x q. (suc (plus arm.has_value.0 q.0), e_looks second arm.has_value.1 arm.is_arm q.1)) (arm.acts h' h j w al b)
looks_acts l u t s' s alts' alts γ' γ δ' δ looked first second acts arms h' h m w al (e_goes_on picked d) = cc
looks_acts l u t s' s alts' alts γ' γ δ' δ looked first second acts arms h' h m w al (e_takes picked d) = cc

-- for the first side's arm there is one of the second's, as which it acts
pub record ArmOf (p : Program) (r : Levels) (t : TypeTree) (alts : Alts) (w : Value) (γ' : Thunks) (δ' : TypeTrees) (γ : Thunks) (δ : TypeTrees) (first : Arm) : Type 0 where
  pub second : Arm
  pub is_arm : arm_of w alts ≡ Some second
  pub acts : TermsAct p r t first.body (joined first.fields γ') δ' second.body (joined second.fields γ) δ

arm_first : (v : Value) (q : Pattern) (e : TermTree) (more : Alts) → matches v q ≡ true → arm_of v (alt q e more) ≡ Some (record { fields = bound v q; body = e })
arm_first v q e more h = ap (λ b. if b then Some (record { fields = bound v q; body = e }) else arm_of v more) h

arm_rest : (v : Value) (q : Pattern) (e : TermTree) (more : Alts) → matches v q ≡ false → arm_of v (alt q e more) ≡ arm_of v more
arm_rest v q e more h = ap (λ b. if b then Some (record { fields = bound v q; body = e }) else arm_of v more) h

-- one alternative before others
pub alt_acts : {p : Program} {r : Levels} (t : TypeTree) (q : Pattern) (e' e : TermTree) (more' more : Alts) (γ' γ : Thunks) (δ' δ : TypeTrees) (v w : Value) → matches v q ≡ matches w q → (matches v q ≡ true → TermsAct p r t e' (joined (bound v q) γ') δ' e (joined (bound w q) γ) δ) → ((a : Arm) → arm_of v more' ≡ Some a → ArmOf p r t more w γ' δ' γ δ a) → (a : Arm) → arm_of v (alt q e' more') ≡ Some a → ArmOf p r t (alt q e more) w γ' δ' γ δ a
alt_acts {p} {r} t q e' e more' more γ' γ δ' δ v w both here rest a found = split (matches v q) refl
  where
    split : (b : Bool) → matches v q ≡ b → ArmOf p r t (alt q e more) w γ' δ' γ δ a
    split true hit =
        let same = same_some (arm_first v q e' more' hit) found in
        record { second = record { fields = bound w q; body = e }; is_arm = arm_first w q e more (sym both ∙ hit); acts = subst (λ (a : Arm). TermsAct p r t a.body (joined a.fields γ') δ' e (joined (bound w q) γ) δ) same (here hit) }
    split false miss =
        let one = rest a (sym (arm_rest v q e' more' miss) ∙ found) in
        record { second = one.second; is_arm = arm_rest w q e more (sym both ∙ miss) ∙ one.is_arm; acts = one.acts }
