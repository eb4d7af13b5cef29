-- What is known where rules were tried in their order.
use Rattle.std.proofs.Common.{◌≡◌, ◌∙◌, ℕ, zero, suc, ◌<◌, List, length, Option, Some, None, option_map, refl, ap, sym, subst, arith, ◌⊎◌, inl, inr, ⊎_elim}
use Rattle.std.specs.List.{slice_index_or}
use Rattle.std.specs.Prelude.{Bool, true, false, IsTrue, ◌↔◌}
use Rattle.std.proofs.lemmas.Bool.{false≢true}
use Rattle.std.proofs.lemmas.List.{get_or_default}
use Rattle.chw_terms.specs.declared.program.Program.{Program}
use Rattle.chw_terms.specs.declared.rule.Rule.{Rule}
use Rattle.chw_terms.specs.declared.rule.Rule.TheVariants.{Flat, Spec}
use Rattle.chw_terms.specs.declared.scene.Made.{Made}
use Rattle.chw_terms.specs.TermTree.{TermTree}
use Rattle.rewriting.specs.Origins.{Origins}
use Rattle.rewriting.specs.Spots.{Spot}
use Rattle.rewriting.specs.Instances.{HasInstance}
use Rattle.rewriting.specs.Runs.{no_call}
use Rattle.rewriting.specs.Steps.{origins_in}
use Rattle.rule_parts.specs.Cores.{IsInstanceAnswer}
use Rattle.rules.specs.Joined.{Joins}
use Rattle.specialise.specs.Special.{AnswersSpecial}
use Rattle.specialise.specs.declared.trial.Special.{Special}
use Rattle.trials.specs.declared.trial.Trial.{Trial}
use Rattle.trials.specs.Trials.{built, Adds, ChangesTo, HasNoInstance, IsTrial}
use Rattle.rules.specs.Tried.{joined_if, put, put_special, AnswersRule, IsTried}
use Rattle.rules.proofs.Order.{built_ascend, earlier}

-- none of the first n rules has an instance
abbrev pub NoneBefore : Origins → Spot → TermTree → ℕ → Type 0
NoneBefore o at e n =
    (k : ℕ) (r : Rule) → k < n → slice_index_or built k r ≡ r → (e' : TermTree) → HasInstance o at r e e' → ⊥

pub none_yet : (o : Origins) (at : Spot) (e : TermTree) → NoneBefore o at e 0
none_yet o at e k r l is e' h = absurd (omega (arith, l))

-- nor the next one
pub none_next : (o : Origins) (at : Spot) (e : TermTree) (n : ℕ) (r : Rule) → n < length built
    → ((d : Rule) → slice_index_or built n d ≡ r) → NoneBefore o at e n → IsInstanceAnswer o at r e None → NoneBefore o at e (suc n)
none_next o at e n r within is before none k s l there e' h =
    ⊎_elim (λ less. before k s less there e' h)
    (λ same. none e' (subst (λ x. HasInstance o at x e e') (sym there ∙ subst (λ i. slice_index_or built i s ≡ r) (sym same) (is s)) h))
    (last k n l)
  where
    last : (k n : ℕ) → k < suc n → (k < n) ⊎ (k ≡ n)
    last zero zero l = inr refl
    last zero (suc n) l = inl (omega arith)
    last (suc k) zero l = absurd (omega (arith, l))
    last (suc k) (suc n) l = ⊎_elim (λ less. inl (omega (arith, less))) (λ same. inr (ap suc same)) (last k n (omega (arith, l)))

-- none at all
pub none_of_all : (o : Origins) (at : Spot) (e : TermTree) → NoneBefore o at e (length built) → HasNoInstance built o at e
none_of_all o at e before r e' c h = before (c.0) r (c.1) (c.2) e' h

-- the next one has
pub first_of_all : (p : Program) (made : List Made) (at : Spot) (e : TermTree) (t : Trial) (n : ℕ) (r : Rule)
    → n < length built → slice_index_or built n r ≡ r
    → NoneBefore (origins_in p made) at e n → IsTried p made at r e t
    → IsTrial built p made at e t
first_of_all p made at e t n r within is before h =
    let back : r ≡ t.rule = sym h.is in
    let there : slice_index_or built n t.rule ≡ t.rule = subst (λ x. slice_index_or built n x ≡ x) back is in
    record {
      is_rule = (n, within, there);
      new = h.new;
      changes = subst (λ x. ChangesTo x t.change h.new) back h.changes;
      made_new = subst (λ x. HasInstance (origins_in p made) at x e h.new) back h.instance;
      adds = subst (λ x. Adds p made at e x t.definition) back h.adds;
      first = λ q e' c less i.
          before (c.0) q (earlier 0 built n (c.0) t.rule q t.rule q built_ascend within (c.1) there (c.2) less)
          (c.2) e' i;
    }

-- so where the rule of this number has an instance, it is the first
pub found : (p : Program) (made : List Made) (at : Spot) (e : TermTree) (t : Trial) (n : ℕ) (d : Rule) (answer : Option Trial)
    → n < length built → NoneBefore (origins_in p made) at e n
    → answer ≡ Some t → AnswersRule p made at (slice_index_or built n d) e answer
    → IsTrial built p made at e t
found p made at e t n d answer within before is h =
    let there : IsTried p made at (slice_index_or built n d) e t = subst (AnswersRule p made at (slice_index_or built n d) e) is h in
    first_of_all p made at e t n (slice_index_or built n d) within
    (get_or_default built n (slice_index_or built n d) d within) before there

-- what a rule makes that adds no definition
pub of_plain : (p : Program) (made : List Made) (at : Spot) (r : Rule) (e : TermTree) (answer : Option TermTree)
    → (r ≡ Spec → ⊥) → IsInstanceAnswer (origins_in p made) at r e answer
    → AnswersRule p made at r e (option_map (put r) answer)
of_plain p made at r e None other none = none
of_plain p made at r e (Some new) other i =
    record { is = refl; new = new; changes = refl; instance = i; adds = record { after = no_call other; fresh = tt } }

-- what the rule of made definitions makes
pub of_special : (p : Program) (made : List Made) (at : Spot) (e : TermTree) (answer : Option Special)
    → AnswersSpecial p made at e answer → AnswersRule p made at Spec e (option_map put_special answer)
of_special p made at e None none = none
of_special p made at e (Some s) is = record {
  is = refl;
  new = s.new;
  changes = refl;
  instance = is.instance;
  adds = record { after = is.after; fresh = is.fresh };
}

no_spec : Flat ≡ Spec → ⊥
no_spec is = absurd cc

-- what the rule of letrecs makes isn't made
pub of_joined : (p : Program) (made : List Made) (at : Spot) (e : TermTree) (b : Bool)
    → IsTrue b ↔ Joins (origins_in p made) at e → AnswersRule p made at Flat e (joined_if b)
of_joined p made at e true h =
    let joins = h.0 refl in
    record { is = refl; new = joins.0; changes = refl; instance = joins.1; adds = record { after = no_call no_spec; fresh = tt } }
of_joined p made at e false h = λ e' i. false≢true (h.1 (e', i))
