-- Steps that are made, some behind others.
use Rattle.std.proofs.Common.{◌≡◌, ◌∙◌, ◌≤◌, ℕ, ◌+◌, refl, sym, ap, List, [], ◌∷◌, ◌++◌, append_assoc}
use Rattle.std.proofs.lemmas.List.{append-nil, length-append, map-append}
use Rattle.chw_terms.specs.declared.rule.Rule.{Rule}
use Rattle.chw_terms.specs.declared.rule.Rule.TheVariants.{Spec, Flat}
use Rattle.chw_terms.specs.Depth.{depth}
use Rattle.chw_terms.specs.TermTree.{TermTree}
use Rattle.chw_typing.specs.Paths.{with_part}
use Rattle.rewriting.specs.Origins.{Origins}
use Rattle.rewriting.specs.Spots.{Spot}
use Rattle.letrec_steps.specs.Local.{IsFirstBelow}
use Rattle.letrec_steps.specs.Many.{LocalStep, StepsBelow, none_made, made_then, in_top}
use Rattle.norm_lines.specs.Places.{where_of}
use Rattle.norm_lines.specs.declared.place.StepAt.{StepAt}
use Rattle.trials.specs.Trials.{built}
use Rattle.letrec_runs.specs.Runs.{Leads}
use Rattle.letrec_runs.specs.Sides.{AreNoDeeper}
use Rattle.letrec_runs.specs.Traced.{Traces, TracesJoin}

module _ (o : Origins) (at : Spot) (most m : ℕ) (q : List ℕ) where
  -- no step
  pub leads_nowhere : (x : TermTree) (old : List StepAt) → Leads o at most m q x x old old 0
  leads_nowhere x old = record { steps = []; below = none_made; shallow = tt; many = refl; added = []; traced = sym (append-nil old); places = refl }

  -- one step
  pub leads_one : (x : TermTree) (s : LocalStep) (old new : List StepAt)
      → IsFirstBelow built o at x s.path s.rule s.new → (s.rule ≡ Spec → ⊥)
      → depth (with_part x s.path s.new) ≤ most → Traces m q old new s.path s.rule
      → Leads o at most m q x (with_part x s.path s.new) old new 1
  leads_one x s old new first other h t = record {
    steps = s ∷ [];
    below = made_then first other none_made;
    shallow = (h, tt);
    many = refl;
    added = t.0 ∷ [];
    traced = t.1;
    places = ap (λ w. w ∷ []) t.2;
  }

  steps_on : {x y z : TermTree} {ts us : List LocalStep} → StepsBelow built o at x ts y → StepsBelow built o at y us z → StepsBelow built o at x (ts ++ us) z
  steps_on none_made more = more
  steps_on (made_then first other rest) more = made_then first other (steps_on rest more)

  shallow_on : {x y : TermTree} {ts : List LocalStep} (us : List LocalStep) → StepsBelow built o at x ts y → AreNoDeeper most x ts → AreNoDeeper most y us → AreNoDeeper most x (ts ++ us)
  shallow_on us none_made w v = v
  shallow_on us (made_then first other rest) w v = (w.0, shallow_on us rest w.1 v)

  -- more steps behind others
  pub leads_on : {x y z : TermTree} {old mid new : List StepAt} {n k : ℕ} → Leads o at most m q x y old mid n → Leads o at most m q y z mid new k → Leads o at most m q x z old new (n + k)
  leads_on {old = old} a b = record {
    steps = a.steps ++ b.steps;
    below = steps_on a.below b.below;
    shallow = shallow_on b.steps a.below a.shallow b.shallow;
    many = length-append a.steps b.steps ∙ (λ i. a.many i + b.many i);
    added = a.added ++ b.added;
    traced = b.traced ∙ ap (λ xs. xs ++ b.added) a.traced ∙ append_assoc old a.added b.added;
    places =
        map-append where_of a.added b.added ∙ (λ i. a.places i ++ b.places i)
        ∙ sym (map-append (λ (s : LocalStep). (in_top m q s).place) a.steps b.steps);
  }

-- two steps that are traced in a list of their own are traced where it is appended
pub both_traced : (m : ℕ) (q : List ℕ) (k : ℕ) (r : Rule) (old new none one two : List StepAt)
    → none ≡ [] → Traces m q none one (k ∷ []) r → Traces m q one two [] Flat → new ≡ old ++ two → TracesJoin m q old new k r
both_traced m q k r old new none one two is a b appended =
    let first : one ≡ a.0 ∷ [] = a.1 ∙ ap (λ xs. xs ++ a.0 ∷ []) is in
    let both : two ≡ a.0 ∷ b.0 ∷ [] = b.1 ∙ ap (λ xs. xs ++ b.0 ∷ []) first in (
      old ++ a.0 ∷ [],
      (a.0, refl, a.2),
      (b.0, appended ∙ ap (λ xs. old ++ xs) both ∙ sym (append_assoc old (a.0 ∷ []) (b.0 ∷ [])), b.2),
    )
