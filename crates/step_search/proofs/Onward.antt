-- The first step at a place and below it.
use Rattle.std.proofs.Common.{◌≡◌, ◌⊎◌, inl, inr, ℕ, refl, sym, ap, ◌∙◌, subst, arith, List, [], ◌∷◌, ◌++◌, reverse, Option, Some, None}
use Rattle.chw_terms.specs.declared.rule.Rule.{Rule}
use Rattle.chw_terms.specs.declared.program.Program.{Program}
use Rattle.chw_terms.specs.declared.scene.Made.{Made}
use Rattle.chw_terms.specs.TermTree.{TermTree}
use Rattle.chw_typing.specs.Paths.{IsEarlier}
use Rattle.rewriting.specs.Origins.{Origins}
use Rattle.rewriting.specs.Active.{Below, IsActive, at_it, below}
use Rattle.rewriting.specs.Spots.{Spot}
use Rattle.rewriting.proofs.OneStep.{one_below}
use Rattle.rewriting.proofs.OneWay.{one_active}
use Rattle.rewriting.specs.Instances.{HasInstance}
use Rattle.rewriting.specs.Steps.{origins_in}
use Rattle.trials.specs.Trials.{Adds, IsTrial, HasNoInstance}
use Rattle.trials.specs.declared.trial.Trial.{Trial}
use Rattle.step_search.specs.First.{Additions, Places, AtPath, From, IsStepAt, IsBeforeThere, HasNoStepAt, IsFirstAt, FindsFirst, GoesOn}
use Rattle.step_order.specs.Sought.{IsSoughtPath}
use Rattle.step_search.specs.Begins.{IsPassed, BeginsAt}
use Rattle.step_search.specs.declared.trail.Trail.{Trail}
use Rattle.step_search.proofs.Begins.{root_sought}
use Rattle.step_search.proofs.Firsts.{Only, Among, from_among, finds_same}

pub rest_is : (p q r : List ℕ) → p ++ q ≡ p ++ r → q ≡ r
rest_is [] q r h = h
rest_is (i ∷ p) q r h = rest_is p q r cc

pub rest_earlier : (p q r : List ℕ) → IsEarlier (p ++ q) (p ++ r) → IsEarlier q r
rest_earlier [] q r h = h
rest_earlier (i ∷ p) q r (inl l) = absurd (omega (arith, l))
rest_earlier (i ∷ p) q r (inr h) = rest_earlier p q r h.1

pub rest_before : (p q r : List ℕ) (a b : Rule) → IsBeforeThere (p ++ q) a (p ++ r) b → IsBeforeThere q a r b
rest_before p q r a b (inl h) = inl (rest_earlier p q r h)
rest_before p q r a b (inr h) = inr (rest_is p q r h.0, h.1)

-- a step from one place on is one at or below it
pub record StepBelow (rules : List Rule) (o : Origins) (path : List ℕ) (at : Spot) (e : TermTree) (left q : List ℕ) (r : Rule) (new : TermTree) : Type 0 where
  pub rest : List ℕ
  pub is : q ≡ path ++ rest
  pub step : IsStepAt rules o (IsActive o at e) left rest r new

pub step_below : (rules : List Rule) (o : Origins) (path : List ℕ) (at : Spot) (e : TermTree) (from left q : List ℕ) (r : Rule) (new : TermTree) → BeginsAt path from left → IsStepAt rules o (From o (Only path at e)) from q r new → StepBelow rules o path at e left q r new
step_below rules o path at e from left q r new b x =
    let here = x.place.place in
    let is : q ≡ path ++ x.place.rest = x.place.is ∙ ap (λ p. p ++ x.place.rest) here.0 in
    record {
      rest = x.place.rest;
      is = is;
      step = record {
        at = x.at;
        term = x.term;
        place = subst (λ s. IsActive o s e x.place.rest x.at x.term) here.1 (subst (λ f. IsActive o x.place.spot f x.place.rest x.at x.term) here.2 x.place.active);
        sought = b.0 x.place.rest (subst (λ p. IsSoughtPath p from) is x.sought);
        is_rule = x.is_rule;
        made = x.made;
      };
    }

step_above : (rules : List Rule) (o : Origins) (path : List ℕ) (at : Spot) (e : TermTree) (from left q : List ℕ) (r : Rule) (new : TermTree) → BeginsAt path from left → IsStepAt rules o (IsActive o at e) left q r new → IsStepAt rules o (From o (Only path at e)) from (path ++ q) r new
step_above rules o path at e from left q r new b x =
    record {
      at = x.at;
      term = x.term;
      place = record { first = path; spot = at; term = e; place = (refl, refl, refl); rest = q; active = x.place; is = refl };
      sought = b.1 q x.sought;
      is_rule = x.is_rule;
      made = x.made;
    }

-- what is found at or below a place is found from it on, at its path and what follows
found_from : (rules : List Rule) (o : Origins) (adds : Additions) (path : List ℕ) (at : Spot) (e : TermTree) (from left : List ℕ) (found answer : Option Trail) → BeginsAt path from left → FindsFirst rules o adds (IsActive o at e) left found → GoesOn path found answer → FindsFirst rules o adds (From o (Only path at e)) from answer
unfolding step_above
found_from rules o adds path at e from left None answer b none is =
    subst (FindsFirst rules o adds (From o (Only path at e)) from) (sym is)
    (λ q r new x. let s = step_below rules o path at e from left q r new b x in none s.rest r new s.step)
found_from rules o adds path at e from left (Some f) None b first is = absurd is
found_from rules o adds path at e from left (Some f) (Some g) b first is =
    let back = reverse f.back.items in
    let whole : IsFirstAt rules o adds (From o (Only path at e)) from (path ++ back) f.trial.rule f.trial.change f.trial.definition =
    record {
      new = first.new;
      changes = first.changes;
      it = step_above rules o path at e from left back f.trial.rule first.new b first.it;
      added = first.added;
      first = λ q r new x h.
          let s = step_below rules o path at e from left q r new b x in
          first.first s.rest r new s.step (rest_before path s.rest back r f.trial.rule (subst (λ p. IsBeforeThere p r (path ++ back) f.trial.rule) s.is h));
    } in
    subst (λ p. IsFirstAt rules o adds (From o (Only path at e)) from p g.trial.rule g.trial.change g.trial.definition) (sym is.0)
    (subst (λ (t : Trial). IsFirstAt rules o adds (From o (Only path at e)) from (path ++ back) t.rule t.change t.definition) (sym is.1) whole)

-- the place below a term at a path is the one that was found there
pub only_there : (o : Origins) (at at' : Spot) (e x : TermTree) (path : List ℕ)
    → Below o at e path at' x → Among (AtPath (Below o at e) path) (Only path at' x)
only_there o at at' e x path b p at'' y h =
    let there = subst (λ q. Below o at e q at'' y) h.0 h.1 in
    let same = one_below o at at'' at' e y x path there b in
    (h.0, same.0, same.1)

there_only : (o : Origins) (at at' : Spot) (e x : TermTree) (path : List ℕ)
    → Below o at e path at' x → Among (Only path at' x) (AtPath (Below o at e) path)
there_only o at at' e x path b p at'' y h = (
  h.0,
  subst (λ q. Below o at e q at'' y) (sym h.0)
      (subst (λ s. Below o at e path s y) (sym h.1)
      (subst (λ z. Below o at e path at' z) (sym h.2) b)),
)

pub found_at_part : (rules : List Rule) (o : Origins) (adds : Additions) (at at' : Spot) (e x : TermTree)
    (path from left : List ℕ) (found answer : Option Trail)
    → Below o at e path at' x → BeginsAt path from left
    → FindsFirst rules o adds (IsActive o at' x) left found → GoesOn path found answer
    → FindsFirst rules o adds (From o (AtPath (Below o at e) path)) from answer
found_at_part rules o adds at at' e x path from left found answer b begins first on =
    let here = Only path at' x in
    let there = AtPath (Below o at e) path in
    finds_same rules o adds (From o here) (From o there) from answer
    (from_among o here there (there_only o at at' e x path b))
    (from_among o there here (only_there o at at' e x path b))
    (found_from rules o adds path at' x from left found answer begins first on)

-- what is passed has no step that is sought
pub none_passed : (rules : List Rule) (o : Origins) (s : Places) (path from : List ℕ) → ((p : List ℕ) (at : Spot) (e : TermTree) → s p at e → p ≡ path) → IsPassed path from → HasNoStepAt rules o (From o s) from
none_passed rules o s path from on h q r new x =
    let at = on x.place.first x.place.spot x.place.term x.place.place in
    h x.place.rest (subst (λ p. IsSoughtPath p from) (x.place.is ∙ ap (λ p. p ++ x.place.rest) at) x.sought)

-- an active place is the place itself, or one from those below on
active_parts : (o : Origins) (at : Spot) (e : TermTree) (p : List ℕ) (at' : Spot) (x : TermTree) → IsActive o at e p at' x → Only [] at e p at' x ⊎ From o (Below o at e) p at' x
active_parts o at e p at' x at_it = inl (refl, refl, refl)
active_parts o at e p at' x (below {at' = mid} {x = c} {p = q} {q = r} b a) = inr (record { first = q; spot = mid; term = c; place = b; rest = r; active = a; is = refl })

no_root : (q : List ℕ) → IsEarlier q [] → ⊥
no_root [] h = h
no_root (i ∷ q) h = h

-- a rule with an instance at the place itself comes first
pub found_here : (rules : List Rule) (p : Program) (made : List Made) (at : Spot) (e : TermTree) (from back : List ℕ)
    (t : Trial) → IsTrial rules p made at e t → back ≡ []
    → IsFirstAt rules (origins_in p made) (Adds p made) (IsActive (origins_in p made) at e) from (reverse back) t.rule t.change t.definition
found_here rules p made at e from back t is empty =
    subst (λ q. IsFirstAt rules o (Adds p made) (IsActive o at e) from q t.rule t.change t.definition) (sym (ap reverse empty))
    (record {
      new = is.new;
      changes = is.changes;
      it = record { at = at; term = e; place = at_it; sought = root_sought from; is_rule = is.is_rule; made = is.made_new };
      added = is.adds;
      first = before;
    })
  where
    o : Origins
    o = origins_in p made

    before : (q : List ℕ) (r : Rule) (e' : TermTree) → IsStepAt rules o (IsActive o at e) from q r e' → IsBeforeThere q r [] t.rule → ⊥
    before q r e' x (inl h) = no_root q h
    before q r e' x (inr h) =
        let same = one_active at_it (subst (λ p. IsActive o at e p x.at x.term) h.0 x.place) in
        is.first r e' x.is_rule h.1 (subst (λ s. HasInstance o s r e e') (sym same.0) (subst (λ z. HasInstance o x.at r z e') (sym same.1) x.made))

-- where no rule has an instance at the place itself, the first step is that of the places below
pub not_here : (rules : List Rule) (o : Origins) (at : Spot) (e : TermTree) (from q : List ℕ) (r : Rule) (new : TermTree) → HasNoInstance rules o at e → IsStepAt rules o (IsActive o at e) from q r new → IsStepAt rules o (From o (Below o at e)) from q r new
not_here rules o at e from q r new none x = of (active_parts o at e q x.at x.term x.place)
  where
    of : Only [] at e q x.at x.term ⊎ From o (Below o at e) q x.at x.term → IsStepAt rules o (From o (Below o at e)) from q r new
    of (inl h) = absurd (none r new x.is_rule (subst (λ s. HasInstance o s r e new) h.1 (subst (λ z. HasInstance o x.at r z new) h.2 x.made)))
    of (inr h) = record { at = x.at; term = x.term; place = h; sought = x.sought; is_rule = x.is_rule; made = x.made }

pub from_is_active : (o : Origins) (at : Spot) (e : TermTree) (p : List ℕ) (at' : Spot) (x : TermTree) → From o (Below o at e) p at' x → IsActive o at e p at' x
from_is_active o at e p at' x r = subst (λ q. IsActive o at e q at' x) (sym r.is) (below r.place r.active)

there : (rules : List Rule) (o : Origins) (at : Spot) (e : TermTree) (from q : List ℕ) (r : Rule) (new : TermTree) → IsStepAt rules o (From o (Below o at e)) from q r new → IsStepAt rules o (IsActive o at e) from q r new
there rules o at e from q r new x =
    record { at = x.at; term = x.term; place = from_is_active o at e q x.at x.term x.place; sought = x.sought; is_rule = x.is_rule; made = x.made }

pub found_below : (rules : List Rule) (o : Origins) (adds : Additions) (at : Spot) (e : TermTree) (from : List ℕ) (answer : Option Trail) → HasNoInstance rules o at e → FindsFirst rules o adds (From o (Below o at e)) from answer → FindsFirst rules o adds (IsActive o at e) from answer
unfolding there
found_below rules o adds at e from None none more = λ q r new x. more q r new (not_here rules o at e from q r new none x)
found_below rules o adds at e from (Some f) none first =
    record {
      new = first.new;
      changes = first.changes;
      it = there rules o at e from (reverse f.back.items) f.trial.rule first.new first.it;
      added = first.added;
      first = λ q r new x h. first.first q r new (not_here rules o at e from q r new none x) h;
    }
