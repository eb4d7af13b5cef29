-- What comes of a letrec in which a step may be made.
use Rattle.std.proofs.Common.{◌≡◌, ◌∙◌, ◌≤◌, ◌<◌, ◌+◌, ◌*◌, ℕ, refl, sym, ap, subst, arith, true, false, Bool}
use Rattle.std.proofs.Common.{List, [], ◌∷◌, ◌++◌, length}
use Rattle.std.proofs.lemmas.Bool.{false≢true}
use Rattle.std.proofs.lemmas.List.{append-nil}
use Rattle.chw_terms.specs.declared.rule.Rule.{Rule}
use Rattle.chw_terms.specs.declared.scene.Place.{Place}
use Rattle.chw_terms.specs.declared.term.Binding.{Binding}
use Rattle.chw_terms.specs.TermTree.{TermTree, letrec}
use Rattle.chw_terms.specs.TermView.{group_of}
use Rattle.rewriting.specs.Origins.{Origins}
use Rattle.rewriting.specs.Shapes.{IsLet}
use Rattle.rewriting.specs.Spots.{Spot, spot_of, HasLets}
use Rattle.rule_types.specs.Laws.{AreTypedOrigins}
use Rattle.kept_letrecs.specs.Resting.{IsAtRest}
use Rattle.letrec_steps.specs.Many.{none_made}
use Rattle.norm_lines.specs.declared.place.StepAt.{StepAt}
use Rattle.open_letrec.specs.Opened.{Opened, whole, with_side, joined_one}
use Rattle.letrec_runs.specs.declared.rush.Rush.{Rush}
use Rattle.letrec_runs.specs.Runs.{Leads, Runs}
use Rattle.letrec_runs.specs.Rush.{place_in, Goes, IsChange, IsJoinedOne, IsResting, IsRestingLet, IsSettledOn, IsSideStep}
use Rattle.letrec_runs.specs.Sides.{AreMade}
use Rattle.letrec_runs.specs.Traced.{Traces, TracesJoin}
use Rattle.letrec_runs.proofs.Groups.{declared_put}
use Rattle.letrec_runs.proofs.Listed.{leads_nowhere, leads_on}
use Rattle.letrec_runs.proofs.Settled.{settled_nothing, whole_settled, resting_settled}
use Rattle.letrec_runs.proofs.Views.{GoesTo, goes_put, goes_joined}

-- no step is made
pub goes_nowhere : (o : Origins) (place : Place) (most m : ℕ) (q : List ℕ) (v : Opened) (old new : List StepAt) (r : Rush)
    → IsResting o (spot_of place) most v → IsSettledOn v r.apart → r.place ≡ place_in place r.apart → new ≡ old
    → Goes o (spot_of place) most m q place v old new (r, false)
goes_nowhere o place most m q v old new r h s stands is = record {
  count = 0;
  leads = subst (λ e. Leads o (spot_of place) most m q (whole v) e old new 0) (sym (whole_settled v r.apart s))
      (subst (λ xs. Leads o (spot_of place) most m q (whole v) (whole v) old xs 0) (sym is) (leads_nowhere o (spot_of place) most m q (whole v) old));
  few = omega arith;
  some = λ t. absurd (false≢true t);
  rests = resting_settled o (spot_of place) most v r.apart s h;
  stands = stands;
}

-- some are made
goes_there : (o : Origins) (place : Place) (most m : ℕ) (q : List ℕ) (v w : Opened) (old new : List StepAt) (n : ℕ) (r : Rush)
    → GoesTo o (spot_of place) most m q v w old new n → r.apart ≡ w → r.place ≡ place_in place r.apart → n ≤ 2 → 0 < n
    → Goes o (spot_of place) most m q place v old new (r, true)
goes_there o place most m q v w old new n r h is stands few some = record {
  count = n;
  leads = subst (λ (x : Opened). Leads o (spot_of place) most m q (whole v) (whole x) old new n) (sym is) h.leads;
  few = few;
  some = λ t. some;
  rests = subst (IsResting o (spot_of place) most) (sym is) h.rests;
  stands = stands;
}

-- where the right side that is put changes, the place is the same
pub place_put : (place : Place) (v : Opened) (e : TermTree) → place_in place (with_side v e) ≡ place_in place v
place_put place v e = ap (λ ts. record { mode = place.mode; result = false; vars = place.vars ++ ts }) (declared_put v.settled v.left e)

module _ (o : Origins) (place : Place) (most m : ℕ) (q : List ℕ) (side new : TermTree) (r : Rule) (old later : List StepAt) where
  put_there : (settled left : List Binding) (e : TermTree) → 0 < length left
      → IsChange o place most (record { settled = settled; left = left; body = e }) side r new → (IsLet new → ⊥) → Traces m q old later (length settled ∷ []) r
      → GoesTo o (spot_of place) most m q (with_side (record { settled = settled; left = left; body = e }) side) (with_side (record { settled = settled; left = left; body = e }) new) old later 1
  put_there settled [] e l h bare t = absurd (omega (arith, l))
  put_there settled (b ∷ rest) e l h bare t = goes_put o place most m q settled rest b e side new r old h bare later t

  joined_there : (settled left : List Binding) (e : TermTree) → 0 < length left
      → IsChange o place most (record { settled = settled; left = left; body = e }) side r new
      → (cs : List Binding) (y : TermTree) → new ≡ letrec (group_of cs) y → IsAtRest o.program.datas place.mode (group_of cs) y → TracesJoin m q old later (length settled) r
      → GoesTo o (spot_of place) most m q (with_side (record { settled = settled; left = left; body = e }) side) (joined_one (record { settled = settled; left = left; body = e }) cs y) old later 2
  joined_there settled [] e l h cs y is inner t = absurd (omega (arith, l))
  joined_there settled (b ∷ rest) e l h cs y is inner t = goes_joined o place most m q settled rest b e side new r old h cs y is inner later t

  -- a term that is no letrec is put
  pub goes_with : (v : Opened) (rush : Rush) → 0 < length v.left → IsChange o place most v side r new → (IsLet new → ⊥)
      → rush.apart ≡ with_side v new → rush.place ≡ place_in place v → Traces m q old later (length v.settled ∷ []) r
      → Goes o (spot_of place) most m q place (with_side v side) old later (rush, true)
  goes_with v rush l h bare is stands t =
      goes_there o place most m q (with_side v side) (with_side v new) old later 1 rush
      (put_there v.settled v.left v.body l h bare t) is (stands ∙ sym (place_put place v new) ∙ ap (place_in place) (sym is)) (omega arith) (omega arith)

  -- a letrec at rest joins
  pub goes_with_join : (v : Opened) (rush : Rush) → 0 < length v.left → IsChange o place most v side r new → IsRestingLet o.program.datas place.mode new
      → IsJoinedOne v new rush.apart → rush.place ≡ place_in place rush.apart → TracesJoin m q old later (length v.settled) r
      → Goes o (spot_of place) most m q place (with_side v side) old later (rush, true)
  goes_with_join v rush l h rests j stands t =
      goes_there o place most m q (with_side v side) (joined_one v j.0 j.1) old later 2 rush
      (joined_there v.settled v.left v.body l h j.0 j.1 j.2 (rests.1 (group_of j.0) j.1 j.2) t) j.3 stands (omega arith) (omega arith)

-- from a letrec in which right sides were settled
pub goes_settled : (o : Origins) (place : Place) (most m : ℕ) (q : List ℕ) (v w : Opened) (old new : List StepAt) (r : Rush × Bool)
    → IsSettledOn v w → Goes o (spot_of place) most m q place w old new r → Goes o (spot_of place) most m q place v old new r
goes_settled o place most m q v w old new r s g = record {
  count = g.count;
  leads = subst (λ e. Leads o (spot_of place) most m q e (whole r.0.apart) old new g.count) (whole_settled v w s) g.leads;
  few = g.few;
  some = g.some;
  rests = g.rests;
  stands = g.stands;
}

-- one turn more
pub runs_on : (o : Origins) (place : Place) (most m : ℕ) (q : List ℕ) (k : ℕ) (x : TermTree) (v : Opened) (old mid new : List StepAt) (l l' l'' : ℕ) (r : Rush × Bool)
    → Runs o (spot_of place) (2 * k) most m q x (whole v) old mid l l' 0 → Goes o (spot_of place) most m q place v mid new r → l'' ≤ l' + 21 → r.1 ≡ true
    → Runs o (spot_of place) (2 * (k + 1)) most m q x (whole r.0.apart) old new l l'' 0
runs_on o place most m q k x v old mid new l l' l'' r a g looked go =
    let few : a.count + g.count ≤ 2 * (k + 1) = let p = a.few in let s = g.few in omega (arith, p, s) in
    let looks : l'' ≤ l + 21 * (a.count + g.count + 0) = let p = a.looked in let s = g.some go in omega (arith, p, s, looked) in
    record { count = a.count + g.count; leads = leads_on o (spot_of place) most m q a.leads g.leads; few = few; looked = looks }

-- the last turn
pub runs_last : (o : Origins) (place : Place) (most m : ℕ) (q : List ℕ) (k left : ℕ) (x : TermTree) (v : Opened) (old mid new : List StepAt) (l l' l'' : ℕ) (r : Rush × Bool)
    → Runs o (spot_of place) (2 * k) most m q x (whole v) old mid l l' 0 → Goes o (spot_of place) most m q place v mid new r → l'' ≤ l' + 21 → 2 * (k + 1) ≤ left
    → Runs o (spot_of place) left most m q x (whole r.0.apart) old new l l'' 1
runs_last o place most m q k left x v old mid new l l' l'' r a g looked within =
    let few : a.count + g.count ≤ left = let p = a.few in let s = g.few in omega (arith, p, s, within) in
    let looks : l'' ≤ l + 21 * (a.count + g.count + 1) = let p = a.looked in omega (arith, p, looked) in
    record { count = a.count + g.count; leads = leads_on o (spot_of place) most m q a.leads g.leads; few = few; looked = looks }

-- no turn, or one that comes to nothing
pub runs_still : (o : Origins) (at : Spot) (most m : ℕ) (q : List ℕ) (k left : ℕ) (x y : TermTree) (old new new' : List StepAt) (l l' l'' : ℕ)
    → Runs o at k most m q x y old new l l' 0 → new' ≡ new → l'' ≤ l' + 21 → k ≤ left → Runs o at left most m q x y old new' l l'' 1
runs_still o at most m q k left x y old new new' l l' l'' a is looked within =
    let few : a.count ≤ left = let p = a.few in omega (arith, p, within) in
    let looks : l'' ≤ l + 21 * (a.count + 1) = let p = a.looked in omega (arith, p, looked) in
    record { count = a.count; leads = subst (λ xs. Leads o at most m q x y old xs a.count) (sym is) a.leads; few = few; looked = looks }

pub runs_none : (o : Origins) (at : Spot) (left most m : ℕ) (q : List ℕ) (more : ℕ) (x : TermTree) (old new : List StepAt) (l l' : ℕ) → new ≡ old → l' ≡ l → Runs o at left most m q x x old new l l' more
runs_none o at left most m q more x old new l l' is looked = record {
  count = 0;
  leads = subst (λ xs. Leads o at most m q x x old xs 0) (sym is) (leads_nowhere o at most m q x old);
  few = omega arith;
  looked = omega (arith, looked);
}

-- a first step, and what is made after it
pub made_first : (o : Origins) (at : Spot) (left left' most m : ℕ) (q : List ℕ) (x y z : TermTree) (old mid new : List StepAt) (l l' : ℕ)
    → Leads o at most m q x y old mid 1 → Runs o at left most m q y z mid new l l' 1 → left + 1 ≤ left' → AreMade o at m q x z left' most old new l l'
made_first o at left left' most m q x y z old mid new l l' a b within =
    let both = leads_on o at most m q a b.leads in
    let few : length both.steps ≤ left' = let p = both.many in let s = b.few in omega (arith, p, s, within) in
    let looks : l' ≤ l + 21 * length both.steps = let p = both.many in let s = b.looked in omega (arith, p, s) in
    record {
      steps = both.steps;
      lead = both.below;
      shallow = both.shallow;
      few = few;
      added = both.added;
      traced = both.traced;
      places = both.places;
      looks = looks;
    }

-- one step is made
pub made_once : (o : Origins) (at : Spot) (left most m : ℕ) (q : List ℕ) (x y : TermTree) (old new : List StepAt) (l l' : ℕ)
    → Leads o at most m q x y old new 1 → 0 < left → l' ≡ l → AreMade o at m q x y left most old new l l'
made_once o at left most m q x y old new l l' a some looked =
    let few : length a.steps ≤ left = let p = a.many in omega (arith, p, some) in
    let looks : l' ≤ l + 21 * length a.steps = omega (arith, looked) in
    record {
      steps = a.steps;
      lead = a.below;
      shallow = a.shallow;
      few = few;
      added = a.added;
      traced = a.traced;
      places = a.places;
      looks = looks;
    }

-- nothing is made
pub made_nothing : (o : Origins) (at : Spot) (left most m : ℕ) (q : List ℕ) (x : TermTree) (old new : List StepAt) (l l' : ℕ) → new ≡ old → l' ≡ l → AreMade o at m q x x left most old new l l'
made_nothing o at left most m q x old new l l' is looked = record {
  steps = [];
  lead = none_made;
  shallow = tt;
  few = omega arith;
  added = [];
  traced = is ∙ sym (append-nil old);
  places = refl;
  looks = omega (arith, looked);
}

-- the current right side was taken out
pub stands_taken : (place inner : Place) (u v : Opened) (side : TermTree) → inner ≡ place_in place u → u ≡ with_side v side → inner ≡ place_in place v
stands_taken place inner u v side stands is = stands ∙ ap (place_in place) is ∙ place_put place v side

pub change_there : (o : Origins) (place inner : Place) (most : ℕ) (u v : Opened) (side new : TermTree) (r : Rule)
    → AreTypedOrigins o → HasLets place.mode → IsResting o (spot_of place) most u → u ≡ with_side v side → inner ≡ place_in place v
    → IsSideStep o (spot_of inner) most side r new → IsChange o place most v side r new
change_there o place inner most u v side new r origins lets h is stands step = record {
  origins = origins;
  lets = lets;
  rests = subst (IsResting o (spot_of place) most) is h;
  step = subst (λ (p : Place). IsSideStep o (spot_of p) most side r new) stands step;
}

-- what comes of the letrec with the right side in its place comes of the letrec
pub goes_back : (o : Origins) (place : Place) (most m : ℕ) (q : List ℕ) (u v : Opened) (side : TermTree) (old new : List StepAt) (r : Rush × Bool)
    → u ≡ with_side v side → Goes o (spot_of place) most m q place (with_side v side) old new r → Goes o (spot_of place) most m q place u old new r
goes_back o place most m q u v side old new r is g = subst (λ x. Goes o (spot_of place) most m q place x old new r) (sym is) g

-- the right side is put back
pub back_as_it_was : (u v w : Opened) (side : TermTree) → u ≡ with_side v side → w ≡ with_side v side → IsSettledOn u w
back_as_it_was u v w side is q = settled_nothing u w (q ∙ sym is)
