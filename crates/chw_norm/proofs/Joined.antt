-- A step of the rule of letrecs, made in the body where the letrec stands.
use Rattle.std.proofs.Common.{◌≡◌, ◌∙◌, ℕ, ◌<◌, ◌≤◌, sym, ap, subst, arith, List, get_or, set, set-set}
use Rattle.std.proofs.Common.{Some, true, false}
use Rattle.std.specs.Prelude.{Bool}
use Rattle.std.specs.List.{slice_get}
use Rattle.std.proofs.lemmas.Option.{get_or_from_slice_get, none-some, same_Some, slice_get_within}
use Rattle.chw_base.specs.declared.limits.TheConstants.{MADE_DEPTH}
use Rattle.chw_terms.specs.declared.program.Program.{Program}
use Rattle.chw_terms.specs.declared.rule.Rule.TheVariants.{Flat}
use Rattle.chw_terms.specs.declared.scene.Made.{Made}
use Rattle.chw_terms.specs.Depth.{depth}
use Rattle.chw_terms.specs.TermTree.{TermTree}
use Rattle.chw_typing.specs.Paths.{with_part}
use Rattle.rewriting.specs.Instances.{HasInstance}
use Rattle.rewriting.specs.Origins.{made_of}
use Rattle.rewriting.specs.Steps.{origins_in}
use Rattle.trials.specs.Trials.{built, with_new, ChangesTo}
use Rattle.trials.specs.declared.trial.Change.{Change}
use Rattle.trials.specs.declared.trial.Change.TheVariants.{Put, Join}
use Rattle.made_table.specs.Held.{IsPartSwapped}
use Rattle.moved_in_place.specs.Joined.{IsJoined}
use Rattle.moved_in_place.specs.Laws.{JoinedIsNoDeeper, WithPartNoDeeper, SwappedBack}
use Rattle.norm_lines.specs.declared.place.StepAt.{StepAt}
use Rattle.chw_norm.specs.Bounds.{IsBound}
use Rattle.step_search.specs.FoundSteps.{IsNext}
use Rattle.chw_norm.specs.Underway.{IsFlatThere, IsMadeThere, IsPutAt}
use Rattle.step_search.specs.declared.place.Found.{Found}
use Rattle.chw_norm.specs.declared.progress.Progress.{Progress}
use Rattle.chw_norm.proofs.Changed.{set_there, still_there}
use Rattle.chw_norm.proofs.Places.{SpineLaws, place_is_spine}

-- what is promised of a letrec that is taken out, joined and put back
pub record JoinLaws : Type 0 where
  pub joined : JoinedIsNoDeeper
  pub parts : WithPartNoDeeper
  pub back : SwappedBack

-- the body with the joined letrec
record IsRejoined (made made' : List Made) (n : ℕ) (it : Made) (path : List ℕ) (new : TermTree)
    : Type 0 where
  body : TermTree
  body_is : body ≡ with_part it.body path new
  now_made : made' ≡ set made n (record it { body = body })
  no_deeper : depth body ≤ depth it.body

rejoined : JoinLaws → (made mid made' : List Made) (at : StepAt) (v part joined last : TermTree)
    (b c : Bool) (new : TermTree) → (f : IsFlatThere made at new)
    → IsPartSwapped made at.made.number f.it at.path.items v mid part b
    → IsJoined part joined
    → ((x : Made) → slice_get mid at.made.number ≡ Some x
    → IsPartSwapped mid at.made.number x at.path.items joined made' last c)
    → IsRejoined made made' at.made.number f.it at.path.items new
rejoined laws made mid made' at v part joined last false c new f out join back =
    absurd (none-some f.term (sym out.1.0.0 ∙ f.stands))
rejoined laws made mid made' at v part joined last true c new f out join back =
    let n = at.made.number in
    let path = at.path.items in
    let same : part ≡ f.term = same_Some part f.term (sym out.1.1 ∙ f.stands) in
    let inst : HasInstance f.origins f.spot Flat part new =
    subst (λ e. HasInstance f.origins f.spot Flat e new) (sym same) f.instance in
    let is_new : joined ≡ new = join f.origins f.spot new inst in
    let hollow : Made = record f.it { body = out.0 } in
    let there : slice_get mid n ≡ Some hollow =
    ap (λ ms. slice_get ms n) out.2 ∙ set_there made n hollow (slice_get_within made n f.it f.is) in
    let again = back hollow there in
    let law = laws.back f.it.body v out.0 part joined again.0 last path c out.1 again.1 in
    let whole : Made = record f.it { body = again.0 } in
    record {
      body = again.0;
      body_is = law.1 ∙ ap (with_part f.it.body path) is_new;
      now_made = again.2 ∙ ap (λ ms. set ms n whole) out.2 ∙ set-set made n hollow whole;
      no_deeper =
          subst (λ e. depth e ≤ depth f.it.body) (sym law.1)
          (laws.parts f.it.body part joined path out.1.1
          (subst (λ e. depth e ≤ depth part) (sym is_new) (laws.joined f.origins f.spot part new inst)));
    }

-- its bound is that of the body before, exact where it is over the limit
pub joined_put : JoinLaws → (at : StepAt) (new : TermTree) (r r' : Progress)
    (mid listed : List Made) (v part joined last : TermTree) (b c : Bool) (old bound : ℕ) (d : Made)
    → (f : IsFlatThere r.made at new)
    → IsPartSwapped r.made at.made.number f.it at.path.items v mid part b
    → IsJoined part joined
    → ((x : Made) → slice_get mid at.made.number ≡ Some x
    → IsPartSwapped mid at.made.number x at.path.items joined r'.made last c)
    → old ≡ get_or r.bounds.items at.made.number old → listed ≡ r'.made
    → (IsBound old (get_or listed at.made.number d).body
    → IsBound bound (get_or listed at.made.number d).body)
    → (MADE_DEPTH < bound → MADE_DEPTH < depth (get_or listed at.made.number d).body)
    → r'.bounds.items ≡ set r.bounds.items at.made.number bound
    → r'.program.now ≡ r.program.now → r'.signature ≡ r.signature → IsPutAt at new r r' bound
joined_put laws at new r r' mid listed v part joined last b c old bound d f out join back was list keeps over_limit bounds program signature =
    let n = at.made.number in
    let made = rejoined laws r.made mid r'.made at v part joined last b c new f out join back in
    let whole : Made = record f.it { body = made.body } in
    let seen : slice_get r'.made n ≡ Some whole = ap (λ ms. slice_get ms n) made.now_made
    ∙ set_there r.made n whole (slice_get_within r.made n f.it f.is) in
    let is : get_or listed n d ≡ whole = ap (λ ms. get_or ms n d) list
    ∙ get_or_from_slice_get r'.made n whole d seen in
    let same : (get_or listed n d).body ≡ made.body = ap (λ (m : Made). m.body) is in
    record {
      it = f.it;
      is = f.is;
      body = made.body;
      body_is = made.body_is;
      made = made.now_made;
      bounds = bounds;
      keeps = λ k there bound_of.
          let one : k ≡ old = sym (was ∙ get_or_from_slice_get r.bounds.items n k old there) in
          subst (IsBound bound) same (keeps (subst (IsBound old) (sym same)
          (subst (λ m. IsBound m made.body) one (lower_bound k f.it.body made.body made.no_deeper bound_of))));
      exact = λ over. subst (λ e. MADE_DEPTH < depth e) same (over_limit over);
      program = program;
      signature = signature;
    }
  where
    lower_bound : (k : ℕ) (e e' : TermTree) → depth e' ≤ depth e → IsBound k e → IsBound k e'
    lower_bound k e e' l h small = let deep = h small in omega (arith, l, deep)

-- the change of a step leads to its term, behind what the step adds too
pub made_there : SpineLaws → (p : Program) (made made' : List Made) (f : Found)
    → (next : IsNext built p made f) → made' ≡ with_new made f.definition
    → IsMadeThere made' f.at f.change next.new
made_there laws p made made' f next grown = by f.change next.changes
  where
    by : (change : Change) → ChangesTo f.at.rule change next.new
        → IsMadeThere made' f.at change next.new
    by (Put t) is = is
    by Join is =
        let step = next.is_first.step.1 in
        let o = origins_in p made in record {
          it = step.it;
          is = subst (λ ms. slice_get ms f.at.made.number ≡ Some step.it) (sym grown)
              (still_there made f.definition f.at.made.number step.it step.is);
          term = step.term;
          stands =
              place_is_spine laws o (made_of step.it) step.it.body step.term f.at.path.items
              step.at step.place;
          origins = o;
          spot = step.at;
          instance =
              subst (λ r. HasInstance o step.at r step.term next.new) is step.made_new;
        }
