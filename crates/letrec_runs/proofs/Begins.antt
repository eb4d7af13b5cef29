-- The first of many steps, by which a letrec joins, and how a letrec is taken apart.
use Rattle.std.proofs.Common.{◌≡◌, ◌≤◌, ℕ, sym, subst, arith, List, [], reverse}
use Rattle.chw_terms.specs.declared.rule.Rule.TheVariants.{Flat}
use Rattle.chw_terms.specs.declared.scene.Place.{Place}
use Rattle.chw_terms.specs.declared.term.Binding.{Binding}
use Rattle.chw_terms.specs.Depth.{depth}
use Rattle.chw_terms.specs.TermTree.{TermTree, letrec}
use Rattle.chw_terms.specs.TermView.{group_of}
use Rattle.chw_typing.specs.Programs.{IsSound}
use Rattle.chw_typing.specs.Scopes.{Setting, AreTermTypes}
use Rattle.chw_typing.specs.Typing.{HasType}
use Rattle.rewriting.specs.Instances.{HasInstance}
use Rattle.rewriting.specs.Origins.{Origins, setting_at}
use Rattle.rewriting.specs.Shapes.{IsLet}
use Rattle.rewriting.specs.Spots.{Spot, spot_of}
use Rattle.rule_parts.proofs.Instances.{made_is_instance}
use Rattle.trials.specs.Trials.{built, HasSomeType}
use Rattle.rule_types.specs.Laws.{AreTypedOrigins}
use Rattle.flow_lets.specs.Flat.{JoinsAt}
use Rattle.moved_in_place.proofs.JoinedDepths.{instance_no_deeper}
use Rattle.moved_in_place.specs.Joined.{IsJoined}
use Rattle.letrec_steps.specs.Local.{IsTypedHere, IsFirstBelow}
use Rattle.norm_lines.specs.declared.place.StepAt.{StepAt}
use Rattle.open_letrec.specs.Opened.{Opened, whole}
use Rattle.term_types.specs.Answers.{IsReady}
use Rattle.letrec_runs.specs.Runs.{Leads}
use Rattle.letrec_runs.specs.Rush.{IsResting, IsRestingLet}
use Rattle.letrec_runs.specs.Traced.{Traces}
use Rattle.letrec_runs.proofs.Firsts.{flat_is_first}
use Rattle.letrec_runs.proofs.Going.{no_spec}
use Rattle.letrec_runs.proofs.Listed.{leads_one}
use Rattle.letrec_runs.proofs.Typed.{typed_after}

-- a term that has a type at a place is typed there
pub typed_here : (o : Origins) (place : Place) (s : Setting) (term : TermTree) → setting_at o ≡ s → IsReady s [] (reverse place.vars) → HasSomeType s (reverse place.vars) term → IsTypedHere o (spot_of place) term
typed_here o place s term same ready h = record {
  sound = subst IsSound (sym same) ready.0;
  vars = subst (λ t. AreTermTypes t [] (reverse place.vars)) (sym same) ready.1;
  type = h.0;
  has = subst (λ t. HasType t [] (reverse place.vars) term h.0) (sym same) h.1;
}

flat_first : (o : Origins) (at : Spot) (term new : TermTree) → IsLet term → HasInstance o at Flat term new → IsFirstBelow built o at term [] Flat new
flat_first o at (letrec g e) new l h = flat_is_first o at g e new h
flat_first o at _ new l h = absurd l

-- what a letrec is that another one joined
pub record IsBegun (o : Origins) (at : Spot) (most m : ℕ) (q : List ℕ) (term : TermTree) (old mid : List StepAt) : Type 0 where
  pub new : TermTree
  pub instance : HasInstance o at Flat term new
  pub leads : Leads o at most m q term new old mid 1
  pub typed : IsTypedHere o at new
  pub shallow : depth new ≤ most

pub begun : (o : Origins) (at : Spot) (most m : ℕ) (q : List ℕ) (term : TermTree) (old mid : List StepAt)
    → AreTypedOrigins o → IsTypedHere o at term → depth term ≤ most → IsLet term → JoinsAt o at term → Traces m q old mid [] Flat → IsBegun o at most m q term old mid
begun o at most m q term old mid origins typed h l joins traced =
    let instance = made_is_instance joins.1 typed.has in
    let shallow : depth joins.0 ≤ most = let d = instance_no_deeper instance in omega (arith, d, h) in
    record {
      new = joins.0;
      instance = instance;
      leads = leads_one o at most m q term (record { path = []; rule = Flat; new = joins.0 }) old mid (flat_first o at term joins.0 l instance) no_spec shallow traced;
      typed = typed_after o at term joins.0 Flat origins typed instance no_spec;
      shallow = shallow;
    }

-- the term in which it joined is that
pub begun_is : (o : Origins) (at : Spot) (most m : ℕ) (q : List ℕ) (term new : TermTree) (old mid : List StepAt) (b : IsBegun o at most m q term old mid) → IsJoined term new → new ≡ b.new
begun_is o at most m q term new old mid b j = j o at b.new b.instance

-- a letrec at rest is taken apart
pub rests_apart : (o : Origins) (at : Spot) (most : ℕ) (term : TermTree) (v : Opened) (bs : List Binding) (e : TermTree)
    → term ≡ letrec (group_of bs) e → v ≡ record { settled = []; left = bs; body = e }
    → IsTypedHere o at term → IsRestingLet o.program.datas at.mode term → depth term ≤ most → IsResting o at most v
rests_apart o at most term v bs e is apart typed rest h = subst (IsResting o at most) (sym apart) (record {
  typed = subst (IsTypedHere o at) is typed;
  rest = rest.1 (group_of bs) e is;
  quiet = tt;
  shallow = subst (λ x. depth x ≤ most) is h;
})

pub whole_apart : (term : TermTree) (v : Opened) (bs : List Binding) (e : TermTree) → term ≡ letrec (group_of bs) e → v ≡ record { settled = []; left = bs; body = e } → term ≡ whole v
whole_apart term v bs e is apart = subst (λ x. term ≡ whole x) (sym apart) is
