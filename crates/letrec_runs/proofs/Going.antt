-- What comes of a letrec in which a step is made.
use Rattle.std.proofs.Common.{◌≡◌, ◌≤◌, ◌<◌, ℕ, suc, sym, ap, subst, arith}
use Rattle.std.proofs.Common.{List, [], ◌∷◌}
use Rattle.std.specs.List.{AllByRecursion}
use Rattle.chw_types.specs.declared.declarations.Data.{Data}
use Rattle.chw_types.specs.TypeTree.{TypeTree}
use Rattle.chw_terms.specs.declared.rule.Rule.{Rule}
use Rattle.chw_terms.specs.declared.rule.Rule.TheVariants.{Spec, Flat}
use Rattle.chw_terms.specs.declared.scene.Mode.{Mode}
use Rattle.chw_terms.specs.declared.scene.Mode.TheVariants.{V, C}
use Rattle.chw_terms.specs.Depth.{depth}
use Rattle.chw_terms.specs.TermMoves.{shift}
use Rattle.chw_terms.specs.TermTree.{TermTree, letrec, Group, no_bindings, bind, size_of}
use Rattle.chw_typing.specs.Groups.{joined}
use Rattle.chw_typing.specs.Paths.{with_part}
use Rattle.chw_typing.specs.Scopes.{declared}
use Rattle.rewriting.specs.Instances.{HasInstance, on_core}
use Rattle.rewriting.specs.Lets.{flat_side, side_joined}
use Rattle.rewriting.specs.Named.{IsNamed}
use Rattle.rewriting.specs.Origins.{Origins}
use Rattle.rewriting.specs.Shapes.{IsOfHead, NoLetIn}
use Rattle.rewriting.specs.Spots.{Spot, HasLets}
use Rattle.rule_types.specs.Laws.{AreTypedOrigins}
use Rattle.moved_in_place.proofs.JoinedDepths.{instance_no_deeper}
use Rattle.kept_letrecs.specs.Resting.{IsAtRest}
use Rattle.letrec_steps.proofs.Below.{side_is_first_below}
use Rattle.letrec_steps.proofs.Sides.{binding_between, side_is_put, quiet_front}
use Rattle.letrec_steps.specs.Local.{side_spot, IsTypedHere, AreQuietBefore, IsFirstOn, IsFirstBelow}
use Rattle.trials.specs.Trials.{built}
use Rattle.norm_lines.specs.declared.place.StepAt.{StepAt}
use Rattle.letrec_runs.specs.Runs.{Leads}
use Rattle.letrec_runs.specs.Traced.{Traces, TracesJoin}
use Rattle.letrec_runs.proofs.Depths.{depth_put}
use Rattle.letrec_runs.proofs.Firsts.{flat_is_first, rests_idle}
use Rattle.letrec_runs.proofs.Listed.{leads_one, leads_on}
use Rattle.letrec_runs.proofs.Typed.{typed_after, typed_after_side}

no_head : (m : Mode) → HasLets m → IsOfHead m → ⊥
no_head V lets h = h
no_head C lets h = h
no_head _ lets h = lets

pub no_spec : Flat ≡ Spec → ⊥
no_spec q = absurd cc

no_let_front : (front h : Group) → NoLetIn (joined front h) → NoLetIn front
no_let_front no_bindings h n = tt
no_let_front (bind u y g) h n = (n.0, no_let_front g h n.1)

pub named_between : (datas : List Data) (mode : Mode) (front back : Group) (t : TypeTree) (x : TermTree) → AllByRecursion (IsNamed datas mode) (declared (joined front (bind t x back))) → IsNamed datas mode t
named_between datas mode no_bindings back t x n = n.0
named_between datas mode (bind u y g) back t x n = named_between datas mode g back t x n.1

-- a letrec at rest, the right side x of which is current
pub record Rests (o : Origins) (at : Spot) (most : ℕ) (front back : Group) (t : TypeTree) (x e : TermTree) : Type 0 where
  pub typed : IsTypedHere o at (letrec (joined front (bind t x back)) e)
  pub rest : IsAtRest o.program.datas at.mode (joined front (bind t x back)) e
  pub quiet : AreQuietBefore front (size_of front)
  pub shallow : depth (letrec (joined front (bind t x back)) e) ≤ most

module _ (o : Origins) (at : Spot) (most m : ℕ) (q : List ℕ) (front back : Group) (t : TypeTree) (x e new : TermTree) (r : Rule) (old : List StepAt)
    (origins : AreTypedOrigins o) (lets : HasLets at.mode) (h : Rests o at most front back t x e)
    (first : IsFirstOn built o (side_spot at (joined front (bind t x back))) x r new) (other : r ≡ Spec → ⊥) (shallow : depth new < most) where
  abbrev before : TermTree
  before = letrec (joined front (bind t x back)) e

  abbrev after : TermTree
  after = letrec (joined front (bind t new back)) e

  named : IsNamed o.program.datas at.mode t
  named = named_between o.program.datas at.mode front back t x h.rest.named

  put : with_part before (size_of front ∷ []) new ≡ after
  put = side_is_put front back t x new e

  below : IsFirstBelow built o at before (size_of front ∷ []) r new
  below =
      side_is_first_below built o at (joined front (bind t x back)) e new (size_of front) (t, x) r lets h.typed (rests_idle o at front back t x e h.rest) (quiet_front front (bind t x back) h.quiet) (binding_between front back t x) named first

  pub after_shallow : depth after ≤ most
  after_shallow = depth_put front back t x new e most h.shallow shallow

  pub after_typed : IsTypedHere o at after
  after_typed =
      subst (IsTypedHere o at) put
      (typed_after_side o at (joined front (bind t x back)) e (size_of front) (t, x) r new origins lets h.typed (binding_between front back t x) named first.made_new other)

  pub side_leads : (mid : List StepAt) → Traces m q old mid (size_of front ∷ []) r → Leads o at most m q before after old mid 1
  side_leads mid traced =
      subst (λ y. Leads o at most m q before y old mid 1) put
      (leads_one o at most m q before (record { path = size_of front ∷ []; rule = r; new = new }) old mid below other (subst (λ y. depth y ≤ most) (sym put) after_shallow) traced)

  module _ (cs : Group) (y : TermTree) (is : new ≡ letrec cs y) where
    abbrev whole_then : TermTree
    whole_then = letrec (side_joined front t cs y back) (shift e (suc (size_of back)) (size_of cs))

    after_is : after ≡ letrec (joined front (bind t (letrec cs y) back)) e
    after_is = ap (λ z. letrec (joined front (bind t z back)) e) is

    joins : HasInstance o at Flat after whole_then
    joins =
        subst (λ z. HasInstance o at Flat z whole_then) (sym after_is)
        (on_core (letrec (joined front (bind t (letrec cs y) back)) e) whole_then [] (flat_side front t cs y back (no_head at.mode lets) (no_let_front front (bind t x back) h.rest.sides)) (subst (IsTypedHere o at) after_is after_typed).has)

    pub then_typed : IsTypedHere o at whole_then
    then_typed = typed_after o at after whole_then Flat origins after_typed joins no_spec

    pub then_shallow : depth whole_then ≤ most
    then_shallow = let d = instance_no_deeper joins in let a = after_shallow in omega (arith, d, a)

    pub join_leads : (later : List StepAt) → TracesJoin m q old later (size_of front) r → Leads o at most m q before whole_then old later 2
    join_leads later traced =
        leads_on o at most m q (side_leads traced.0 traced.1)
        (leads_one o at most m q after (record { path = []; rule = Flat; new = whole_then }) traced.0 later (flat_is_first o at (joined front (bind t new back)) e whole_then joins) no_spec then_shallow traced.2)
