-- A letrec that is taken apart while steps are made in it.
use Rattle.std.specs.Prelude.{◌≡◌, ◌≤◌, ◌<◌, ℕ, Bool, false, IsTrue, List, ◌++◌}
use Rattle.std.specs.List.{AllByRecursion}
use Rattle.chw_types.specs.declared.declarations.Data.{Data}
use Rattle.chw_terms.specs.declared.rule.Rule.{Rule}
use Rattle.chw_terms.specs.declared.rule.Rule.TheVariants.{Spec}
use Rattle.chw_terms.specs.declared.scene.Mode.{Mode}
use Rattle.chw_terms.specs.declared.scene.Place.{Place}
use Rattle.chw_terms.specs.declared.term.Binding.{Binding}
use Rattle.chw_terms.specs.Depth.{depth}
use Rattle.chw_terms.specs.TermTree.{TermTree, Group, letrec}
use Rattle.chw_terms.specs.TermView.{group_of}
use Rattle.chw_typing.specs.Scopes.{declared}
use Rattle.rewriting.specs.Origins.{Origins}
use Rattle.rewriting.specs.Shapes.{IsLet}
use Rattle.rewriting.specs.Spots.{Spot, spot_of, HasLets}
use Rattle.rule_types.specs.Laws.{AreTypedOrigins}
use Rattle.quiet_sides.specs.Quiet.{IsQuiet}
use Rattle.kept_letrecs.specs.Resting.{KeepsVariables, IsAtRest}
use Rattle.letrec_steps.specs.Local.{IsTypedHere, IsFirstOn}
use Rattle.open_letrec.specs.Opened.{Opened, whole, with_side, joined_one}
use Rattle.norm_lines.specs.declared.place.StepAt.{StepAt}
use Rattle.trials.specs.Trials.{built}
use Rattle.letrec_runs.specs.declared.rush.Rush.{Rush}
use Rattle.letrec_runs.specs.Runs.{Leads}

-- the bindings in order
abbrev pub in_order : Opened → Group
in_order v = group_of (v.settled ++ v.left)

-- each of these right sides is quiet
abbrev pub AreQuiet : List Binding → Type 0
AreQuiet bs = AllByRecursion (λ (b : Binding). IsQuiet b.body) bs

-- the whole letrec is typed, at rest and not too deep, and what is settled is quiet
pub record IsResting (o : Origins) (at : Spot) (most : ℕ) (v : Opened) : Type 0 where
  pub typed : IsTypedHere o at (whole v)
  pub rest : IsAtRest o.program.datas at.mode (in_order v) v.body
  pub quiet : AreQuiet v.settled
  pub shallow : depth (whole v) ≤ most

-- where the right sides stand, if the letrec stands at this place
abbrev pub place_in : Place → Opened → Place
place_in at v =
    record { mode = at.mode; result = false; vars = at.vars ++ declared (in_order v) }

-- settling keeps the letrec and its bindings in order
pub record IsSettledOn (v v' : Opened) : Type 0 where
  pub order : v'.settled ++ v'.left ≡ v.settled ++ v.left
  pub body : v'.body ≡ v.body
  pub quiet : AreQuiet v.settled → AreQuiet v'.settled

-- this rule is the first with an instance on a right side, and what it makes may be put there
pub record IsSideStep
    (o : Origins) (at : Spot) (most : ℕ) (x : TermTree) (r : Rule) (new : TermTree) : Type 0
  where
    pub first : IsFirstOn built o at x r new
    pub other : r ≡ Spec → ⊥
    pub keeps : (n : ℕ) → KeepsVariables n x new
    pub shallow : depth new < most

-- a letrec without arguments is at rest
abbrev pub IsRestingLet : List Data → Mode → TermTree → Type 0
IsRestingLet datas mode x =
    IsLet x × ((g : Group) (e : TermTree) → x ≡ letrec g e → IsAtRest datas mode g e)

-- a letrec that is put for the current right side has joined
abbrev pub IsJoinedOne : Opened → TermTree → Opened → Type 0
IsJoinedOne v new v' =
    (cs : List Binding) × (e : TermTree) × (new ≡ letrec (group_of cs) e)
    × (v' ≡ joined_one v cs e)

-- this step is made at the current right side, which was taken out, of a letrec at a place
pub record IsChange
    (o : Origins) (place : Place) (most : ℕ) (v : Opened) (side : TermTree) (r : Rule)
    (new : TermTree) : Type 0
  where
    pub origins : AreTypedOrigins o
    pub lets : HasLets place.mode
    pub rests : IsResting o (spot_of place) most (with_side v side)
    pub step : IsSideStep o (spot_of (place_in place v)) most side r new

-- what comes of the letrec of a view: two steps at most are made, and one at least where more may
-- be made
pub record Goes
    (o : Origins) (at : Spot) (most m : ℕ) (q : List ℕ) (place : Place) (v : Opened)
    (old new : List StepAt) (r : Rush × Bool) : Type 0
  where
    pub count : ℕ
    pub leads : Leads o at most m q (whole v) (whole r.0.apart) old new count
    pub few : count ≤ 2
    pub some : IsTrue r.1 → 0 < count
    pub rests : IsResting o at most r.0.apart
    pub stands : r.0.place ≡ place_in place r.0.apart
