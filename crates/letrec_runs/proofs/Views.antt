-- What comes of a letrec that is taken apart.
use Rattle.std.proofs.Common.{◌≡◌, ◌∙◌, ◌≤◌, ◌<◌, ℕ, zero, suc, sym, ap, subst, arith, false}
use Rattle.std.proofs.Common.{List, [], ◌∷◌, ◌++◌, map, length, reverse}
use Rattle.std.proofs.lemmas.List.{reverse-append}
use Rattle.chw_types.specs.TypeMoves.{Renaming}
use Rattle.chw_terms.specs.declared.rule.Rule.{Rule}
use Rattle.chw_terms.specs.declared.scene.Place.{Place}
use Rattle.chw_terms.specs.declared.term.Binding.{Binding}
use Rattle.chw_terms.specs.Depth.{depth}
use Rattle.chw_terms.specs.TermTree.{TermTree, letrec, Group, bind, size_of}
use Rattle.chw_terms.specs.TermView.{group_of}
use Rattle.chw_terms.proofs.TermLists.{size_of_group}
use Rattle.chw_typing.specs.Groups.{joined}
use Rattle.chw_typing.specs.Scopes.{Setting, declared}
use Rattle.chw_typing.proofs.GroupLists.{group_joined}
use Rattle.rewriting.specs.Lets.{side_joined}
use Rattle.rewriting.specs.Origins.{Origins, setting_at}
use Rattle.rewriting.specs.Shapes.{IsLet}
use Rattle.rewriting.specs.Spots.{Spot, spot, spot_of, HasLets}
use Rattle.term_types.specs.Answers.{IsReady}
use Rattle.quiet_sides.specs.Quiet.{IsQuiet}
use Rattle.moved_in_place.specs.Moves.{renamed_binding}
use Rattle.kept_letrecs.proofs.Kept.{rest_after_side, rest_after_join}
use Rattle.kept_letrecs.proofs.QuietRenamed.{quiet_renamed}
use Rattle.kept_letrecs.specs.Resting.{KeepsVariables, IsAtRest}
use Rattle.letrec_steps.proofs.Sides.{binding_between}
use Rattle.letrec_steps.specs.Local.{side_spot, IsTypedHere, AreQuietBefore, IsFirstOn}
use Rattle.open_letrec.specs.Opened.{Opened, whole, with_side, joined_one}
use Rattle.trials.specs.Trials.{built, HasSomeType}
use Rattle.norm_lines.specs.declared.place.StepAt.{StepAt}
use Rattle.letrec_runs.specs.Runs.{Leads}
use Rattle.letrec_runs.specs.Traced.{Traces, TracesJoin}
use Rattle.letrec_runs.specs.Rush.{in_order, place_in, AreQuiet, IsChange, IsResting}
use Rattle.letrec_runs.proofs.Typed.{side_typed}
use Rattle.letrec_runs.proofs.Going.{Rests, named_between, side_leads, after_typed, after_shallow, join_leads, then_typed, then_shallow}
use Rattle.letrec_runs.proofs.Groups.{declared_put, whole_at, group_after_join, body_after_join, whole_after_join}

pub quiet_before : (settled : List Binding) → AreQuiet settled → AreQuietBefore (group_of settled) (size_of (group_of settled))
quiet_before [] q i b l is = absurd (omega (arith, l))
quiet_before (c ∷ settled) q zero b l is = let same : c.body ≡ b.1 = cc in subst IsQuiet same q.0
quiet_before (c ∷ settled) q (suc i) b l is = quiet_before settled q.1 i b (omega (arith, l)) is

quiet_moved : (ρ : Renaming) (settled : List Binding) → AreQuiet settled → AreQuiet (map (renamed_binding ρ) settled)
quiet_moved ρ [] q = tt
quiet_moved ρ (c ∷ settled) q = (quiet_renamed ρ q.0, quiet_moved ρ settled q.1)

-- where right sides stand
pub side_spot_is : (place : Place) (v : Opened) → spot_of (place_in place v) ≡ side_spot (spot_of place) (in_order v)
side_spot_is place v = ap (spot place.mode false) (reverse-append place.vars (declared (in_order v)))

-- a letrec at rest that is taken apart
pub rests_at : (o : Origins) (at : Spot) (most : ℕ) (settled rest : List Binding) (b : Binding) (e : TermTree)
    → IsResting o at most (record { settled = settled; left = b ∷ rest; body = e })
    → Rests o at most (group_of settled) (group_of rest) b.ty b.body e
rests_at o at most settled rest b e h =
    let q = whole_at settled rest b e in
    record {
      typed = subst (IsTypedHere o at) q h.typed;
      rest = subst (λ g. IsAtRest o.program.datas at.mode g e) (group_joined settled (b ∷ rest)) h.rest;
      quiet = quiet_before settled h.quiet;
      shallow = subst (λ w. depth w ≤ most) q h.shallow;
    }

pub spot_at : (place : Place) (settled rest : List Binding) (b : Binding) (e side : TermTree)
    → spot_of (place_in place (record { settled = settled; left = b ∷ rest; body = e }))
    ≡ side_spot (spot_of place) (joined (group_of settled) (bind b.ty side (group_of rest)))
spot_at place settled rest b e side =
    side_spot_is place (record { settled = settled; left = b ∷ rest; body = e })
    ∙ ap (λ ts. spot place.mode false (reverse ts ++ reverse place.vars)) (sym (declared_put settled (b ∷ rest) side) ∙ ap declared (group_joined settled (record b { body = side } ∷ rest)))

-- the current right side is typed where it stands
typed_at : (o : Origins) (place : Place) (most : ℕ) (settled left : List Binding) (e side : TermTree)
    → HasLets place.mode → 0 < length left → IsResting o (spot_of place) most (with_side (record { settled = settled; left = left; body = e }) side)
    → IsTypedHere o (spot_of (place_in place (record { settled = settled; left = left; body = e }))) side
typed_at o place most settled [] e side lets l h = absurd (omega (arith, l))
typed_at o place most settled (b ∷ rest) e side lets l h =
    let front = group_of settled in
    let back = group_of rest in
    let here = rests_at o (spot_of place) most settled rest (record b { body = side }) e h in
    subst (λ s. IsTypedHere o s side) (sym (spot_at place settled rest b e side))
    (side_typed o (spot_of place) (joined front (bind b.ty side back)) e (size_of front) (b.ty, side) lets here.typed (binding_between front back b.ty side)
    (named_between o.program.datas place.mode front back b.ty side here.rest.named))

pub current_typed : (o : Origins) (place : Place) (most : ℕ) (v : Opened) (side : TermTree)
    → HasLets place.mode → 0 < length v.left → IsResting o (spot_of place) most (with_side v side) → IsTypedHere o (spot_of (place_in place v)) side
current_typed o place most v side lets l h = typed_at o place most v.settled v.left v.body side lets l h

-- so types are found there
pub ready_there : (o : Origins) (place inner : Place) (v : Opened) (side : TermTree) (s : Setting) → IsTypedHere o (spot_of (place_in place v)) side → inner ≡ place_in place v → setting_at o ≡ s → IsReady s [] (reverse inner.vars)
ready_there o place inner v side s h q sq =
    subst (λ t. IsReady t [] (reverse inner.vars)) sq (subst (λ (p : Place). IsReady (setting_at o) [] (reverse p.vars)) (sym q) (h.sound, h.vars))

pub type_there : (o : Origins) (place inner : Place) (v : Opened) (side : TermTree) (s : Setting) → IsTypedHere o (spot_of (place_in place v)) side → inner ≡ place_in place v → setting_at o ≡ s → HasSomeType s (reverse inner.vars) side
type_there o place inner v side s h q sq =
    subst (λ t. HasSomeType t (reverse inner.vars) side) sq (subst (λ (p : Place). HasSomeType (setting_at o) (reverse p.vars) side) (sym q) (h.type, h.has))

-- from one view to another
pub record GoesTo (o : Origins) (at : Spot) (most m : ℕ) (q : List ℕ) (v w : Opened) (old new : List StepAt) (count : ℕ) : Type 0 where
  pub leads : Leads o at most m q (whole v) (whole w) old new count
  pub rests : IsResting o at most w

module _ (o : Origins) (place : Place) (most m : ℕ) (q : List ℕ) (settled rest : List Binding) (b : Binding) (e side new : TermTree) (r : Rule) (old : List StepAt)
    (h : IsChange o place most (record { settled = settled; left = b ∷ rest; body = e }) side r new) where
  abbrev at : Spot
  at = spot_of place

  abbrev front : Group
  front = group_of settled

  abbrev back : Group
  back = group_of rest

  abbrev now : Opened
  now = record { settled = settled; left = record b { body = side } ∷ rest; body = e }

  abbrev next : Opened
  next = record { settled = settled; left = record b { body = new } ∷ rest; body = e }

  here : Rests o at most front back b.ty side e
  here = rests_at o at most settled rest (record b { body = side }) e h.rests

  spot_is : spot_of (place_in place (record { settled = settled; left = b ∷ rest; body = e })) ≡ side_spot at (joined front (bind b.ty side back))
  spot_is = spot_at place settled rest b e side

  first : IsFirstOn built o (side_spot at (joined front (bind b.ty side back))) side r new
  first = subst (λ s. IsFirstOn built o s side r new) spot_is h.step.first

  number_is : length settled ≡ size_of front
  number_is = sym (size_of_group settled)

  abbrev keeps : KeepsVariables (size_of (joined front (bind b.ty side back))) side new
  keeps = h.step.keeps (size_of (joined front (bind b.ty side back)))

  pub goes_put : (IsLet new → ⊥) → (mid : List StepAt) → Traces m q old mid (length settled ∷ []) r → GoesTo o at most m q now next old mid 1
  goes_put bare mid traced =
      let was = whole_at settled rest (record b { body = side }) e in
      let is = whole_at settled rest (record b { body = new }) e in
      let led = side_leads o at most m q front back b.ty side e new r old h.origins h.lets here first h.step.other h.step.shallow mid (subst (λ n. Traces m q old mid (n ∷ []) r) number_is traced) in
      record {
        leads =
            subst (λ w. Leads o at most m q w (whole next) old mid 1) (sym was)
            (subst (λ w. Leads o at most m q (letrec (joined front (bind b.ty side back)) e) w old mid 1) (sym is) led);
        rests = record {
          typed = subst (IsTypedHere o at) (sym is) (after_typed o at most m q front back b.ty side e new r old h.origins h.lets here first h.step.other h.step.shallow);
          rest = subst (λ g. IsAtRest o.program.datas at.mode g e) (sym (group_joined settled (record b { body = new } ∷ rest))) (rest_after_side o.program.datas at.mode front b.ty side new back e here.rest bare keeps);
          quiet = h.rests.quiet;
          shallow = subst (λ w. depth w ≤ most) (sym is) (after_shallow o at most m q front back b.ty side e new r old h.origins h.lets here first h.step.other h.step.shallow);
        };
      }

  pub goes_joined : (cs : List Binding) (y : TermTree) → new ≡ letrec (group_of cs) y → IsAtRest o.program.datas at.mode (group_of cs) y
      → (later : List StepAt) → TracesJoin m q old later (length settled) r
      → GoesTo o at most m q now (joined_one (record { settled = settled; left = b ∷ rest; body = e }) cs y) old later 2
  goes_joined cs y is inner later traced =
      let joint : Opened = joined_one (record { settled = settled; left = b ∷ rest; body = e }) cs y in
      let was = whole_at settled rest (record b { body = side }) e in
      let will = whole_after_join settled rest cs b e y in
      let c = group_of cs in
      let led = join_leads o at most m q front back b.ty side e new r old h.origins h.lets here first h.step.other h.step.shallow c y is later (subst (λ n. TracesJoin m q old later n r) number_is traced) in
      let kept = subst (KeepsVariables (size_of (joined front (bind b.ty side back))) side) is keeps in
      let at_rest = rest_after_join o.program.datas at.mode front b.ty side c y back e here.rest kept inner in
      record {
        leads =
            subst (λ w. Leads o at most m q w (whole joint) old later 2) (sym was)
            (subst (λ w. Leads o at most m q (letrec (joined front (bind b.ty side back)) e) w old later 2) (sym will) led);
        rests = record {
          typed = subst (IsTypedHere o at) (sym will) (then_typed o at most m q front back b.ty side e new r old h.origins h.lets here first h.step.other h.step.shallow c y is);
          rest = subst (λ g. IsAtRest o.program.datas at.mode g joint.body) (sym (group_after_join settled rest cs b e y))
              (subst (λ z. IsAtRest o.program.datas at.mode (side_joined front b.ty c y back) z) (sym (body_after_join settled rest cs b e y)) at_rest);
          quiet = quiet_moved _ settled h.rests.quiet;
          shallow = subst (λ w. depth w ≤ most) (sym will) (then_shallow o at most m q front back b.ty side e new r old h.origins h.lets here first h.step.other h.step.shallow c y is);
        };
      }
