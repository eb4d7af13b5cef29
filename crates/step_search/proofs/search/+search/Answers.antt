use Rattle.std.proofs.Common.{◌≡◌, ◌∙◌, ◌++◌, ◌+◌, suc, length, reverse, take, refl, sym, ap, subst, arith, MatchOption}
use Rattle.std.proofs.Math.Seq.{take-append_seam}
use Rattle.chw_terms.specs.declared.scene.Place.{Place}
use Rattle.chw_typing.specs.Scopes.{setting_in}
use Rattle.rewriting.specs.Origins.{origins_of}
use Rattle.rewriting.specs.Active.{Below, IsActive}
use Rattle.rewriting.specs.Spots.{spot, spot_of}
use Rattle.trials.specs.Trials.{built, HasNoInstance, IsTrial}
use Rattle.active_parts.specs.Grounds.{IsTypedAt, with_variables}
use Rattle.step_search.specs.First.{adds_to, AtPath, FindsFirst, From, GoesOn, HasNoStepAt}
use Rattle.step_search.specs.SeenPaths.{LooksAtPaths}
use Rattle.active_parts.specs.Parts.{arguments_of, around, declares, numbers_of, part_path, path_to, spot_in}
use Rattle.active_parts.specs.Parts.{IsAmong, IsInside, HasNoPart, FindsPart, AreAmongFirst}
use Rattle.step_search.specs.Begins.{IsPassed, BeginsAt}
use Rattle.active_parts.proofs.Falls.{below_falls}
use Rattle.step_search.proofs.Firsts.{no_places}
use Rattle.step_search.specs.Passed.{OfFirst}
use Rattle.step_search.proofs.Quiet.{all_passed_in_scene, passed_in_scene}
use Rattle.step_search.proofs.Numbered.{none_up_to_next, none_at_all, found_at_number}
use Rattle.step_search.proofs.Looked.{looked_here, looked_below, looked_nowhere, looked_up_to_next, looked_at_first, looked_at_part}
use Rattle.step_search.proofs.Onward.{found_here, found_below, found_at_part, none_passed}
use Rattle.active_parts.proofs.Options.{ok_more, on_ok}
use Rattle.active_parts.proofs.Scoped.{around_inner, is_inside, left_again, more_in_scope}
use Rattle.active_parts.proofs.Spines.{all_arguments}
use Rattle.active_parts.proofs.Typed.{below_typed}
use Rattle.active_parts.proofs.Ways.{parts_in_order}
use Rattle.step_search.proofs.search.+search.Goals as goal

-- the place itself, and then what is below it
pub first_from-returns-in-Some : goal.first_from-returns-in-Some
first_from-returns-in-Some g t c =
    let o = origins_of c.args.ground.now.scene.now in
    let at = spot_of c.args.place.now in
    let e = c.args.at.now in
    let made = subst (λ r. MatchOption r (HasNoInstance built o at e) (IsTrial built c.args.ground.now.scene.now.program.now c.args.ground.now.scene.now.made.now at e)) c.in-Some.is c.in_ok-trial.ensures.first in
    record {
      first = found_here built c.args.ground.now.scene.now.program.now c.args.ground.now.scene.now.made.now at e c.args.from.now c.new.result.items c.in-Some.trial made c.new.ensures.items;
      place = refl;
      looks = looked_here built o at e c.args.from.now (g.R.Looks.looks c.args.rules.now) (g.R.Looks.looks c.first_rule.new.self) c.first_rule.ensures.looks;
    }

pub first_from-below-requires : goal.first_from-below-requires
first_from-below-requires g t c κs h = (omega (arith, c.decreases), (h, (c.requires.ground, (c.requires.same, c.requires.typed))))

pub first_from-returns : goal.first_from-returns
first_from-returns g t c =
    let o = origins_of c.args.ground.now.scene.now in
    let at = spot_of c.args.place.now in
    let e = c.args.at.now in
    let none = subst (λ r. MatchOption r (HasNoInstance built o at e) (IsTrial built c.args.ground.now.scene.now.program.now c.args.ground.now.scene.now.made.now at e)) c.in_default.is c.in_ok-trial.ensures.first in
    record {
      first = ok_more c.below.result _ _ (λ answer is. found_below built o (adds_to c.args.ground.now.scene.now) at e c.args.from.now answer none is) c.below.ensures.first;
      place = c.below.ensures.place;
      looks = looked_below built o at e c.args.from.now (g.R.Looks.looks c.args.rules.now) (g.R.Looks.looks c.first_rule.new.self) (g.R.Looks.looks c.below.new.rules) none c.first_rule.ensures.looks c.below.ensures.looks;
    }

-- below a place
pub below-returns-then-first-count : goal.below-returns-then-first-count
below-returns-then-first-count g t c =
    let o = origins_of c.args.ground.now.scene.now in
    let at = spot_of c.args.place.now in
    let e = c.args.at.now in
    record {
      first =
          none_at_all built o (adds_to c.args.ground.now.scene.now) (Below o at e) (path_to e) c.count_parts-count.result c.in_ok-first.first c.args.from.now
          (λ p at' x b. c.count_parts-count.ensures.first o at at' p x refl b) (omega (arith, c.if-first-count.true))
          (all_passed_in_scene built c.args.ground.now.scene.now at e c.args.from.now c.in_ok-first.first c.requires.ground.sound c.requires.typed c.in_ok-first.ensures);
      place = refl;
      looks = looked_nowhere built o (From o (Below o at e)) c.args.from.now (g.R.Looks.looks c.args.rules.now);
    }

pub below-first_part-requires : goal.below-first_part-requires
below-first_part-requires g t c κs h =
    let s = setting_in c.args.ground.now.scene.now in
    let place = c.args.place.now in
    let e = c.args.at.now in
    let n = c.count_parts-count.result in
    let entered : c.enter_group_again.new.place ≡ with_variables place (place.vars ++ declares e) =
    c.in_ok-enter_group_again.ensures ∙ ap (λ ts. with_variables place (place.vars ++ ts)) c.group_around_parts.ensures in
    let typed = subst (λ at. IsTypedAt s at e) (sym (around_inner place e)) c.requires.typed in (
      omega (arith, c.decreases),
      (
        h,
        (
          c.requires.ground,
          (
            c.requires.same,
            (
              subst (λ p. IsInside p e) (sym entered) (is_inside place e),
              (
                subst (λ p. IsTypedAt s (around p e) e) (sym entered) typed,
                (
                  subst (λ (p : Place). AreAmongFirst p.mode e n) (sym entered) c.count_parts-count.ensures.first,
                  (c.count_parts-count.ensures.arguments, c.in_ok-first.ensures),
                ),
              ),
            ),
          ),
        ),
      ),
    )

pub below-returns : goal.below-returns
below-returns g t c =
    let o = origins_of c.args.ground.now.scene.now in
    let place = c.args.place.now in
    let e = c.args.at.now in
    let entered : c.enter_group_again.new.place ≡ with_variables place (place.vars ++ declares e) =
    c.in_ok-enter_group_again.ensures ∙ ap (λ ts. with_variables place (place.vars ++ ts)) c.group_around_parts.ensures in
    let after : c.first_part.new.place ≡ with_variables place (place.vars ++ declares e) = c.in_ok-found.ensures.place ∙ entered in
    let outside : c.len-outside.result ≡ length place.vars = c.len-outside.ensures in
    record {
      first =
          subst (λ at. FindsFirst built o (adds_to c.args.ground.now.scene.now) (From o (Below o at e)) c.args.from.now c.in_ok-found.found)
          (ap (λ p. around p e) entered ∙ around_inner place e) c.in_ok-found.ensures.first;
      place = c.in_ok-leave_with_spare.ensures ∙ (λ i. with_variables (after i) (take (outside i) (after i).vars)) ∙ left_again place (declares e);
      looks =
          subst (λ at. LooksAtPaths built o (From o (Below o at e)) c.args.from.now (g.R.Looks.looks c.args.rules.now) (g.R.Looks.looks c.first_part.new.rules))
          (ap (λ p. around p e) entered ∙ around_inner place e) c.first_part.ensures.looks;
    }

-- the parts in turn
pub first_part-loop-number-init : goal.first_part-loop-number-init
first_part-loop-number-init g t c =
    let o = origins_of c.args.ground.now.scene.now in
    let e = c.args.at.now in
    record {
      same = refl;
      none =
          all_passed_in_scene built c.args.ground.now.scene.now (around c.args.place.now e) e c.args.from.now c.args.first
          c.requires.ground.sound c.requires.typed c.requires.passed;
      looks = looked_nowhere built o (From o (OfFirst (Below o (around c.args.place.now e) e) (path_to e) c.args.first)) c.args.from.now (g.R.Looks.looks c.args.rules.now);
    }

pub first_part-in_part-requires : goal.first_part-in_part-requires
first_part-in_part-requires g t c κs h =
    let s = setting_in c.args.ground.now.scene.now in
    let e = c.args.at.now in
    let same = sym c.loop-number.invariant.same in (
      omega (arith, c.decreases),
      (
        h,
        (
          c.requires.ground,
          (
            c.requires.same,
            (
              subst (λ p. IsInside p e) same c.requires.inside,
              (
                subst (λ p. IsTypedAt s (around p e) e) same c.requires.typed,
                c.requires.arguments c.loop-number.number c.loop-number-test.true,
              ),
            ),
          ),
        ),
      ),
    )

pub first_part-returns-then-is_some : goal.first_part-returns-then-is_some
first_part-returns-then-is_some g t c =
    let o = origins_of c.args.ground.now.scene.now in
    let e = c.args.at.now in
    let at = around c.args.place.now e in
    let n = c.loop-number.number in
    let from = c.args.from.now in
    let found = c.in_ok-found.found in
    let here =
    subst (λ p. FindsFirst built o (adds_to c.args.ground.now.scene.now) (From o (AtPath (Below o (around p e) e) (path_to e n))) from found)
    c.loop-number.invariant.same c.in_ok-found.ensures.first in
    let looked =
    subst (λ p. LooksAtPaths built o (From o (AtPath (Below o (around p e) e) (path_to e n))) from (g.R.Looks.looks c.loop-number.rules) (g.R.Looks.looks c.in_part.new.rules))
    c.loop-number.invariant.same c.in_part.ensures.looks in
    record {
      first =
          found_at_number built o (adds_to c.args.ground.now.scene.now) (Below o at e) (path_to e) n c.args.count from found
          (sym c.is_some.ensures ∙ c.if-is_some.true)
          (λ p at' x b. c.requires.all o at at' p x refl b)
          (λ i j l m. parts_in_order (arguments_of e) i j l (c.requires.arguments j m))
          c.loop-number.invariant.none here;
      place = c.in_ok-found.ensures.place ∙ c.loop-number.invariant.same;
      looks =
          looked_at_first built o (Below o at e) (path_to e) (suc n) c.args.count from (g.R.Looks.looks c.args.rules.now) (g.R.Looks.looks c.in_part.new.rules)
          (λ i j l m. parts_in_order (arguments_of e) i j l (c.requires.arguments j m))
          (λ p at' x b. c.requires.all o at at' p x refl b)
          (looked_up_to_next built o (Below o at e) (path_to e) n c.args.count from (g.R.Looks.looks c.args.rules.now) (g.R.Looks.looks c.loop-number.rules) (g.R.Looks.looks c.in_part.new.rules)
          (λ i j l m. parts_in_order (arguments_of e) i j l (c.requires.arguments j m))
          c.loop-number-test.true c.loop-number.invariant.none c.loop-number.invariant.looks looked);
    }

pub first_part-loop-number-preserved : goal.first_part-loop-number-preserved
first_part-loop-number-preserved g t c =
    let o = origins_of c.args.ground.now.scene.now in
    let e = c.args.at.now in
    let at = around c.args.place.now e in
    let n = c.loop-number.number in
    let from = c.args.from.now in
    let found = c.in_ok-found.found in
    let here =
    subst (λ p. FindsFirst built o (adds_to c.args.ground.now.scene.now) (From o (AtPath (Below o (around p e) e) (path_to e n))) from found)
    c.loop-number.invariant.same c.in_ok-found.ensures.first in
    let next : suc n ≡ n + 1 = omega arith in
    let looked =
    subst (λ p. LooksAtPaths built o (From o (AtPath (Below o (around p e) e) (path_to e n))) from (g.R.Looks.looks c.loop-number.rules) (g.R.Looks.looks c.in_part.new.rules))
    c.loop-number.invariant.same c.in_part.ensures.looks in
    record {
      same = c.in_ok-found.ensures.place ∙ c.loop-number.invariant.same;
      none =
          subst (λ k. HasNoStepAt built o (From o (OfFirst (Below o at e) (path_to e) k)) from) next
          (none_up_to_next built o (adds_to c.args.ground.now.scene.now) (Below o at e) (path_to e) n from found (sym c.is_some.ensures ∙ c.if-is_some.false)
          c.loop-number.invariant.none here);
      looks =
          subst (λ k. LooksAtPaths built o (From o (OfFirst (Below o at e) (path_to e) k)) from (g.R.Looks.looks c.args.rules.now) (g.R.Looks.looks c.in_part.new.rules)) next
          (looked_up_to_next built o (Below o at e) (path_to e) n c.args.count from (g.R.Looks.looks c.args.rules.now) (g.R.Looks.looks c.loop-number.rules) (g.R.Looks.looks c.in_part.new.rules)
          (λ i j l m. parts_in_order (arguments_of e) i j l (c.requires.arguments j m))
          c.loop-number-test.true c.loop-number.invariant.none c.loop-number.invariant.looks looked);
    }

pub first_part-returns : goal.first_part-returns
first_part-returns g t c =
    let o = origins_of c.args.ground.now.scene.now in
    let e = c.args.at.now in
    let at = around c.args.place.now e in
    record {
      first =
          none_at_all built o (adds_to c.args.ground.now.scene.now) (Below o at e) (path_to e) c.args.count c.loop-number.number c.args.from.now
          (λ p at' x b. c.requires.all o at at' p x refl b) c.loop-number-test.false c.loop-number.invariant.none;
      place = c.loop-number.invariant.same;
      looks =
          looked_at_first built o (Below o at e) (path_to e) c.loop-number.number c.args.count c.args.from.now (g.R.Looks.looks c.args.rules.now) (g.R.Looks.looks c.loop-number.rules)
          (λ i j l m. parts_in_order (arguments_of e) i j l (c.requires.arguments j m))
          (λ p at' x b. c.requires.all o at at' p x refl b) c.loop-number.invariant.looks;
    }

-- one part
pub in_part-path_to-requires : goal.in_part-path_to-requires
in_part-path_to-requires g t c =
    let e = c.args.at.now in
    let args = c.at.inside.args.items in
    let all : arguments_of e ≡ length args = ap arguments_of (sym c.at.view_is) ∙ all_arguments c.at.inside.head args in
    let count : arguments_of e ≡ c.len.result = omega (arith, all, c.len.ensures, c.at.inside.args.ok.0) in
    subst (λ n. IsAmong n c.args.number) count c.requires.number

pub in_part-returns-in_default : goal.in_part-returns-in_default
in_part-returns-in_default g t c =
    let o = origins_of c.args.ground.now.scene.now in
    let e = c.args.at.now in
    let at = around c.args.place.now e in
    let n = c.args.number in
    let from = c.args.from.now in
    let args = c.at.inside.args.items in
    let all : arguments_of e ≡ length args = ap arguments_of (sym c.at.view_is) ∙ all_arguments c.at.inside.head args in
    let count : c.len.result ≡ arguments_of e = omega (arith, all, c.len.ensures, c.at.inside.args.ok.0) in
    let numbers : numbers_of c.in_ok-path.path ≡ path_to e n = c.in_ok-path.ensures ∙ ap (λ k. part_path k n) count in
    record {
      first =
          none_passed built o (AtPath (Below o at e) (path_to e n)) (path_to e n) from (λ p at' x h. h.0)
          (subst (λ p. IsPassed p from) numbers c.in_default.ensures);
      place = refl;
      looks = looked_nowhere built o (From o (AtPath (Below o at e) (path_to e n))) from (g.R.Looks.looks c.args.rules.now);
    }

pub in_part-returns-then-is_quiet_part : goal.in_part-returns-then-is_quiet_part
in_part-returns-then-is_quiet_part g t c =
    let e = c.args.at.now in
    record {
      first =
          passed_in_scene built c.args.ground.now.scene.now (around c.args.place.now e) e c.args.from.now c.args.number
          c.requires.ground.sound c.requires.typed (c.is_quiet_part.ensures c.if-is_quiet_part.true c.args.from.now);
      place = refl;
      looks = looked_nowhere built (origins_of c.args.ground.now.scene.now) (From (origins_of c.args.ground.now.scene.now) (AtPath (Below (origins_of c.args.ground.now.scene.now) (around c.args.place.now e) e) (path_to e c.args.number))) c.args.from.now (g.R.Looks.looks c.args.rules.now);
    }

pub in_part-returns-in_default-2 : goal.in_part-returns-in_default-2
in_part-returns-in_default-2 g t c =
    let o = origins_of c.args.ground.now.scene.now in
    let e = c.args.at.now in
    let at = around c.args.place.now e in
    let path = path_to e c.args.number in
    let none : HasNoPart o at e path = subst (FindsPart o at e path (reverse c.args.place.now.vars)) c.in_default-2.is c.in_ok-part.ensures in
    record {
      first =
          no_places built o (AtPath (Below o at e) path) c.args.from.now
          (λ p at' x h. none at' x (subst (λ q. Below o at e q at' x) h.0 h.1));
      place = refl;
      looks = looked_nowhere built o (From o (AtPath (Below o at e) path)) c.args.from.now (g.R.Looks.looks c.args.rules.now);
    }

pub in_part-first_at-requires : goal.in_part-first_at-requires
in_part-first_at-requires g t c κs h =
    let scene = c.args.ground.now.scene.now in
    let o = origins_of scene in
    let e = c.args.at.now in
    let at = around c.args.place.now e in
    let path = path_to e c.args.number in
    let vars = reverse c.args.place.now.vars in
    let part = c.in-Some-2.part in
    let x = part.term.now in
    let there : Below o at e path (spot_in vars part) x = subst (FindsPart o at e path vars) c.in-Some-2.is c.in_ok-part.ensures in
    let typed = below_typed scene at e c.requires.ground.sound c.requires.typed path (spot_in vars part) x there in
    let falls = below_falls o at (spot_in vars part) e x path there in
    (omega (arith, c.decreases, falls), (h, (c.requires.ground, (c.requires.same, typed))))

pub in_part-returns : goal.in_part-returns
in_part-returns g t c =
    let o = origins_of c.args.ground.now.scene.now in
    let e = c.args.at.now in
    let at = around c.args.place.now e in
    let n = c.args.number in
    let path = path_to e n in
    let vars = reverse c.args.place.now.vars in
    let from = c.args.from.now in
    let left = c.in-Some.left.now in
    let part = c.in-Some-2.part in
    let x = part.term.now in
    let found = c.in_ok-found.found in
    let args = c.at.inside.args.items in
    let all : arguments_of e ≡ length args = ap arguments_of (sym c.at.view_is) ∙ all_arguments c.at.inside.head args in
    let count : c.len.result ≡ arguments_of e = omega (arith, all, c.len.ensures, c.at.inside.args.ok.0) in
    let numbers : numbers_of c.in_ok-path.path ≡ path = c.in_ok-path.ensures ∙ ap (λ k. part_path k n) count in
    let begins = subst (λ p. BeginsAt p from left) numbers c.in-Some.ensures in
    let there : Below o at e path (spot_in vars part) x = subst (FindsPart o at e path vars) c.in-Some-2.is c.in_ok-part.ensures in
    record {
      first =
          ok_more c.behind.result _ _
          (λ answer on. found_at_part built o (adds_to c.args.ground.now.scene.now) at (spot_in vars part) e x path from left found answer there begins c.in_ok-found.ensures.first
          (subst (λ p. GoesOn p found answer) numbers on))
          c.behind.ensures;
      place = on_ok c.behind.result _ c.in_ok-found.ensures.place;
      looks = looked_at_part built o at (spot_in vars part) e x path from left (g.R.Looks.looks c.args.rules.now) (g.R.Looks.looks c.first_at.new.rules) there begins c.first_at.ensures.looks;
    }

-- a part with its mode and its variables
pub first_at-first_from-requires : goal.first_at-first_from-requires
first_at-first_from-requires g t c κs h =
    let s = setting_in c.args.ground.now.scene.now in
    let place = c.args.place.now in
    let part = c.args.part in
    let x = part.term.now in
    let more = part.more.items in
    let inner : Place = record { mode = part.mode; result = part.gives; vars = place.vars ++ more } in
    let mode : c.replace-outer_mode.new.dest ≡ part.mode = c.replace-outer_mode.ensures.after in
    let gives : c.replace-outer_result.new.dest ≡ part.gives = c.replace-outer_result.ensures.after in
    let entered : c.enter.new.place ≡ inner = c.in_ok-enter.ensures ∙ (λ i. record { mode = mode i; result = gives i; vars = place.vars ++ more }) in
    let typed = subst (λ vs. IsTypedAt s (spot part.mode part.gives vs) x) (sym (more_in_scope place.vars more)) c.requires.typed in
    (omega (arith, c.decreases), (h, (c.requires.ground, (c.requires.same, subst (λ p. IsTypedAt s (spot_of p) x) (sym entered) typed))))

pub first_at-returns : goal.first_at-returns
first_at-returns g t c =
    let o = origins_of c.args.ground.now.scene.now in
    let place = c.args.place.now in
    let part = c.args.part in
    let x = part.term.now in
    let more = part.more.items in
    let inner : Place = record { mode = part.mode; result = part.gives; vars = place.vars ++ more } in
    let mode : c.replace-outer_mode.new.dest ≡ part.mode = c.replace-outer_mode.ensures.after in
    let gives : c.replace-outer_result.new.dest ≡ part.gives = c.replace-outer_result.ensures.after in
    let entered : c.enter.new.place ≡ inner = c.in_ok-enter.ensures ∙ (λ i. record { mode = mode i; result = gives i; vars = place.vars ++ more }) in
    let after : c.first_from.new.place ≡ inner = c.in_ok-found.ensures.place ∙ entered in
    let outside : c.len-outside.result ≡ length place.vars = c.len-outside.ensures in
    let outer_mode : c.replace-outer_mode.result ≡ place.mode = c.replace-outer_mode.ensures.value in
    let outer_result : c.replace-outer_result.result ≡ place.result = c.replace-outer_result.ensures.value in
    let vars : c.leave.new.place.vars ≡ place.vars =
    ap (λ (p : Place). p.vars) c.leave.ensures ∙ (λ i. take (outside i) (after i).vars) ∙ take-append_seam place.vars more in
    record {
      first =
          subst (λ at. FindsFirst built o (adds_to c.args.ground.now.scene.now) (IsActive o at x) c.args.from.now c.in_ok-found.found)
          (ap spot_of entered ∙ ap (spot part.mode part.gives) (more_in_scope place.vars more)) c.in_ok-found.ensures.first;
      place = λ i. record { mode = outer_mode i; result = outer_result i; vars = vars i };
      looks =
          subst (λ at. LooksAtPaths built o (IsActive o at x) c.args.from.now (g.R.Looks.looks c.args.rules.now) (g.R.Looks.looks c.first_from.new.rules))
          (ap spot_of entered ∙ ap (spot part.mode part.gives) (more_in_scope place.vars more)) c.first_from.ensures.looks;
    }

-- where memory is wanting, what was tried before
pub first_from-returns-in_err-trial-clause-looks : goal.first_from-returns-in_err-trial-clause-looks
first_from-returns-in_err-trial-clause-looks g t c =
    let o = origins_of c.args.ground.now.scene.now in
    let e = c.args.at.now in
    looked_here built o (spot_of c.args.place.now) e c.args.from.now (g.R.Looks.looks c.args.rules.now) (g.R.Looks.looks c.first_rule.new.self) c.first_rule.ensures.looks

pub below-returns-in_err-first-clause-looks : goal.below-returns-in_err-first-clause-looks
below-returns-in_err-first-clause-looks g t c =
    let o = origins_of c.args.ground.now.scene.now in
    let e = c.args.at.now in
    looked_nowhere built o (From o (Below o (spot_of c.args.place.now) e)) c.args.from.now (g.R.Looks.looks c.args.rules.now)

pub below-returns-in_err-enter_group_again-clause-looks : goal.below-returns-in_err-enter_group_again-clause-looks
below-returns-in_err-enter_group_again-clause-looks g t c =
    let o = origins_of c.args.ground.now.scene.now in
    let e = c.args.at.now in
    looked_nowhere built o (From o (Below o (spot_of c.args.place.now) e)) c.args.from.now (g.R.Looks.looks c.args.rules.now)

pub below-returns-in_err-found-clause-looks : goal.below-returns-in_err-found-clause-looks
below-returns-in_err-found-clause-looks g t c =
    let o = origins_of c.args.ground.now.scene.now in
    let e = c.args.at.now in
    let place = c.args.place.now in
    let entered : c.enter_group_again.new.place ≡ with_variables place (place.vars ++ declares e) =
    c.in_ok-enter_group_again.ensures ∙ ap (λ ts. with_variables place (place.vars ++ ts)) c.group_around_parts.ensures in
    subst (λ at. LooksAtPaths built o (From o (Below o at e)) c.args.from.now (g.R.Looks.looks c.args.rules.now) (g.R.Looks.looks c.first_part.new.rules))
    (ap (λ p. around p e) entered ∙ around_inner place e) c.first_part.ensures.looks

pub below-returns-in_err-leave_with_spare-clause-looks : goal.below-returns-in_err-leave_with_spare-clause-looks
below-returns-in_err-leave_with_spare-clause-looks g t c =
    let o = origins_of c.args.ground.now.scene.now in
    let e = c.args.at.now in
    let place = c.args.place.now in
    let entered : c.enter_group_again.new.place ≡ with_variables place (place.vars ++ declares e) =
    c.in_ok-enter_group_again.ensures ∙ ap (λ ts. with_variables place (place.vars ++ ts)) c.group_around_parts.ensures in
    subst (λ at. LooksAtPaths built o (From o (Below o at e)) c.args.from.now (g.R.Looks.looks c.args.rules.now) (g.R.Looks.looks c.first_part.new.rules))
    (ap (λ p. around p e) entered ∙ around_inner place e) c.first_part.ensures.looks

pub first_part-returns-in_err-found-clause-looks : goal.first_part-returns-in_err-found-clause-looks
first_part-returns-in_err-found-clause-looks g t c =
    let o = origins_of c.args.ground.now.scene.now in
    let e = c.args.at.now in
    let at = around c.args.place.now e in
    let n = c.loop-number.number in
    let from = c.args.from.now in
    let looked =
    subst (λ p. LooksAtPaths built o (From o (AtPath (Below o (around p e) e) (path_to e n))) from (g.R.Looks.looks c.loop-number.rules) (g.R.Looks.looks c.in_part.new.rules))
    c.loop-number.invariant.same c.in_part.ensures.looks in
    looked_at_first built o (Below o at e) (path_to e) (suc n) c.args.count from (g.R.Looks.looks c.args.rules.now) (g.R.Looks.looks c.in_part.new.rules)
    (λ i j l m. parts_in_order (arguments_of e) i j l (c.requires.arguments j m))
    (λ p at' x b. c.requires.all o at at' p x refl b)
    (looked_up_to_next built o (Below o at e) (path_to e) n c.args.count from (g.R.Looks.looks c.args.rules.now) (g.R.Looks.looks c.loop-number.rules) (g.R.Looks.looks c.in_part.new.rules)
    (λ i j l m. parts_in_order (arguments_of e) i j l (c.requires.arguments j m))
    c.loop-number-test.true c.loop-number.invariant.none c.loop-number.invariant.looks looked)

pub in_part-returns-in_err-path-clause-looks : goal.in_part-returns-in_err-path-clause-looks
in_part-returns-in_err-path-clause-looks g t c =
    let o = origins_of c.args.ground.now.scene.now in
    let e = c.args.at.now in
    looked_nowhere built o (From o (AtPath (Below o (around c.args.place.now e) e) (path_to e c.args.number))) c.args.from.now (g.R.Looks.looks c.args.rules.now)

pub in_part-returns-in_err-part-clause-looks : goal.in_part-returns-in_err-part-clause-looks
in_part-returns-in_err-part-clause-looks g t c =
    let o = origins_of c.args.ground.now.scene.now in
    let e = c.args.at.now in
    looked_nowhere built o (From o (AtPath (Below o (around c.args.place.now e) e) (path_to e c.args.number))) c.args.from.now (g.R.Looks.looks c.args.rules.now)

pub in_part-returns-in_err-found-clause-looks : goal.in_part-returns-in_err-found-clause-looks
in_part-returns-in_err-found-clause-looks g t c =
    let o = origins_of c.args.ground.now.scene.now in
    let e = c.args.at.now in
    let at = around c.args.place.now e in
    let n = c.args.number in
    let path = path_to e n in
    let vars = reverse c.args.place.now.vars in
    let from = c.args.from.now in
    let left = c.in-Some.left.now in
    let part = c.in-Some-2.part in
    let x = part.term.now in
    let args = c.at.inside.args.items in
    let all : arguments_of e ≡ length args = ap arguments_of (sym c.at.view_is) ∙ all_arguments c.at.inside.head args in
    let count : c.len.result ≡ arguments_of e = omega (arith, all, c.len.ensures, c.at.inside.args.ok.0) in
    let numbers : numbers_of c.in_ok-path.path ≡ path = c.in_ok-path.ensures ∙ ap (λ k. part_path k n) count in
    let begins = subst (λ p. BeginsAt p from left) numbers c.in-Some.ensures in
    let there : Below o at e path (spot_in vars part) x = subst (FindsPart o at e path vars) c.in-Some-2.is c.in_ok-part.ensures in
    looked_at_part built o at (spot_in vars part) e x path from left (g.R.Looks.looks c.args.rules.now) (g.R.Looks.looks c.first_at.new.rules) there begins c.first_at.ensures.looks

pub first_at-returns-in_err-enter-clause-looks : goal.first_at-returns-in_err-enter-clause-looks
first_at-returns-in_err-enter-clause-looks g t c =
    let o = origins_of c.args.ground.now.scene.now in
    let place = c.args.place.now in
    let part = c.args.part in
    let x = part.term.now in
    looked_nowhere built o (IsActive o (spot_in (reverse place.vars) part) x) c.args.from.now (g.R.Looks.looks c.args.rules.now)

pub first_at-returns-in_err-found-clause-looks : goal.first_at-returns-in_err-found-clause-looks
first_at-returns-in_err-found-clause-looks g t c =
    let o = origins_of c.args.ground.now.scene.now in
    let place = c.args.place.now in
    let part = c.args.part in
    let x = part.term.now in
    let more = part.more.items in
    let inner : Place = record { mode = part.mode; result = part.gives; vars = place.vars ++ more } in
    let mode : c.replace-outer_mode.new.dest ≡ part.mode = c.replace-outer_mode.ensures.after in
    let gives : c.replace-outer_result.new.dest ≡ part.gives = c.replace-outer_result.ensures.after in
    let entered : c.enter.new.place ≡ inner = c.in_ok-enter.ensures ∙ (λ i. record { mode = mode i; result = gives i; vars = place.vars ++ more }) in
    subst (λ at. LooksAtPaths built o (IsActive o at x) c.args.from.now (g.R.Looks.looks c.args.rules.now) (g.R.Looks.looks c.first_from.new.rules))
    (ap spot_of entered ∙ ap (spot part.mode part.gives) (more_in_scope place.vars more)) c.first_from.ensures.looks
