use Rattle.std.proofs.Common.{◌≡◌, ◌∙◌, ◌++◌, ◌+◌, suc, length, reverse, take, refl, sym, ap, subst, arith}
use Rattle.std.proofs.Math.Seq.{take-append_seam}
use Rattle.chw_terms.specs.declared.scene.Place.{Place}
use Rattle.chw_typing.specs.Scopes.{setting_in}
use Rattle.rewriting.specs.Origins.{origins_of}
use Rattle.rewriting.specs.Active.{Below}
use Rattle.rewriting.specs.Spots.{spot, spot_of}
use Rattle.active_parts.specs.Grounds.{IsTypedAt, with_variables}
use Rattle.active_parts.specs.Parts.{arguments_of, around, declares, numbers_of, part_path, path_to, spot_in}
use Rattle.active_parts.specs.Parts.{IsAmong, IsInside, HasNoPart, FindsPart, AreAmongFirst}
use Rattle.active_parts.proofs.Falls.{below_falls}
use Rattle.active_parts.proofs.Options.{ok_more, on_ok}
use Rattle.active_parts.proofs.Scoped.{around_inner, is_inside, left_again, more_in_scope}
use Rattle.active_parts.proofs.Spines.{all_arguments}
use Rattle.active_parts.proofs.Typed.{below_typed}
use Rattle.active_parts.proofs.Ways.{parts_in_order}
use Rattle.blocked_places.specs.Answers.{AnswersBlock, block_of}
use Rattle.blocked_places.specs.Walks.{FindsFirst, GoesOn, IsActiveBlock, IsBlockBelow, IsBlockAtPart}
use Rattle.blocked_places.proofs.Nearest.{NoneBefore, found_here, found_below, found_at_part, none_at_start, none_up_to_next}
use Rattle.blocked_places.proofs.Nearest.{none_at_all, found_at_number}
use Rattle.blocked_places.proofs.walk.+walk.Goals as goal

-- the place itself, and then what is below it
pub first_from-returns-in-Some : goal.first_from-returns-in-Some
first_from-returns-in-Some t c =
    let o = origins_of c.args.ground.now.scene.now in
    let at = spot_of c.args.place.now in
    let e = c.args.at.now in
    let blocks = subst (AnswersBlock o at e) c.in-Some.is c.in_ok-block.ensures.first in
    record {
      first = found_here o at e c.new.result.items (block_of c.in-Some.block) blocks c.new.ensures.items;
      place = refl;
      same = c.block_at.ensures.same;
    }

pub first_from-below-requires : goal.first_from-below-requires
first_from-below-requires t c =
    (omega (arith, c.decreases), (c.requires.ground, (c.requires.typed, c.block_at.ensures.same ∙ c.requires.widths)))

pub first_from-returns : goal.first_from-returns
first_from-returns t c =
    let o = origins_of c.args.ground.now.scene.now in
    let at = spot_of c.args.place.now in
    let e = c.args.at.now in
    let free = subst (AnswersBlock o at e) c.in_default.is c.in_ok-block.ensures.first in
    record {
      first = ok_more c.below.result _ _ (λ answer is. found_below o at e answer free is) c.below.ensures.first;
      place = c.below.ensures.place;
      same = c.below.ensures.same ∙ c.block_at.ensures.same;
    }

-- below a place
pub below-returns-then-count-eq0 : goal.below-returns-then-count-eq0
below-returns-then-count-eq0 t c =
    let o = origins_of c.args.ground.now.scene.now in
    let at = spot_of c.args.place.now in
    record {
      first = λ p b x.
          let i = c.count_parts-count.ensures.first o at x.spot x.part x.term refl x.below in
          omega (arith, i.1, c.if-count-eq0.true);
      place = refl;
      same = refl;
    }

pub below-first_part-requires : goal.below-first_part-requires
below-first_part-requires t c =
    let s = setting_in c.args.ground.now.scene.now in
    let place = c.args.place.now in
    let e = c.args.at.now in
    let n = c.count_parts-count.result in
    let entered : c.enter_group.new.place ≡ with_variables place (place.vars ++ declares e) =
    c.in_ok-enter_group.ensures ∙ ap (λ ts. with_variables place (place.vars ++ ts)) c.group_around_parts.ensures in
    let typed = subst (λ at. IsTypedAt s at e) (sym (around_inner place e)) c.requires.typed in (
      omega (arith, c.decreases),
      (
        c.requires.ground,
        (
          subst (λ p. IsInside p e) (sym entered) (is_inside place e),
          (
            subst (λ p. IsTypedAt s (around p e) e) (sym entered) typed,
            (
              subst (λ (p : Place). AreAmongFirst p.mode e n) (sym entered) c.count_parts-count.ensures.first,
              (c.count_parts-count.ensures.arguments, c.requires.widths),
            ),
          ),
        ),
      ),
    )

pub below-returns : goal.below-returns
below-returns t c =
    let o = origins_of c.args.ground.now.scene.now in
    let place = c.args.place.now in
    let e = c.args.at.now in
    let entered : c.enter_group.new.place ≡ with_variables place (place.vars ++ declares e) =
    c.in_ok-enter_group.ensures ∙ ap (λ ts. with_variables place (place.vars ++ ts)) c.group_around_parts.ensures in
    let after : c.first_part.new.place ≡ with_variables place (place.vars ++ declares e) = c.in_ok-found.ensures.place ∙ entered in
    let outside : c.len-outside.result ≡ length place.vars = c.len-outside.ensures in
    record {
      first =
          subst (λ at. FindsFirst (IsBlockBelow o at e) c.in_ok-found.found) (ap (λ p. around p e) entered ∙ around_inner place e)
          c.in_ok-found.ensures.first;
      place = c.leave.ensures ∙ (λ i. with_variables (after i) (take (outside i) (after i).vars)) ∙ left_again place (declares e);
      same = c.first_part.ensures.same;
    }

-- the parts in turn
pub first_part-loop-number-init : goal.first_part-loop-number-init
first_part-loop-number-init t c =
    let o = origins_of c.args.ground.now.scene.now in
    let e = c.args.at.now in
    record { same = refl; widths = refl; none = none_at_start o (around c.args.place.now e) e (path_to e) }

pub first_part-in_part-requires : goal.first_part-in_part-requires
first_part-in_part-requires t c =
    let s = setting_in c.args.ground.now.scene.now in
    let e = c.args.at.now in
    let same = sym c.loop-number.invariant.same in (
      omega (arith, c.decreases),
      (
        c.requires.ground,
        (
          subst (λ p. IsInside p e) same c.requires.inside,
          (
            subst (λ p. IsTypedAt s (around p e) e) same c.requires.typed,
            (c.requires.arguments c.loop-number.number c.loop-number-test.true, c.loop-number.invariant.widths ∙ c.requires.widths),
          ),
        ),
      ),
    )

pub first_part-returns-then-is_some : goal.first_part-returns-then-is_some
first_part-returns-then-is_some t c =
    let o = origins_of c.args.ground.now.scene.now in
    let e = c.args.at.now in
    let at = around c.args.place.now e in
    let n = c.loop-number.number in
    let found = c.in_ok-found.found in
    let here =
    subst (λ p. FindsFirst (IsBlockAtPart o (around p e) e (path_to e n)) found) c.loop-number.invariant.same c.in_ok-found.ensures.first in
    record {
      first =
          found_at_number o at e (path_to e) n c.args.count found (sym c.is_some.ensures ∙ c.if-is_some.true)
          (λ p at' x b. c.requires.all o at at' p x refl b)
          (λ i j l m. parts_in_order (arguments_of e) i j l (c.requires.arguments j m))
          c.loop-number.invariant.none here;
      place = c.in_ok-found.ensures.place ∙ c.loop-number.invariant.same;
      same = c.in_part.ensures.same ∙ c.loop-number.invariant.widths;
    }

pub first_part-loop-number-preserved : goal.first_part-loop-number-preserved
first_part-loop-number-preserved t c =
    let o = origins_of c.args.ground.now.scene.now in
    let e = c.args.at.now in
    let at = around c.args.place.now e in
    let n = c.loop-number.number in
    let found = c.in_ok-found.found in
    let here =
    subst (λ p. FindsFirst (IsBlockAtPart o (around p e) e (path_to e n)) found) c.loop-number.invariant.same c.in_ok-found.ensures.first in
    let next : suc n ≡ n + 1 = omega arith in
    record {
      same = c.in_ok-found.ensures.place ∙ c.loop-number.invariant.same;
      widths = c.in_part.ensures.same ∙ c.loop-number.invariant.widths;
      none =
          subst (NoneBefore o at e (path_to e)) next
          (none_up_to_next o at e (path_to e) n found (sym c.is_some.ensures ∙ c.if-is_some.false) c.loop-number.invariant.none here);
    }

pub first_part-returns : goal.first_part-returns
first_part-returns t c =
    let o = origins_of c.args.ground.now.scene.now in
    let e = c.args.at.now in
    let at = around c.args.place.now e in
    record {
      first =
          none_at_all o at e (path_to e) c.args.count c.loop-number.number (λ p at' x b. c.requires.all o at at' p x refl b)
          c.loop-number-test.false c.loop-number.invariant.none;
      place = c.loop-number.invariant.same;
      same = c.loop-number.invariant.widths;
    }

-- one part
pub in_part-path_to-requires : goal.in_part-path_to-requires
in_part-path_to-requires t c =
    let e = c.args.at.now in
    let args = c.at.inside.args.items in
    let all : arguments_of e ≡ length args = ap arguments_of (sym c.at.view_is) ∙ all_arguments c.at.inside.head args in
    let count : arguments_of e ≡ c.len.result = omega (arith, all, c.len.ensures, c.at.inside.args.ok.0) in
    subst (λ n. IsAmong n c.args.number) count c.requires.number

pub in_part-returns-in_default : goal.in_part-returns-in_default
in_part-returns-in_default t c =
    let o = origins_of c.args.ground.now.scene.now in
    let e = c.args.at.now in
    let at = around c.args.place.now e in
    let path = path_to e c.args.number in
    let none : HasNoPart o at e path = subst (FindsPart o at e path (reverse c.args.place.now.vars)) c.in_default.is c.in_ok-part.ensures in
    record { first = λ p b x. none x.spot x.term x.below; place = refl; same = refl }

pub in_part-first_at-requires : goal.in_part-first_at-requires
in_part-first_at-requires t c =
    let scene = c.args.ground.now.scene.now in
    let o = origins_of scene in
    let e = c.args.at.now in
    let at = around c.args.place.now e in
    let path = path_to e c.args.number in
    let vars = reverse c.args.place.now.vars in
    let part = c.in-Some.part in
    let x = part.term.now in
    let there : Below o at e path (spot_in vars part) x = subst (FindsPart o at e path vars) c.in-Some.is c.in_ok-part.ensures in
    let typed = below_typed scene at e c.requires.ground.sound c.requires.typed path (spot_in vars part) x there in
    let falls = below_falls o at (spot_in vars part) e x path there in
    (omega (arith, c.decreases, falls), (c.requires.ground, (typed, c.requires.widths)))

pub in_part-returns : goal.in_part-returns
in_part-returns t c =
    let o = origins_of c.args.ground.now.scene.now in
    let e = c.args.at.now in
    let at = around c.args.place.now e in
    let n = c.args.number in
    let path = path_to e n in
    let vars = reverse c.args.place.now.vars in
    let part = c.in-Some.part in
    let x = part.term.now in
    let found = c.in_ok-found.found in
    let args = c.at.inside.args.items in
    let all : arguments_of e ≡ length args = ap arguments_of (sym c.at.view_is) ∙ all_arguments c.at.inside.head args in
    let count : c.len.result ≡ arguments_of e = omega (arith, all, c.len.ensures, c.at.inside.args.ok.0) in
    let numbers : numbers_of c.in_ok-path.path ≡ path = c.in_ok-path.ensures ∙ ap (λ k. part_path k n) count in
    let there : Below o at e path (spot_in vars part) x = subst (FindsPart o at e path vars) c.in-Some.is c.in_ok-part.ensures in
    record {
      first =
          ok_more c.behind.result _ _
          (λ answer on. found_at_part o at (spot_in vars part) e x path found answer there c.in_ok-found.ensures.first
          (subst (λ p. GoesOn p found answer) numbers on))
          c.behind.ensures;
      place = on_ok c.behind.result _ c.in_ok-found.ensures.place;
      same = c.first_at.ensures.same;
    }

-- a part with its mode and its variables
pub first_at-first_from-requires : goal.first_at-first_from-requires
first_at-first_from-requires t c =
    let s = setting_in c.args.ground.now.scene.now in
    let place = c.args.place.now in
    let part = c.args.part in
    let x = part.term.now in
    let more = part.more.items in
    let inner : Place = record { mode = part.mode; result = part.gives; vars = place.vars ++ more } in
    let mode : c.replace-outer_mode.new.dest ≡ part.mode = c.replace-outer_mode.ensures.after in
    let gives : c.replace-outer_result.new.dest ≡ part.gives = c.replace-outer_result.ensures.after in
    let entered : c.enter.new.place ≡ inner = c.in_ok-enter.ensures ∙ (λ i. record { mode = mode i; result = gives i; vars = place.vars ++ more }) in
    let typed = subst (λ vs. IsTypedAt s (spot part.mode part.gives vs) x) (sym (more_in_scope place.vars more)) c.requires.typed in
    (omega (arith, c.decreases), (c.requires.ground, (subst (λ p. IsTypedAt s (spot_of p) x) (sym entered) typed, c.requires.widths)))

pub first_at-returns : goal.first_at-returns
first_at-returns t c =
    let o = origins_of c.args.ground.now.scene.now in
    let place = c.args.place.now in
    let part = c.args.part in
    let x = part.term.now in
    let more = part.more.items in
    let inner : Place = record { mode = part.mode; result = part.gives; vars = place.vars ++ more } in
    let mode : c.replace-outer_mode.new.dest ≡ part.mode = c.replace-outer_mode.ensures.after in
    let gives : c.replace-outer_result.new.dest ≡ part.gives = c.replace-outer_result.ensures.after in
    let entered : c.enter.new.place ≡ inner = c.in_ok-enter.ensures ∙ (λ i. record { mode = mode i; result = gives i; vars = place.vars ++ more }) in
    let after : c.first_from.new.place ≡ inner = c.in_ok-found.ensures.place ∙ entered in
    let outside : c.len-outside.result ≡ length place.vars = c.len-outside.ensures in
    let outer_mode : c.replace-outer_mode.result ≡ place.mode = c.replace-outer_mode.ensures.value in
    let outer_result : c.replace-outer_result.result ≡ place.result = c.replace-outer_result.ensures.value in
    let vars : c.leave.new.place.vars ≡ place.vars =
    ap (λ (p : Place). p.vars) c.leave.ensures ∙ (λ i. take (outside i) (after i).vars) ∙ take-append_seam place.vars more in
    record {
      first =
          subst (λ at. FindsFirst (IsActiveBlock o at x) c.in_ok-found.found)
          (ap spot_of entered ∙ ap (spot part.mode part.gives) (more_in_scope place.vars more)) c.in_ok-found.ensures.first;
      place = λ i. record { mode = outer_mode i; result = outer_result i; vars = vars i };
      same = c.first_from.ensures.same;
    }
