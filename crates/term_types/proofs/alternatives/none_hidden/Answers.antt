use Rattle.std.proofs.Common.{[], take, refl, sym, subst, ◌∙◌, arith}
use Rattle.std.specs.List.{list_any}
use Rattle.std.proofs.lemmas.Bool.{false≢true}
use Rattle.chw_terms.specs.declared.term.Alt.{Alt}
use Rattle.chw_typing.specs.Alternatives.{Hides}
use Rattle.term_types.specs.contracts.alternatives.KeyPartialEq.TheImpl.{eq-value}
use Rattle.seen_types.specs.Each.{Each}
use Rattle.term_types.proofs.HiddenFound.{hidden_at, none_next, none_all, some_next}
use Rattle.term_types.proofs.Keyed.{AreFor, found_hides, none_hides, no_default}
use Rattle.term_types.proofs.PatternKeys.{pattern_keys, keys_of_none, keyed_next, not_new, is_new}
use Rattle.term_types.proofs.alternatives.none_hidden.Goals as goal

pub loop-alt-init : goal.loop-alt-init
loop-alt-init c = record {
  none = tt;
  keyed = λ e. subst (λ ks. AreFor pattern_keys ks []) (sym c.new-seen.ensures.empty) tt;
  ended = λ e. absurd (false≢true e);
}

pub returns-then-has_default : goal.returns-then-has_default
returns-then-has_default c =
    let l = c.loop-alt in
    let a = c.alt-item.result in
    (λ y. absurd (false≢true y), λ h. absurd (hidden_at c.args.alts.now l.alt-index a _ c.loop-alt-test.true c.alt-item.is (l.invariant.ended c.if-has_default.true a.pattern) h))

pub loop-alt-preserved-in_default : goal.loop-alt-preserved-in_default
loop-alt-preserved-in_default c =
    let l = c.loop-alt in
    let a = c.alt-item.result in
    let alts = c.args.alts.now in
    let keyed = l.invariant.keyed c.if-has_default.false in
    let hides = subst (λ p. Each (λ (x : Alt). Hides x.pattern p → ⊥) (take l.alt-index alts)) (sym c.in_default.ensures) (no_default pattern_keys l.seen.keys (take l.alt-index alts) keys_of_none keyed) in
    record {
      none = none_next alts l.alt-index a _ c.loop-alt-test.true c.alt-item.is l.invariant.none hides;
      keyed = λ e. absurd (false≢true (sym e));
      ended = λ e p. some_next p alts l.alt-index a _ c.loop-alt-test.true c.alt-item.is (subst (λ q. Hides q p) (sym c.in_default.ensures) tt);
    }

pub returns-then-not-branch : goal.returns-then-not-branch
returns-then-not-branch c =
    let l = c.loop-alt in
    let a = c.alt-item.result in
    let key = c.in-Some.key in
    let any = not_new (list_any (λ k. eq-value.it key k) l.seen.keys) c.in_ok-insert.field-0 c.in_ok-insert.ensures.added c.if-not-branch.true in
    let hides = found_hides pattern_keys l.seen.keys (take l.alt-index c.args.alts.now) key a.pattern (l.invariant.keyed c.if-has_default.false) c.in-Some.ensures any in
    (λ y. absurd (false≢true y), λ h. absurd (hidden_at c.args.alts.now l.alt-index a _ c.loop-alt-test.true c.alt-item.is hides h))

pub loop-alt-preserved : goal.loop-alt-preserved
loop-alt-preserved c =
    let l = c.loop-alt in
    let a = c.alt-item.result in
    let alts = c.args.alts.now in
    let key = c.in-Some.key in
    let keyed = l.invariant.keyed c.if-has_default.false in
    let any = is_new (list_any (λ k. eq-value.it key k) l.seen.keys) c.in_ok-insert.field-0 c.in_ok-insert.ensures.added c.if-not-branch.false in
    record {
      none = none_next alts l.alt-index a _ c.loop-alt-test.true c.alt-item.is l.invariant.none (none_hides pattern_keys l.seen.keys (take l.alt-index alts) key a.pattern keyed c.in-Some.ensures any);
      keyed = λ e. keyed_next alts l.alt-index a _ l.seen.keys c.insert.new.self.keys key c.loop-alt-test.true c.alt-item.is keyed c.in-Some.ensures any c.in_ok-insert.ensures.keys;
      ended = λ e. absurd (false≢true (sym c.if-has_default.false ∙ e));
    }

pub returns : goal.returns
returns c =
    (λ y. none_all c.args.alts.now c.loop-alt.alt-index (omega (arith, c.loop-alt-test.false)) c.loop-alt.invariant.none, λ h. refl)
