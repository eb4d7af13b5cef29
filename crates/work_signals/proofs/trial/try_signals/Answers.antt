use Rattle.std.proofs.Common.{◌≡◌, ◌∙◌, ◌<◌, ◌++◌, true, false, ap, sym, subst, length, None}
use Rattle.std.proofs.Common.{arith}
use Rattle.std.specs.Option.{option_map}
use Rattle.std.proofs.lemmas.List.{take-append-drop}
use Rattle.std.proofs.lemmas.Result.{IfOk-weaker}
use Rattle.chw_terms.specs.declared.rule.Rule.TheVariants.{ApPure}
use Rattle.chw_terms.specs.TermView.{tree_of, applied}
use Rattle.rewriting.specs.Origins.{origins_of}
use Rattle.rewriting.specs.Spots.{spot_of}
use Rattle.rule_parts.specs.Cores.{Answers}
use Rattle.rule_parts.proofs.Heads.{bare}
use Rattle.work_signals.proofs.Fives.{nothing_outside, nothing_of_fewer, behind_five}
use Rattle.work_signals.proofs.trial.try_signals.Goals as goal

pub returns-then-not-is_of_circuit : goal.returns-then-not-is_of_circuit
returns-then-not-is_of_circuit c =
    nothing_outside (origins_of c.args.scene.now) (spot_of c.args.place.now) c.args.at.now
    (λ m.
    let no : false ≡ true = sym c.if-not-is_of_circuit.true ∙ c.is_of_circuit.ensures.1 m in
    absurd cc)

pub returns-then-len-lt-LIFTED_ARGUMENTS : goal.returns-then-len-lt-LIFTED_ARGUMENTS
returns-then-len-lt-LIFTED_ARGUMENTS c =
    let o = origins_of c.args.scene.now in
    let at = spot_of c.args.place.now in
    let h = c.at.inside.head in
    let args = c.at.inside.args in
    let few : length args.items < 5 =
    omega (arith, c.len.ensures, args.ok.0, c.if-len-lt-LIFTED_ARGUMENTS.true) in
    subst (λ e. Answers o at ApPure e None) c.at.view_is
    (nothing_of_fewer o at (tree_of h) args.items (bare h) few)

pub returns : goal.returns
returns c =
    let o = origins_of c.args.scene.now in
    let at = spot_of c.args.place.now in
    let h = c.at.inside.head in
    let items = c.at.inside.args.items in
    let args = c.split_at.result.0.now in
    let rest = c.split_at.result.1.now in
    let made = c.in_ok-made.made in
    let parts : args ++ rest ≡ items =
    (λ i. c.split_at.ensures.front i ++ c.split_at.ensures.back i)
    ∙ take-append-drop 5 c.deref.result.now
    ∙ c.deref.ensures.value in
    let whole : applied (tree_of h) (args ++ rest) ≡ c.args.at.now =
    ap (applied (tree_of h)) parts ∙ c.at.view_is in
    let circuit = c.is_of_circuit.ensures.0 c.if-not-is_of_circuit.false in
    let all : Answers o at ApPure c.args.at.now (option_map (λ e. applied e rest) made) =
    subst (λ e. Answers o at ApPure e (option_map (λ e. applied e rest) made)) whole
    (behind_five o at (tree_of h) args rest made (bare h) circuit c.split_at.ensures.front_len
    c.in_ok-made.ensures) in
    IfOk-weaker c.with_rest.result _ _
    (λ it is. subst (Answers o at ApPure c.args.at.now) (sym is) all) c.with_rest.ensures
