use Rattle.std.proofs.Common.{◌↔◌, IsTrue, subst, sym}
use Rattle.rule_parts.specs.Cores.{HasTypeAt}
use Rattle.seen_types.proofs.Matched.{ok_more}
use Rattle.rewriting.specs.Origins.{origins_of}
use Rattle.rewriting.specs.Spots.{spot_of}
use Rattle.chw_terms.specs.TermView.{tree_of}
use Rattle.specialise.specs.Calls.{NoneNeedsName}
use Rattle.call_types.specs.Arguments.{AllTyped}
use Rattle.call_types.proofs.Arguments.{arguments_typed}
use Rattle.specialise.specs.Calls.{IsPlain}
use Rattle.specialise.proofs.Called.{not_plain, plain_there, plain_needs_none}
use Rattle.specialise.proofs.calls.is_plain.Goals as goal

pub returns-in-Global : goal.returns-in-Global
returns-in-Global c =
    let o = origins_of c.args.scene.now in
    let at = spot_of c.args.place.now in
    let e = c.args.at.now in
    let h = c.at.inside.head in
    let items = c.at.inside.args.items in
    let seen = c.deref.result.now in
    ok_more c.none_needs_name.result (λ yes. IsTrue yes ↔ NoneNeedsName o at seen)
    (λ yes. IsTrue yes ↔ IsPlain o at e)
    (λ yes told. (
      λ t. plain_there h c.in-Global.field-0 items c.in-Global.is c.at.view_is
          (subst (NoneNeedsName o at) c.deref.ensures.value (told.0 t)),
      λ p. told.1 (subst (NoneNeedsName o at) (sym c.deref.ensures.value)
          (plain_needs_none h items c.at.view_is p)),
    ))
    c.none_needs_name.ensures

pub returns-in_default : goal.returns-in_default
returns-in_default c = (
  λ t. absurd cc,
  λ p. absurd (not_plain c.at.inside.head c.at.inside.args.items c.in_default.not-Global
      c.at.view_is p),
)

pub none_needs_name-requires-clause-typed : goal.none_needs_name-requires-clause-typed
none_needs_name-requires-clause-typed c =
    let o = origins_of c.args.scene.now in
    let at = spot_of c.args.place.now in
    subst (AllTyped o at) (sym c.deref.ensures.value)
    (arguments_typed o at (tree_of c.at.inside.head) c.at.inside.args.items
    (subst (HasTypeAt o at) (sym c.at.view_is) c.requires.typed))
