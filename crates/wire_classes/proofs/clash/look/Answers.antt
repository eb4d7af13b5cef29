use Rattle.std.proofs.Common.{◌+◌, [], ◌∷◌, ◌++◌, Some, refl, sym, ap, subst, ◌∙◌, arith}
use Rattle.std.proofs.lemmas.Option.{slice_get_read}
use Rattle.std.proofs.lemmas.List.{get_or_read}
use Rattle.wire_classes.specs.Closed.{label_of}
use Rattle.wire_classes.specs.Keys.{AreLooked, KeysClash}
use Rattle.wire_classes.proofs.Looks.{first_within, looked_clash, looked_new, looked_old, with_new}
use Rattle.wire_classes.proofs.clash.look.Goals as goal

pub index-first-requires : goal.index-first-requires
index-first-requires c =
    let here = slice_get_read c.args.keys.now _ c.args.i _ refl c.requires.within c.index-keys-i.is ∙ ap Some (sym c.as_slice-key.ensures) in
    let l = first_within c.args.keys.now c.args.labels.now c.args.i c.args.names.now c.args.firsts.now.items c.requires.looked c.as_slice-key.result.now here
    c.in-Some.k (sym c.find.ensures ∙ c.in-Some.is) in
    omega (arith, l, c.args.firsts.now.ok.0)

pub returns-then-label : goal.returns-then-label
returns-then-label c =
    let here = slice_get_read c.args.keys.now _ c.args.i _ refl c.requires.within c.index-keys-i.is ∙ ap Some (sym c.as_slice-key.ensures) in
    let within = first_within c.args.keys.now c.args.labels.now c.args.i c.args.names.now c.args.firsts.now.items c.requires.looked c.as_slice-key.result.now here
    c.in-Some.k (sym c.find.ensures ∙ c.in-Some.is) in
    let is = get_or_read c.args.firsts.now.items c.in-Some.k c.index-first.result.now within c.index-first.ensures 0 in
    record {
      none = looked_old c.args.keys.now c.args.labels.now c.args.i c.args.names.now c.args.firsts.now.items c.requires.looked c.as_slice-key.result.now here
          c.in-Some.k (sym c.find.ensures ∙ c.in-Some.is) (ap (label_of c.args.labels.now) (sym is) ∙ sym c.label.ensures ∙ c.if-label.true ∙ c.label-in-Some.ensures);
      some = tt;
    }

pub returns-else-label : goal.returns-else-label
returns-else-label c =
    let here = slice_get_read c.args.keys.now _ c.args.i _ refl c.requires.within c.index-keys-i.is ∙ ap Some (sym c.as_slice-key.ensures) in
    let within = first_within c.args.keys.now c.args.labels.now c.args.i c.args.names.now c.args.firsts.now.items c.requires.looked c.as_slice-key.result.now here
    c.in-Some.k (sym c.find.ensures ∙ c.in-Some.is) in
    let is = get_or_read c.args.firsts.now.items c.in-Some.k c.index-first.result.now within c.index-first.ensures 0 in
    record {
      none = tt;
      some = subst (λ f. KeysClash c.args.keys.now c.args.labels.now f c.args.i) (sym is) (looked_clash c.args.keys.now c.args.labels.now c.args.i c.args.names.now c.args.firsts.now.items c.requires.looked c.as_slice-key.result.now here
          c.in-Some.k (sym c.find.ensures ∙ c.in-Some.is) (λ e. c.if-label.false (c.label.ensures ∙ ap (label_of c.args.labels.now) is ∙ e ∙ sym c.label-in-Some.ensures)));
    }

pub returns-in_ok-push-in-None : goal.returns-in_ok-push-in-None
returns-in_ok-push-in-None c =
    let here = slice_get_read c.args.keys.now _ c.args.i _ refl c.requires.within c.index-keys-i.is ∙ ap Some (sym c.as_slice-key.ensures) in
    let none = sym c.find.ensures ∙ c.in-None.is in
    record {
      none = subst (λ names. AreLooked c.args.keys.now c.args.labels.now (c.args.i + 1) names c.push.new.self.items)
          (sym (c.in_ok-declare-in-None.ensures.names ∙ with_new c.args.names.now c.as_slice-key.result.now none))
          (subst (AreLooked c.args.keys.now c.args.labels.now (c.args.i + 1) (c.args.names.now ++ c.as_slice-key.result.now ∷ []))
          (sym c.in_ok-push-in-None.ensures.items)
          (looked_new c.args.keys.now c.args.labels.now c.args.i c.args.names.now c.args.firsts.now.items c.requires.looked c.as_slice-key.result.now here none));
      some = tt;
    }
