use Rattle.std.proofs.Common.{◌≡◌, Some, None, length, refl, sym, ap, subst}
use Rattle.std.specs.List.{slice_get}
use Rattle.std.proofs.lemmas.Bool.{ltb-true, ltb-false}
use Rattle.std.proofs.lemmas.Option.{slice_get_read, slice_get_past}
use Rattle.chw_terms.specs.TermView.{tree_of}
use Rattle.chw_typing.proofs.Lists.{found_in_map}
use Rattle.rewriting.specs.Origins.{made_of, origins_of}
use Rattle.rewriting.specs.Spots.{spot_of}
use Rattle.term_types.proofs.Plain.{missing_in_map}
use Rattle.work_names.proofs.Bodies.{body_made, origin_made, no_body, no_origin}
use Rattle.work_names.proofs.unfold.unfold.Goals as goal

pub returns-in_ok-copy-in-Some : goal.returns-in_ok-copy-in-Some
returns-in_ok-copy-in-Some c =
    let n = c.in-Global.d.number in
    let it = c.in-Some.it.now in
    let defs = c.as_slice.result.now in
    let read : slice_get c.args.scene.now.program.now.defs n ≡ Some it = subst (λ ds. slice_get ds n ≡ Some it) c.as_slice.ensures (slice_get_read defs (length defs) n it refl (ltb-true _ _ (sym c.in-Some.ensures.lookup.0)) c.in-Some.ensures.lookup.1) in
    body_made (origins_of c.args.scene.now) (spot_of c.args.place.now) n it (tree_of c.args.head.now) c.in_ok-copy-in-Some.field-0
    (λ l. let yes = c.has_lets.ensures.1 l in let no = c.if-has_lets.false in absurd cc) (ap tree_of c.in-Global.is) read c.in_ok-copy-in-Some.ensures

pub returns-in-None : goal.returns-in-None
returns-in-None c = λ e' m.
    let n = c.in-Global.d.number in
    let none : slice_get c.args.scene.now.program.now.defs n ≡ None = subst (λ ds. slice_get ds n ≡ None) c.as_slice.ensures (slice_get_past c.as_slice.result.now n (ltb-false _ _ (sym c.in-None.ensures.lookup.0))) in
    no_body n (ap tree_of c.in-Global.is) none m

pub returns-in_ok-copy-in-Some-get : goal.returns-in_ok-copy-in-Some-get
returns-in_ok-copy-in-Some-get c =
    let n = c.in-Made.m.number in
    let it = c.in-Some-get.it.now in
    let items = c.args.scene.now.made.now in
    let read : slice_get items n ≡ Some it = slice_get_read items (length items) n it refl (ltb-true _ _ (sym c.in-Some-get.ensures.lookup.0)) c.in-Some-get.ensures.lookup.1 in
    origin_made (origins_of c.args.scene.now) (spot_of c.args.place.now) n (made_of it) (tree_of c.args.head.now) c.in_ok-copy-in-Some-get.field-0
    (λ l. let yes = c.has_lets.ensures.1 l in let no = c.if-has_lets.false in absurd cc) (ap tree_of c.in-Made.is) (found_in_map made_of items n it read) c.in_ok-copy-in-Some-get.ensures

pub returns-in-None-get : goal.returns-in-None-get
returns-in-None-get c = λ e' m.
    let n = c.in-Made.m.number in
    let items = c.args.scene.now.made.now in
    let none : slice_get items n ≡ None = slice_get_past items n (ltb-false _ _ (sym c.in-None-get.ensures.lookup.0)) in
    no_origin n (ap tree_of c.in-Made.is) (missing_in_map made_of items n none) m
