use Rattle.std.proofs.Common.{◌≡◌, ◌+◌, ◌<◌, ℕ, List, length, None, Some, slice_get, sym, ap, subst, ◌∙◌, arith}
use Rattle.std.specs.Prelude.{slice_index}
use Rattle.std.proofs.lemmas.List.{get_or_read, length_push}
use Rattle.share_laws.specs.Shares.{Serves}
use Rattle.net_share.specs.Standing.{EachServes}
use Rattle.net_share.proofs.Copies.{class_there}
use Rattle.net_share.proofs.Servers.{serves_here, serves_more}
use Rattle.net_share.proofs.standing.servers_of.Goals as goal

pub loop-w-init : goal.loop-w-init
loop-w-init c = record {
  count = ap length c.new-servers.ensures.items;
  serve = λ w v e. absurd (let none : None ≡ Some v = ap (λ (xs : List ℕ). slice_get xs w) (sym c.new-servers.ensures.items) ∙ e in cc);
}

pub class-class-requires : goal.class-class-requires
class-class-requires c = omega (arith, c.requires.classes.of_each, c.loop-w-test.true, c.len-w-end.ensures)

pub index-requires : goal.index-requires
index-requires c =
    let flat = c.args.flat.now in
    let classes = c.requires.classes in
    let w = c.loop-w.w in
    let wire : w < length flat.widths = omega (arith, c.loop-w-test.true, c.len-w-end.ensures) in
    let here : slice_get c.args.classes.now.of w ≡ Some c.class-class.result =
    class_there flat c.args.classes.now classes w wire ∙ ap Some (sym c.class-class.ensures) in
    let within = classes.within w c.class-class.result here in
    omega (arith, within, c.in_ok-least.ensures.count)

pub loop-w-preserved : goal.loop-w-preserved
loop-w-preserved c =
    let flat = c.args.flat.now in
    let w = c.loop-w.w in
    let wire : w < length flat.widths = omega (arith, c.loop-w-test.true, c.len-w-end.ensures) in
    let least = c.in_ok-least.least.items in
    let v = c.index.result.now in
    let old = c.loop-w.servers.items in
    let classes = c.requires.classes in
    let there : slice_get c.args.classes.now.of w ≡ Some c.class-class.result =
    class_there flat c.args.classes.now classes w wire ∙ ap Some (sym c.class-class.ensures) in
    let room : c.class-class.result < length least = (let within = classes.within w c.class-class.result there in omega (arith, within, c.in_ok-least.ensures.count)) in
    let read : v ≡ slice_index least (slice_index c.args.classes.now.of w) =
    get_or_read least c.class-class.result v room c.index.ensures 0 ∙ ap (λ (a : ℕ). slice_index least a) c.class-class.ensures in
    let here : Serves flat v w =
    subst (λ (x : ℕ). Serves flat x w) (sym read)
    (serves_here flat c.args.classes.now c.requires.order.0 least w c.requires.sound c.requires.classes c.requires.order.1 c.in_ok-least.ensures.least wire) in
    record {
      count = ap length c.in_ok-push.ensures.items ∙ length_push old v ∙ ap (λ (n : ℕ). n + 1) c.loop-w.invariant.count;
      serve = subst (EachServes flat) (sym c.in_ok-push.ensures.items)
          (serves_more flat old v w (sym c.loop-w.invariant.count) c.loop-w.invariant.serve here);
    }

pub returns : goal.returns
returns c = record {
  count = (let count = c.loop-w.invariant.count in omega (arith, count, c.loop-w-test.false, c.loop-w.auto.w-end, c.len-w-end.ensures));
  serve = c.loop-w.invariant.serve;
}
