use Rattle.std.proofs.Common.{◌≡◌, ◌+◌, Some, slice_get, refl, sym, ap, ◌∙◌, arith}
use Rattle.std.proofs.lemmas.Bool.{MatchBool-at_false, MatchBool-at_true}
use Rattle.share_laws.specs.Shares.{IsProper}
use Rattle.net_share.proofs.Copies.{class_there}
use Rattle.net_share.proofs.Servers.{least_noted, least_passed}
use Rattle.net_share.proofs.standing.note.Goals as goal

pub class-class-requires : goal.class-class-requires
class-class-requires c = omega (arith, c.requires.classes.of_each, c.requires.wire)

pub index_mut-requires : goal.index_mut-requires
index_mut-requires c =
    let flat = c.args.flat.now in
    let classes = c.requires.classes in
    let here : slice_get c.args.classes.now.of c.args.w ≡ Some c.class-class.result =
    class_there flat c.args.classes.now classes c.args.w c.requires.wire ∙ ap Some (sym c.class-class.ensures) in
    let within = classes.within c.args.w c.class-class.result here in
    omega (arith, within, c.requires.table)

pub returns-then-not-is_proper-clause-least : goal.returns-then-not-is_proper-clause-least
returns-then-not-is_proper-clause-least c =
    let flat = c.args.flat.now in
    let w = c.args.w in
    least_passed flat c.args.classes.now.of w (w + 1) c.args.table.now.items refl c.requires.least
    (MatchBool-at_false (IsProper flat w) (IsProper flat w → ⊥) c.if-not-is_proper.true c.is_proper.ensures)

pub returns-clause-least : goal.returns-clause-least
returns-clause-least c =
    let flat = c.args.flat.now in
    let classes = c.requires.classes in
    let w = c.args.w in
    let here : slice_get c.args.classes.now.of w ≡ Some c.class-class.result =
    class_there flat c.args.classes.now classes w c.requires.wire ∙ ap Some (sym c.class-class.ensures) in
    let within = classes.within w c.class-class.result here in
    least_noted flat c.args.classes.now.of w (w + 1) c.class-class.result c.args.table.now.items refl c.requires.least
    (MatchBool-at_true (IsProper flat w) (IsProper flat w → ⊥) c.if-not-is_proper.false c.is_proper.ensures)
    here (omega (arith, within, c.requires.table))
