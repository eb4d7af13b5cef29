use Rattle.std.proofs.Common.{◌∙◌, length, refl, ap, Some, arith}
use Rattle.std.proofs.lemmas.Option.{slice_get_read}
use Rattle.chw_typing.specs.Paths.{argument_path}
use Rattle.rewriting.specs.Origins.{origins_of}
use Rattle.rewriting.specs.Spots.{spot_of}
use Rattle.active_parts.proofs.Spines.{no_others, no_type_below}
use Rattle.active_parts.proofs.parts.argument_at.Goals as goal

pub returns-in_default : goal.returns-in_default
returns-in_default c =
    let args = c.args.args.now in
    let n = c.args.number in
    let a = c.index-args-number.result in
    let item = slice_get_read args (length args) n a refl c.requires.number c.index-args-number.is in
    no_type_below c.args.head.now args n a item c.in_default.not-OfTerm (origins_of c.args.ground.now.scene.now) (spot_of c.args.place.now)

pub constant_argument-requires-clause-is : goal.constant_argument-requires-clause-is
constant_argument-requires-clause-is c =
    let args = c.args.args.now in
    let a = c.index-args-number.result in
    slice_get_read args (length args) c.args.number a refl c.requires.number c.index-args-number.is ∙ ap Some c.in-OfTerm.is

pub primitive_argument-requires-clause-is : goal.primitive_argument-requires-clause-is
primitive_argument-requires-clause-is c =
    let args = c.args.args.now in
    let a = c.index-args-number.result in
    slice_get_read args (length args) c.args.number a refl c.requires.number c.index-args-number.is ∙ ap Some c.in-OfTerm.is

pub returns-in_default-head : goal.returns-in_default-head
returns-in_default-head c =
    let args = c.args.args.now in
    let n = c.args.number in
    let l = c.requires.number in
    no_others c.args.head.now args c.in_default-head.not-Con c.in_default-head.not-PrimOf
    (λ none. let empty = ap length none in omega (arith, l, empty))
    (origins_of c.args.ground.now.scene.now) (spot_of c.args.place.now) (argument_path n (length args))
