use Rattle.std.proofs.Common.{◌≡◌, ◌<◌, [], ◌∷◌, ◌++◌, get_or, length, map, take, sym, ap, refl, subst, ◌∙◌, arith}
use Rattle.std.proofs.lemmas.Bool.{false≢true}
use Rattle.std.proofs.lemmas.List.{length-map, take_more}
use Rattle.std.proofs.lemmas.Option.{slice_get-get_or}
use Rattle.data_forms.specs.Forms.{IsEncoding, type_at}
use Rattle.data_forms.proofs.Shapes.{type_got}
use Rattle.data_forms.proofs.Walks.{within_at}
use Rattle.answers.specs.SimAnswer.Types.{IsSized}
use Rattle.answers.proofs.SimAnswer.Pairs.{all_taken, pair_at, pairs_more, same_length}
use Rattle.answers.proofs.sim_answer.values.are_encodings.Goals as goal

pub bounds-places-place : goal.bounds-places-place
bounds-places-place c =
    let n = same_length (IsSized c.args.datas.now) (map (type_at c.args.forms.now) c.args.places.now) c.args.inputs.now c.requires.widths in
    let m = length-map c.args.places.now (type_at c.args.forms.now) in
    let below = c.loop-place-test.true in
    omega (arith, n, m, below)

pub takes-requires : goal.takes-requires
takes-requires c =
    let datas = c.args.datas.now in
    let forms = c.args.forms.now in
    let places = c.args.places.now in
    let types = map (type_at forms) places in
    let inputs = c.args.inputs.now in
    let i = c.loop-place.place in
    let at = get_or places i 0 in
    let type = type_at forms at in
    let below = c.loop-place-test.true in
    let n = same_length (IsSized datas) types inputs c.requires.widths in
    let m : length types ≡ length places = length-map places (type_at forms) in
    let there : i < length places = omega (arith, n, m, below) in
    let within : i < length types = omega (arith, n, below) in
    let got = type_got forms places i there in
    let bits = c.index-inputs-place.result in
    let same = c.as_slice.ensures.value in
    let sized = pair_at (IsSized datas) types inputs i type bits c.requires.widths below got c.index-inputs-place.is in
    record {
      order = c.requires.order;
      forms = c.requires.forms;
      within = within_at (length forms) places i at c.requires.places (slice_get-get_or places i 0 there);
      width = subst (IsSized datas type) (sym same) sized;
    }

pub returns-then-not-branch : goal.returns-then-not-branch
returns-then-not-branch c =
    let datas = c.args.datas.now in
    let forms = c.args.forms.now in
    let places = c.args.places.now in
    let types = map (type_at forms) places in
    let inputs = c.args.inputs.now in
    let i = c.loop-place.place in
    let at = get_or places i 0 in
    let type = type_at forms at in
    let below = c.loop-place-test.true in
    let n = same_length (IsSized datas) types inputs c.requires.widths in
    let m : length types ≡ length places = length-map places (type_at forms) in
    let there : i < length places = omega (arith, n, m, below) in
    let within : i < length types = omega (arith, n, below) in
    let got = type_got forms places i there in
    let bits = c.index-inputs-place.result in
    let same = c.as_slice.ensures.value in (
      λ e. absurd (false≢true e),
      λ all. sym c.if-not-branch.true
          ∙ c.in_ok-takes.ensures.1 (subst (IsEncoding datas type) (sym same) (pair_at (IsEncoding datas) types inputs i type bits all below got c.index-inputs-place.is)),
    )

pub loop-place-preserved : goal.loop-place-preserved
loop-place-preserved c =
    let datas = c.args.datas.now in
    let forms = c.args.forms.now in
    let places = c.args.places.now in
    let types = map (type_at forms) places in
    let inputs = c.args.inputs.now in
    let i = c.loop-place.place in
    let at = get_or places i 0 in
    let type = type_at forms at in
    let below = c.loop-place-test.true in
    let n = same_length (IsSized datas) types inputs c.requires.widths in
    let m : length types ≡ length places = length-map places (type_at forms) in
    let there : i < length places = omega (arith, n, m, below) in
    let within : i < length types = omega (arith, n, below) in
    let got = type_got forms places i there in
    let bits = c.index-inputs-place.result in
    let same = c.as_slice.ensures.value in
    let one = take_more types i type within ∙ ap (λ t. take i types ++ t ∷ []) (sym got) in
    let two = take_more inputs i bits below ∙ ap (λ b. take i inputs ++ b ∷ []) (sym c.index-inputs-place.is) in
    pairs_more (IsEncoding datas) types inputs i type bits one two c.loop-place.invariant (subst (IsEncoding datas type) same (c.in_ok-takes.ensures.0 c.if-not-branch.false))

pub returns : goal.returns
returns c =
    let types = map (type_at c.args.forms.now) c.args.places.now in
    let n = same_length (IsSized c.args.datas.now) types c.args.inputs.now c.requires.widths in
    (λ e. all_taken (IsEncoding c.args.datas.now) types c.args.inputs.now c.loop-place.place n c.loop-place-test.false c.loop-place.invariant, λ all. refl)
