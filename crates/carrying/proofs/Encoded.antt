-- The parts of an encoding of data.
use Rattle.std.specs.Prelude.{take, drop, replicate, false, ◌-◌}
use Rattle.std.proofs.Common.{◌≡◌, ◌+◌, ℕ, Bool, List, ◌++◌, length, map, Some, refl, sym, ap, ◌∙◌, subst, arith, append_assoc}
use Rattle.std.proofs.Math.Seq.{take-append_seam, drop-append_seam}
use Rattle.chw_bits.specs.Bits.{bits_of}
use Rattle.chw_types.specs.declared.declarations.Data.{Data}
use Rattle.chw_types.specs.TypeTree.{TypeTree, data_of, TypeTrees}
use Rattle.chw_types.specs.TypeMoves.{Substitution, sub}
use Rattle.chw_types.specs.Arguments.{arguments}
use Rattle.chw_terms.specs.Constructors.{Constructor, con_at}
use Rattle.chw_layout.specs.Datum.{built, Datums}
use Rattle.chw_layout.specs.Encodes.{first_constructor, filled, Encodes, data_bits, EncodesFields, no_field_bits, field_bits}
use Rattle.chw_layout.specs.Measured.{tag_width}
use Rattle.chw_layout.proofs.Encodings.{encoded_length}
use Rattle.layout_laws.proofs.Numbering.{at_place, one_numbering}
use Rattle.carrying.specs.Carrying.{tag_of}
use Rattle.carrying.specs.DataLaws.{behind_tag, Parts, no_parts, part_and}
use Rattle.carrying.specs.EncodingLaws.{EncodeEach, encode_none, encode_and, EncodedParts}
use Rattle.carrying.proofs.Data.{tag_first, tag_behind}
use Rattle.carrying.proofs.Widths.{bits_length}

-- the encodings of fields are the parts of all
each_encoded : {datas : List Data} {fs : List TypeTree} {σ : Substitution} {vs : Datums} {b : List Bool} {parts : List (List Bool)} → EncodesFields datas fs σ vs b → (all more : List Bool) → b ++ more ≡ all → Parts datas (map (λ f. sub f σ) fs) all parts → EncodeEach datas (map (λ f. sub f σ) fs) vs parts
each_encoded no_field_bits all more e no_parts = encode_none
each_encoded {datas} {σ = σ} (field_bits {f = f} {v = v} {bits = b} {more = rest} x xs) all more e (part_and {w = w} has ps) =
    let many : length b ≡ w = encoded_length bits_length x has in
    let whole : b ++ (rest ++ more) ≡ all = sym (append_assoc b rest more) ∙ e in
    let first : b ≡ take w all = sym (take-append_seam b (rest ++ more)) ∙ (λ i. take (many i) (whole i)) in
    let others : rest ++ more ≡ drop w all = sym (drop-append_seam b (rest ++ more)) ∙ (λ i. drop (many i) (whole i)) in
    encode_and (subst (Encodes datas (sub f σ) v) first x) (each_encoded xs (drop w all) more others ps)

encoded_at : {datas : List Data} {ts : TypeTrees} {vs : Datums} {d n : ℕ} {b : List Bool} (i w : ℕ) (it : Constructor) → con_at datas n ≡ Some it → it.of ≡ d → n ≡ first_constructor datas it.of + i → EncodesFields datas it.decl.fields (arguments ts) vs b → EncodedParts datas d n ts vs (filled w (bits_of (tag_width (length it.it.cons)) i ++ b))
encoded_at {datas} {ts} {vs} {d} {n} {b} i w it held of number fs =
    let same : n - first_constructor datas it.of ≡ i = omega (arith, number) in
    let tag : tag_of datas n it ≡ bits_of (tag_width (length it.it.cons)) i = ap (bits_of (tag_width (length it.it.cons))) same in
    subst (λ z. EncodedParts datas d n ts vs (filled w (z ++ b))) tag
    (record {
      it = it;
      held = held;
      of_type = of;
      tag = tag_first datas n n it it w b held held refl;
      fields = λ parts ps. each_encoded fs (behind_tag it (filled w (tag_of datas n it ++ b))) (replicate (w - length (tag_of datas n it ++ b)) false) (tag_behind datas n n it it w b held held refl) ps;
    })

pub encoded_parts : {datas : List Data} {d n : ℕ} {ts : TypeTrees} {vs : Datums} {b : List Bool} → Encodes datas (data_of d ts) (built n vs) b → EncodedParts datas d n ts vs b
encoded_parts {datas} {d} {n} (data_bits i width it c {ts = ts} {vs = vs} b found number at es own) =
    let con : Constructor = record { of = d; it = it; decl = c } in
    let place : con_at datas n ≡ Some con =
    at_place datas n con (record { place = i; in_datas = found; in_cons = at; number = number ∙ ap (λ k. k + i) (one_numbering datas d) }) in
    encoded_at i width con place refl number es
