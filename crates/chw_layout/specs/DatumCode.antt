-- How the logic stores a value: as a tree of numbers, which gives it back.
use Rattle.std.specs.Prelude.{◌≡◌, ℕ, suc, zero, Bool, List, [], refl}
use Rattle.std.proofs.Common.{sym, ap, ◌∙◌}
use Rattle.std.specs.Coded.{Coded}
use base.Stored.{Gv, gnil, gnum, gcons}
use Rattle.chw_bits.specs.BitsCode.{bits_code, bits_back, bits_same}
use Rattle.chw_types.specs.TypeCode.{number_in, node}
use Rattle.chw_layout.specs.Datum.{Datum, word, built, elements, Datums, no_data, datum_and}

abbrev mutual
  pub datum_code : Datum → Gv
  datum_code (word bits) = node 0 gnil (bits_code bits)
  datum_code (built c vs) = node 1 (gnum c) (data_code vs)
  datum_code (elements vs) = node 2 gnil (data_code vs)

  pub data_code : Datums → Gv
  data_code no_data = gnil
  data_code (datum_and v vs) = gcons (datum_code v) (data_code vs)

-- the value with this tag, of what the parts give as a number, as bits and as values
abbrev pub datum_at : ℕ → (c : ℕ) → List Bool → Datums → Datum
datum_at zero c bits vs = word bits
datum_at (suc zero) c bits vs = built c vs
datum_at (suc (suc k)) c bits vs = elements vs

abbrev mutual
  pub datum_back : Gv → Datum
  datum_back (gcons tag (gcons a b)) = datum_at (number_in tag) (number_in a) (bits_back b) (data_back b)
  datum_back _ = word []

  pub data_back : Gv → Datums
  data_back (gcons v vs) = datum_and (datum_back v) (data_back vs)
  data_back _ = no_data

mutual
  pub datum_same : (v : Datum) → datum_back (datum_code v) ≡ v
  datum_same (word bits) = ap word (bits_same bits)
  datum_same (built c vs) = ap (built c) (data_same vs)
  datum_same (elements vs) = ap elements (data_same vs)

  pub data_same : (vs : Datums) → data_back (data_code vs) ≡ vs
  data_same no_data = refl
  data_same (datum_and v vs) = λ i. datum_and (datum_same v i) (data_same vs i)

abbrev pub coded_datum : Coded Datum
coded_datum = record { code = datum_code; inj = λ x y p. sym (datum_same x) ∙ (ap datum_back p ∙ datum_same y) }
