-- Fields of ports, by how many wires they have.
use Rattle.std.proofs.Common.{◌≡◌, ◌∙◌, sym, ap, refl, subst, ℕ, zero, suc, min, ◌+◌, ◌-◌, ◌<◌, ◌≤◌, arith, List, [], ◌∷◌, ◌++◌, map, drop, take, length, get_or, append_assoc, append-nil, Some}
use Rattle.std.specs.List.{slice_get}
use Rattle.std.proofs.lemmas.List.{drop_all}
use Rattle.chw_base.specs.declared.index.ConId.{ConId}
use Rattle.chw_base.specs.declared.index.WireId.{WireId}
use Rattle.chw_types.specs.declared.declarations.Data.{Data}
use Rattle.chw_types.specs.TypeTree.{TypeTree}
use Rattle.chw_terms.specs.declared.scene.Sort.TheVariants.{Circuit}
use Rattle.chw_terms.specs.declared.term.Alt.{Alt}
use Rattle.chw_terms.specs.declared.term.Pattern.{Pattern}
use Rattle.chw_terms.specs.declared.term.Pattern.TheVariants.{OfCon}
use Rattle.chw_terms.specs.TermTree.{TermTree, var, case_of, alt, no_alts}
use Rattle.chw_terms.specs.TermView.{alts_of}
use Rattle.chw_typing.specs.HeadTypes.{PatternOf}
use Rattle.net_built.specs.Circuits.{CircuitCells, of_projection, Ground, HaveParts, field_wires}
use Rattle.net_built.specs.Data.{HasParts}
use Rattle.net_built.specs.Terms.{Variable}
use Rattle.net_built.specs.Wires.{Piece, wire_count, copies, ◌▸◌}
use Rattle.value_build.specs.Added.{Adds, next}
use Rattle.value_build.proofs.Behind.{adds_one}
use Rattle.value_build.proofs.Operands.{left_of}
use Rattle.circuit_build.specs.Projections.{AreCounts, counted_field, IsFieldCopied, IsProjected}

pub one_count : (datas : List Data) (t : TypeTree) (widths : List ℕ) (n : ℕ) → HasParts datas Circuit t widths → n ≡ wire_count widths
    → AreCounts datas (t ∷ []) (n ∷ [])
one_count datas t widths n has is = record {
  parts = widths ∷ [];
  have = (has, tt);
  are = ap (λ k. k ∷ []) is;
}

-- the counts so far, with those of the fields that are left, are those of all
abbrev pub CountsSoFar : List Data → List TypeTree → ℕ → List ℕ → Type 0
CountsSoFar datas ts i counts =
    (more : List ℕ) → AreCounts datas (drop i ts) more → AreCounts datas ts (counts ++ more)

-- the parts of one, before those of others
abbrev parts_before : List (List ℕ) → List (List ℕ) → List (List ℕ)
parts_before [] more = more
parts_before (ws ∷ some) more = ws ∷ more

first_parts : (datas : List Data) (t : TypeTree) (n : ℕ) (ts : List TypeTree) (parts : List (List ℕ)) (ms : List ℕ)
    → HaveParts datas (t ∷ []) parts → n ∷ [] ≡ map wire_count parts → AreCounts datas ts ms → AreCounts datas (t ∷ ts) (n ∷ ms)
first_parts datas t n ts [] ms have are rest = absurd have
first_parts datas t n ts (ws ∷ []) ms have are rest = record {
  parts = ws ∷ rest.parts;
  have = (have.0, rest.have);
  are = (λ i. get_or (are i) 0 0 ∷ rest.are i);
}
first_parts datas t n ts (ws ∷ vs ∷ more) ms have are rest = absurd have.1

one_more : (datas : List Data) (t : TypeTree) (n : ℕ) (ts : List TypeTree) (ms : List ℕ)
    → AreCounts datas (t ∷ []) (n ∷ []) → AreCounts datas ts ms → AreCounts datas (t ∷ ts) (n ∷ ms)
one_more datas t n ts ms one rest = first_parts datas t n ts one.parts ms one.have one.are rest

pub counts_grown : (datas : List Data) (ts : List TypeTree) (i n : ℕ) (t : TypeTree) (before later : List ℕ)
    → i < length ts → t ≡ get_or ts i t → AreCounts datas (t ∷ []) (n ∷ []) → later ≡ before ++ n ∷ []
    → CountsSoFar datas ts i before → CountsSoFar datas ts (i + 1) later
counts_grown datas ts i n t before later l is one grown so more rest =
    let all = subst (λ us. AreCounts datas us (n ∷ more)) (sym (left_of ts i t l is)) (one_more datas t n (drop (i + 1) ts) more one rest) in
    subst (AreCounts datas ts) (sym (append_assoc before (n ∷ []) more) ∙ ap (λ ws. ws ++ more) (sym grown)) (so (n ∷ more) all)

no_counts : (datas : List Data) → AreCounts datas [] []
no_counts datas = record { parts = []; have = tt; are = refl }

pub counts_whole : (datas : List Data) (ts : List TypeTree) (i : ℕ) (done : List ℕ) → length ts ≤ i
    → CountsSoFar datas ts i done → AreCounts datas ts done
counts_whole datas ts i done l so =
    subst (AreCounts datas ts) (append-nil done) (so [] (subst (λ us. AreCounts datas us []) (sym (drop_all i ts l)) (no_counts datas)))

-- no more are taken than there are
take_min : {X : Type 0} (n : ℕ) (xs : List X) → take (min n (length xs)) xs ≡ take n xs
take_min zero xs = let none : min zero (length xs) ≡ zero = omega arith in ap (λ k. take k xs) none
take_min (suc n) [] = let none : min (suc n) zero ≡ zero = omega arith in ap (λ k. take k []) none
take_min (suc n) (x ∷ xs) =
    let one : min (suc n) (suc (length xs)) ≡ suc (min n (length xs)) = omega arith in
    ap (λ k. take k (x ∷ xs)) one ∙ ap (λ ys. x ∷ ys) (take_min n xs)

drop_min : {X : Type 0} (n : ℕ) (xs : List X) → drop (min n (length xs)) xs ≡ drop n xs
drop_min zero xs = let none : min zero (length xs) ≡ zero = omega arith in ap (λ k. drop k xs) none
drop_min (suc n) [] = let none : min (suc n) zero ≡ zero = omega arith in ap (λ k. drop k []) none
drop_min (suc n) (x ∷ xs) =
    let one : min (suc n) (suc (length xs)) ≡ suc (min n (length xs)) = omega arith in
    ap (λ k. drop k (x ∷ xs)) one ∙ drop_min n xs

-- the field that was looked for, where its turn comes
pub field_found : (number i n m : ℕ) (counts : List ℕ) (all left : List WireId)
    → i ≡ number → i < length counts → n ≡ get_or counts i n → m ≡ min n (length left)
    → counted_field number counts all ≡ counted_field (number - i) (drop i counts) left
    → take m left ≡ counted_field number counts all
field_found number i n m counts all left here l is least so =
    let none : number - i ≡ 0 = omega (arith, here) in
    ap (λ k. take k left) least ∙ take_min n left
    ∙ ap (λ ns. counted_field 0 ns left) (sym (left_of counts i n l is))
    ∙ ap (λ k. counted_field k (drop i counts) left) (sym none) ∙ sym so

-- past another field
pub field_passed : (number i n m : ℕ) (counts : List ℕ) (all left : List WireId)
    → i < number → i < length counts → n ≡ get_or counts i n → m ≡ min n (length left)
    → counted_field number counts all ≡ counted_field (number - i) (drop i counts) left
    → counted_field number counts all ≡ counted_field (number - (i + 1)) (drop (i + 1) counts) (drop m left)
field_passed number i n m counts all left before l is least so =
    let one : number - i ≡ suc (number - (i + 1)) = omega (arith, before) in
    so ∙ ap (λ k. counted_field k (drop i counts) left) one
    ∙ ap (λ ns. counted_field (suc (number - (i + 1))) ns left) (left_of counts i n l is)
    ∙ ap (λ ws. counted_field (number - (i + 1)) (drop (i + 1) counts) ws) (sym (ap (λ k. drop k left) least ∙ drop_min n left))

pub field_past : (number i : ℕ) (counts : List ℕ) (all left : List WireId) → length counts ≤ i
    → counted_field number counts all ≡ counted_field (number - i) (drop i counts) left
    → [] ≡ counted_field number counts all
field_past number i counts all left l so =
    none (number - i) left ∙ ap (λ ns. counted_field (number - i) ns left) (sym (drop_all i counts l)) ∙ sym so
  where
    none : (k : ℕ) (ws : List WireId) → [] ≡ counted_field k [] ws
    none zero ws = refl
    none (suc k) ws = refl

-- by parts it is the same field
counted_is : (number : ℕ) (parts : List (List ℕ)) (wires : List WireId) → counted_field number (map wire_count parts) wires ≡ field_wires number parts wires
counted_is zero [] wires = refl
counted_is (suc i) [] wires = refl
counted_is zero (ws ∷ parts) wires = refl
counted_is (suc i) (ws ∷ parts) wires = counted_is i parts (drop (wire_count ws) wires)

pub field_copied : (datas : List Data) (fields : List TypeTree) (number : ℕ) (counts : List ℕ) (wires found : List WireId) (widths : List ℕ) (s t : Piece)
    → AreCounts datas fields counts → found ≡ counted_field number counts wires → t ≡ s ▸ copies (next s) found widths
    → IsFieldCopied datas fields number wires widths s t
field_copied datas fields number counts wires found widths s t are is added = record {
  parts = are.parts;
  have = are.have;
  is = added ∙ ap (λ ws. s ▸ copies (next s) ws widths)
      (is ∙ ap (λ ns. counted_field number ns wires) are.are ∙ counted_is number are.parts wires);
}

pub projected_made : (datas : List Data) (it : Variable) (q : Pattern) (c : ConId) (count z m n : ℕ) (fields given : List TypeTree) (wires : List WireId) (widths : List ℕ) (s t : Piece)
    → q ≡ OfCon c count → PatternOf datas it.ty q fields → given ≡ fields → wires ≡ it.wires → m ≡ count - 1 → n ≡ m - z
    → IsFieldCopied datas given n wires widths s t → IsProjected datas it q z widths s t
projected_made datas it q c count z m n fields given wires widths s t is binds same on less number copied = record {
  c = c;
  count = count;
  of_con = is;
  fields = fields;
  binds = subst (λ r. PatternOf datas it.ty r fields) is binds;
  copied = subst (λ k. IsFieldCopied datas fields k it.wires widths s t) (number ∙ ap (λ k. k - z) less)
      (subst (λ ws. IsFieldCopied datas fields n ws widths s t) on
      (subst (λ ts. IsFieldCopied datas ts n wires widths s t) same copied));
}

-- a projection
pub projection_made : (ground : Ground) (scope : List Variable) (it : Variable) (x z : ℕ) (widths : List ℕ) (on : TermTree) (a : Alt) (alts : List Alt) (s t : Piece)
    → on ≡ var x → alts ≡ a ∷ [] → a.body ≡ var z → slice_get scope x ≡ Some it
    → IsProjected ground.datas it a.pattern z widths s t
    → Adds (CircuitCells ground scope (next s) widths (case_of on (alts_of alts)) [] []) s t
projection_made ground scope it x z widths on a alts s t is only body held p =
    let q : Pattern = OfCon p.c p.count in
    let piece : Piece = copies (next s) (field_wires (p.count - 1 - z) p.copied.parts it.wires) widths in
    subst (λ f. Adds (CircuitCells ground scope (next s) widths (case_of f (alts_of alts)) [] []) s t) (sym is)
    (subst (λ bs. Adds (CircuitCells ground scope (next s) widths (case_of (var x) (alts_of bs)) [] []) s t) (sym only)
    (subst (λ e. Adds (CircuitCells ground scope (next s) widths (case_of (var x) (alt a.pattern e no_alts)) [] []) s t) (sym body)
    (subst (λ r. Adds (CircuitCells ground scope (next s) widths (case_of (var x) (alt r (var z) no_alts)) [] []) s t) (sym p.of_con)
    (adds_one (CircuitCells ground scope (next s) widths (case_of (var x) (alt q (var z) no_alts)) [] []) s t piece p.copied.is
    (of_projection p.copied.parts held p.binds p.copied.have)))))
