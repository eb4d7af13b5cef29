-- The bits of constants, one behind the other.
use Rattle.std.proofs.Common.{◌≡◌, ◌∙◌, sym, ap, refl, subst, ℕ, suc, ◌+◌, ◌-◌, ◌<◌, ◌≤◌, arith, Bool, false, List, [], ◌∷◌, ◌++◌, drop, length, get_or, append_assoc, append-nil, length-append, Some}
use Rattle.std.specs.List.{slice_get}
use Rattle.std.specs.Prelude.{replicate}
use Rattle.std.proofs.lemmas.List.{drop_all}
use Rattle.chw_bits.specs.Bits.{bits_of}
use Rattle.chw_base.specs.declared.index.ConId.{ConId}
use Rattle.chw_types.specs.declared.declarations.Data.{Data}
use Rattle.chw_types.specs.Arguments.{arguments}
use Rattle.chw_types.specs.TypeMoves.{Substitution, sub}
use Rattle.chw_types.specs.TypeTree.{TypeTree, TypeTrees, vector, data_of}
use Rattle.chw_terms.specs.declared.term.Arg.{Arg}
use Rattle.chw_terms.specs.declared.term.Arg.TheVariants.{OfTerm, OfType}
use Rattle.chw_terms.specs.declared.term.Head.TheVariants.{Con}
use Rattle.chw_terms.specs.Constructors.{Constructor, con_at, first_con}
use Rattle.chw_terms.specs.TermTree.{TermTree, con, vec_lit}
use Rattle.chw_terms.specs.TermView.{applied, terms_of}
use Rattle.chw_layout.specs.Datum.{Datums, built, elements, no_data, datum_and}
use Rattle.chw_layout.specs.Encodes.{count_of, filled, first_constructor, Encodes, vector_bits, data_bits, no_element_bits, element_bits, EncodesFields, no_field_bits, field_bits}
use Rattle.chw_layout.specs.Measured.{closed_value, tag_width, HasWidth}
use Rattle.layout_laws.specs.Numbering.{HasPlace, OneNumbering}
use Rattle.net_built.specs.Memories.{Denotes, denotes_built, denotes_elements, DenoteEach, denote_none, denote_and, HasBits, HasWords}
use Rattle.value_build.specs.Arguments.{terms_in}
use Rattle.value_build.proofs.Operands.{left_of, list_back}
use Rattle.value_build.proofs.Spines.{of_whole}
use Rattle.circuit_build.specs.Constants.{AddsBits, AddsElements, AddsFields, AreWords}

-- constants of one type: with what is added of those that are left, all are
abbrev pub ElementsSoFar : List Data → TypeTree → List TermTree → ℕ → (before now : List Bool) → Type 0
ElementsSoFar datas t es i before now =
    (later : List Bool) → AddsElements datas t (drop i es) now later → AddsElements datas t es before later

no_elements : (datas : List Data) (t : TypeTree) (bits : List Bool) → AddsElements datas t [] bits bits
no_elements datas t bits = record {
  values = no_data;
  bits = [];
  denote = denote_none;
  encode = no_element_bits;
  are = sym (append-nil bits);
}

one_element : (datas : List Data) (t : TypeTree) (e : TermTree) (es : List TermTree) (a b c : List Bool)
    → AddsBits datas t e a b → AddsElements datas t es b c → AddsElements datas t (e ∷ es) a c
one_element datas t e es a b c here rest = record {
  values = datum_and here.value rest.values;
  bits = here.bits ++ rest.bits;
  denote = denote_and here.denotes rest.denote;
  encode = element_bits here.encodes rest.encode;
  are = rest.are ∙ ap (λ k. k ++ rest.bits) here.are ∙ append_assoc a here.bits rest.bits;
}

pub elements_begun : (datas : List Data) (t : TypeTree) (es : List TermTree) (bits : List Bool) → ElementsSoFar datas t es 0 bits bits
elements_begun datas t es bits later rest = rest

pub elements_grown : (datas : List Data) (t : TypeTree) (es : List TermTree) (i : ℕ) (e : TermTree) (first before now : List Bool)
    → i < length es → e ≡ get_or es i e → AddsBits datas t e before now
    → ElementsSoFar datas t es i first before → ElementsSoFar datas t es (i + 1) first now
elements_grown datas t es i e first before now l is here so later rest =
    so later (subst (λ ds. AddsElements datas t ds before later) (sym (left_of es i e l is))
    (one_element datas t e (drop (i + 1) es) before now later here rest))

pub elements_whole : (datas : List Data) (t : TypeTree) (es : List TermTree) (i : ℕ) (first now : List Bool) → length es ≤ i
    → ElementsSoFar datas t es i first now → AddsElements datas t es first now
elements_whole datas t es i first now l so =
    so now (subst (λ ds. AddsElements datas t ds now now) (sym (drop_all i es l)) (no_elements datas t now))

-- so it is with constants of fields, of which so many arguments and fields are done
abbrev pub FieldsSoFar : List Data → List TypeTree → Substitution → List Arg → (i k : ℕ) → (before now : List Bool) → Type 0
FieldsSoFar datas fields σ args i k before now =
    (later : List Bool) → AddsFields datas (drop k fields) σ (terms_in (drop i args)) now later
    → AddsFields datas fields σ (terms_in args) before later

no_fields : (datas : List Data) (σ : Substitution) (bits : List Bool) → AddsFields datas [] σ [] bits bits
no_fields datas σ bits = record {
  values = no_data;
  bits = [];
  denote = denote_none;
  encode = no_field_bits;
  are = sym (append-nil bits);
}

one_field : (datas : List Data) (f : TypeTree) (fields : List TypeTree) (σ : Substitution) (e : TermTree) (es : List TermTree) (a b c : List Bool)
    → AddsBits datas (sub f σ) e a b → AddsFields datas fields σ es b c → AddsFields datas (f ∷ fields) σ (e ∷ es) a c
one_field datas f fields σ e es a b c here rest = record {
  values = datum_and here.value rest.values;
  bits = here.bits ++ rest.bits;
  denote = denote_and here.denotes rest.denote;
  encode = field_bits here.encodes rest.encode;
  are = rest.are ∙ ap (λ k. k ++ rest.bits) here.are ∙ append_assoc a here.bits rest.bits;
}

pub fields_grown : (datas : List Data) (fields : List TypeTree) (σ : Substitution) (args : List Arg) (i k : ℕ) (a : Arg) (e : TermTree) (f : TypeTree)
    (first before now : List Bool)
    → i < length args → a ≡ get_or args i a → a ≡ OfTerm e → k < length fields → f ≡ get_or fields k f
    → AddsBits datas (sub f σ) e before now
    → FieldsSoFar datas fields σ args i k first before → FieldsSoFar datas fields σ args (i + 1) (k + 1) first now
fields_grown datas fields σ args i k a e f first before now l is term m at here so later rest =
    let left : terms_in (drop i args) ≡ e ∷ terms_in (drop (i + 1) args) =
    ap terms_in (left_of args i a l is) ∙ ap (λ b. terms_in (b ∷ drop (i + 1) args)) term in
    so later (subst (λ fs. AddsFields datas fs σ (terms_in (drop i args)) before later) (sym (left_of fields k f m at))
    (subst (λ es. AddsFields datas (f ∷ drop (k + 1) fields) σ es before later) (sym left)
    (one_field datas f (drop (k + 1) fields) σ e (terms_in (drop (i + 1) args)) before now later here rest)))

-- a type among the arguments is no field
pub fields_passed : (datas : List Data) (fields : List TypeTree) (σ : Substitution) (args : List Arg) (i k : ℕ) (a : Arg) (t : TypeTree)
    (first now : List Bool)
    → i < length args → a ≡ get_or args i a → a ≡ OfType t
    → FieldsSoFar datas fields σ args i k first now → FieldsSoFar datas fields σ args (i + 1) k first now
fields_passed datas fields σ args i k a t first now l is type so later rest =
    let left : terms_in (drop i args) ≡ terms_in (drop (i + 1) args) =
    ap terms_in (left_of args i a l is) ∙ ap (λ b. terms_in (b ∷ drop (i + 1) args)) type in
    so later (subst (λ es. AddsFields datas (drop k fields) σ es now later) (sym left) rest)

pub fields_whole : (datas : List Data) (fields : List TypeTree) (σ : Substitution) (args : List Arg) (i k : ℕ) (first now : List Bool)
    → length args ≤ i → length fields ≤ k
    → FieldsSoFar datas fields σ args i k first now → AddsFields datas fields σ (terms_in args) first now
fields_whole datas fields σ args i k first now l m so =
    so now (subst (λ fs. AddsFields datas fs σ (terms_in (drop i args)) now now) (sym (drop_all k fields m))
    (subst (λ bs. AddsFields datas [] σ (terms_in bs) now now) (sym (drop_all i args l)) (no_fields datas σ now)))

-- as many values as constants
pub as_many : (es : List TermTree) (ds : Datums) → DenoteEach es ds → count_of ds ≡ length es
as_many [] no_data denote_none = refl
as_many [] (datum_and d ds) denote = elim denote [ ]
as_many (e ∷ es) no_data denote = elim denote [ ]
as_many (e ∷ es) (datum_and d ds) (denote_and here rest) = ap suc (as_many es ds rest)

-- a vector
pub vector_added : (datas : List Data) (t n u v : TypeTree) (e : TermTree) (es : List TermTree) (before later : List Bool)
    → t ≡ vector n u → e ≡ vec_lit v (terms_of es) → length es ≡ closed_value n → AddsElements datas u es before later
    → AddsBits datas t e before later
vector_added datas t n u v e es before later is whole many added =
    let count : count_of added.values ≡ closed_value n = as_many es added.values added.denote ∙ many in
    let denote = subst (λ fs. DenoteEach fs added.values) (sym (list_back es)) added.denote in
    subst (λ f. AddsBits datas t f before later) (sym whole)
    (subst (λ w. AddsBits datas w (vec_lit v (terms_of es)) before later) (sym is)
    (record { value = elements added.values; bits = added.bits; denotes = denotes_elements denote; encodes = vector_bits count added.encode; are = added.are }))

-- a constructor on constants is the value that is built of them
built_of : (c : ConId) (args : List Arg) (ds : Datums) → DenoteEach (terms_in args) ds
    → Denotes (applied (con c.number) args) (built c.number ds)
built_of c args ds denote =
    let both = of_whole (λ h ts es. (h ≡ con c.number) × DenoteEach es ds) (Con c) args (applied (con c.number) args) refl (refl, denote) in
    denotes_built both.0 both.1

-- data: the tag, the fields, and zeros up to the width
pub data_added : (datas : List Data) (t : TypeTree) (ts : TypeTrees) (d : ℕ) (c : ConId) (args : List Arg) (it : Constructor) (place width tag : ℕ)
    (fields : List TypeTree) (before a b later : List Bool)
    → OneNumbering → data_of d ts ≡ t → con_at datas c.number ≡ Some it → HasPlace datas c.number it → it.of ≡ d
    → c.number ≡ first_con datas it.of + place → fields ≡ it.decl.fields → tag ≡ tag_width (length it.it.cons)
    → HasWidth datas t width → a ≡ before ++ bits_of tag place
    → AddsFields datas fields (arguments ts) (terms_in args) a b
    → later ≡ b ++ replicate (width - (length b - length before)) false
    → AddsBits datas t (applied (con c.number) args) before later
data_added datas t ts d c args it place width tag fields before a b later one is there at of number are wide measured tagged added padded =
    let all : List Bool = bits_of tag place ++ added.bits in
    let whole : b ≡ before ++ all =
    added.are ∙ ap (λ xs. xs ++ added.bits) tagged ∙ append_assoc before (bits_of tag place) added.bits in
    let size : length b ≡ length before + length all = ap length whole ∙ length-append before all in
    let behind : length b - length before ≡ length all = omega arith in
    let here : at.place ≡ place = omega (arith, at.number, number) in
    let counted : c.number ≡ first_constructor datas d + place =
    number ∙ ap (λ k. first_con datas k + place) of ∙ ap (λ k. k + place) (sym (one datas d)) in
    let known : slice_get datas d ≡ Some it.it = subst (λ k. slice_get datas k ≡ Some it.it) of at.in_datas in
    let decl : slice_get it.it.cons place ≡ Some it.decl = subst (λ k. slice_get it.it.cons k ≡ Some it.decl) here at.in_cons in
    let encoded = subst (λ fs. EncodesFields datas fs (arguments ts) added.values added.bits) are added.encode in
    record {
      value = built c.number added.values;
      bits = filled width all;
      denotes = built_of c args added.values added.denote;
      encodes = subst (λ u. Encodes datas u (built c.number added.values) (filled width all)) is
          (subst (λ k. Encodes datas (data_of d ts) (built c.number added.values) (filled width (bits_of k place ++ added.bits))) (sym wide)
          (data_bits place width it.it it.decl added.bits known counted decl encoded (subst (λ u. HasWidth datas u width) (sym is) measured)));
      are = padded
          ∙ (λ i. whole i ++ replicate (width - behind i) false)
          ∙ append_assoc before all (replicate (width - length all) false);
    }

-- all that was added to nothing
pub bits_alone : (datas : List Data) (t : TypeTree) (e : TermTree) (before bits : List Bool) → before ≡ []
    → AddsBits datas t e before bits → HasBits datas t e bits
bits_alone datas t e before bits none added = record {
  value = added.value;
  denotes = added.denotes;
  encodes = subst (Encodes datas t added.value) (sym (added.are ∙ ap (λ xs. xs ++ added.bits) none)) added.encodes;
}

-- the words of constants: with those of the ones that are left, all are
abbrev pub WordsSoFar : List Data → TypeTree → List TermTree → ℕ → List (List Bool) → Type 0
WordsSoFar datas t es i words =
    (more : List (List Bool)) → AreWords datas t (drop i es) more → AreWords datas t es (words ++ more)

one_word : (datas : List Data) (t : TypeTree) (e : TermTree) (es : List TermTree) (bits : List Bool) (more : List (List Bool))
    → HasBits datas t e bits → AreWords datas t es more → AreWords datas t (e ∷ es) (bits ∷ more)
one_word datas t e es bits more here rest = record {
  values = datum_and here.value rest.values;
  denote = denote_and here.denotes rest.denote;
  encode = (here.encodes, rest.encode);
}

pub words_grown : (datas : List Data) (t : TypeTree) (es : List TermTree) (i : ℕ) (e : TermTree) (bits : List Bool) (before later : List (List Bool))
    → i < length es → e ≡ get_or es i e → HasBits datas t e bits → later ≡ before ++ bits ∷ []
    → WordsSoFar datas t es i before → WordsSoFar datas t es (i + 1) later
words_grown datas t es i e bits before later l is here grown so more rest =
    let all = subst (λ ds. AreWords datas t ds (bits ∷ more)) (sym (left_of es i e l is)) (one_word datas t e (drop (i + 1) es) bits more here rest) in
    subst (AreWords datas t es) (sym (append_assoc before (bits ∷ []) more) ∙ ap (λ ws. ws ++ more) (sym grown)) (so (bits ∷ more) all)

pub words_whole : (datas : List Data) (t : TypeTree) (es : List TermTree) (i : ℕ) (words : List (List Bool)) → length es ≤ i
    → WordsSoFar datas t es i words → AreWords datas t es words
words_whole datas t es i words l so =
    subst (AreWords datas t es) (append-nil words)
    (so [] (subst (λ ds. AreWords datas t ds []) (sym (drop_all i es l)) (record { values = no_data; denote = denote_none; encode = tt })))

-- as the words of a vector
pub words_of_vector : (datas : List Data) (t u : TypeTree) (e : TermTree) (es : List TermTree) (words : List (List Bool))
    → vec_lit u (terms_of es) ≡ e → AreWords datas t es words → HasWords datas t e words
words_of_vector datas t u e es words is are = record {
  values = are.values;
  denotes = subst (λ f. Denotes f (elements are.values)) is
      (denotes_elements (subst (λ fs. DenoteEach fs are.values) (sym (list_back es)) are.denote));
  encode = are.encode;
}

-- what is put behind makes longer
pub no_shorter : (a b c x y : List Bool) → b ≡ a ++ x → c ≡ b ++ y → length a ≤ length c
no_shorter a b c x y e f =
    let p : length b ≡ length a + length x = ap length e ∙ length-append a x in
    let q : length c ≡ length b + length y = ap length f ∙ length-append b y in
    omega (arith, p, q)
