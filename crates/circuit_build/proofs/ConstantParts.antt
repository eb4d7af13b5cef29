-- Constants that have bits, taken apart.
use Rattle.std.proofs.Common.{◌≡◌, ◌∙◌, sym, ap, refl, subst, ℕ, zero, suc, ◌+◌, ◌<◌, ◌≤◌, arith, Bool, List, [], ◌∷◌, ◌++◌, drop, length, get_or, Some}
use Rattle.std.specs.List.{slice_get}
use Rattle.std.proofs.lemmas.List.{drop_all}
use Rattle.chw_base.specs.declared.index.ConId.{ConId}
use Rattle.chw_types.specs.declared.declarations.ConDecl.{ConDecl}
use Rattle.chw_types.specs.declared.declarations.Data.{Data}
use Rattle.chw_types.specs.declared.kind.Scalar.{Scalar}
use Rattle.chw_types.specs.Arguments.{arguments}
use Rattle.chw_types.specs.TypeMoves.{Substitution, sub}
use Rattle.chw_types.specs.TypeTree.{TypeTree, TypeTrees, vector, data_of}
use Rattle.chw_terms.specs.declared.term.Arg.{Arg}
use Rattle.chw_terms.specs.declared.term.Arg.TheVariants.{OfTerm, OfType}
use Rattle.chw_terms.specs.declared.term.Head.{Head}
use Rattle.chw_terms.specs.declared.term.Head.TheVariants.{Con, Lit, VecLit}
use Rattle.chw_terms.specs.Constructors.{Constructor, con_at}
use Rattle.chw_terms.specs.TermTree.{TermTree, con, lit, vec_lit}
use Rattle.chw_terms.specs.TermView.{tree_of, applied, terms_of}
use Rattle.chw_layout.specs.Datum.{Datum, word, built, elements, Datums}
use Rattle.chw_layout.specs.Encodes.{count_of, first_constructor, Encodes, scalar_bits, vector_bits, data_bits, EncodesElements, element_bits, EncodesFields, field_bits}
use Rattle.chw_layout.specs.Measured.{closed_value, HasWidth}
use Rattle.layout_laws.specs.Numbering.{ConstructorsByPlace, OneNumbering}
use Rattle.net_built.specs.Memories.{Denotes, denotes_word, denotes_built, denotes_elements, DenoteEach, denote_none, denote_and, EncodeEach}
use Rattle.net_built.specs.Terms.{head_of, operands_of, list_of}
use Rattle.net_ready.specs.Ready.{args_of, HasSomeBits, HasSomeWords}
use Rattle.value_build.specs.Arguments.{terms_in}
use Rattle.value_build.proofs.Operands.{left_of, list_back}
use Rattle.value_build.proofs.Spines.{of_whole, bare_is}
use Rattle.circuit_build.specs.Constants.{AddsBits, HaveBits, FieldsHaveBits, HaveWords}
use Rattle.circuit_build.specs.Shapes.{IsData, IsVector, IsVectorTerm}
use Rattle.circuit_build.proofs.ConstantBits.{as_many}
use Rattle.circuit_build.proofs.Spines.{spine_holds}

-- a constant by its head: literals and vectors have no arguments
abbrev pub ConstantShape : TermTree → List Arg → Type 0
ConstantShape (lit s bits) args = args ≡ []
ConstantShape (vec_lit t es) args = args ≡ []
ConstantShape (con c) args = Unit {0}
ConstantShape _ args = ⊥

denoted_shape : {e : TermTree} {v : Datum} → Denotes e v → ConstantShape (head_of e) (args_of e)
denoted_shape denotes_word = refl
denoted_shape (denotes_built {e = e} h all) = subst (λ k. ConstantShape k (args_of e)) (sym h) tt
denoted_shape (denotes_elements all) = refl

pub constant_shape : (h : Head) (args : List Arg) (e : TermTree) (v : Datum) → applied (tree_of h) args ≡ e → Denotes e v → ConstantShape (tree_of h) args
constant_shape h args e v is d = spine_holds ConstantShape h args e is (denoted_shape d)

-- a head without arguments is the whole
pub bare_whole : (h k : Head) (args : List Arg) (e : TermTree) → applied (tree_of h) args ≡ e → h ≡ k → args ≡ [] → e ≡ tree_of k
bare_whole h k args e is same none = sym is ∙ bare_is (tree_of h) args none ∙ ap tree_of same

pub no_other_constant : (h : Head) (args : List Arg)
    → ((x : _) (y : _) → h ≡ Lit x y → ⊥) → ((x : _) (y : _) → h ≡ VecLit x y → ⊥) → ((x : _) → h ≡ Con x → ⊥)
    → ConstantShape (tree_of h) args → ⊥
no_other_constant (Lit x y) args a b c s = a x y refl
no_other_constant (VecLit x y) args a b c s = b x y refl
no_other_constant (Con x) args a b c s = c x refl
no_other_constant _ args a b c s = s

-- what constants of each form denote
word_denoted : {s : Scalar} {bits : List Bool} {v : Datum} → Denotes (lit s bits) v → v ≡ word bits
word_denoted denotes_word = refl
word_denoted (denotes_built h all) = absurd cc

elements_denoted : {t : TypeTree} (es : List TermTree) {v : Datum} → Denotes (vec_lit t (terms_of es)) v → (ds : Datums) × (v ≡ elements ds) × DenoteEach (list_of (terms_of es)) ds
elements_denoted es (denotes_built h all) = absurd cc
elements_denoted es (denotes_elements {ds = ds} all) = (ds, refl, all)

built_denoted : {e : TermTree} {c : ℕ} {v : Datum} → Denotes e v → head_of e ≡ con c → (ds : Datums) × (v ≡ built c ds) × DenoteEach (operands_of e) ds
built_denoted denotes_word k = absurd cc
built_denoted {c = c} (denotes_built {c = d} {ds = ds} h all) k =
    let both : con d ≡ con c = sym h ∙ k in
    let one : d ≡ c = cc in
    (ds, ap (λ c. built c ds) one, all)
built_denoted (denotes_elements all) k = absurd cc

-- how words and vectors lie in bits
word_encoded : {datas : List Data} {t : TypeTree} {b bits : List Bool} → Encodes datas t (word b) bits → b ≡ bits
word_encoded (scalar_bits e) = refl

elements_encoded : {datas : List Data} {t : TypeTree} {ds : Datums} {bits : List Bool} → Encodes datas t (elements ds) bits
    → (n : TypeTree) × (u : TypeTree) × (t ≡ vector n u) × (count_of ds ≡ closed_value n) × EncodesElements datas u ds bits
elements_encoded (vector_bits {n = n} {t = u} e all) = (n, u, refl, e, all)

-- the bits of a literal that has bits are its own
pub literal_added : (datas : List Data) (t : TypeTree) (e : TermTree) (s : Scalar) (bits before later : List Bool)
    → e ≡ lit s bits → HasSomeBits datas t e → later ≡ before ++ bits → AddsBits datas t e before later
literal_added datas t e s bits before later is some added =
    let has = some.1 in
    let value : has.value ≡ word bits = word_denoted (subst (λ f. Denotes f has.value) is has.denotes) in
    let same : bits ≡ some.0 = word_encoded (subst (λ v. Encodes datas t v some.0) value has.encodes) in
    record { value = has.value; bits = bits; denotes = has.denotes; encodes = subst (Encodes datas t has.value) (sym same) has.encodes; are = added }

-- a vector that has bits
pub record VectorParts (datas : List Data) (t : TypeTree) (es : List TermTree) : Type 0 where
  pub count : TypeTree
  pub of : TypeTree
  pub is : t ≡ vector count of
  pub many : length es ≡ closed_value count
  pub have : HaveBits datas of es

pub vector_parts : (datas : List Data) (t u : TypeTree) (e : TermTree) (es : List TermTree) → e ≡ vec_lit u (terms_of es) → HasSomeBits datas t e → VectorParts datas t es
vector_parts datas t u e es is some =
    let has = some.1 in
    let denoted = elements_denoted es (subst (λ f. Denotes f has.value) is has.denotes) in
    let denote : DenoteEach es denoted.0 = subst (λ fs. DenoteEach fs denoted.0) (list_back es) denoted.2 in
    let encoded = elements_encoded (subst (λ v. Encodes datas t v some.0) denoted.1 has.encodes) in
    record {
      count = encoded.0;
      of = encoded.1;
      is = encoded.2;
      many = sym (as_many es denoted.0 denote) ∙ encoded.3;
      have = record { values = denoted.0; bits = some.0; denote = denote; encode = encoded.4 };
    }

pub is_vector : (t n u : TypeTree) → t ≡ vector n u → IsVector t
is_vector t n u is = subst IsVector (sym is) tt

pub same_elements : (n m u v : TypeTree) → vector n u ≡ vector m v → u ≡ v
same_elements n m u v e = cc

pub same_count : (n m u v : TypeTree) → vector n u ≡ vector m v → n ≡ m
same_count n m u v e = cc

-- one of several constants that have bits
pub bits_at : {datas : List Data} {t : TypeTree} (es : List TermTree) (i : ℕ) (e : TermTree) {ds : Datums} {bits : List Bool}
    → DenoteEach es ds → EncodesElements datas t ds bits → i < length es → e ≡ get_or es i e → HasSomeBits datas t e
bits_at [] i e denote encode l is = absurd (omega (arith, l))
bits_at (f ∷ es) zero e (denote_and {d = d} one more) (element_bits {bits = b} encodes rest) l is =
    (b, record { value = d; denotes = subst (λ k. Denotes k d) (sym is) one; encodes = encodes })
bits_at (f ∷ es) (suc i) e (denote_and one more) (element_bits encodes rest) l is = bits_at es i e more rest (omega (arith, l)) is

pub word_at : {datas : List Data} {t : TypeTree} (es : List TermTree) (i : ℕ) (e : TermTree) {ds : Datums} (words : List (List Bool))
    → DenoteEach es ds → EncodeEach datas t ds words → i < length es → e ≡ get_or es i e → HasSomeBits datas t e
word_at [] i e words denote encode l is = absurd (omega (arith, l))
word_at (f ∷ es) i e [] (denote_and one more) encode l is = absurd encode
word_at (f ∷ es) zero e (bits ∷ words) (denote_and {d = d} one more) encode l is =
    (bits, record { value = d; denotes = subst (λ k. Denotes k d) (sym is) one; encodes = encode.0 })
word_at (f ∷ es) (suc i) e (bits ∷ words) (denote_and one more) encode l is = word_at es i e words more encode.1 (omega (arith, l)) is

-- a vector of words
denoted_vector : {e : TermTree} {ds : Datums} → Denotes e (elements ds) → IsVectorTerm (head_of e) × (args_of e ≡ [])
denoted_vector (denotes_elements all) = (tt, refl)

vector_alone : {t : TypeTree} (es : List TermTree) {ds : Datums} → Denotes (vec_lit t (terms_of es)) (elements ds) → DenoteEach (list_of (terms_of es)) ds
vector_alone es (denotes_elements all) = all

pub words_form : (datas : List Data) (t : TypeTree) (h : Head) (args : List Arg) (e : TermTree) → applied (tree_of h) args ≡ e → HasSomeWords datas t e
    → IsVectorTerm (tree_of h) × (args ≡ [])
words_form datas t h args e is some =
    spine_holds (λ k xs. IsVectorTerm k × (xs ≡ [])) h args e is (denoted_vector some.1.denotes)

pub words_parts : (datas : List Data) (t u : TypeTree) (e : TermTree) (es : List TermTree) → e ≡ vec_lit u (terms_of es) → HasSomeWords datas t e → HaveWords datas t es
words_parts datas t u e es is some =
    let has = some.1 in
    let denote = vector_alone es (subst (λ f. Denotes f (elements has.values)) is has.denotes) in
    record { values = has.values; words = some.0; denote = subst (λ fs. DenoteEach fs has.values) (list_back es) denote; encode = has.encode }

-- how data lies in bits
record DataEncoded (datas : List Data) (t : TypeTree) (c : ℕ) (ds : Datums) : Type 0 where
  d : ℕ
  place : ℕ
  it : Data
  decl : ConDecl
  types : TypeTrees
  width : ℕ
  behind : List Bool
  is : t ≡ data_of d types
  known : slice_get datas d ≡ Some it
  number : c ≡ first_constructor datas d + place
  held : slice_get it.cons place ≡ Some decl
  fields : EncodesFields datas decl.fields (arguments types) ds behind
  wide : HasWidth datas (data_of d types) width

built_encoded : {datas : List Data} {t : TypeTree} {c : ℕ} {ds : Datums} {bits : List Bool} → Encodes datas t (built c ds) bits → DataEncoded datas t c ds
built_encoded (data_bits {d = d} i width it k {ts = ts} behind known number held fields wide) = record {
  d = d;
  place = i;
  it = it;
  decl = k;
  types = ts;
  width = width;
  behind = behind;
  is = refl;
  known = known;
  number = number;
  held = held;
  fields = fields;
  wide = wide;
}

-- data that has bits
pub record DataParts (datas : List Data) (t : TypeTree) (c : ℕ) (args : List Arg) : Type 0 where
  pub it : Constructor
  pub types : TypeTrees
  pub width : ℕ
  pub at : con_at datas c ≡ Some it
  pub is : t ≡ data_of it.of types
  pub wide : HasWidth datas t width
  pub have : FieldsHaveBits datas it.decl.fields (arguments types) (terms_in args)

pub data_parts : (datas : List Data) (t : TypeTree) (c : ConId) (args : List Arg) → ConstructorsByPlace → OneNumbering
    → HasSomeBits datas t (applied (con c.number) args) → DataParts datas t c.number args
data_parts datas t c args places one some =
    let e : TermTree = applied (con c.number) args in
    let has = some.1 in
    let head : head_of e ≡ con c.number = of_whole (λ h ts es. h ≡ con c.number) (Con c) args e refl refl in
    let operands : operands_of e ≡ terms_in args = of_whole (λ h ts es. es ≡ terms_in args) (Con c) args e refl refl in
    let denoted = built_denoted has.denotes head in
    let encoded = built_encoded (subst (λ v. Encodes datas t v some.0) denoted.1 has.encodes) in
    let it : Constructor = record { of = encoded.d; it = encoded.it; decl = encoded.decl } in
    record {
      it = it;
      types = encoded.types;
      width = encoded.width;
      at = (places datas c.number it).1 (record {
        place = encoded.place;
        in_datas = encoded.known;
        in_cons = encoded.held;
        number = encoded.number ∙ ap (λ k. k + encoded.place) (one datas encoded.d);
      });
      is = encoded.is;
      wide = subst (λ u. HasWidth datas u encoded.width) (sym encoded.is) encoded.wide;
      have = record {
        values = denoted.0;
        bits = encoded.behind;
        denote = subst (λ es. DenoteEach es denoted.0) operands denoted.2;
        encode = encoded.fields;
      };
    }

pub is_data : (t : TypeTree) (d : ℕ) (ts : TypeTrees) → t ≡ data_of d ts → IsData t
is_data t d ts is = subst IsData (sym is) tt

pub same_data : (d k : ℕ) (ts us : TypeTrees) → data_of d ts ≡ data_of k us → d ≡ k
same_data d k ts us e = cc

pub same_types : (d k : ℕ) (ts us : TypeTrees) → data_of d ts ≡ data_of k us → ts ≡ us
same_types d k ts us e = cc

-- fields that are left
no_field : {datas : List Data} {σ : Substitution} {e : TermTree} {es : List TermTree} {ds : Datums} {bits : List Bool}
    → DenoteEach (e ∷ es) ds → EncodesFields datas [] σ ds bits → ⊥
no_field (denote_and one more) encode = elim encode [ ]

no_constant : {datas : List Data} {f : TypeTree} {fields : List TypeTree} {σ : Substitution} {ds : Datums} {bits : List Bool}
    → DenoteEach [] ds → EncodesFields datas (f ∷ fields) σ ds bits → ⊥
no_constant denote_none encode = elim encode [ ]

-- where a constant is left, there is a field
pub field_left : (datas : List Data) (σ : Substitution) (fields : List TypeTree) (k : ℕ) (e : TermTree) (es : List TermTree)
    → FieldsHaveBits datas (drop k fields) σ (e ∷ es) → k < length fields
field_left datas σ [] zero e es h = absurd (no_field h.denote h.encode)
field_left datas σ [] (suc k) e es h = absurd (no_field h.denote h.encode)
field_left datas σ (f ∷ fields) zero e es h = omega arith
field_left datas σ (f ∷ fields) (suc k) e es h = omega (arith, field_left datas σ fields k e es h)

-- where none is left, no field is
pub no_field_left : (datas : List Data) (σ : Substitution) (fields : List TypeTree) (k : ℕ) → FieldsHaveBits datas (drop k fields) σ [] → length fields ≤ k
no_field_left datas σ [] k h = omega arith
no_field_left datas σ (f ∷ fields) zero h = absurd (no_constant h.denote h.encode)
no_field_left datas σ (f ∷ fields) (suc k) h = omega (arith, no_field_left datas σ fields k h)

one_field_has : {datas : List Data} {f : TypeTree} {fields : List TypeTree} {σ : Substitution} {e : TermTree} {es : List TermTree} {ds : Datums} {bits : List Bool}
    → DenoteEach (e ∷ es) ds → EncodesFields datas (f ∷ fields) σ ds bits → HasSomeBits datas (sub f σ) e × FieldsHaveBits datas fields σ es
one_field_has (denote_and {d = d} {ds = ds} one more) (field_bits {bits = b} {more = bs} encodes rest) =
    ((b, record { value = d; denotes = one; encodes = encodes }), record { values = ds; bits = bs; denote = more; encode = rest })

-- the next field and its constant, and those behind them
pub next_field_has : (datas : List Data) (σ : Substitution) (fields : List TypeTree) (k : ℕ) (f : TypeTree) (e : TermTree) (es : List TermTree)
    → k < length fields → f ≡ get_or fields k f → FieldsHaveBits datas (drop k fields) σ (e ∷ es)
    → HasSomeBits datas (sub f σ) e × FieldsHaveBits datas (drop (k + 1) fields) σ es
next_field_has datas σ fields k f e es l is h =
    let left = subst (λ fs. FieldsHaveBits datas fs σ (e ∷ es)) (left_of fields k f l is) h in
    one_field_has left.denote left.encode

-- the constants that are left, behind a term and behind a type
pub terms_left : (args : List Arg) (i : ℕ) (a : Arg) (e : TermTree) → i < length args → a ≡ get_or args i a → a ≡ OfTerm e
    → terms_in (drop i args) ≡ e ∷ terms_in (drop (i + 1) args)
terms_left args i a e l is term = ap terms_in (left_of args i a l is) ∙ ap (λ b. terms_in (b ∷ drop (i + 1) args)) term

pub type_passed : (args : List Arg) (i : ℕ) (a : Arg) (t : TypeTree) → i < length args → a ≡ get_or args i a → a ≡ OfType t
    → terms_in (drop i args) ≡ terms_in (drop (i + 1) args)
type_passed args i a t l is type = ap terms_in (left_of args i a l is) ∙ ap (λ b. terms_in (b ∷ drop (i + 1) args)) type

pub none_left : (args : List Arg) (i : ℕ) → length args ≤ i → terms_in (drop i args) ≡ []
none_left args i l = ap terms_in (drop_all i args l)
