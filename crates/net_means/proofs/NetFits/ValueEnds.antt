-- The cells of a right side of values end with a wire of its width, where it has bits.
use Rattle.std.specs.Prelude.{slice_index}
use Rattle.std.proofs.Common.{◌≡◌, ℕ, zero, suc, ◌+◌, ◌-◌, arith, List, [], ◌∷◌, ◌++◌, length, map, refl, sym, ap, ◌∙◌, subst, length-append, append-nil, append_assoc}
use Rattle.std.proofs.lemmas.List.{length-map}
use Rattle.chw_base.specs.declared.index.WireId.{WireId}
use Rattle.chw_types.specs.declared.kind.Kind.{Kind}
use Rattle.chw_types.specs.declared.kind.Scalar.{Scalar}
use Rattle.chw_types.specs.declared.kind.Scalar.TheVariants.{U, S, B}
use Rattle.chw_types.specs.Arguments.{arguments}
use Rattle.chw_types.specs.SameTypes.{SameTypes}
use Rattle.chw_types.specs.TypeMoves.{sub}
use Rattle.chw_types.specs.TypeTree.{TypeTree}
use Rattle.chw_types.specs.TypeView.{trees_of}
use Rattle.chw_prims.specs.declared.prim.Primitive.{Primitive as Prim}
use Rattle.chw_prims.specs.declared.prim.Primitive.TheVariants.{AddU, AddS, SubU, SubS, MulU, MulS, XaddU, XaddS, XmulU, XmulS, AndU, AndS, AndB, OrU, OrS, OrB, XorU, XorS, XorB, NotU, NotS, NotB, ShlU, ShlS, ShlB, ShrU, ShrS, ShrB, EqU, EqS, EqB, LtU as PrimLtU, LtS as PrimLtS, ExtU, ExtS, ExtB, TruncU, TruncS, TruncB, Slice, Join as PrimJoin, RedAnd as PrimRedAnd, RedOr as PrimRedOr, RedXor as PrimRedXor, PackU, PackS, UnpackU, UnpackS}
use Rattle.chw_prims.specs.declared.row.Row.{Row}
use Rattle.chw_prims.specs.Schemas.{row_of, schema_type}
use Rattle.chw_terms.specs.declared.term.Arg.{Arg}
use Rattle.chw_terms.specs.declared.term.Arg.TheVariants.{OfTerm, OfType}
use Rattle.chw_terms.specs.TermTree.{TermTree, var, app, ty_app, made, con, prim}
use Rattle.chw_terms.specs.TermView.{applied}
use Rattle.chw_typing.specs.HeadTypes.{for_each, from_each}
use Rattle.chw_typing.specs.Programs.{IsSound}
use Rattle.chw_typing.specs.Scopes.{Setting, HasKind, AreTermTypes}
use Rattle.chw_typing.specs.Typing.{HasType, h_prim}
use Rattle.chw_typing.specs.Given.{types_then, IsSaturated, AsksForNone}
use Rattle.rewriting.specs.Origins.{Origins}
use Rattle.rewriting.specs.Spots.{asked_for, IsOnWords}
use Rattle.normal_forms.specs.Values.{on_names, IsSide, side_variable, side_literal, side_constructor, side_vector, side_primitive, side_call, side_case}
use Rattle.chw_layout.specs.Measured.{closed_value, fits, HasWidth, Measure, Measured, measured_scalar, measured_vector, measured_data}
use Rattle.layout_laws.specs.SameLayout.{SameKeepsMeasure}
use Rattle.netlist.specs.declared.net.Op1.{Op1}
use Rattle.netlist.specs.declared.net.Op1.TheVariants.{RedAnd, RedOr, RedXor}
use Rattle.netlist.specs.declared.net.Op2.{Op2}
use Rattle.netlist.specs.declared.net.Op2.TheVariants.{Add, Mul, Eq, LtU, LtS, Shl, Shr, Sar}
use Rattle.net_built.specs.Bodies.{ValueCells, value_variable, value_literal, value_constructor, value_vector, value_primitive, value_element, value_element_at, value_call}
use Rattle.net_built.specs.Circuits.{Ground}
use Rattle.net_built.specs.Data.{constructed}
use Rattle.net_built.specs.Terms.{head_of, types_of, Variable}
use Rattle.net_built.specs.Wires.{present, Piece, after}
use Rattle.net_built.specs.Words.{compared, shifted, reduced, extended, widened, word_cells}
use Rattle.net_grounds.specs.Facts.{Facts}
use Rattle.net_means.proofs.NetFits.Rows.{given_width, row_gives}
use Rattle.net_means.proofs.WordRows.{kinds_of, params_of, result_of, row_is}
use Rattle.net_means.proofs.NetFits.Shapes.{names, head_then}
use Rattle.net_means.proofs.NetFits.Wide.{Ends, ends_alone, ends_then, element_at_ends}

compared_end : (op : Op2) (n at : ℕ) (a b : List WireId) → Ends (compared op n at a b) 1
compared_end op zero at a b = ends_alone (compared op zero at a b) 1 refl
compared_end op (suc n) at a b = ends_alone (compared op (suc n) at a b) 1 refl

shifted_end : (op : Op2) (n k at : ℕ) (a b : List WireId) → Ends (shifted op n k at a b) n
shifted_end op n zero at a b = ends_alone (shifted op n zero at a b) n refl
shifted_end op n (suc k) at a b = ends_alone (shifted op n (suc k) at a b) n refl

reduced_end : (op : Op1) (n at : ℕ) (a : List WireId) → Ends (reduced op n at a) 1
reduced_end op zero at a = ends_alone (reduced op zero at a) 1 refl
reduced_end op (suc n) at a = ends_alone (reduced op (suc n) at a) 1 refl

along : (p : Piece) (v w : ℕ) → v ≡ w → Ends p v → Ends p w
along p v w e h = subst (Ends p) e h

pub extended_end : (x : Scalar) (n m at : ℕ) (a : List WireId) → Ends (extended x n m at a) (n + m)
extended_end x n zero at a = along (extended x n zero at a) n (n + 0) (omega arith) (ends_alone (extended x n zero at a) n refl)
extended_end x zero (suc m) at a = along (extended x zero (suc m) at a) (suc m) (0 + suc m) (omega arith) (ends_alone (extended x zero (suc m) at a) (suc m) refl)
extended_end U (suc n) (suc m) at a = record { front = suc m ∷ []; is = refl }
extended_end S (suc n) (suc m) at a = record { front = 1 ∷ []; is = refl }
extended_end B (suc n) (suc m) at a = record { front = suc m ∷ []; is = refl }

widened_end : (x : Scalar) (op : Op2) (w n k at : ℕ) (a b : List WireId) → Ends (widened x op w n k at a b) w
widened_end x op w n k at a b =
    let p : Piece = extended x n (w - n) at a in
    let q : Piece = extended x k (w - k) (after at p) b in
    ends_then p _ w (ends_then q _ w (ends_alone _ w refl))

pub word_ends : (q : Prim) (n m at : ℕ) (a b : List WireId) → IsOnWords q → Ends (word_cells q n m at a b) (given_width (row_of q) n m)
word_ends AddU n m at a b on = ends_alone (word_cells AddU n m at a b) n refl
word_ends AddS n m at a b on = ends_alone (word_cells AddS n m at a b) n refl
word_ends SubU n m at a b on = ends_alone (word_cells SubU n m at a b) n refl
word_ends SubS n m at a b on = ends_alone (word_cells SubS n m at a b) n refl
word_ends MulU n m at a b on = ends_alone (word_cells MulU n m at a b) n refl
word_ends MulS n m at a b on = ends_alone (word_cells MulS n m at a b) n refl
word_ends XaddU n m at a b on = widened_end U Add (n + 1) n n at a b
word_ends XaddS n m at a b on = widened_end S Add (n + 1) n n at a b
word_ends XmulU n m at a b on = widened_end U Mul (n + m) n m at a b
word_ends XmulS n m at a b on = widened_end S Mul (n + m) n m at a b
word_ends AndU n m at a b on = ends_alone (word_cells AndU n m at a b) n refl
word_ends AndS n m at a b on = ends_alone (word_cells AndS n m at a b) n refl
word_ends AndB n m at a b on = ends_alone (word_cells AndB n m at a b) n refl
word_ends OrU n m at a b on = ends_alone (word_cells OrU n m at a b) n refl
word_ends OrS n m at a b on = ends_alone (word_cells OrS n m at a b) n refl
word_ends OrB n m at a b on = ends_alone (word_cells OrB n m at a b) n refl
word_ends XorU n m at a b on = ends_alone (word_cells XorU n m at a b) n refl
word_ends XorS n m at a b on = ends_alone (word_cells XorS n m at a b) n refl
word_ends XorB n m at a b on = ends_alone (word_cells XorB n m at a b) n refl
word_ends NotU n m at a b on = ends_alone (word_cells NotU n m at a b) n refl
word_ends NotS n m at a b on = ends_alone (word_cells NotS n m at a b) n refl
word_ends NotB n m at a b on = ends_alone (word_cells NotB n m at a b) n refl
word_ends ShlU n m at a b on = shifted_end Shl n m at a b
word_ends ShlS n m at a b on = shifted_end Shl n m at a b
word_ends ShlB n m at a b on = shifted_end Shl n m at a b
word_ends ShrU n m at a b on = shifted_end Shr n m at a b
word_ends ShrS n m at a b on = shifted_end Sar n m at a b
word_ends ShrB n m at a b on = shifted_end Shr n m at a b
word_ends EqU n m at a b on = compared_end Eq n at a b
word_ends EqS n m at a b on = compared_end Eq n at a b
word_ends EqB n m at a b on = compared_end Eq n at a b
word_ends PrimLtU n m at a b on = compared_end LtU n at a b
word_ends PrimLtS n m at a b on = compared_end LtS n at a b
word_ends ExtU n m at a b on = extended_end U n m at a
word_ends ExtS n m at a b on = extended_end S n m at a
word_ends ExtB n m at a b on = extended_end B n m at a
word_ends TruncU n m at a b on = ends_alone (word_cells TruncU n m at a b) n refl
word_ends TruncS n m at a b on = ends_alone (word_cells TruncS n m at a b) n refl
word_ends TruncB n m at a b on = ends_alone (word_cells TruncB n m at a b) n refl
word_ends Slice n m at a b on = ends_alone (word_cells Slice n m at a b) m refl
word_ends PrimJoin n m at a b on = ends_alone (word_cells PrimJoin n m at a b) (n + m) refl
word_ends PrimRedAnd n m at a b on = reduced_end RedAnd n at a
word_ends PrimRedOr n m at a b on = reduced_end RedOr n at a
word_ends PrimRedXor n m at a b on = reduced_end RedXor n at a
word_ends PackU n m at a b on = ends_alone (word_cells PackU n m at a b) n refl
word_ends PackS n m at a b on = ends_alone (word_cells PackS n m at a b) n refl
word_ends UnpackU n m at a b on = ends_alone (word_cells UnpackU n m at a b) n refl
word_ends UnpackS n m at a b on = ends_alone (word_cells UnpackS n m at a b) n refl
word_ends _ n m at a b on = absurd on

constructed_end : (tag number fields w at : ℕ) (wires : List WireId) → Ends (constructed tag number fields w at wires) w
constructed_end tag number fields w at wires =
    let padding : ℕ = w - (tag + fields) in
    record { front = present (tag ∷ []) ++ present (padding ∷ []); is = sym (append_assoc (present (tag ∷ [])) (present (padding ∷ [])) (present (w ∷ []))) }

-- at these types the primitive gives a word of this width
abbrev pub GivesWidth : Prim → List TypeTree → ℕ → Type 0
GivesWidth q types w = given_width (row_of q) (slice_index (map closed_value types) 0) (slice_index (map closed_value types) 1) ≡ w

pub value_ends : {ground : Ground} {scope : List Variable} {n w : ℕ} {h : TermTree} {ts : List TypeTree} {es : List TermTree} {p : Piece} → ValueCells ground scope n w h ts es p → ((q : Prim) → h ≡ prim q → IsOnWords q → GivesWidth q ts w) → Ends p w
value_ends {w = w} value_variable gives = ends_alone _ w refl
value_ends {w = w} value_literal gives = ends_alone _ w refl
value_ends {n = n} {w = w} (value_constructor i f) gives = constructed_end _ _ _ w n _
value_ends {w = w} value_vector gives = ends_alone _ w refl
value_ends {n = n} {w = w} (value_primitive {p = q} on) gives = subst (Ends (word_cells q _ _ n _ _)) (gives q refl on) (word_ends q _ _ n _ _ on)
value_ends {w = w} value_element gives = ends_alone _ w refl
value_ends {n = n} {w = w} (value_element_at {m = m} {k = k}) gives = element_at_ends w (closed_value m) (closed_value k) n _ _
value_ends {w = w} value_call gives = ends_alone _ w refl

-- how many arguments are types, and how many are terms
abbrev type_count : List Arg → ℕ
type_count [] = 0
type_count (OfType t ∷ args) = suc (type_count args)
type_count (OfTerm e ∷ args) = type_count args

abbrev term_count : List Arg → ℕ
term_count [] = 0
term_count (OfType t ∷ args) = term_count args
term_count (OfTerm e ∷ args) = suc (term_count args)

types_counted : (types : List TypeTree) (es : List TermTree) → type_count (types_then types es) ≡ length types
types_counted [] [] = refl
types_counted [] (e ∷ es) = types_counted [] es
types_counted (t ∷ types) es = ap suc (types_counted types es)

terms_counted : (types : List TypeTree) (es : List TermTree) → term_count (types_then types es) ≡ length es
terms_counted [] [] = refl
terms_counted [] (e ∷ es) = ap suc (terms_counted [] es)
terms_counted (t ∷ types) es = terms_counted types es

all_counted : (types : List TypeTree) (es : List TermTree) → length (types_then types es) ≡ length types + length es
all_counted [] [] = refl
all_counted [] (e ∷ es) = let k = all_counted [] es in omega (arith, k)
all_counted (t ∷ types) es = let k = all_counted types es in omega (arith, k)

none_left : (more : List Arg) → length more ≡ 0 → more ≡ []
none_left [] e = refl
none_left (a ∷ more) e = absurd (omega (arith, e))

pub types_after : (f : TermTree) (types : List TypeTree) (es : List TermTree) → types_of (applied f (types_then types es)) ≡ types_of f ++ types
types_after f [] [] = sym (append-nil (types_of f))
types_after f [] (e ∷ es) = types_after (app f e) [] es
types_after f (t ∷ types) es = types_after (ty_app f t) types es ∙ append_assoc (types_of f) (t ∷ []) types

-- what has a width asks for nothing
pub wide_asks : Facts → {datas : List _} {t u : TypeTree} {m : Measure} → Measured datas t m → SameTypes t u → AsksForNone u
wide_asks facts measured_scalar same = let at = facts.same.as_scalar same in subst AsksForNone (sym at.1) tt
wide_asks facts (measured_vector a) same = let at = facts.same.as_vector same in subst AsksForNone (sym at.2) tt
wide_asks facts (measured_data known many a) same = let at = facts.same.as_data same in subst AsksForNone (sym at.1) tt

-- a primitive with as many arguments as its type asks for has as many types and as many terms
pub prim_saturated : Facts → (s : Setting) (vars : List TypeTree) (q : Prim) (ks : List Kind) (ps : List TypeTree) (r : TypeTree) (types : List TypeTree) (xs : List ℕ) (t : TypeTree) → IsSound s → AreTermTypes s [] vars → schema_type q ≡ for_each ks (from_each ps r) → length types + length xs ≡ length ks + length ps → HasType s [] vars (on_names (prim q) types xs) t → AsksForNone t
    → (length types ≡ length ks) × IsSaturated s [] vars ks ps r types (names xs) t
prim_saturated facts s vars q ks ps r types xs t sound scoped schema count typed asks =
    let args : List Arg = types_then types (names xs) in
    let all = facts.terms.spine_takes s [] vars (prim q) ks ps r args t sound scoped (subst (HasType s [] vars (prim q)) schema h_prim) typed asks in
    let whole = all_counted types (names xs) in
    let parts = all_counted all.types all.es in
    let seam = length-append (types_then all.types all.es) all.more in
    let same = ap (λ (args : List Arg). length args) all.are in
    let few = length-map xs (λ x. var x) in
    let on_types = all.on_types in
    let on_terms = all.on_terms in
    let left : length all.more ≡ 0 = omega (arith, whole, parts, seam, same, few, on_types, on_terms, count) in
    let are : args ≡ types_then all.types all.es =
    all.are ∙ ap (λ more. types_then all.types all.es ++ more) (none_left all.more left) ∙ append-nil (types_then all.types all.es) in
    let type_counts : length types ≡ length all.types = sym (types_counted types (names xs)) ∙ ap (λ args. type_count args) are ∙ types_counted all.types all.es in
    let term_counts : length (names xs) ≡ length all.es = sym (terms_counted types (names xs)) ∙ ap (λ args. term_count args) are ∙ terms_counted all.types all.es in
    (type_counts ∙ on_types, facts.terms.prim_at_arguments s [] vars q ks ps r types (names xs) t sound scoped schema (type_counts ∙ on_types) (term_counts ∙ on_terms) typed)

-- a primitive on types and variables
pub record PrimSide (e : TermTree) (q : Prim) : Type 0 where
  pub types : List TypeTree
  pub xs : List ℕ
  pub is : e ≡ on_names (prim q) types xs
  pub count : length types + length xs ≡ asked_for (schema_type q)

pub prim_side : {o : Origins} {vars : List TypeTree} {e : TermTree} → IsSide o vars e → (q : Prim) → head_of e ≡ prim q → PrimSide e q
prim_side side_variable q h = absurd cc
prim_side side_literal q h = absurd cc
prim_side (side_constructor c types xs known n) q h = let k : con c ≡ prim q = sym (head_then (con c) types (names xs)) ∙ h in absurd cc
prim_side (side_vector t xs) q h = absurd cc
prim_side (side_primitive r types xs is n) q h =
    let k : prim r ≡ prim q = sym (head_then (prim r) types (names xs)) ∙ h in
    let same : r ≡ q = cc in
    record { types = types; xs = xs; is = ap (λ r. on_names (prim r) types xs) same; count = n ∙ ap (λ r. asked_for (schema_type r)) same }
prim_side (side_call j xs known value n) q h = let k : made j ≡ prim q = sym (head_then (made j) [] (names xs)) ∙ h in absurd cc
prim_side (side_case i others) q h = absurd cc

-- a typed one gives a word of the width of its type
pub prim_gives : Facts → SameKeepsMeasure → {o : Origins} (s : Setting) → IsSound s → {shown vars : List TypeTree} {e : TermTree} {t u : TypeTree} {k : Kind} {w : ℕ} → IsSide o shown e → AreTermTypes s [] vars → HasType s [] vars e u → HasKind s [] t k → SameTypes t u → HasWidth s.datas t w → (q : Prim) → head_of e ≡ prim q → IsOnWords q → GivesWidth q (types_of e) w
prim_gives facts law s sound {vars = vars} {e = e} {t = t} {u = u} {k = k} {w = w} form scoped typed kind same has q h on =
    let side = prim_side form q h in
    let row : Row = row_of q in
    let line = row_is row on in
    let all = prim_saturated facts s vars q (kinds_of row) (params_of row) (result_of row) side.types side.xs u sound scoped line.0 (side.count ∙ line.1) (subst (λ e. HasType s [] vars e u) side.is typed) (wide_asks facts has same) in
    let wide = law (fits w) s t (sub (result_of row) (arguments (trees_of side.types))) sound (record { kind = k; has = kind; same = facts.same.same_through same (facts.same.same_turned all.1.gives) }) has in
    let types : types_of e ≡ side.types = ap (λ e. types_of e) side.is ∙ types_after (prim q) side.types (names side.xs) in
    subst (λ ts. GivesWidth q ts w) (sym types) (row_gives facts s.datas sound.begins.0 sound.begins.1 row on side.types all.0 w wide)
