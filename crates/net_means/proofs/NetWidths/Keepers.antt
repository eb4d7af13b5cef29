-- Right sides of circuits with constants: pure signals, registers and block RAMs.
use Rattle.std.proofs.Common.{◌≡◌, ℕ, suc, ◌+◌, ◌≤◌, arith, Bool, List, [], ◌∷◌, length, refl, sym, ap, ◌∙◌, subst}
use Rattle.std.specs.List.{AllByRecursion}
use Rattle.chw_base.specs.declared.index.WireId.{WireId}
use Rattle.chw_base.specs.declared.limits.TheConstants.{RAM_WORDS, SCALAR_BITS, VECTOR_LENGTH}
use Rattle.chw_types.specs.declared.declarations.Data.{Data}
use Rattle.chw_types.specs.declared.kind.Kind.{Kind}
use Rattle.chw_types.specs.declared.kind.Kind.TheVariants.{Dom, Nat, Val}
use Rattle.chw_types.specs.declared.kind.Scalar.TheVariants.{U}
use Rattle.chw_types.specs.Kinds.{KindsOf, kind_and}
use Rattle.chw_types.specs.SamePromises.{SameValues, natural_value}
use Rattle.chw_types.specs.SameTypes.{SameTypes}
use Rattle.chw_types.specs.TypeMoves.{sub}
use Rattle.chw_types.specs.TypeTree.{TypeTree, TypeTrees, type_and, ty_var, nat_lit, nat_sum, scalar, vector, signal}
use Rattle.type_laws.specs.SameKept.{FieldsKeepSame}
use Rattle.chw_prims.specs.declared.prim.Primitive.TheVariants.{Pure, Register, BlockRam}
use Rattle.chw_prims.specs.Schemas.{maybe, pair}
use Rattle.chw_terms.specs.declared.scene.Sort.TheVariants.{Circuit}
use Rattle.chw_terms.specs.TermTree.{TermTree, var, prim, vec_lit, Terms, no_terms, term_and}
use Rattle.chw_terms.specs.TermView.{applied}
use Rattle.chw_typing.specs.Programs.{IsSound}
use Rattle.chw_typing.specs.Scopes.{Setting, HasKind, AreTermTypes}
use Rattle.chw_typing.specs.Typing.{HasType, HasTypeUpTo, h_vec, count}
use Rattle.chw_layout.specs.Datum.{Datums, no_data, datum_and, elements}
use Rattle.chw_layout.specs.Encodes.{count_of}
use Rattle.chw_layout.specs.Measured.{closed_value, HasWidth}
use Rattle.layout_laws.specs.SameLayout.{SameKeepsMeasure}
use Rattle.chw_typing.specs.Given.{types_then}
use Rattle.net_built.specs.Data.{HasParts, value_part}
use Rattle.net_built.specs.Memories.{Denotes, denotes_elements, DenoteEach, denote_none, denote_and, HasBits, EncodeEach, HasWords}
use Rattle.net_built.specs.Terms.{list_of, Variable, wires_at}
use Rattle.net_built.specs.Wires.{present}
use Rattle.net_grounds.specs.Facts.{Facts}
use Rattle.net_means.specs.NetFits.Widths.{AreWide}
use Rattle.net_means.proofs.NetFits.Ports.{parts_kept, signal_part}
use Rattle.net_means.proofs.WordRows.{scalar_within}
use Rattle.net_means.proofs.NetFits.Scopes.{Fits, found, var_at, wires_there}
use Rattle.net_means.proofs.NetFits.SimpleSides.{vector_within}
use Rattle.net_means.proofs.NetWidths.CallWidths.{signal_wide}
use Rattle.net_means.proofs.NetWidths.PortsWide.{PortsWide}
use Rattle.net_means.proofs.NetWidths.Writes.{write_width}

pub bits_long : Facts → {datas : List Data} {a : TypeTree} {c : TermTree} {bits : List Bool} {w : ℕ} → HasBits datas a c bits → HasWidth datas a w → length bits ≡ w
bits_long facts b has = facts.encodings.encoded_length b.encodes has

-- as many words as values, each as wide as the type
words_fit : Facts → (datas : List Data) (a : TypeTree) (w : ℕ) (ds : Datums) (words : List (List Bool)) → HasWidth datas a w → EncodeEach datas a ds words → (length words ≡ count_of ds) × AllByRecursion (λ (word : List Bool). length word ≡ w) words
words_fit facts datas a w no_data [] has h = (refl, tt)
words_fit facts datas a w no_data (b ∷ words) has h = absurd h
words_fit facts datas a w (datum_and d ds) [] has h = absurd h
words_fit facts datas a w (datum_and d ds) (b ∷ words) has h =
    let rest = words_fit facts datas a w ds words has h.1 in (ap suc rest.0, (facts.encodings.encoded_length h.0 has, rest.1))

each_count : (es : Terms) (ds : Datums) → DenoteEach (list_of es) ds → count_of ds ≡ count es
each_count no_terms no_data denote_none = refl
each_count no_terms (datum_and d ds) h = elim h [ ]
each_count (term_and e es) no_data h = elim h [ ]
each_count (term_and e es) (datum_and d ds) (denote_and one more) = ap suc (each_count es ds more)

vec_typed : {s : Setting} {vars : List TypeTree} {t u : TypeTree} {es : Terms} → HasType s [] vars (vec_lit t es) u → u ≡ vector (nat_lit (count es)) t
vec_typed (h_vec is all) = refl

literal_number : Facts → (values : SameValues) (n a t u : TypeTree) (c : ℕ) → closed_value n ≤ VECTOR_LENGTH → u ≡ vector (nat_lit c) t → SameTypes (vector n a) u → c ≡ closed_value n
unfolding natural_value
literal_number facts values n a t u c small is same =
    let at = facts.same.as_vector same in
    let both : vector (nat_lit c) t ≡ vector at.0 at.1 = sym is ∙ at.2 in
    let number : nat_lit c ≡ at.0 = cc in
    let means : closed_value n ≡ closed_value (nat_lit c) = facts.same_layout.same_number values at.3 ∙ ap (λ n. closed_value n) (sym number) in
    omega (arith, means, small)

-- a typed vector of constants has as many values as its type says
values_counted : Facts → (values : SameValues) {s : Setting} {vars : List TypeTree} {c : TermTree} {ds : Datums} {u : TypeTree} (n a : TypeTree) → closed_value n ≤ VECTOR_LENGTH → Denotes c (elements ds) → HasType s [] vars c u → SameTypes (vector n a) u → count_of ds ≡ closed_value n
values_counted facts values {ds = ds} {u = u} n a small (denotes_elements {t = t} {es = es} all) typed same = each_count es ds all ∙ literal_number facts values n a t u (count es) small (vec_typed typed) same

sum_some : (m : TypeTree) → 1 ≤ closed_value (nat_sum m (nat_lit 1))
unfolding natural_value
sum_some m = omega arith

-- what the cells of a block RAM ask for
pub record MemoryFits (all : List ℕ) (read write : List WireId) (k : TypeTree) (w : ℕ) (words : List (List Bool)) : Type 0 where
  pub reads : AreWide all read (present (closed_value k ∷ []))
  pub writes : AreWide all write (suc (closed_value k + w) ∷ [])
  pub each : AllByRecursion (λ (word : List Bool). length word ≡ w) words
  pub some : 1 ≤ length words
  pub most : length words ≤ RAM_WORDS
  pub address : closed_value k ≤ SCALAR_BITS

module _ (facts : Facts) (keep : FieldsKeepSame) (law : SameKeepsMeasure) (values : SameValues) (s : Setting) (sound : IsSound s) (all : List ℕ) (vars : List TypeTree) (scope : List Variable) (fit : Fits vars scope) (wide : PortsWide s.datas all scope) (scoped : AreTermTypes s [] vars) where
  -- the values of a signal are as wide as its part
  payload_width : (d a t u : TypeTree) (k : Kind) (w : ℕ) → HasKind s [] t k → SameTypes t u → SameTypes (signal d a) u → HasParts s.datas Circuit t (w ∷ []) → HasWidth s.datas a w
  payload_width d a t u k w kind same gives has =
      let part = signal_part (parts_kept facts keep law s sound t (signal d a) (w ∷ []) (record { kind = k; has = kind; same = facts.same.same_through same (facts.same.same_turned gives) }) has) in
      let are : w ∷ [] ≡ part.0 ∷ [] = part.2 in
      let is : part.0 ≡ w = cc in
      subst (HasWidth s.datas a) is part.1

  pub pure_long : (d a : TypeTree) (c : TermTree) (t u : TypeTree) (k : Kind) (w : ℕ) (bits : List Bool) → HasType s [] vars (applied (prim Pure) (types_then (d ∷ a ∷ []) (c ∷ []))) u → HasKind s [] t k → SameTypes t u → HasParts s.datas Circuit t (w ∷ []) → HasBits s.datas a c bits → length bits ≡ w
  unfolding sub
  pure_long d a c t u k w bits typed kind same has b =
      let args = facts.terms.prim_at_arguments s [] vars Pure (Dom ∷ Val ∷ []) (ty_var 0 ∷ []) (signal (ty_var 1) (ty_var 0)) (d ∷ a ∷ []) (c ∷ []) u sound scoped refl refl refl typed in
      let gives : SameTypes (signal d a) u = args.gives in
      bits_long facts b (payload_width d a t u k w kind same gives has)

  second_kind : {t u : TypeTree} {ts : TypeTrees} {j k : Kind} {ks : List Kind} → KindsOf s.datas s.domains [] (type_and t (type_and u ts)) (j ∷ k ∷ ks) → HasKind s [] u k
  second_kind (kind_and j (kind_and k more)) = k

  fourth_kind : {d m k a : TypeTree} {ts : TypeTrees} {h i j l : Kind} {ks : List Kind} → KindsOf s.datas s.domains [] (type_and d (type_and m (type_and k (type_and a ts)))) (h ∷ i ∷ j ∷ l ∷ ks) → HasKind s [] a l
  fourth_kind (kind_and h (kind_and i (kind_and j (kind_and l more)))) = l

  pub register_fits : (d a : TypeTree) (c : TermTree) (x : ℕ) (t u : TypeTree) (k : Kind) (w : ℕ) (bits : List Bool) → HasType s [] vars (applied (prim Register) (types_then (d ∷ a ∷ []) (c ∷ var x ∷ []))) u → HasKind s [] t k → SameTypes t u → HasParts s.datas Circuit t (w ∷ []) → HasBits s.datas a c bits
      → (length bits ≡ w) × AreWide all (wires_at scope x) (present (w ∷ []))
  unfolding sub
  register_fits d a c x t u k w bits typed kind same has b =
      let args = facts.terms.prim_at_arguments s [] vars Register (Dom ∷ Val ∷ []) (ty_var 0 ∷ signal (ty_var 1) (ty_var 0) ∷ []) (signal (ty_var 1) (ty_var 0)) (d ∷ a ∷ []) (c ∷ var x ∷ []) u sound scoped refl refl refl typed in
      let gives : SameTypes (signal d a) u = args.gives in
      let given : HasTypeUpTo s [] vars (var x) (signal d a) = args.args_given.1.0 in
      let width = payload_width d a t u k w kind same gives has in
      (bits_long facts b width, signal_wide facts keep law facts.terms.prim_at_arguments s sound all vars scope fit wide scoped x d a a Val (w ∷ []) given (second_kind args.have) (facts.same.same_self a) (value_part width))

  -- a variable that is a signal of words
  record WordSignal (x : ℕ) (k : TypeTree) : Type 0 where
    wires : AreWide all (wires_at scope x) (present (closed_value k ∷ []))
    small : closed_value k ≤ SCALAR_BITS

  -- a variable that is a signal has wires of a type that is the same up to naturals
  record SignalWires (x : ℕ) (a : TypeTree) : Type 0 where
    type : TypeTree
    same : SameTypes a type
    width : ℕ
    has : HasWidth s.datas type width
    wires : AreWide all (wires_at scope x) (present (width ∷ []))

  signal_wires : (x : ℕ) (d a : TypeTree) → HasTypeUpTo s [] vars (var x) (signal d a) → SignalWires x a
  signal_wires x d a given =
      let at = found facts vars scope x given.type fit (var_at given.has) in
      let form = facts.same.as_signal (facts.same.same_through given.same at.same) in
      let it = wide x at.it at.is in
      let part = signal_part (subst (λ t. HasParts s.datas Circuit t it.parts) form.2 it.have) in
      record {
        type = form.1;
        same = form.4;
        width = part.0;
        has = part.1;
        wires =
            subst (λ ws. AreWide all (wires_at scope x) (present ws)) part.2 (subst (λ (wires : List WireId). AreWide all wires (present it.parts)) (sym (wires_there scope x at.it at.is)) it.wide);
      }

  word_signal : (x : ℕ) (d k : TypeTree) → HasTypeUpTo s [] vars (var x) (signal d (scalar U k)) → WordSignal x k
  word_signal x d k given =
      let it = signal_wires x d (scalar U k) given in
      let form = facts.same.as_scalar it.same in
      let has : HasWidth s.datas (scalar U form.0) it.width = subst (λ t. HasWidth s.datas t it.width) form.1 it.has in
      let number : closed_value k ≡ closed_value form.0 = facts.same_layout.same_number values form.2 in
      let width : it.width ≡ closed_value k = facts.widths.scalar_width has ∙ sym number in
      let within = scalar_within facts has in
      record { wires = subst (λ w. AreWide all (wires_at scope x) (present (w ∷ []))) width it.wires; small = omega (arith, number, within) }

  pub memory_fits : (d m k a : TypeTree) (c : TermTree) (x y : ℕ) (t u : TypeTree) (j : Kind) (w v : ℕ) (words : List (List Bool)) → HasType s [] vars (applied (prim BlockRam) (types_then (d ∷ m ∷ k ∷ a ∷ []) (c ∷ var x ∷ var y ∷ []))) u → HasKind s [] t j → SameTypes t u → HasParts s.datas Circuit t (w ∷ [])
      → HasWidth s.datas (vector (nat_sum m (nat_lit 1)) a) v → HasWords s.datas a c words → MemoryFits all (wires_at scope x) (wires_at scope y) k w words
  unfolding sub
  memory_fits d m k a c x y t u j w v words typed kind same has content h =
      let args = facts.terms.prim_at_arguments s [] vars BlockRam (Dom ∷ Nat ∷ Nat ∷ Val ∷ []) (vector (nat_sum (ty_var 2) (nat_lit 1)) (ty_var 0) ∷ signal (ty_var 3) (scalar U (ty_var 1)) ∷ signal (ty_var 3) (maybe (pair (scalar U (ty_var 1)) (ty_var 0))) ∷ []) (signal (ty_var 3) (ty_var 0)) (d ∷ m ∷ k ∷ a ∷ []) (c ∷ var x ∷ var y ∷ []) u sound scoped refl refl refl typed in
      let gives : SameTypes (signal d a) u = args.gives in
      let constant : HasTypeUpTo s [] vars c (vector (nat_sum m (nat_lit 1)) a) = args.args_given.0 in
      let reading : HasTypeUpTo s [] vars (var x) (signal d (scalar U k)) = args.args_given.1.0 in
      let writing : HasTypeUpTo s [] vars (var y) (signal d (maybe (pair (scalar U k) a))) = args.args_given.1.1.0 in
      let width = payload_width d a t u j w kind same gives has in
      let read = word_signal x d k reading in
      let write = signal_wires y d (maybe (pair (scalar U k) a)) writing in
      let long : write.width ≡ suc (closed_value k + w) = write_width facts law values s sound k a write.type w write.width (fourth_kind args.have) width write.same write.has in
      let fitting = words_fit facts s.datas a w h.values words width h.encode in
      let limit : closed_value (nat_sum m (nat_lit 1)) ≤ VECTOR_LENGTH = vector_within facts content in
      let many = values_counted facts values (nat_sum m (nat_lit 1)) a limit h.denotes constant.has constant.same in
      let size = fitting.0 in
      let one = sum_some m in
      record {
        reads = read.wires;
        writes = subst (λ w. AreWide all (wires_at scope y) (present (w ∷ []))) long write.wires;
        each = fitting.1;
        some = omega (arith, size, many, one);
        most = omega (arith, size, many, limit);
        address = read.small;
      }
