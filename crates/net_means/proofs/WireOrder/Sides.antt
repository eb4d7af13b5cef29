-- Each right side that is neither a call nor a case.
use Rattle.std.proofs.Common.{◌≡◌, ℕ, ◌+◌, List, [], ◌∷◌, length, Some, slice_get, refl, sym, subst}
use Rattle.chw_types.specs.SamePromises.{SameValues}
use Rattle.chw_types.specs.TypeTree.{TypeTree}
use Rattle.chw_prims.specs.declared.prim.Primitive.{Primitive as Prim}
use Rattle.chw_prims.specs.declared.prim.Primitive.TheVariants.{VGet, VAt}
use Rattle.chw_prims.specs.Schemas.{schema_type}
use Rattle.chw_terms.specs.TermTree.{TermTree, made, prim}
use Rattle.rewriting.specs.Origins.{Origins}
use Rattle.rewriting.specs.Spots.{asked_for, IsOnWords}
use Rattle.normal_forms.specs.Values.{on_names, IsSide, side_variable, side_literal, side_constructor, side_vector, side_primitive, side_call, side_case}
use Rattle.netlist.specs.declared.net.Net.{Net}
use Rattle.net_built.specs.Bodies.{ValueCells, value_primitive, value_element, value_element_at}
use Rattle.net_built.specs.Circuits.{Ground as Built}
use Rattle.net_built.specs.Terms.{head_of, Variable}
use Rattle.net_built.specs.Wires.{Piece, last_wires}
use Rattle.net_grounds.specs.Facts.{Facts}
use Rattle.net_means.specs.SideBits.Sides.{types_in, LooksAt}
use Rattle.net_means.proofs.SideBits.Heads.{names, the_head, built_at}
use Rattle.net_means.specs.WireOrder.Awaits.{AllSettle}
use Rattle.net_means.specs.WireOrder.Sides.{SideLaid}
use Rattle.net_means.proofs.WireOrder.Elements.{get_settles, at_settles}
use Rattle.net_means.proofs.WireOrder.Joins.{vector_settles, constructor_settles}
use Rattle.net_means.proofs.WireOrder.Simple.{name_settles, literal_settles}
use Rattle.net_means.proofs.WireOrder.WordSides.{word_settles}

-- a primitive with cells is on words, or takes an element
data Form : Prim → List TypeTree → List TermTree → Type 0 where
  on_words : {q : Prim} {types : List TypeTree} {es : List TermTree} → IsOnWords q → Form q types es
  by_number : {q : Prim} {types : List TypeTree} {es : List TermTree} (i m a : TypeTree) (v : TermTree) → q ≡ VGet → types ≡ i ∷ m ∷ a ∷ [] → es ≡ v ∷ [] → Form q types es
  by_index : {q : Prim} {types : List TypeTree} {es : List TermTree} (m k a : TypeTree) (v i : TermTree) → q ≡ VAt → types ≡ m ∷ k ∷ a ∷ [] → es ≡ v ∷ i ∷ [] → Form q types es

form_of : {ground : Built} {scope : List Variable} {n w : ℕ} {q : Prim} {types : List TypeTree} {es : List TermTree} {p : Piece} → ValueCells ground scope n w (prim q) types es p → Form q types es
form_of (value_primitive on) = on_words on
form_of (value_element {i = i} {m = m} {a = a} {v = v}) = by_number i m a v refl refl refl
form_of (value_element_at {m = m} {k = k} {a = a} {v = v} {i = i}) = by_index m k a v i refl refl refl

one_name : (xs : List ℕ) (v : TermTree) → names xs ≡ v ∷ [] → (x : ℕ) × (xs ≡ x ∷ [])
one_name [] v e = absurd cc
one_name (x ∷ []) v e = (x, refl)
one_name (x ∷ y ∷ xs) v e = absurd cc

two_names : (xs : List ℕ) (v i : TermTree) → names xs ≡ v ∷ i ∷ [] → (x : ℕ) × (y : ℕ) × (xs ≡ x ∷ y ∷ [])
two_names [] v i e = absurd cc
two_names (x ∷ []) v i e = absurd cc
two_names (x ∷ y ∷ []) v i e = (x, y, refl)
two_names (x ∷ y ∷ z ∷ xs) v i e = absurd cc

module _ (facts : Facts) (values : SameValues) (o : Origins) (order : List ℕ) (scope : List Variable) (net : Net) (path : List ℕ) (n w : ℕ) (t : TypeTree) (piece : Piece) (x : ℕ) (it : Variable) (known : slice_get scope x ≡ Some it) where
  abbrev Settle : TermTree → Type 0
  Settle e = SideLaid o order scope net path n w t e piece → LooksAt e x → AllSettle net path (last_wires n piece (w ∷ [])) path it.wires

  prim_settles : (q : Prim) (types : List TypeTree) (xs : List ℕ) → length types + length xs ≡ asked_for (schema_type q) → Form q types (names xs) → Settle (on_names (prim q) types xs)
  prim_settles q types xs count (on_words on) = λ g l. word_settles facts values o order scope net path n w t piece q types xs x it on count g l known
  prim_settles q types xs count (by_number i m a v is_get are es) =
      let y = one_name xs v es in
      let get : Settle (on_names (prim VGet) (i ∷ m ∷ a ∷ []) (y.0 ∷ [])) = λ g l. get_settles facts values o order scope net path n w t piece i m a y.0 x it g l known in
      subst (λ q. Settle (on_names (prim q) types xs)) (sym is_get)
      (subst (λ types. Settle (on_names (prim VGet) types xs)) (sym are) (subst (λ xs. Settle (on_names (prim VGet) (i ∷ m ∷ a ∷ []) xs)) (sym y.1) get))
  prim_settles q types xs count (by_index m k a v i is_at are es) =
      let y = two_names xs v i es in
      let at : Settle (on_names (prim VAt) (m ∷ k ∷ a ∷ []) (y.0 ∷ y.1 ∷ [])) = λ g l. at_settles facts values o order scope net path n w t piece m k a y.0 y.1 x it g l known in
      subst (λ q. Settle (on_names (prim q) types xs)) (sym is_at)
      (subst (λ types. Settle (on_names (prim VAt) types xs)) (sym are) (subst (λ xs. Settle (on_names (prim VAt) (m ∷ k ∷ a ∷ []) xs)) (sym y.2) at))

  pub side_settles : {e : TermTree} → IsSide o (types_in scope) e → ((m : ℕ) → ¬ (head_of e ≡ made m)) → Settle e
  side_settles (side_variable {x = y}) calls_none g l = name_settles o order scope net path n w t piece y x it g l known
  side_settles (side_literal {s = s} {bits = bits}) calls_none g l = literal_settles o order scope net path n w t piece s bits x it g l known
  side_settles (side_constructor c types xs at count) calls_none g l = constructor_settles o order scope net path n w t piece c types xs x it g l known
  side_settles (side_vector u xs) calls_none g l = vector_settles o order scope net path n w t piece u xs x it g l known
  side_settles (side_primitive q types xs kind count) calls_none g l =
      prim_settles q types xs count (form_of (built_at (record { head = refl; types = refl; operands = refl }) types xs g.built)) g l
  side_settles (side_call m xs at sort count) calls_none g l = absurd (calls_none m (the_head (record { head = refl; types = refl; operands = refl }) [] xs))
  side_settles (side_case at parts) calls_none g l = elim g.built [ ]
