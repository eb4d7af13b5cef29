-- Each right side that is neither a call nor a case.
use Rattle.std.proofs.Common.{◌≡◌, ℕ, ◌+◌, List, [], ◌∷◌, length, refl, sym, subst}
use Rattle.chw_clock.specs.declared.event.Event.{Event}
use Rattle.chw_types.specs.SamePromises.{SameValues}
use Rattle.chw_types.specs.TypeTree.{TypeTree, TypeTrees}
use Rattle.type_laws.specs.SameKept.{FieldsKeepSame}
use Rattle.chw_prims.specs.declared.prim.Primitive.{Primitive as Prim}
use Rattle.chw_prims.specs.declared.prim.Primitive.TheVariants.{VGet, VAt}
use Rattle.chw_prims.specs.Schemas.{schema_type}
use Rattle.chw_terms.specs.TermTree.{TermTree, made, prim}
use Rattle.rewriting.specs.Origins.{Origins}
use Rattle.rewriting.specs.Spots.{asked_for, IsOnWords}
use Rattle.normal_forms.specs.Values.{on_names, IsSide, side_variable, side_literal, side_constructor, side_vector, side_primitive, side_call, side_case}
use Rattle.chw_meaning.specs.Values.{Thunks}
use Rattle.netlist.specs.declared.net.Net.{Net}
use Rattle.net_built.specs.Bodies.{ValueCells, value_primitive, value_element, value_element_at}
use Rattle.net_built.specs.Circuits.{Ground as Built}
use Rattle.net_built.specs.Terms.{head_of, Variable}
use Rattle.net_built.specs.Wires.{Piece, last_wires}
use Rattle.net_grounds.specs.Facts.{Facts}
use Rattle.net_means.specs.SideBits.Sides.{types_in, SideGiven, SideHas}
use Rattle.net_means.proofs.SideBits.Constructors.{constructor_side}
use Rattle.net_means.proofs.SideBits.Elements.{get_side, at_side}
use Rattle.net_means.proofs.SideBits.Heads.{names, the_head, built_at}
use Rattle.net_means.proofs.SideBits.Simple.{name_bears, literal_bears}
use Rattle.net_means.proofs.SideBits.Vectors.{vector_side}
use Rattle.net_means.proofs.SideBits.Words.{word_side}

-- a primitive with cells is on words, or takes an element
data Form : Prim → List TypeTree → List TermTree → Type 0 where
  on_words : {q : Prim} {types : List TypeTree} {es : List TermTree} → IsOnWords q → Form q types es
  by_number : {q : Prim} {types : List TypeTree} {es : List TermTree} (i m a : TypeTree) (v : TermTree) → q ≡ VGet → types ≡ i ∷ m ∷ a ∷ [] → es ≡ v ∷ [] → Form q types es
  by_index : {q : Prim} {types : List TypeTree} {es : List TermTree} (m k a : TypeTree) (v i : TermTree) → q ≡ VAt → types ≡ m ∷ k ∷ a ∷ [] → es ≡ v ∷ i ∷ [] → Form q types es

form_of : {ground : Built} {scope : List Variable} {n w : ℕ} {q : Prim} {types : List TypeTree} {es : List TermTree} {p : Piece} → ValueCells ground scope n w (prim q) types es p → Form q types es
form_of (value_primitive on) = on_words on
form_of (value_element {i = i} {m = m} {a = a} {v = v}) = by_number i m a v refl refl refl
form_of (value_element_at {m = m} {k = k} {a = a} {v = v} {i = i}) = by_index m k a v i refl refl refl

one_name : (xs : List ℕ) (v : TermTree) → names xs ≡ v ∷ [] → (x : ℕ) × (xs ≡ x ∷ [])
one_name [] v e = absurd cc
one_name (x ∷ []) v e = (x, refl)
one_name (x ∷ y ∷ xs) v e = absurd cc

two_names : (xs : List ℕ) (v i : TermTree) → names xs ≡ v ∷ i ∷ [] → (x : ℕ) × (y : ℕ) × (xs ≡ x ∷ y ∷ [])
two_names [] v i e = absurd cc
two_names (x ∷ []) v i e = absurd cc
two_names (x ∷ y ∷ []) v i e = (x, y, refl)
two_names (x ∷ y ∷ z ∷ xs) v i e = absurd cc

module _ (facts : Facts) (values : SameValues) (keep : FieldsKeepSame) (o : Origins) (order : List ℕ) (scope : List Variable) (γ : Thunks) (δ : TypeTrees) (net : Net) (path : List ℕ) (h : List Event) (n w : ℕ) (t : TypeTree) (piece : Piece) where
  abbrev Bear : TermTree → Type 0
  Bear e = SideGiven o order scope γ net path h n w t e piece → SideHas o.program γ δ net path h t e (last_wires n piece (w ∷ []))

  prim_bears : (q : Prim) (types : List TypeTree) (xs : List ℕ) → length types + length xs ≡ asked_for (schema_type q) → Form q types (names xs) → Bear (on_names (prim q) types xs)
  prim_bears q types xs count (on_words on) = λ g. word_side facts o order scope γ δ net path h values keep n w t piece q types xs on count g
  prim_bears q types xs count (by_number i m a v is_get are es) =
      let x = one_name xs v es in
      let get : Bear (on_names (prim VGet) (i ∷ m ∷ a ∷ []) (x.0 ∷ [])) = λ g. get_side facts o order scope γ δ net path h values keep n w t piece i m a x.0 g in
      subst (λ q. Bear (on_names (prim q) types xs)) (sym is_get)
      (subst (λ types. Bear (on_names (prim VGet) types xs)) (sym are) (subst (λ xs. Bear (on_names (prim VGet) (i ∷ m ∷ a ∷ []) xs)) (sym x.1) get))
  prim_bears q types xs count (by_index m k a v i is_at are es) =
      let x = two_names xs v i es in
      let at : Bear (on_names (prim VAt) (m ∷ k ∷ a ∷ []) (x.0 ∷ x.1 ∷ [])) = λ g. at_side facts o order scope γ δ net path h values keep n w t piece m k a x.0 x.1 g in
      subst (λ q. Bear (on_names (prim q) types xs)) (sym is_at)
      (subst (λ types. Bear (on_names (prim VAt) types xs)) (sym are) (subst (λ xs. Bear (on_names (prim VAt) (m ∷ k ∷ a ∷ []) xs)) (sym x.2) at))

  pub side_bears : {e : TermTree} → IsSide o (types_in scope) e → ((m : ℕ) → ¬ (head_of e ≡ made m)) → Bear e
  side_bears (side_variable {x = x}) calls_none g = name_bears facts o order scope γ δ net path h n w t piece values keep x g
  side_bears (side_literal {s = s} {bits = bits}) calls_none g = literal_bears facts o order scope γ δ net path h n w t piece values keep s bits g
  side_bears (side_constructor c types xs at count) calls_none g = constructor_side facts o order scope γ δ net path h values keep n w t piece c types xs g
  side_bears (side_vector u xs) calls_none g = vector_side facts o order scope γ δ net path h values keep n w t piece u xs g
  side_bears (side_primitive q types xs kind count) calls_none g =
      prim_bears q types xs count (form_of (built_at (record { head = refl; types = refl; operands = refl }) types xs g.built)) g
  side_bears (side_call m xs at sort count) calls_none g = absurd (calls_none m (the_head (record { head = refl; types = refl; operands = refl }) [] xs))
  side_bears (side_case at parts) calls_none g = elim g.built [ ]
