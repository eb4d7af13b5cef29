-- Kinds depend on the data types that stand in a type, and on no others.
use Rattle.std.proofs.Common.{◌≡◌, ℕ, Bool, true, false, ◌||◌, ◌==◌, List, slice_get, refl, sym, ap, ◌∙◌, subst, eq-eqb, reverse}
use Rattle.std.proofs.lemmas.Bool.{or_left, or_right}
use Rattle.chw_types.specs.declared.kind.Kind.{Kind}
use Rattle.chw_types.specs.declared.kind.Kind.TheVariants.{Val, Cir}
use Rattle.chw_types.specs.declared.declarations.ConDecl.{ConDecl}
use Rattle.chw_types.specs.declared.declarations.Data.{Data}
use Rattle.chw_types.specs.TypeTree.{TypeTree, TypeTrees}
use Rattle.chw_types.specs.Kinds.{KindOf, kind_var, kind_nat, kind_sum, kind_product, kind_domain, kind_scalar, kind_vector, kind_data, kind_fun, kind_signal, kind_for_all, KindsOf, no_kinds, kind_and}
use Rattle.chw_terms.specs.References.{names_data, any_names_data, IsField}
use Rattle.chw_terms.specs.Tidy.{HasCircuit, HasItsKind}

-- the data types that a test takes are the same in both lists
abbrev pub Agree : List Data → List Data → (ℕ → Bool) → Type 0
Agree datas datas' named = (d : ℕ) → named d ≡ true → slice_get datas' d ≡ slice_get datas d

module _ (datas datas' : List Data) where
  one : (f g : ℕ → Bool) → Agree datas datas' (λ d. f d || g d) → Agree datas datas' f
  one f g h d n = h d (or_left (f d) (g d) n)

  other : (f g : ℕ → Bool) → Agree datas datas' (λ d. f d || g d) → Agree datas datas' g
  other f g h d n = h d (or_right (f d) (g d) n)

  mutual
    pub kind_stays : {domains : ℕ} {scope : List Kind} {t : TypeTree} {k : Kind} → KindOf datas domains scope t k → Agree datas datas' (names_data t) → KindOf datas' domains scope t k
    kind_stays (kind_var e) h = kind_var e
    kind_stays kind_nat h = kind_nat
    kind_stays (kind_sum {a = a} {b = b} j k small) h = kind_sum (kind_stays j (one (names_data a) (names_data b) h)) (kind_stays k (other (names_data a) (names_data b) h)) small
    kind_stays (kind_product {a = a} {b = b} j k small) h = kind_product (kind_stays j (one (names_data a) (names_data b) h)) (kind_stays k (other (names_data a) (names_data b) h)) small
    kind_stays (kind_domain l) h = kind_domain l
    kind_stays (kind_scalar k) h = kind_scalar (kind_stays k h)
    kind_stays (kind_vector {n = n} {t = t} j k o) h = kind_vector (kind_stays j (one (names_data n) (names_data t) h)) (kind_stays k (other (names_data n) (names_data t) h)) o
    kind_stays (kind_data {d = d} {ts = ts} e ks) h =
        kind_data (h d (or_left (d == d) (any_names_data ts d) (eq-eqb d d refl)) ∙ e) (kinds_stay ks (other (λ x. d == x) (any_names_data ts) h))
    kind_stays (kind_fun {a = a} {b = b} j k o) h = kind_fun (kind_stays j (one (names_data a) (names_data b) h)) (kind_stays k (other (names_data a) (names_data b) h)) o
    kind_stays (kind_signal {d = d} {t = t} j k) h = kind_signal (kind_stays j (one (names_data d) (names_data t) h)) (kind_stays k (other (names_data d) (names_data t) h))
    kind_stays (kind_for_all k o) h = kind_for_all (kind_stays k h) o

    pub kinds_stay : {domains : ℕ} {scope : List Kind} {ts : TypeTrees} {ks : List Kind} → KindsOf datas domains scope ts ks → Agree datas datas' (any_names_data ts) → KindsOf datas' domains scope ts ks
    kinds_stay no_kinds h = no_kinds
    kinds_stay (kind_and {t = t} {ts = ts} k ks) h = kind_and (kind_stays k (one (names_data t) (any_names_data ts) h)) (kinds_stay ks (other (names_data t) (any_names_data ts) h))

-- a data type with the same constructors has the same fields
pub field_stays : (it it' : Data) (t : TypeTree) → it'.cons ≡ it.cons → IsField it t → IsField it' t
field_stays it it' t same f = record {
  con = f.con;
  of = f.of;
  is_con = ap (λ (cs : List ConDecl). slice_get cs f.con) same ∙ f.is_con;
  at = f.at;
  is_field = f.is_field;
}

module _ (domains : ℕ) where
  -- whether a field is a circuit depends on the constructors, the parameters and the data types that stand in the fields
  pub circuit_stays : (datas datas' : List Data) (it it' : Data) → it'.cons ≡ it.cons → it'.params ≡ it.params
      → ((t : TypeTree) → IsField it t → Agree datas datas' (names_data t)) → HasCircuit datas domains it → HasCircuit datas' domains it'
  circuit_stays datas datas' it it' cons params agree c =
      (c.0, field_stays it it' c.0 cons c.1, subst (λ (ps : List Kind). KindOf datas' domains (reverse ps) c.0 Cir) (sym params) (kind_stays datas datas' c.2 (agree c.0 c.1)))

  -- and so does the kind
  pub kind_moves : (datas datas' : List Data) (it it' : Data) (k : Kind) → it'.cons ≡ it.cons → it'.params ≡ it.params → it'.kind ≡ k
      → ((t : TypeTree) → IsField it t → Agree datas datas' (names_data t)) → (HasCircuit datas domains it → k ≡ Cir) → ((HasCircuit datas domains it → ⊥) → k ≡ Val)
      → HasItsKind datas' domains it'
  kind_moves datas datas' it it' k cons params kind agree circuit values = record {
    circuit = λ c. kind ∙ circuit (circuit_stays datas' datas it' it (sym cons) (sym params) (λ t f d n. sym (agree t (field_stays it' it t (sym cons) f) d n)) c);
    values = λ none. kind ∙ values (λ c. none (circuit_stays datas datas' it it' cons params agree c));
  }
