-- The lines of primitives by their sorts.
use Rattle.std.proofs.Common.{◌≡◌, ◌⊎◌, inl, inr, refl, ℕ, List, [], ◌∷◌, map}
use Rattle.std.specs.List.{AllByRecursion}
use Rattle.chw_types.specs.declared.declarations.Data.{Data}
use Rattle.chw_types.specs.declared.kind.Kind.{Kind}
use Rattle.chw_types.specs.declared.kind.Kind.TheVariants.{Val, Cir}
use Rattle.chw_types.specs.Kinds.{KindOf, kind_fun, kind_for_all, kind_signal, kind_var}
use Rattle.chw_types.specs.TypeMoves.{Substitution, sub}
use Rattle.chw_types.specs.TypeTree.{TypeTree, ty_var, fun, for_all, signal, scalar}
use Rattle.chw_prims.specs.declared.prim.Primitive.{Primitive as Prim}
use Rattle.chw_prims.specs.declared.prim.Primitive.TheVariants.{VGet, VGetC, VAt}
use Rattle.chw_prims.specs.declared.row.Row.{Row}
use Rattle.chw_prims.specs.declared.row.Row.TheVariants.{Binary, WideSum, WideProduct, Unary, Shift, Compare, Extend, Truncate, Cut, Joined, Reduce, Packed, Unpacked, Mapping, Applying, Constant, Delay, Memory, Crossing, Element, ElementAt, Replaced, Mapped, Zipped, FoldedLeft, FoldedRight, Generated, Replicated, Appended, Concatenated, Taken, Dropped, Reversed, Rotated}
use Rattle.chw_prims.specs.Schemas.{row_of, row_type}
use Rattle.chw_terms.specs.Unrolled.{parameters}
use Rattle.normal_forms.specs.Blocked.{IsRowOnSignals}
use Rattle.rewriting.specs.Spots.{IsRowOnWords}
use Rattle.rest_places.specs.PrimLaws.{IsRowUnrolled}
use Rattle.rest_places.specs.Spines.{result_of, IsTypeVariable}

pub data RowSort (row : Row) : Type 0 where
  row_on_words : IsRowOnWords row → RowSort row
  row_on_signals : IsRowOnSignals row → RowSort row
  row_of_element : (k : Kind) → row ≡ Element k → RowSort row
  row_of_place : row ≡ ElementAt → RowSort row
  row_unrolled : IsRowUnrolled row → (row ≡ ElementAt → ⊥) → RowSort row

pub row_sort : (row : Row) → RowSort row
row_sort (Binary x) = row_on_words tt
row_sort (WideSum x) = row_on_words tt
row_sort (WideProduct x) = row_on_words tt
row_sort (Unary x) = row_on_words tt
row_sort (Shift x) = row_on_words tt
row_sort (Compare x) = row_on_words tt
row_sort (Extend x) = row_on_words tt
row_sort (Truncate x) = row_on_words tt
row_sort Cut = row_on_words tt
row_sort Joined = row_on_words tt
row_sort Reduce = row_on_words tt
row_sort (Packed x) = row_on_words tt
row_sort (Unpacked x) = row_on_words tt
row_sort Mapping = row_on_signals tt
row_sort Applying = row_on_signals tt
row_sort Constant = row_on_signals tt
row_sort Delay = row_on_signals tt
row_sort Memory = row_on_signals tt
row_sort Crossing = row_on_signals tt
row_sort (Element k) = row_of_element k refl
row_sort ElementAt = row_of_place refl
row_sort Replaced = row_unrolled tt (λ q. cc)
row_sort (Mapped k) = row_unrolled tt (λ q. cc)
row_sort (Zipped k) = row_unrolled tt (λ q. cc)
row_sort (FoldedLeft k) = row_unrolled tt (λ q. cc)
row_sort (FoldedRight k) = row_unrolled tt (λ q. cc)
row_sort (Generated k) = row_unrolled tt (λ q. cc)
row_sort (Replicated k) = row_unrolled tt (λ q. cc)
row_sort (Appended k) = row_unrolled tt (λ q. cc)
row_sort (Concatenated k) = row_unrolled tt (λ q. cc)
row_sort (Taken k) = row_unrolled tt (λ q. cc)
row_sort (Dropped k) = row_unrolled tt (λ q. cc)
row_sort (Reversed k) = row_unrolled tt (λ q. cc)
row_sort (Rotated k) = row_unrolled tt (λ q. cc)

-- the primitives that take an element
pub element_prim : (p : Prim) (k : Kind) → row_of p ≡ Element k → ((p ≡ VGet) × (k ≡ Val)) ⊎ ((p ≡ VGetC) × (k ≡ Cir))
element_prim VGet k q = inl (refl, cc)
element_prim VGetC k q = inr (refl, cc)
element_prim _ k q = absurd cc

pub place_prim : (p : Prim) → row_of p ≡ ElementAt → p ≡ VAt
place_prim VAt q = refl
place_prim _ q = absurd cc

-- the parameters of a primitive on words are scalars
abbrev pub IsScalar : TypeTree → Type 0
IsScalar (scalar r w) = Unit {0}
IsScalar t = ⊥

pub params_scalars : (row : Row) → IsRowOnWords row → (σ : Substitution) → AllByRecursion IsScalar (map (λ p. sub p σ) (parameters (row_type row)))
unfolding sub
params_scalars (Binary x) on σ = (tt, (tt, tt))
params_scalars (WideSum x) on σ = (tt, (tt, tt))
params_scalars (WideProduct x) on σ = (tt, (tt, tt))
params_scalars (Unary x) on σ = (tt, tt)
params_scalars (Shift x) on σ = (tt, (tt, tt))
params_scalars (Compare x) on σ = (tt, (tt, tt))
params_scalars (Extend x) on σ = (tt, tt)
params_scalars (Truncate x) on σ = (tt, tt)
params_scalars Cut on σ = (tt, tt)
params_scalars Joined on σ = (tt, (tt, tt))
params_scalars Reduce on σ = (tt, tt)
params_scalars (Packed x) on σ = (tt, tt)
params_scalars (Unpacked x) on σ = (tt, tt)
params_scalars _ on σ = absurd on

-- what it gives is of no type that it is given
pub words_result : (row : Row) → IsRowOnWords row → IsTypeVariable (result_of (row_type row)) → ⊥
words_result (Binary x) on h = h
words_result (WideSum x) on h = h
words_result (WideProduct x) on h = h
words_result (Unary x) on h = h
words_result (Shift x) on h = h
words_result (Compare x) on h = h
words_result (Extend x) on h = h
words_result (Truncate x) on h = h
words_result Cut on h = h
words_result Joined on h = h
words_result Reduce on h = h
words_result (Packed x) on h = h
words_result (Unpacked x) on h = h
words_result _ on h = absurd on

-- a primitive on signals, and one that takes a circuit out of a vector, gives no value
inside_fun : {datas : List Data} {domains : ℕ} {scope : List Kind} {a b : TypeTree} {k : Kind} → KindOf datas domains scope (fun a b) k → KindOf datas domains scope b k
inside_fun (kind_fun d e f) = e

inside_binder : {datas : List Data} {domains : ℕ} {scope : List Kind} {j k : Kind} {t : TypeTree} → KindOf datas domains scope (for_all j t) k → KindOf datas domains (j ∷ scope) t k
inside_binder (kind_for_all d o) = d

no_signal : {datas : List Data} {domains : ℕ} {scope : List Kind} {d t : TypeTree} {k : Kind} → KindOf datas domains scope (signal d t) k → Cir ≡ k
no_signal (kind_signal d e) = refl

pub signals_are_circuits : {datas : List Data} {domains : ℕ} (row : Row) → IsRowOnSignals row → {k : Kind} → KindOf datas domains [] (row_type row) k → Cir ≡ k
signals_are_circuits Mapping on d = no_signal (inside_fun (inside_fun (inside_binder (inside_binder (inside_binder d)))))
signals_are_circuits Applying on d = no_signal (inside_fun (inside_fun (inside_binder (inside_binder (inside_binder d)))))
signals_are_circuits Constant on d = no_signal (inside_fun (inside_binder (inside_binder d)))
signals_are_circuits Delay on d = no_signal (inside_fun (inside_fun (inside_binder (inside_binder d))))
signals_are_circuits Memory on d = no_signal (inside_fun (inside_fun (inside_fun (inside_binder (inside_binder (inside_binder (inside_binder d)))))))
signals_are_circuits Crossing on d = no_signal (inside_fun (inside_binder (inside_binder (inside_binder d))))
signals_are_circuits _ on d = absurd on

variable_kind : {datas : List Data} {domains : ℕ} {scope : List Kind} {j k : Kind} → KindOf datas domains (j ∷ scope) (ty_var 0) k → j ≡ k
variable_kind (kind_var h) = cc

pub element_kind : {datas : List Data} {domains : ℕ} (j : Kind) {k : Kind} → KindOf datas domains [] (row_type (Element j)) k → j ≡ k
element_kind j d = variable_kind (inside_fun (inside_binder (inside_binder (inside_binder d))))
