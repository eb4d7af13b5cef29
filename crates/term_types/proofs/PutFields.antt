-- The fields of a constructor, where the arguments of the data type are put in when a field is named.
use Rattle.std.proofs.Common.{◌≡◌, ℕ, suc, zero, ◌≤◌, ◌-◌, arith, inl, inr, refl, sym, ap, subst, List, [], ◌∷◌, map, length, reverse}
use Rattle.std.specs.Prelude.{Some}
use Rattle.std.specs.List.{slice_get}
use Rattle.std.proofs.lemmas.List.{reverse-append}
use Rattle.std.proofs.lemmas.Option.{same_Some}
use Rattle.chw_base.specs.declared.index.ConId.{ConId}
use Rattle.chw_types.specs.declared.kind.Kind.{Kind}
use Rattle.chw_types.specs.Arguments.{list_of, given, arguments}
use Rattle.chw_types.specs.declared.declarations.Data.{Data}
use Rattle.chw_types.specs.Kinds.{degree, KindsOf, KindOf, no_kinds, kind_and, kind_var, kind_nat, kind_sum, kind_product, kind_domain, kind_scalar, kind_vector, kind_data, kind_fun, kind_signal, kind_for_all}
use Rattle.chw_types.specs.TypeMoves.{Substitution, sub, sub_all, up}
use Rattle.chw_types.specs.TypeTree.{TypeTree, data_of, TypeTrees}
use Rattle.chw_types.specs.TypeView.{trees_of}
use Rattle.chw_types.proofs.Filled.{list_of_trees}
use Rattle.chw_types.proofs.KindsFound.{kind_is_found}
use Rattle.chw_types.proofs.KindsKept.{Puts, kind_put}
use Rattle.type_laws.proofs.Arguing.{kinds_of_arguments}
use Rattle.type_laws.proofs.KindsExact.{PutsKinds, kinds_under}
use Rattle.chw_terms.specs.declared.term.Pattern.TheVariants.{OfCon}
use Rattle.chw_terms.specs.Constructors.{Constructor, con_at}
use Rattle.chw_typing.specs.HeadTypes.{fields_at, PatternOf, of_con}
use Rattle.chw_typing.specs.Programs.{IsSound}
use Rattle.chw_typing.specs.Scopes.{Setting, HasKind, IsTermType, AreTermTypes}
use Rattle.chw_typing.proofs.Kinded.{term_type}
use Rattle.chw_typing.proofs.Patterns.{fields_typed, constructor_arguments}
use Rattle.chw_typing.specs.Finding.{settled}
use Rattle.chw_typing.proofs.Settling.{settled_kinded}
use Rattle.term_types.specs.Binding.{BindsFound, BindsKinded}
use Rattle.seen_types.specs.Each.{Each}
use Rattle.seen_types.specs.Keeping.{IsLinear, HasNoSums, HaveNoSums, KeepKinds}
use Rattle.term_spines.specs.Kinding.{HaveKinds}
use Rattle.term_frames.specs.FieldTypes.{args_seen, kind_by_form, kind_declared, kind_or_val, put_types, put_kinds}
use Rattle.term_frames.specs.declared.fields.Fields.{Fields}
use Rattle.term_frames.specs.declared.fields.Bound.TheVariants.{OfFields}
use Rattle.seen_types.proofs.EachItem.{each_append}

each_turned : (ts : List TypeTree) → Each IsLinear ts → Each IsLinear (reverse ts)
each_turned [] h = tt
each_turned (t ∷ ts) h =
    subst (Each IsLinear) (sym (reverse-append (t ∷ []) ts)) (each_append IsLinear (reverse ts) (t ∷ []) (each_turned ts h.1) (h.0, tt))

linear_given : (ts : List TypeTree) (x : ℕ) → Each IsLinear ts → degree (given ts x) ≤ 1
linear_given [] x h = omega arith
linear_given (t ∷ ts) zero h = h.0
linear_given (t ∷ ts) (suc x) h = linear_given ts x h.1

-- the arguments have the parameters' kinds, and a degree of at most 1
puts_arguments : (s : Setting) (kinds params : List Kind) (args : List TypeTree) → KindsOf s.datas s.domains kinds (trees_of args) params → Each IsLinear args → Puts s.datas s.domains (arguments (trees_of args)) (reverse params) kinds
puts_arguments s kinds params args d linear x k e = (
  kinds_of_arguments s.datas s.domains kinds params (trees_of args) d x k e,
  linear_given (reverse (list_of (trees_of args))) x (subst (λ us. Each IsLinear (reverse us)) (sym (list_of_trees args)) (each_turned args linear)),
)

-- a type that has a kind has the one of its form
pub kind_is_by_form : {datas : List Data} {domains : ℕ} {scope : List Kind} {t : TypeTree} {k : Kind} → KindOf datas domains scope t k → kind_by_form datas domains scope t ≡ k
unfolding kind_by_form
kind_is_by_form (kind_var e) = ap kind_or_val e
kind_is_by_form kind_nat = refl
kind_is_by_form (kind_sum d e small) = refl
kind_is_by_form (kind_product d e small) = refl
kind_is_by_form (kind_domain l) = refl
kind_is_by_form (kind_scalar d) = refl
kind_is_by_form (kind_vector d e o) = kind_is_by_form e
kind_is_by_form (kind_data e ds) = ap kind_declared e
kind_is_by_form (kind_fun d e o) = kind_is_by_form e
kind_is_by_form (kind_signal d e) = refl
kind_is_by_form (kind_for_all d o) = ap kind_or_val (kind_is_found (kind_for_all d o))

-- a type without sums and products keeps its kind, whatever is put of the variables' kinds
mutual
  unfolding sub

  pub put_without_sums : {datas : List Data} {domains : ℕ} {scope : List Kind} {t : TypeTree} {k : Kind} → KindOf datas domains scope t k → HasNoSums t → (σ : Substitution) (scope' : List Kind) → PutsKinds datas domains σ scope scope' → KindOf datas domains scope' (sub t σ) k
  put_without_sums (kind_var {x = x} {k = k} e) p σ scope' h = h x k e
  put_without_sums kind_nat p σ scope' h = kind_nat
  put_without_sums (kind_sum d e small) p σ scope' h = absurd p
  put_without_sums (kind_product d e small) p σ scope' h = absurd p
  put_without_sums (kind_domain l) p σ scope' h = kind_domain l
  put_without_sums (kind_scalar d) p σ scope' h = kind_scalar (put_without_sums d p σ scope' h)
  put_without_sums (kind_vector d e o) p σ scope' h = kind_vector (put_without_sums d p.0 σ scope' h) (put_without_sums e p.1 σ scope' h) o
  put_without_sums (kind_data e ds) p σ scope' h = kind_data e (all_put_without_sums ds p σ scope' h)
  put_without_sums (kind_fun d e o) p σ scope' h = kind_fun (put_without_sums d p.0 σ scope' h) (put_without_sums e p.1 σ scope' h) o
  put_without_sums (kind_signal d e) p σ scope' h = kind_signal (put_without_sums d p.0 σ scope' h) (put_without_sums e p.1 σ scope' h)
  put_without_sums {datas} {domains} (kind_for_all {scope = scope} {j = j} d o) p σ scope' h = kind_for_all (put_without_sums d p (up σ) (j ∷ scope') (kinds_under datas domains σ scope scope' j h)) o

  all_put_without_sums : {datas : List Data} {domains : ℕ} {scope : List Kind} {ts : TypeTrees} {ks : List Kind} → KindsOf datas domains scope ts ks → HaveNoSums ts → (σ : Substitution) (scope' : List Kind) → PutsKinds datas domains σ scope scope' → KindsOf datas domains scope' (sub_all ts σ) ks
  all_put_without_sums no_kinds p σ scope' h = no_kinds
  all_put_without_sums (kind_and d ds) p σ scope' h = kind_and (put_without_sums d p.0 σ scope' h) (all_put_without_sums ds p.1 σ scope' h)

-- a field's kind in its data type
abbrev pub kind_there : Setting → List Kind → TypeTree → Kind
kind_there s params f = kind_by_form s.datas s.domains (reverse params) f

-- types with their kinds, which are as they are settled
pub record ArePut (s : Setting) (kinds : List Kind) (ts : List TypeTree) (ks : List Kind) : Type 0 where
  pub settled : map (λ t. settled s kinds t) ts ≡ ts
  pub typed : AreTermTypes s kinds ts
  pub kinded : HaveKinds s kinds ts ks

-- each field keeps its kind
abbrev pub Keep : Setting → List Kind → List Kind → List TypeTree → List TypeTree → Type 0
Keep s kinds params args fs =
    (i : ℕ) (f : TypeTree) (k : Kind) → slice_get fs i ≡ Some f → HasKind s (reverse params) f k
    → HasKind s kinds (sub f (arguments (trees_of args))) k

fields_put : (s : Setting) (kinds params : List Kind) (args fs : List TypeTree) → ((i : ℕ) (f : TypeTree) → slice_get fs i ≡ Some f → IsTermType s (reverse params) f) → Keep s kinds params args fs → ArePut s kinds (map (λ f. sub f (arguments (trees_of args))) fs) (map (λ f. kind_there s params f) fs)
fields_put s kinds params args [] typed keep = record { settled = refl; typed = tt; kinded = tt }
fields_put s kinds params args (f ∷ fs) typed keep =
    let field = typed 0 f refl in
    let t = sub f (arguments (trees_of args)) in
    let has = keep 0 f field.kind refl field.has in
    let more = fields_put s kinds params args fs (λ i g e. typed (suc i) g e) (λ i g k e. keep (suc i) g k e) in
    record {
      settled = λ i. settled_kinded s kinds t field.kind has i ∷ more.settled i;
      typed = (term_type s kinds t field.kind has field.of_terms, more.typed);
      kinded = (subst (HasKind s kinds t) (sym (kind_is_by_form field.has)) has, more.kinded);
    }

each_got : {A : Type 0} (P : A → Type 0) (xs : List A) (i : ℕ) (x : A) → Each P xs → slice_get xs i ≡ Some x → P x
each_got P [] i x h e = absurd (cc)
each_got P (y ∷ xs) zero x h e = subst P (same_Some y x e) h.0
each_got P (y ∷ xs) (suc i) x h e = each_got P xs i x h.1 e

-- fields keep their kinds at linear arguments, and those without sums and products at any
kept : (s : Setting) (kinds params : List Kind) (args fs : List TypeTree) → KindsOf s.datas s.domains kinds (trees_of args) params → KeepKinds fs args → Keep s kinds params args fs
kept s kinds params args fs d (inl linear) i f k e has =
    kind_put has (arguments (trees_of args)) kinds (puts_arguments s kinds params args d linear)
kept s kinds params args fs d (inr none) i f k e has =
    put_without_sums has (each_got HasNoSums fs i f none e) (arguments (trees_of args)) kinds (kinds_of_arguments s.datas s.domains kinds params (trees_of args) d)

-- the fields are those of a constructor, at these arguments
pub record AreFields (s : Setting) (it : Constructor) (args : List TypeTree) (p : Fields) : Type 0 where
  pub datas : p.datas.now ≡ s.datas
  pub domains : length p.domains.now ≡ s.domains
  pub params : p.params.now ≡ it.it.params
  pub types : p.types.now ≡ it.decl.fields
  pub put : args_seen p.args ≡ args

-- what a constructor's pattern binds, where the fields keep their kinds
pub con_put : (s : Setting) (kinds : List Kind) (u : TypeTree) (c : ConId) (n : ℕ) (it : Constructor) (args : List TypeTree) (j : Kind) (p : Fields) → IsSound s → HasKind s kinds u j → con_at s.datas c.number ≡ Some it → u ≡ data_of it.of (trees_of args) → length it.decl.fields ≡ n → KeepKinds it.decl.fields args → AreFields s it args p → BindsKinded s kinds u (OfCon c n) (OfFields p)
con_put s kinds u c n it args j p h d e is names keep a = (
  subst (BindsFound s kinds u (OfCon c n)) types record {
    fields = fields_at it (trees_of args);
    pattern = subst (λ w. PatternOf s.datas w (OfCon c n) (fields_at it (trees_of args))) (sym is) (of_con it e refl names);
    are = put.settled;
    typed = put.typed;
  },
  subst (λ us. HaveKinds s kinds us (put_kinds p)) types
      (subst (HaveKinds s kinds (fields_at it (trees_of args))) places put.kinded),
)
  where
    inner : KindsOf s.datas s.domains kinds (trees_of args) it.it.params
    inner = constructor_arguments s kinds c.number it.of it (trees_of args) j e refl (subst (λ w. HasKind s kinds w j) is d)

    put : ArePut s kinds (fields_at it (trees_of args)) (map (λ f. kind_there s it.it.params f) it.decl.fields)
    put = fields_put s kinds it.it.params args it.decl.fields (fields_typed s c.number it h e) (kept s kinds it.it.params args it.decl.fields inner keep)

    types : fields_at it (trees_of args) ≡ put_types p
    types = λ i. map (λ f. sub f (arguments (trees_of (sym a.put i)))) (sym a.types i)

    places : map (λ f. kind_there s it.it.params f) it.decl.fields ≡ put_kinds p
    places = λ i. map (λ f. kind_by_form (sym a.datas i) (sym a.domains i) (reverse (sym a.params i)) f) (sym a.types i)
