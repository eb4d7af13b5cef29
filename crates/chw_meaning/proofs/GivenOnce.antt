-- A term gives at most one data value, on the same inputs, at one leaf, at one history.
use Rattle.std.specs.Prelude.{Bool, slice_get}
use Rattle.std.proofs.Common.{◌≡◌, ℕ, zero, List, [], ◌∷◌, ◌++◌, refl, sym, ap, ◌∙◌, subst}
use Rattle.chw_types.specs.declared.declarations.ConDecl.{ConDecl}
use Rattle.chw_types.specs.declared.declarations.Data.{Data}
use Rattle.chw_types.specs.TypeTree.{TypeTree}
use Rattle.chw_types.specs.TypeMoves.{Substitution}
use Rattle.chw_types.specs.Arguments.{all_fields}
use Rattle.type_ports.specs.Representable.{Representable, representable_data, AllRepresentable, represent_and}
use Rattle.chw_terms.specs.declared.program.Program.{Program}
use Rattle.chw_terms.specs.TermTree.{TermTree}
use Rattle.chw_layout.specs.Datum.{Datum, word, built, elements, Datums, datum_and}
use Rattle.chw_terms.specs.Constructors.{Constructor, con_at}
use Rattle.chw_layout.specs.Measured.{HasWidth}
use Rattle.chw_meaning.specs.Zeros.{IsWide}
use Rattle.chw_meaning.specs.Values.{History, Value, bits, con_of, vec_of, Thunk, applied, Thunks}
use Rattle.chw_meaning.specs.Gives.{Yields, y_empty, y_value, ValueYields, v_word, v_elements, v_built, YieldEach, yield_none, yield_each, YieldFields, yield_no_field, yield_field, Input, stream_in, PortGiven, given_stream, given_product, FieldsGiven, given_no_field, given_field, Given, given_value, given_port, OnInputs, on_all, on_next, LeafOf, PortLeaves, leaf_signal, leaves_product, FieldLeaves, no_field_leaves, field_leaves, HasLeaves, leaf_value, leaves_port, Gives}
use Rattle.chw_meaning.proofs.Once.{same_some, zero_once, forces_once}
use Rattle.chw_meaning.proofs.Widths.{width_once}

pub wide_and_empty : {A : Type 0} {datas : List Data} {t : TypeTree} → HasWidth datas t zero → IsWide datas t → A
wide_and_empty a b = let bad = width_once a b.1 in cc

each_along : {p : Program} {k : ℕ} {t : TypeTree} {a b : Thunks} {h : History} {ds : Datums} → a ≡ b → YieldEach p k t a h ds → YieldEach p k t b h ds
each_along {p} {k} {t} {h = h} {ds = ds} e y = subst (λ ths. YieldEach p k t ths h ds) e y

fields_along : {p : Program} {k : ℕ} {c d : Constructor} {σ : Substitution} {a b : Thunks} {h : History} {ds : Datums} → c ≡ d → a ≡ b → YieldFields p k c.decl.fields σ a h ds → YieldFields p k d.decl.fields σ b h ds
fields_along {p} {k} {d = d} {σ = σ} {a = a} {h = h} {ds = ds} e f y = subst (λ ths. YieldFields p k d.decl.fields σ ths h ds) f (subst (λ (c : Constructor). YieldFields p k c.decl.fields σ a h ds) e y)

yields_along : {p : Program} {k : ℕ} {t : TypeTree} {a b : Thunk} {h : History} {d : Datum} → a ≡ b → Yields p k t a h d → Yields p k t b h d
yields_along {p} {k} {t} {h = h} {d = d} e y = subst (λ th. Yields p k t th h d) e y

bits_word : {a b : List Bool} → bits a ≡ bits b → word a ≡ word b
bits_word e = cc

tags_same : {c d : ℕ} {a b : Thunks} → con_of c a ≡ con_of d b → c ≡ d
tags_same e = cc

thunks_same : {c d : ℕ} {a b : Thunks} → con_of c a ≡ con_of d b → a ≡ b
thunks_same e = cc

elements_same : {a b : Thunks} → vec_of a ≡ vec_of b → a ≡ b
elements_same e = cc

mutual
  pub yields_once : {p : Program} {m n : ℕ} {t : TypeTree} {th : Thunk} {h : History} {a b : Datum} → Yields p m t th h a → Yields p n t th h b → a ≡ b
  yields_once (y_empty w z) (y_empty v y) = zero_once z y
  yields_once (y_empty w z) (y_value v f y) = wide_and_empty w v
  yields_once (y_value w f y) (y_empty v z) = wide_and_empty v w
  yields_once (y_value w f y) (y_value v g z) = value_yields_once y z (forces_once f g).1

  value_yields_once : {p : Program} {m n : ℕ} {t : TypeTree} {v w : Value} {h : History} {a b : Datum} → ValueYields p m t v h a → ValueYields p n t w h b → v ≡ w → a ≡ b
  value_yields_once v_word v_word e = bits_word e
  value_yields_once (v_elements all) (v_elements every) e = ap elements (each_once all (each_along (elements_same (sym e)) every))
  value_yields_once {p} (v_built i j all) (v_built k l every) e =
      let tag = tags_same e in
      let its = same_some k (ap (λ c. con_at p.datas c) (sym tag) ∙ i) in
      let parts = fields_once all (fields_along its (thunks_same (sym e)) every) in
      λ i. built (tag i) (parts i)

  each_once : {p : Program} {m n : ℕ} {t : TypeTree} {ths : Thunks} {h : History} {a b : Datums} → YieldEach p m t ths h a → YieldEach p n t ths h b → a ≡ b
  each_once yield_none yield_none = refl
  each_once (yield_each a as') (yield_each b bs) = λ i. datum_and (yields_once a b i) (each_once as' bs i)

  fields_once : {p : Program} {m n : ℕ} {fs : List TypeTree} {σ : Substitution} {ths : Thunks} {h : History} {a b : Datums} → YieldFields p m fs σ ths h a → YieldFields p n fs σ ths h b → a ≡ b
  fields_once yield_no_field yield_no_field = refl
  fields_once (yield_field i a as') (yield_field j b bs) = λ k. datum_and (yields_once a (yields_along (same_some j i) b) k) (fields_once as' bs k)

-- what is left of the inputs after a parameter that is a port, and its thunk, are one
pub same_fields : (a b : Data) {j k : ConDecl} {f g : TypeTree} {fs gs : List TypeTree} → a ≡ b → a.cons ≡ j ∷ [] → b.cons ≡ k ∷ [] → j.fields ≡ f ∷ fs → k.fields ≡ g ∷ gs → f ∷ fs ≡ g ∷ gs
same_fields a b {j = j} {k = k} i c d e f =
    let cons : j ∷ [] ≡ k ∷ [] = sym c ∙ (ap (λ (it : Data). it.cons) i ∙ d) in
    let same : j ≡ k = cc in
    sym e ∙ (ap (λ (k : ConDecl). k.fields) same ∙ f)

given_along : {datas : List Data} {fs gs : List TypeTree} {σ : Substitution} {on th : Thunk} {ins more : List Input} → fs ≡ gs → FieldsGiven datas fs σ on ins th more → FieldsGiven datas gs σ on ins th more
given_along {datas} {σ = σ} {on = on} {th = th} {ins = ins} {more = more} e g = subst (λ fs. FieldsGiven datas fs σ on ins th more) e g

given_on : {datas : List Data} {fs : List TypeTree} {σ : Substitution} {a b th : Thunk} {ins rest more : List Input} → a ≡ b → ins ≡ rest → FieldsGiven datas fs σ a ins th more → FieldsGiven datas fs σ b rest th more
given_on {datas} {fs} {σ} {b = b} {th = th} {ins = ins} {more = more} e f g = subst (λ ins. FieldsGiven datas fs σ b ins th more) f (subst (λ on. FieldsGiven datas fs σ on ins th more) e g)

mutual
  port_once : {datas : List Data} {t : TypeTree} {ins a b : List Input} {x y : Thunk} → PortGiven datas t ins x a → PortGiven datas t ins y b → (x ≡ y) × (a ≡ b)
  port_once (given_stream r u) (given_stream s v) = (refl, refl)
  port_once (given_product {it = a} i j k g) (given_product {it = b} l m n f) = fields_given_once g (given_along (same_fields b a (same_some l i) m j n k) f)

  fields_given_once : {datas : List Data} {fs : List TypeTree} {σ : Substitution} {on x y : Thunk} {ins a b : List Input} → FieldsGiven datas fs σ on ins x a → FieldsGiven datas fs σ on ins y b → (x ≡ y) × (a ≡ b)
  fields_given_once given_no_field given_no_field = (refl, refl)
  fields_given_once (given_field {on = on} a as') (given_field b bs) = let q = port_once a b in fields_given_once as' (given_on (ap (applied on) (sym q.0)) (sym q.1) bs)

-- a port takes a stream first
pub record StreamFirst (ins : List Input) : Type 0 where
  pub items : List Datum
  pub more : List Input
  pub is : ins ≡ stream_in items ∷ more

mutual
  stream_first : {datas : List Data} {t : TypeTree} {ins more : List Input} {th : Thunk} → PortGiven datas t ins th more → StreamFirst ins
  stream_first (given_stream {ds = ds} {more = more} r u) = record { items = ds; more = more; is = refl }
  stream_first (given_product i j k g) = first_of_fields g

  first_of_fields : {datas : List Data} {f : TypeTree} {fs : List TypeTree} {σ : Substitution} {on th : Thunk} {ins more : List Input} → FieldsGiven datas (f ∷ fs) σ on ins th more → StreamFirst ins
  first_of_fields (given_field a as') = stream_first a

pub given_once : {datas : List Data} {t : TypeTree} {ins a b : List Input} {x y : Thunk} → Given datas t ins x a → Given datas t ins y b → (x ≡ y) × (a ≡ b)
given_once (given_value r u) (given_value s v) = (refl, refl)
given_once (given_value r u) (given_port g) = let first = (stream_first g).is in cc
given_once (given_port g) (given_value r u) = let first = (stream_first g).is in cc
given_once (given_port g) (given_port f) = port_once g f

takes_one : {A : Type 0} {datas : List Data} {t : TypeTree} {more : List Input} {x : Thunk} → Given datas t [] x more → A
takes_one (given_port g) = let first = (stream_first g).is in cc

inputs_along : {datas : List Data} {t r : TypeTree} {a b th : Thunk} {ins rest : List Input} → a ≡ b → ins ≡ rest → OnInputs datas t a ins r th → OnInputs datas t b rest r th
inputs_along {datas} {t} {r} {b = b} {th = th} {ins = ins} e f g = subst (λ ins. OnInputs datas t b ins r th) f (subst (λ on. OnInputs datas t on ins r th) e g)

pub inputs_once : {datas : List Data} {t r s : TypeTree} {on x y : Thunk} {ins : List Input} → OnInputs datas t on ins r x → OnInputs datas t on ins s y → (r ≡ s) × (x ≡ y)
inputs_once on_all on_all = (refl, refl)
inputs_once on_all (on_next g o) = takes_one g
inputs_once (on_next g o) on_all = takes_one g
inputs_once (on_next {on = on} g o) (on_next f p) = let q = given_once g f in inputs_once o (inputs_along (ap (applied on) (sym q.0)) (sym q.1) p)

leaves_along : {datas : List Data} {fs gs : List TypeTree} {σ : Substitution} {th : Thunk} {ls : List LeafOf} → fs ≡ gs → FieldLeaves datas fs σ th ls → FieldLeaves datas gs σ th ls
leaves_along {datas} {σ = σ} {th = th} {ls = ls} e g = subst (λ fs. FieldLeaves datas fs σ th ls) e g

mutual
  port_leaves_once : {datas : List Data} {t : TypeTree} {th : Thunk} {ls ms : List LeafOf} → PortLeaves datas t th ls → PortLeaves datas t th ms → ls ≡ ms
  port_leaves_once (leaf_signal r) (leaf_signal s) = refl
  port_leaves_once (leaves_product {it = x} i j k a) (leaves_product {it = y} l m n b) = field_leaves_once a (leaves_along (same_fields y x (same_some l i) m j n k) b)

  field_leaves_once : {datas : List Data} {fs : List TypeTree} {σ : Substitution} {th : Thunk} {ls ms : List LeafOf} → FieldLeaves datas fs σ th ls → FieldLeaves datas fs σ th ms → ls ≡ ms
  field_leaves_once no_field_leaves no_field_leaves = refl
  field_leaves_once (field_leaves a as') (field_leaves b bs) = λ i. port_leaves_once a b i ++ field_leaves_once as' bs i

-- no port is representable
all_along : {datas : List Data} {fs gs : List TypeTree} {σ : Substitution} → fs ≡ gs → AllRepresentable datas fs σ → AllRepresentable datas gs σ
all_along {datas} {σ = σ} e r = subst (λ fs. AllRepresentable datas fs σ) e r

field_among : (it : Data) {k : ConDecl} {f : TypeTree} {fs : List TypeTree} → it.cons ≡ k ∷ [] → k.fields ≡ f ∷ fs → all_fields it.cons ≡ f ∷ (fs ++ [])
field_among it e f = ap all_fields e ∙ ap (λ fs. fs ++ []) f

mutual
  port_or_value : {A : Type 0} {datas : List Data} {t : TypeTree} {th : Thunk} {ls : List LeafOf} → PortLeaves datas t th ls → Representable datas t → A
  port_or_value (leaf_signal r) s = elim s [ ]
  port_or_value (leaves_product {it = it} i j k a) (representable_data l m all) = first_port a (all_along (ap (λ (it : Data). all_fields it.cons) (same_some l i) ∙ field_among it j k) all)

  first_port : {A : Type 0} {datas : List Data} {f : TypeTree} {fs gs : List TypeTree} {σ : Substitution} {th : Thunk} {ls : List LeafOf} → FieldLeaves datas (f ∷ fs) σ th ls → AllRepresentable datas (f ∷ gs) σ → A
  first_port (field_leaves a as') (represent_and r rs) = port_or_value a r

pub leaves_once : {datas : List Data} {t : TypeTree} {th : Thunk} {ls ms : List LeafOf} → HasLeaves datas t th ls → HasLeaves datas t th ms → ls ≡ ms
leaves_once (leaf_value r) (leaf_value s) = refl
leaves_once (leaf_value r) (leaves_port b) = port_or_value b r
leaves_once (leaves_port a) (leaf_value s) = port_or_value a s
leaves_once (leaves_port a) (leaves_port b) = port_leaves_once a b

has_leaves_along : {datas : List Data} {t u : TypeTree} {x y : Thunk} {ls : List LeafOf} → t ≡ u → x ≡ y → HasLeaves datas t x ls → HasLeaves datas u y ls
has_leaves_along {datas} {u = u} {x = x} {ls = ls} e f a = subst (λ th. HasLeaves datas u th ls) f (subst (λ t. HasLeaves datas t x ls) e a)

leaf_along : {p : Program} {n : ℕ} {l m : LeafOf} {h : History} {d : Datum} → l ≡ m → Yields p n l.payload l.thunk h d → Yields p n m.payload m.thunk h d
leaf_along {p} {n} {h = h} {d = d} e y = subst (λ (l : LeafOf). Yields p n l.payload l.thunk h d) e y

pub gives_once : {p : Program} {e : TermTree} {t : TypeTree} {ins : List Input} {h : History} {k : ℕ} {a b : Datum} → Gives p e t ins h k a → Gives p e t ins h k b → a ≡ b
gives_once {k = k} a b =
    let q = inputs_once b.on_inputs a.on_inputs in
    let ls = leaves_once (has_leaves_along q.0 q.1 b.are_leaves) a.are_leaves in
    let leaf = same_some b.is_leaf (ap (λ xs. slice_get xs k) ls ∙ a.is_leaf) in
    yields_once a.yields (leaf_along leaf b.yields)
