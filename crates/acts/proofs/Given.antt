-- What a term is given acts as itself: data values, streams, and ports made of streams.
use Rattle.std.specs.Prelude.{slice_get}
use Rattle.std.specs.List.{AllByRecursion}
use Rattle.std.proofs.Common.{◌≡◌, ◌<◌, ◌+◌, ℕ, suc, zero, List, [], ◌∷◌, ◌++◌, length, map, reverse, Some, refl, sym, ap, ◌∙◌, subst, arith}
use Rattle.std.proofs.lemmas.List.{append-nil, length-reverse}
use Rattle.std.proofs.lemmas.Option.{slice_get_within}
use Rattle.chw_types.specs.declared.kind.Kind.{Kind}
use Rattle.chw_types.specs.declared.declarations.ConDecl.{ConDecl}
use Rattle.chw_types.specs.declared.declarations.Data.{Data}
use Rattle.chw_types.specs.TypeTree.{TypeTree, domain, data_of, fun, signal, TypeTrees, no_types, type_and}
use Rattle.chw_types.specs.TypeMoves.{Substitution, up, sub, sub_all, put}
use Rattle.chw_types.specs.Arguments.{list_of, given, arguments}
use Rattle.chw_types.specs.Kinds.{KindsOf, no_kinds, kind_and}
use Rattle.chw_types.specs.SameTypes.{SameTypes}
use Rattle.chw_types.proofs.KindsKept.{kind_put}
use Rattle.chw_types.proofs.SameLaws.{same_self}
use Rattle.chw_terms.specs.declared.program.Program.{Program}
use Rattle.chw_terms.specs.Constructors.{Constructor, con_at}
use Rattle.chw_terms.specs.TermTree.{TermTree, ty_app, con}
use Rattle.chw_layout.specs.Datum.{Datum}
use Rattle.chw_layout.specs.Encodes.{first_constructor, IsValueOf}
use Rattle.chw_typing.specs.Scopes.{HasKind, IsTermType}
use Rattle.chw_typing.specs.HeadTypes.{for_each, from_each, variables, con_type}
use Rattle.chw_typing.specs.Programs.{IsSound, setting_of}
use Rattle.chw_typing.specs.Typing.{HasType, h_ty_app, h_con}
use Rattle.chw_typing.proofs.Heads.{con_kind}
use Rattle.chw_typing.proofs.Kinded.{bound_part}
use Rattle.chw_typing.proofs.Lists.{turned_onto}
use Rattle.chw_typing.proofs.Patterns.{arguments_kinds, fields_typed}
use Rattle.chw_typing.proofs.PutAgreeing.{Agree, put_agreeing, kinds_length}
use Rattle.chw_meaning.specs.Values.{History, Thunk, closed, stream, none, type_at, closed_type, value_of, item_at}
use Rattle.chw_meaning.specs.Eval.{f_stream}
use Rattle.chw_meaning.specs.Gives.{Input, at_types, PortGiven, given_stream, given_product, FieldsGiven, given_no_field, given_field, Given, given_value, given_port}
use Rattle.acts.specs.Levels.{Levels, later, thunk_has, ThunksAct}
use Rattle.acts.proofs.Closing.{closed_stays, opens_as}
use Rattle.acts.proofs.Forms.{thunk_acts, applied_acts}
use Rattle.acts.proofs.Globals.{closed_acts}
use Rattle.acts.proofs.Levels.{IsLevels, to_signal}
use Rattle.acts.proofs.SameActs.{arguments_put, put_kind}
use Rattle.acts.proofs.Typed.{GlobalsAct}
use Rattle.acts.proofs.Values.{value_acts, known_acts, placed_con, value_fits}

-- these types, the first one outermost, before the others
abbrev onto : TypeTrees → TypeTrees → TypeTrees
onto no_types δ = δ
onto (type_and t ts) δ = onto ts (type_and t δ)

-- a term on types of its binders' kinds
types_applied : (p : Program) (ks : List Kind) (t : TypeTree) (e : TermTree) (ts δ : TypeTrees) (k : Kind) → KindsOf p.datas (length p.domains) [] ts ks → HasKind (setting_of p) [] (closed_type (for_each ks t) δ) k → HasType (setting_of p) [] [] e (closed_type (for_each ks t) δ) → HasType (setting_of p) [] [] (at_types e ts) (closed_type t (onto ts δ))
unfolding sub
types_applied p [] t e no_types δ k no_kinds kd d = d
types_applied p (j ∷ ks) t e (type_and a ts) δ k (kind_and ka kas) kd d =
    let u = for_each ks t in
    let is = opens_as u a δ in
    let kind = subst (λ u. HasKind (setting_of p) [] u k) is (put_kind p (bound_part kd).0 ka) in
    types_applied p ks t (ty_app e a) ts (type_and a δ) k kas kind (h_ty_app d ka (subst (SameTypes (put (sub u (up (type_at δ))) 0 a)) is (same_self (put (sub u (up (type_at δ))) 0 a))) kind)
types_applied p [] t e (type_and a ts) δ k kinds kd d = elim kinds [ ]
types_applied p (j ∷ ks) t e no_types δ k kinds kd d = elim kinds [ ]

type_past : (ts δ : TypeTrees) (i : ℕ) → type_at (onto ts δ) (length (list_of ts) + i) ≡ type_at δ i
type_past no_types δ i = ap (type_at δ) (let e : zero + i ≡ i = omega arith in e)
type_past (type_and t ts) δ i =
    ap (type_at (onto ts (type_and t δ))) (let e : suc (length (list_of ts)) + i ≡ length (list_of ts) + suc i = omega arith in e) ∙ type_past ts (type_and t δ) (suc i)

variables_onto : (ts δ : TypeTrees) → sub_all (variables (length (list_of ts))) (type_at (onto ts δ)) ≡ ts
unfolding sub
variables_onto no_types δ = refl
variables_onto (type_and t ts) δ =
    let first : type_at (onto ts (type_and t δ)) (length (list_of ts)) ≡ t = ap (type_at (onto ts (type_and t δ))) (let e : length (list_of ts) ≡ length (list_of ts) + zero = omega arith in e) ∙ type_past ts (type_and t δ) zero in
    λ i. type_and (first i) (variables_onto ts (type_and t δ) i)

listed_onto : (ts δ : TypeTrees) → list_of (onto ts δ) ≡ reverse (list_of ts) ++ list_of δ
listed_onto no_types δ = refl
listed_onto (type_and t ts) δ = listed_onto ts (type_and t δ) ∙ sym (turned_onto t (list_of ts) (list_of δ))

type_given : (δ : TypeTrees) (x : ℕ) → x < length (list_of δ) → type_at δ x ≡ given (list_of δ) x
type_given no_types x l = absurd (let bad : ⊥ = omega (arith, l) in bad)
type_given (type_and t δ) zero l = refl
type_given (type_and t δ) (suc x) l = type_given δ x (omega (arith, l))

pub closed_from_each : (fs : List TypeTree) (t : TypeTree) (δ : TypeTrees) → closed_type (from_each fs t) δ ≡ from_each (map (λ f. closed_type f δ) fs) (closed_type t δ)
unfolding sub
closed_from_each [] t δ = refl
closed_from_each (f ∷ fs) t δ = ap (fun (closed_type f δ)) (closed_from_each fs t δ)

fields_onto : (p : Program) (params : List Kind) (fs : List TypeTree) (ts : TypeTrees) → KindsOf p.datas (length p.domains) [] ts params → ((i : ℕ) (f : TypeTree) → slice_get fs i ≡ Some f → IsTermType (setting_of p) (reverse params) f) → map (λ f. closed_type f (onto ts no_types)) fs ≡ map (λ f. sub f (arguments ts)) fs
fields_onto p params [] ts d typed = refl
fields_onto p params (f ∷ fs) ts d typed = λ i. put_agreeing (typed 0 f refl).has (type_at (onto ts no_types)) (arguments ts) agree i ∷ fields_onto p params fs ts d (λ j. typed (suc j)) i
  where
    listed : list_of (onto ts no_types) ≡ reverse (list_of ts)
    listed = listed_onto ts no_types ∙ append-nil (reverse (list_of ts))

    agree : Agree (reverse params) (type_at (onto ts no_types)) (arguments ts)
    agree x k e =
        type_given (onto ts no_types) x (omega (arith, slice_get_within (reverse params) x k e, length-reverse params, kinds_length d, ap length listed, length-reverse (list_of ts)))
        ∙ ap (λ us. given us x) listed

data_onto : (d : ℕ) (params : List Kind) (ts : TypeTrees) → length (list_of ts) ≡ length params → closed_type (data_of d (variables (length params))) (onto ts no_types) ≡ data_of d ts
unfolding sub
data_onto d params ts e = ap (λ n. data_of d (sub_all (variables n) (type_at (onto ts no_types)))) (sym e) ∙ ap (data_of d) (variables_onto ts no_types)

-- the constructor of a data type with one, on closed types
product_typed : (p : Program) → IsSound (setting_of p) → (d : ℕ) (it : Data) (k : ConDecl) (ts : TypeTrees) (j : Kind) → slice_get p.datas d ≡ Some it → slice_get it.cons zero ≡ Some k → HasKind (setting_of p) [] (data_of d ts) j → HasType (setting_of p) [] [] (at_types (con (first_constructor p.datas d)) ts) (from_each (map (λ f. sub f (arguments ts)) k.fields) (data_of d ts))
product_typed p sound d it k ts j e f kd =
    subst (HasType (setting_of p) [] [] (at_types (con (first_constructor p.datas d)) ts)) whole
    (types_applied p it.params t (con (first_constructor p.datas d)) ts no_types it.kind kinds (subst (λ u. HasKind (setting_of p) [] u it.kind) (sym stays) (con_kind (setting_of p) (first_constructor p.datas d) own sound held)) (subst (HasType (setting_of p) [] [] (con (first_constructor p.datas d))) (sym stays) (h_con held)))
  where
    own : Constructor
    own = record { of = d; it = it; decl = k }

    t : TypeTree
    t = from_each k.fields (data_of d (variables (length it.params)))

    held : con_at p.datas (first_constructor p.datas d) ≡ Some own
    held = ap (con_at p.datas) (let e : first_constructor p.datas d ≡ first_constructor p.datas d + zero = omega arith in e) ∙ placed_con p.datas d zero it k e f

    stays : closed_type (con_type own) no_types ≡ con_type own
    stays = closed_stays p no_types (con_kind (setting_of p) (first_constructor p.datas d) own sound held)

    kinds : KindsOf p.datas (length p.domains) [] ts it.params
    kinds = arguments_kinds it kd e

    data_same : closed_type (data_of d (variables (length it.params))) (onto ts no_types) ≡ data_of d ts
    data_same = data_onto d it.params ts (kinds_length kinds)

    whole : closed_type t (onto ts no_types) ≡ from_each (map (λ f. sub f (arguments ts)) k.fields) (data_of d ts)
    whole =
        closed_from_each k.fields (data_of d (variables (length it.params))) (onto ts no_types)
        ∙ (λ i. from_each (fields_onto p it.params k.fields ts kinds (fields_typed (setting_of p) (first_constructor p.datas d) own sound held) i) (data_same i))

item_of : (P : Datum → Type 0) (ds : List Datum) (i : ℕ) (d : Datum) → AllByRecursion P ds → slice_get ds i ≡ Some d → P d
item_of P [] i d all e = cc
item_of P (x ∷ ds) zero d all e = let same : x ≡ d = cc in subst P same all.0
item_of P (x ∷ ds) (suc i) d all e = item_of P ds i d all.1 e

stream_item : (P : Datum → Type 0) (ds : List Datum) (h : History) (d : Datum) → AllByRecursion P ds → item_at ds h ≡ Some d → P d
stream_item P ds [] d all e = cc
stream_item P ds (present ∷ past) d all e = item_of P ds (length past) d all e

-- streams of data values of a type
pub stream_acts : {p : Program} {r : Levels} → IsLevels p r → (d t : TypeTree) (ds : List Datum) → AllByRecursion (IsValueOf p.datas t) ds → ThunksAct p r (signal d t) (stream ds) (stream ds)
stream_acts {p} {r} l d t ds all h' h m v al (f_stream {d = x} e) =
    subst (λ h. later (suc zero) r zero (signal d t) (value_of x) (thunk_has p (stream ds) h)) al
    (to_signal l (suc zero) d t (value_of x) (thunk_has p (stream ds) h') (value_acts (value_fits p (stream_item (IsValueOf p.datas t) ds h' x all e)) l (suc zero) (thunk_has p (stream ds) h') (suc zero, f_stream e)))

-- each of these types has a kind, with this put in
abbrev AllKinded : Program → List TypeTree → Substitution → Type 0
AllKinded p fs σ = (i : ℕ) (f : TypeTree) → slice_get fs i ≡ Some f → (k : Kind) × HasKind (setting_of p) [] (sub f σ) k

closed_fields_kinded : (p : Program) → IsSound (setting_of p) → (d : ℕ) (it : Data) (k : ConDecl) (ts : TypeTrees) (j : Kind) → slice_get p.datas d ≡ Some it → slice_get it.cons zero ≡ Some k → HasKind (setting_of p) [] (data_of d ts) j → AllKinded p k.fields (arguments ts)
closed_fields_kinded p sound d it k ts j e f kd i g q =
    let typed = fields_typed (setting_of p) (first_constructor p.datas d + zero) (record { of = d; it = it; decl = k }) sound (placed_con p.datas d zero it k e f) i g q in
    (typed.kind, kind_put typed.has (arguments ts) [] (arguments_put p it.params ts (arguments_kinds it kd e)))

module _ (p : Program) (sound : IsSound (setting_of p)) (r : Levels) (l : IsLevels p r) (globals : GlobalsAct p r) where
  mutual
    -- a port
    port_in : {datas : List Data} {t : TypeTree} {ins more : List Input} {th : Thunk} → PortGiven datas t ins th more → datas ≡ p.datas → (j : Kind) → HasKind (setting_of p) [] t j → ThunksAct p r t th th
    port_in (given_stream {d = d} {t = t} {ds = ds} rep all) same j k = stream_acts l (domain d) t ds (subst (λ datas. AllByRecursion (IsValueOf datas t) ds) same all)
    port_in {datas} (given_product {d = d} {it = it} {ts = ts} {k = k} {f = f} {fs = fs} e cons fields given) same j kd =
        let at = ap (λ datas. slice_get datas d) (sym same) ∙ e in
        let only = ap (λ ks. slice_get ks zero) cons in
        let head = closed_acts p sound (product_typed p sound d it k ts j at only kd) r l globals none none no_types no_types in
        let c = at_types (con (first_constructor p.datas d)) ts in
        let thunk = thunk_acts l (from_each (map (λ f. sub f (arguments ts)) k.fields) (data_of d ts)) c c none none no_types no_types head in
        let started = subst (λ fs. ThunksAct p r (from_each (map (λ f. sub f (arguments ts)) fs) (data_of d ts)) (closed c none no_types) (closed c none no_types)) fields thunk in
        let moved = subst (λ datas. ThunksAct p r (from_each (map (λ f. sub f (arguments ts)) (f ∷ fs)) (data_of d ts)) (closed (at_types (con (first_constructor datas d)) ts) none no_types) (closed (at_types (con (first_constructor datas d)) ts) none no_types)) (sym same) started in
        fields_in given same (data_of d ts) (subst (λ fs. AllKinded p fs (arguments ts)) fields (closed_fields_kinded p sound d it k ts j at only kd)) moved

    fields_in : {datas : List Data} {fs : List TypeTree} {σ : Substitution} {on th : Thunk} {ins more : List Input} → FieldsGiven datas fs σ on ins th more → datas ≡ p.datas → (t : TypeTree) → AllKinded p fs σ → ThunksAct p r (from_each (map (λ f. sub f σ) fs) t) on on → ThunksAct p r t th th
    fields_in given_no_field same t kinds acts = acts
    fields_in (given_field {f = f} {fs = fs} {σ = σ} {on = on} {x = x} g more) same t kinds acts =
        let k = kinds zero f refl in
        fields_in more same t (λ i. kinds (suc i)) (applied_acts l (sub f σ) (from_each (map (λ f. sub f σ) fs) t) on on x x acts (port_in g same k.0 k.1))

  -- whatever a parameter is given
  pub given_acts : {t : TypeTree} {ins more : List Input} {x : Thunk} → Given p.datas t ins x more → (j : Kind) → HasKind (setting_of p) [] t j → ThunksAct p r t x x
  given_acts (given_value rep v) j k = known_acts l (value_fits p v)
  given_acts (given_port g) j k = port_in g refl j k
