-- Data on operands, and the fields of what shows the bits of data.
use Rattle.std.specs.Prelude.{take, drop, slice_get, replicate, false, ◌-◌}
use Rattle.std.proofs.Common.{◌≡◌, ◌<◌, ◌≤◌, ◌+◌, ℕ, suc, zero, Bool, List, [], ◌∷◌, ◌++◌, length, map, Some, refl, sym, ap, ◌∙◌, subst, arith, append_assoc}
use Rattle.std.proofs.lemmas.List.{length-map}
use Rattle.std.proofs.Math.Seq.{take-append_seam, drop-append_seam, take-nil, drop-nil}
use Rattle.chw_bits.specs.Bits.{bits_of}
use Rattle.chw_types.specs.declared.declarations.ConDecl.{ConDecl}
use Rattle.chw_types.specs.declared.declarations.Data.{Data}
use Rattle.chw_types.specs.TypeTree.{TypeTree, data_of, TypeTrees}
use Rattle.chw_types.specs.TypeMoves.{Substitution, sub}
use Rattle.chw_types.specs.Arguments.{arguments}
use Rattle.chw_terms.specs.Constructors.{Constructor, con_at}
use Rattle.chw_terms.specs.declared.program.Program.{Program}
use Rattle.chw_terms.specs.TermTree.{TermTree, con}
use Rattle.chw_terms.specs.TermView.{applied}
use Rattle.chw_typing.specs.HeadTypes.{fields_at}
use Rattle.chw_typing.specs.Given.{types_then}
use Rattle.chw_layout.specs.Encodes.{first_constructor, filled}
use Rattle.chw_layout.specs.Measured.{fits, tag_width, MeasuredFields, HasWidth}
use Rattle.chw_layout.proofs.Encodings.{BitsMean, same_tag}
use Rattle.chw_layout.proofs.Fitting.{field_width}
use Rattle.chw_meaning.specs.Zeros.{IsWide}
use Rattle.chw_meaning.specs.Values.{History, Value, con_of, Thunk, closed, field, Thunks, none, thunk_and, thunk_at, count_of, fields_from}
use Rattle.chw_meaning.specs.Steps.{params_of, fields_of}
use Rattle.chw_meaning.specs.Eval.{plus, Forces, f_closed, f_field, r_gives}
use Rattle.chw_meaning.proofs.Once.{same_some}
use Rattle.chw_meaning.proofs.Widths.{width_once}
use Rattle.carrying.specs.Carrying.{tag_of, Holds, holds_built, Shows, shows_nothing, shows_bits, CarryFields, carry_no_field, carry_field, Carries}
use Rattle.carrying.specs.DataLaws.{CarryAll, carry_nothing, carry_next, Parts, no_parts, part_and, CarryParts, carry_no_part, carry_part, tag_in, behind_tag, BeginsWith}
use Rattle.carrying.specs.TermLaws.{onto, each_closed}
use Rattle.carrying.proofs.Environments.{outside_function, field_variables}
use Rattle.carrying.proofs.Spines.{con_whole, many_onto}
use Rattle.carrying.proofs.Terms.{shows_through}
use Rattle.carrying.proofs.Widths.{bits_length, held_shows, shown_length, whole_width}
use Rattle.carrying.proofs.Yields.{place_of}

onto_at : (xs : List Thunk) (x : Thunk) (ths : Thunks) (n : ℕ) → length xs ≡ n → thunk_at (onto xs (thunk_and x ths)) n ≡ Some x
onto_at xs x ths n e =
    let here : n ≡ length xs + 0 = omega (arith, e) in
    ap (thunk_at (onto xs (thunk_and x ths))) here ∙ outside_function xs (thunk_and x ths) 0

as_many : {p : Program} {ts : List TypeTree} {xs : List Thunk} {b : List Bool} → CarryAll p ts xs b → length xs ≡ length ts
as_many carry_nothing = refl
as_many (carry_next f more) = ap suc (as_many more)

-- operands that carry the bits of fields
pub fields_carried : {p : Program} (σ : Substitution) (fs : List TypeTree) {xs : List Thunk} {b : List Bool} → CarryAll p (map (λ f. sub f σ) fs) xs b → (ths : Thunks) → CarryFields p fs σ (onto xs ths) b
fields_carried σ [] carry_nothing ths = carry_no_field
fields_carried σ (f ∷ fs) (carry_next {th = x} {ths = xs} c more) ths =
    carry_field (onto_at xs x ths (length fs) (as_many more ∙ length-map fs (λ f. sub f σ))) c (fields_carried σ fs more (thunk_and x ths))

many_closed : (es : List TermTree) (γ : Thunks) (δ : TypeTrees) → length (each_closed es γ δ) ≡ length es
many_closed [] γ δ = refl
many_closed (e ∷ es) γ δ = ap suc (many_closed es γ δ)

pub constructor_carries : (p : Program) (c : ℕ) (it : Constructor) (ts : TypeTrees) (w : ℕ) (types : List TypeTree) (es : List TermTree) (γ : Thunks) (δ : TypeTrees) (b : List Bool) → con_at p.datas c ≡ Some it → HasWidth p.datas (data_of it.of ts) w → length types ≡ length it.it.params → CarryAll p (fields_at it ts) (each_closed es γ δ) b → (h : History) → Shows p (data_of it.of ts) (closed (applied (con c) (types_then types es)) γ δ) h (filled w (tag_of p.datas c it ++ b))
constructor_carries p c it ts w types es γ δ b at has many all h =
    let count : length (each_closed es γ δ) ≡ length it.decl.fields = as_many all ∙ length-map it.decl.fields (λ f. sub f (arguments ts)) in
    let d = con_whole p c γ δ h types es (many ∙ sym (ap params_of at)) (sym (many_closed es γ δ) ∙ count ∙ sym (ap fields_of at)) zero (con_of c (onto (each_closed es γ δ) none)) r_gives in
    let whole = many_onto (each_closed es γ δ) none in
    held_shows w has (f_closed d.1)
    (holds_built at refl (omega (arith, whole, count)) (fields_carried (arguments ts) it.decl.fields all none) has)

-- fields that carry their bits carry the parts of all
pub parts_carried : {p : Program} {fs : List TypeTree} {σ : Substitution} {ths : Thunks} {b : List Bool} {parts : List (List Bool)} → CarryFields p fs σ ths b → (all more : List Bool) → b ++ more ≡ all → Parts p.datas (map (λ f. sub f σ) fs) all parts → CarryParts p (map (λ f. sub f σ) fs) ths parts
parts_carried carry_no_field all more e no_parts = carry_no_part
parts_carried {p} {σ = σ} {ths = ths} (carry_field {f = f} {fs = fs} {th = th} {b = b} {more = rest} at c cs) all more e (part_and {w = w} has ps) =
    let many : length b ≡ w = shown_length (c []) has in
    let whole : b ++ (rest ++ more) ≡ all = sym (append_assoc b rest more) ∙ e in
    let first : b ≡ take w all = sym (take-append_seam b (rest ++ more)) ∙ (λ i. take (many i) (whole i)) in
    let others : rest ++ more ≡ drop w all = sym (drop-append_seam b (rest ++ more)) ∙ (λ i. drop (many i) (whole i)) in
    carry_part (ap (thunk_at ths) (length-map fs (λ f. sub f σ)) ∙ at) (λ h. subst (λ x. Shows p (sub f σ) th h x) first (c h))
    (parts_carried cs (drop w all) more others ps)

-- what a value that holds the bits of data is, where they begin with a constructor's tag
pub record IsBuilt (p : Program) (c : ℕ) (it : Constructor) (ts : TypeTrees) (v : Value) (x : List Bool) : Type 0 where
  pub ths : Thunks
  pub is : v ≡ con_of c ths
  pub many : count_of ths ≡ length it.decl.fields
  pub bits : List Bool
  pub more : List Bool
  pub rest : bits ++ more ≡ behind_tag it x
  pub fields : CarryFields p it.decl.fields (arguments ts) ths bits

below : (cs : List ConDecl) (i : ℕ) (c : ConDecl) → slice_get cs i ≡ Some c → i < length cs
below [] i c e = absurd (cc)
below (x ∷ cs) zero c e = omega arith
below (x ∷ cs) (suc i) c e = let w = below cs i c e in omega (arith, w)

-- the tags of two constructors of one data type are of one width, and tell them apart
pub same_con : (datas : List Data) (c d : ℕ) (it other : Constructor) → BitsMean → con_at datas c ≡ Some it → con_at datas d ≡ Some other → it.of ≡ other.of → tag_of datas c it ≡ tag_of datas d other → c ≡ d
same_con datas c d it other mean at at' of tags =
    let a = place_of datas c it at in
    let b = place_of datas d other at' in
    let known : slice_get datas it.of ≡ Some other.it = ap (slice_get datas) of ∙ b.in_datas in
    let same : it.it ≡ other.it = same_some a.in_datas known in
    let n = length other.it.cons in
    let width : length it.it.cons ≡ n = ap (λ (y : Data). length y.cons) same in
    let i = c - first_constructor datas it.of in
    let j = d - first_constructor datas other.of in
    let l = below it.it.cons i it.decl a.in_cons in
    let k = below other.it.cons j other.decl b.in_cons in
    let tag : bits_of (tag_width n) i ≡ bits_of (tag_width n) j = ap (λ m. bits_of (tag_width m) i) (sym width) ∙ tags in
    let places : i ≡ j = same_tag mean n i j (omega (arith, l, width)) k tag in
    let first : first_constructor datas it.of ≡ first_constructor datas other.of = ap (first_constructor datas) of in
    let x = a.number in
    let y = b.number in
    omega (arith, x, y, places, first)

pub same_width : (datas : List Data) (c d : ℕ) (it other : Constructor) → con_at datas c ≡ Some it → con_at datas d ≡ Some other → it.of ≡ other.of → tag_width (length it.it.cons) ≡ tag_width (length other.it.cons)
same_width datas c d it other at at' of =
    let a = place_of datas c it at in
    let b = place_of datas d other at' in
    let same : it.it ≡ other.it = same_some a.in_datas (ap (slice_get datas) of ∙ b.in_datas) in
    ap (λ (y : Data). tag_width (length y.cons)) same

tag_length : (datas : List Data) (c : ℕ) (it : Constructor) → length (tag_of datas c it) ≡ tag_width (length it.it.cons)
tag_length datas c it = bits_length (tag_width (length it.it.cons)) (c - first_constructor datas it.of)

-- the tag of filled bits, and what lies behind it
pub tag_first : (datas : List Data) (c d : ℕ) (it other : Constructor) (w : ℕ) (b : List Bool) → con_at datas c ≡ Some it → con_at datas d ≡ Some other → it.of ≡ other.of → tag_in other (filled w (tag_of datas c it ++ b)) ≡ tag_of datas c it
tag_first datas c d it other w b at at' of =
    let tag = tag_of datas c it in
    let zeros = replicate (w - length (tag ++ b)) false in
    let width : length tag ≡ tag_width (length other.it.cons) = tag_length datas c it ∙ same_width datas c d it other at at' of in
    (λ i. take (sym width i) (append_assoc tag b zeros i)) ∙ take-append_seam tag (b ++ zeros)

pub tag_behind : (datas : List Data) (c d : ℕ) (it other : Constructor) (w : ℕ) (b : List Bool) → con_at datas c ≡ Some it → con_at datas d ≡ Some other → it.of ≡ other.of → b ++ replicate (w - length (tag_of datas c it ++ b)) false ≡ behind_tag other (filled w (tag_of datas c it ++ b))
tag_behind datas c d it other w b at at' of =
    let tag = tag_of datas c it in
    let zeros = replicate (w - length (tag ++ b)) false in
    let width : length tag ≡ tag_width (length other.it.cons) = tag_length datas c it ∙ same_width datas c d it other at at' of in
    sym (drop-append_seam tag (b ++ zeros)) ∙ (λ i. drop (width i) (sym (append_assoc tag b zeros) i))

fields_along : {p : Program} {σ : Substitution} {ths : Thunks} {b : List Bool} (it other : Constructor) → it ≡ other → CarryFields p it.decl.fields σ ths b → CarryFields p other.decl.fields σ ths b
fields_along {p} {σ} {ths} {b} it other e f = subst (λ (y : Constructor). CarryFields p y.decl.fields σ ths b) e f

pub is_built : (p : Program) (c d : ℕ) (it : Constructor) (ts : TypeTrees) (v : Value) (x : List Bool) → BitsMean → con_at p.datas c ≡ Some it → it.of ≡ d → Holds p (data_of d ts) v x → tag_in it x ≡ tag_of p.datas c it → IsBuilt p c it ts v x
is_built p c d it ts v x mean at of (holds_built {c = i} {w = w} {it = other} {ths = ths} {b = b} held of' many fs own) tag =
    let same_of : other.of ≡ it.of = of' ∙ sym of in
    let tags = sym (tag_first p.datas i c other it w b held at same_of) ∙ tag in
    let number : i ≡ c = same_con p.datas i c other it mean held at same_of tags in
    let same : other ≡ it = same_some held (ap (con_at p.datas) number ∙ at) in
    record {
      ths = ths;
      is = ap (λ n. con_of n ths) number;
      many = many ∙ ap (λ (y : Constructor). length y.decl.fields) same;
      bits = b;
      more = replicate (w - length (tag_of p.datas i other ++ b)) false;
      rest = tag_behind p.datas i c other it w b held at same_of;
      fields = fields_along other it same fs;
    }

-- a thunk that carries a part
record PartAt (p : Program) (t : TypeTree) (ths : Thunks) (i : ℕ) (b : List Bool) : Type 0 where
  thunk : Thunk
  at : thunk_at ths i ≡ Some thunk
  carries : (h : History) → Shows p t thunk h b

part_at : {p : Program} {ts : List TypeTree} {ths : Thunks} {parts : List (List Bool)} → CarryParts p ts ths parts → (i j : ℕ) (t : TypeTree) (b : List Bool) → slice_get ts j ≡ Some t → slice_get parts j ≡ Some b → i + suc j ≡ length ts → PartAt p t ths i b
part_at carry_no_part i j t b e f l = absurd (omega (arith, l))
part_at {p} {ths = ths} (carry_part {t = u} {ts = ts} {th = th} {b = a} at c more) i zero t b e f l =
    let place : length ts ≡ i = omega (arith, l) in
    let type : u ≡ t = cc in
    let part : a ≡ b = cc in
    record { thunk = th; at = ap (thunk_at ths) (sym place) ∙ at; carries = λ h. subst (λ t. Shows p t th h b) type (subst (λ x. Shows p u th h x) part (c h)) }
part_at (carry_part at c more) i (suc j) t b e f l = part_at more i j t b e f (omega (arith, l))

-- of fields that are 0 wide together each is, and its part is empty
record EmptyPart (datas : List Data) (t : TypeTree) (b : List Bool) : Type 0 where
  has : HasWidth datas t 0
  is : [] ≡ b

empty_part : {datas : List Data} {σ : Substitution} {parts : List (List Bool)} (fs : List TypeTree) (s : ℕ) → MeasuredFields datas fs σ (fits s) → s ≡ 0 → (x : List Bool) → x ≡ [] → Parts datas (map (λ f. sub f σ) fs) x parts → (j : ℕ) (t : TypeTree) (b : List Bool) → slice_get (map (λ f. sub f σ) fs) j ≡ Some t → slice_get parts j ≡ Some b → EmptyPart datas t b
empty_part [] s m l x nothing no_parts j t b e f = absurd (cc)
empty_part {datas} {σ} (f ∷ fs) s m l x nothing (part_and {w = w} has ps) zero t b e g =
    let z = field_width (omega (arith, l)) m in
    let none : z.a ≡ 0 = let q = z.is in omega (arith, q, l) in
    let type : sub f σ ≡ t = cc in
    let part : take w x ≡ b = cc in
    record {
      has = subst (λ t. HasWidth datas t 0) type (subst (HasWidth datas (sub f σ)) none z.first);
      is = sym (ap (take w) nothing ∙ take-nil w) ∙ part;
    }
empty_part (f ∷ fs) s m l x nothing (part_and {w = w} has ps) (suc j) t b e g =
    let z = field_width (omega (arith, l)) m in
    let none : z.b ≡ 0 = let q = z.is in omega (arith, q, l) in
    empty_part fs z.b z.rest none (drop w x) (ap (drop w) nothing ∙ drop-nil w) ps j t b e g

pub field_shows : (p : Program) (c : ℕ) (it : Constructor) (ts : TypeTrees) (th : Thunk) (h : History) (x : List Bool) (parts : List (List Bool)) (i j : ℕ) (t : TypeTree) (b : List Bool) → BitsMean → con_at p.datas c ≡ Some it → Shows p (data_of it.of ts) th h x → tag_in it x ≡ tag_of p.datas c it → Parts p.datas (fields_at it ts) (behind_tag it x) parts → slice_get (fields_at it ts) j ≡ Some t → slice_get parts j ≡ Some b → i + suc j ≡ length (fields_at it ts) → Shows p t (field i th) h b
field_shows p c it ts th h x parts i j t b mean at (shows_nothing z) tag ps e f l =
    let whole = whole_width p c it.of it ts 0 at refl z in
    let none : whole.s ≡ 0 = let q = whole.within in omega (arith, q) in
    let y = empty_part it.decl.fields whole.s whole.fields none (behind_tag it []) (drop-nil (tag_width (length it.it.cons))) ps j t b e f in
    subst (λ b. Shows p t (field i th) h b) y.is (shows_nothing y.has)
field_shows p c it ts th h x parts i j t b mean at (shows_bits {n = m} wide force held) tag ps e f l =
    let v = is_built p c it.of it ts _ x mean at refl held tag in
    let all = parts_carried v.fields (behind_tag it x) v.more v.rest ps in
    let one = part_at all i j t b e f l in
    let g = subst (λ v. Forces p m th h v) v.is force in
    shows_through (λ k y d. (suc (plus m k), f_field g one.at d)) (one.carries h)

as_many_parts : {datas : List Data} {ts : List TypeTree} {b : List Bool} {parts : List (List Bool)} → Parts datas ts b parts → length parts ≡ length ts
as_many_parts no_parts = refl
as_many_parts (part_and has ps) = ap suc (as_many_parts ps)

each_part : (p : Program) (th : Thunk) (k : ℕ) (ts : List TypeTree) (parts : List (List Bool)) → length parts ≡ length ts → length ts ≤ k
    → ((i j : ℕ) (t : TypeTree) (b : List Bool) → slice_get ts j ≡ Some t → slice_get parts j ≡ Some b → i + suc j ≡ length ts → (h : History) → Shows p t (field i th) h b)
    → CarryParts p ts (fields_from zero k th none) parts
each_part p th k [] [] same l all = carry_no_part
each_part p th k [] (b ∷ parts) same l all = absurd (omega (arith, same))
each_part p th k (t ∷ ts) [] same l all = absurd (omega (arith, same))
each_part p th k (t ∷ ts) (b ∷ parts) same l all =
    let last : length ts + suc 0 ≡ suc (length ts) = omega arith in
    carry_part (field_variables k (length ts) th none (omega (arith, l))) (all (length ts) 0 t b refl refl last)
    (each_part p th k ts parts (omega (arith, same)) (omega (arith, l)) (λ i j u x e f m h. all i (suc j) u x e f (omega (arith, m)) h))

pub fields_carry : (p : Program) (c : ℕ) (it : Constructor) (ts : TypeTrees) (th : Thunk) (x : List Bool) (parts : List (List Bool)) → BitsMean → con_at p.datas c ≡ Some it → Carries p (data_of it.of ts) th x → tag_in it x ≡ tag_of p.datas c it → Parts p.datas (fields_at it ts) (behind_tag it x) parts → CarryParts p (fields_at it ts) (fields_from zero (length (fields_at it ts)) th none) parts
fields_carry p c it ts th x parts mean at carries tag ps =
    each_part p th (length (fields_at it ts)) (fields_at it ts) parts (as_many_parts ps) (omega arith)
    (λ i j t b e f l h. field_shows p c it ts th h x parts i j t b mean at (carries h) tag ps e f l)

-- the bits of data that are shown begin with a tag
tag_of_held : {p : Program} {d : ℕ} {ts : TypeTrees} {v : Value} {x : List Bool} → Holds p (data_of d ts) v x → BeginsWith p.datas d x
tag_of_held {p} (holds_built {c = c} {w = w} {it = it} {b = b} at of many fs own) =
    record { number = c; it = it; held = at; of_type = of; begins = tag_first p.datas c c it it w b at at refl }

pub shown_tag : {p : Program} {d : ℕ} {ts : TypeTrees} {th : Thunk} {h : History} {x : List Bool} → IsWide p.datas (data_of d ts) → Shows p (data_of d ts) th h x → BeginsWith p.datas d x
shown_tag wide (shows_nothing z) = let bad : 0 ≡ suc wide.0 = width_once z wide.1 in absurd (omega (arith, bad))
shown_tag wide (shows_bits w f held) = tag_of_held held
