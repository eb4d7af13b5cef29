-- Limits that are passed in turn: by the type of a term, then by bindings or by sizes.
use Rattle.std.proofs.Common.{◌≡◌, sym, refl, subst, ℕ, zero, suc, ◌<◌, arith}
use Rattle.std.proofs.Common.{true, false, List, [], ◌++◌, map, Option, Some, None}
use Rattle.std.specs.List.{slice_get}
use Rattle.std.specs.Option.{is_some}
use Rattle.std.proofs.lemmas.Bool.{false≢true}
use Rattle.chw_types.specs.TypeTree.{TypeTree}
use Rattle.chw_prims.specs.declared.prim.Primitive.{Primitive as Prim}
use Rattle.chw_prims.specs.Schemas.{schema_type}
use Rattle.chw_terms.specs.declared.term.Arg.{Arg}
use Rattle.chw_terms.specs.declared.term.Arg.TheVariants.{OfType}
use Rattle.chw_terms.specs.declared.term.Binding.{Binding}
use Rattle.chw_terms.specs.TermTree.{TermTree, letrec, prim, Group}
use Rattle.chw_terms.specs.TermView.{applied, group_of}
use Rattle.chw_terms.specs.Unrolled.{at_types}
use Rattle.chw_types.specs.TypeTree.{nat_lit}
use Rattle.chw_base.specs.declared.limits.TheConstants.{SCALAR_BITS, VECTOR_LENGTH}
use Rattle.chw_layout.specs.declared.outcome.NoLayout.{NoLayout}
use Rattle.chw_typing.specs.FoundLaws.{OneFound}
use Rattle.chw_typing.specs.Groups.{binding_at}
use Rattle.rewriting.specs.Lifted.{FindsAt}
use Rattle.rewriting.specs.Origins.{Origins, setting_at}
use Rattle.rewriting.specs.Spots.{Spot}
use Rattle.normal_forms.specs.Blocked.{Passes, PassesAt, by_type, by_binding, by_size, SizesCount}
use Rattle.normal_forms.specs.Blocked.{Size, of_vector, of_word, sizes_in, IsOver, over_length}
use Rattle.normal_forms.specs.Blocked.{over_width}
use Rattle.blocked_places.specs.Firsts.{FindsOf, FindsFirstOf}
use Rattle.blocked_places.specs.Limits.{BindingPasses, TypePasses, FindsPartLimit}
use Rattle.blocked_places.specs.Limits.{IsLimit, FindsLimit, AreGiven}
use Rattle.blocked_places.proofs.Given.{given_once}
use Rattle.blocked_places.proofs.Related.{is_listed, is_bound}
use Rattle.blocked_places.proofs.Shapes.{same_group, same_prim, prim_no_letrec}

-- sizes over their limits
pub short_enough : (types : List TypeTree) (t : TypeTree)
    → ((n : ℕ) → at_types types t ≡ nat_lit n → VECTOR_LENGTH < n → ⊥)
    → FindsOf Size (IsOver types) (of_vector t) None
short_enough types t none l (over_length {n = n} e m) = none n e m

pub narrow_enough : (types : List TypeTree) (t : TypeTree)
    → ((n : ℕ) → at_types types t ≡ nat_lit n → SCALAR_BITS < n → ⊥)
    → FindsOf Size (IsOver types) (of_word t) None
narrow_enough types t none l (over_width {n = n} e m) = none n e m

pub same_numeral : (m n : ℕ) → nat_lit m ≡ nat_lit n → m ≡ n
same_numeral m n e = cc

-- the type of a term, which is found
pub type_passes : OneFound → (o : Origins) (at : Spot) (e : TermTree) (t : TypeTree)
    (answer : Option NoLayout)
    → FindsAt o at e t → FindsOf TypeTree (Passes o.program.datas) t answer
    → FindsOf TermTree (TypePasses o at) e answer
type_passes one o at e t None is none = λ l p.
    let same = one (setting_at o) [] at.vars e p.0 t p.1 is in
    none l (subst (λ u. Passes o.program.datas u l) same p.2)
type_passes one o at e t (Some l) is p = (t, is, p)

-- what passes a limit in a later turn: a binding, or a size
record IsBinding (o : Origins) (e : TermTree) (i : ℕ) (l : NoLayout) : Type 0 where
  group : Group
  body : TermTree
  is : e ≡ letrec group body
  binding : TypeTree × TermTree
  there : binding_at group i ≡ Some binding
  passes : Passes o.program.datas binding.0 l

record IsSize (at : Spot) (e : TermTree) (i : ℕ) (l : NoLayout) : Type 0 where
  which : Prim
  args : List Arg
  is : e ≡ applied (prim which) args
  counts : SizesCount at which
  types : List TypeTree
  given : AreGiven (schema_type which) args types
  size : Size
  there : slice_get (sizes_in (schema_type which)) i ≡ Some size
  over : IsOver types size l

data Later (o : Origins) (at : Spot) (e : TermTree) (i : ℕ) (l : NoLayout) : Type 0 where
  of_binding : IsBinding o e i l → Later o at e i l
  of_size : IsSize at e i l → Later o at e i l

later : {o : Origins} {at : Spot} {e : TermTree} {n : ℕ} {l : NoLayout}
    → PassesAt o at e n l → (i : ℕ) → n ≡ suc i → Later o at e i l
later (by_type f p) i h = absurd (omega (arith, h))
later (by_binding {g = g} {e = x} {i = j} {b = b} is p) i h =
    let same : j ≡ i = omega (arith, h) in
    of_binding (record {
      group = g;
      body = x;
      is = refl;
      binding = b;
      there = subst (λ k. binding_at g k ≡ Some b) same is;
      passes = p;
    })
later (by_size p types more {i = j} {size = size} counts all is over) i h =
    let same : j ≡ i = omega (arith, h) in
    of_size (record {
      which = p;
      args = map (λ t. OfType t) types ++ more;
      is = refl;
      counts = counts;
      types = types;
      given = record { more = more; are = refl; all = all };
      size = size;
      there = subst (λ k. slice_get (sizes_in (schema_type p)) k ≡ Some size) same is;
      over = over;
    })

-- in the first turn
pub at_first : {o : Origins} {at : Spot} {e : TermTree} {n : ℕ} {l : NoLayout}
    → PassesAt o at e n l → n ≡ 0 → TypePasses o at e l
at_first (by_type {t = t} f p) h = (t, f, p)
at_first (by_binding is p) h = absurd (omega (arith, h))
at_first (by_size p types more counts all is over) h = absurd (omega (arith, h))

-- nothing passes one later
pub none_later : (o : Origins) (at : Spot) (e : TermTree)
    → ((g : Group) (x : TermTree) → e ≡ letrec g x → ⊥)
    → ((p : Prim) (args : List Arg) → e ≡ applied (prim p) args → ⊥)
    → FindsPartLimit o at e None
none_later o at e no_group no_prim j k p = by (later p j refl)
  where
    by : Later o at e j k → ⊥
    by (of_binding b) = no_group b.group b.body b.is
    by (of_size s) = no_prim s.which s.args s.is

-- a letrec's bindings
binding_later : (o : Origins) (at : Spot) (bs : List Binding) (x : TermTree) (j : ℕ) (k : NoLayout)
    → PassesAt o at (letrec (group_of bs) x) (suc j) k
    → (b : Binding) × (slice_get bs j ≡ Some b) × BindingPasses o.program.datas b k
binding_later o at bs x j k p = by (later p j refl)
  where
    by : Later o at (letrec (group_of bs) x) j k
        → (b : Binding) × (slice_get bs j ≡ Some b) × BindingPasses o.program.datas b k
    by (of_binding b) =
        let same : b.group ≡ group_of bs = same_group b.group (group_of bs) b.body x (sym b.is) in
        let it = is_listed bs j b.binding (subst (λ g. binding_at g j ≡ Some b.binding) same b.there) in
        (it.item, it.is, subst (λ t. Passes o.program.datas t k) (sym it.type) b.passes)
    by (of_size s) = absurd (prim_no_letrec s.which s.args (group_of bs) x (sym s.is))

pub bindings_pass : (o : Origins) (at : Spot) (bs : List Binding) (x : TermTree)
    (answer : Option NoLayout)
    → FindsFirstOf Binding (BindingPasses o.program.datas) bs answer
    → FindsPartLimit o at (letrec (group_of bs) x) answer
bindings_pass o at bs x None none = λ j k p.
    let b = binding_later o at bs x j k p in none j b.0 k b.1 b.2
bindings_pass o at bs x (Some l) f =
    record {
      turn = f.number;
      passes = by_binding (is_bound bs f.number f.item f.is) f.passes;
      first = λ j k less p. let b = binding_later o at bs x j k p in f.first j b.0 k less b.1 b.2;
    }

-- a primitive's sizes
record IsSizeOf (at : Spot) (p : Prim) (args : List Arg) (j : ℕ) (k : NoLayout) : Type 0 where
  counts : SizesCount at p
  types : List TypeTree
  given : AreGiven (schema_type p) args types
  size : Size
  there : slice_get (sizes_in (schema_type p)) j ≡ Some size
  over : IsOver types size k

size_along : (at : Spot) (p q : Prim) (args more : List Arg) (j : ℕ) (k : NoLayout) → p ≡ q
    → args ≡ more → IsSizeOf at p args j k → IsSizeOf at q more j k
size_along at p q args more j k e f h =
    subst (λ r. IsSizeOf at r more j k) e (subst (λ xs. IsSizeOf at p xs j k) f h)

size_later : (o : Origins) (at : Spot) (p : Prim) (args : List Arg) (j : ℕ) (k : NoLayout)
    → PassesAt o at (applied (prim p) args) (suc j) k → IsSizeOf at p args j k
size_later o at p args j k h = by (later h j refl)
  where
    by : Later o at (applied (prim p) args) j k → IsSizeOf at p args j k
    by (of_binding b) = absurd (prim_no_letrec p args b.group b.body b.is)
    by (of_size s) =
        let same = same_prim s.which p s.args args (sym s.is) in
        size_along at s.which p s.args args j k same.which same.on
        (record {
          counts = s.counts;
          types = s.types;
          given = s.given;
          size = s.size;
          there = s.there;
          over = s.over;
        })

pub no_size_counts : (o : Origins) (at : Spot) (p : Prim) (args : List Arg)
    → (SizesCount at p → ⊥) → FindsPartLimit o at (applied (prim p) args) None
no_size_counts o at p args none j k h = none (size_later o at p args j k h).counts

pub no_types_given : (o : Origins) (at : Spot) (p : Prim) (args : List Arg)
    → ((types : List TypeTree) → AreGiven (schema_type p) args types → ⊥)
    → FindsPartLimit o at (applied (prim p) args) None
no_types_given o at p args none j k h =
    let s = size_later o at p args j k h in none s.types s.given

pub sizes_pass : (o : Origins) (at : Spot) (p : Prim) (args : List Arg) (types : List TypeTree)
    (answer : Option NoLayout)
    → SizesCount at p → AreGiven (schema_type p) args types
    → FindsFirstOf Size (IsOver types) (sizes_in (schema_type p)) answer
    → FindsPartLimit o at (applied (prim p) args) answer
sizes_pass o at p args types None counts given none = λ j k h.
    let s = size_later o at p args j k h in
    let same = given_once (schema_type p) args s.types types s.given given in
    none j s.size k s.there (subst (λ ts. IsOver ts s.size k) same s.over)
sizes_pass o at p args types (Some l) counts given f =
    record {
      turn = f.number;
      passes =
          subst (λ xs. PassesAt o at (applied (prim p) xs) (suc f.number) l) (sym given.are)
          (by_size p types given.more counts given.all f.is f.passes);
      first = λ j k less h.
          let s = size_later o at p args j k h in
          let same = given_once (schema_type p) args s.types types s.given given in
          f.first j s.size k less s.there (subst (λ ts. IsOver ts s.size k) same s.over);
    }

-- the term's own type first
pub own_limit : (o : Origins) (at : Spot) (e : TermTree) (l : NoLayout) → TypePasses o at e l
    → IsLimit o at e l
own_limit o at e l p =
    record { turn = 0; passes = by_type p.1 p.2; first = λ j k less h. absurd (omega (arith, less)) }

pub own_found : (o : Origins) (at : Spot) (e : TermTree) (answer : Option NoLayout)
    → is_some answer ≡ true → FindsOf TermTree (TypePasses o at) e answer
    → FindsLimit o at e answer
own_found o at e None there h = absurd (false≢true there)
own_found o at e (Some l) there h = own_limit o at e l h

pub later_limit : (o : Origins) (at : Spot) (e : TermTree) (answer : Option NoLayout)
    → FindsOf TermTree (TypePasses o at) e None → FindsPartLimit o at e answer
    → FindsLimit o at e answer
later_limit o at e None own none = by
  where
    by : (j : ℕ) (k : NoLayout) → PassesAt o at e j k → ⊥
    by zero k p = own k (at_first p refl)
    by (suc j) k p = none j k p
later_limit o at e (Some l) own it =
    record { turn = suc it.turn; passes = it.passes; first = by }
  where
    by : (j : ℕ) (k : NoLayout) → j < suc it.turn → PassesAt o at e j k → ⊥
    by zero k less p = own k (at_first p refl)
    by (suc j) k less p = it.first j k (omega (arith, less)) p

pub limit_found : (o : Origins) (at : Spot) (e : TermTree) (own answer : Option NoLayout)
    → is_some own ≡ false → FindsOf TermTree (TypePasses o at) e own → FindsPartLimit o at e answer
    → FindsLimit o at e answer
limit_found o at e None answer empty h more = later_limit o at e answer h more
limit_found o at e (Some l) answer empty h more = absurd (false≢true (sym empty))
