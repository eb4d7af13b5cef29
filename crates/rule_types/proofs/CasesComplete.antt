-- What rules make of a case keeps complete terms complete.
use Rattle.std.proofs.Common.{◌+◌, ◌-◌, ◌<◌, ◌∙◌, ◌∷◌, ◌≡◌, ◌≤◌, ◌⊎◌, List, Some, [], ap, arith, inl, inr, length, map, refl, subst, suc, sym, zero, ℕ}
use Rattle.std.specs.List.{AllByRecursion, range_with_len, slice_get}
use Rattle.chw_base.specs.declared.index.ConId.{ConId}
use Rattle.type_ports.specs.Ports.{IsPort, Leaves, leaves_of_fields, one_leaf}
use Rattle.chw_types.specs.TypeMoves.{raised}
use Rattle.chw_types.specs.TypeTree.{TypeTree, TypeTrees, data_of}
use Rattle.chw_types.specs.TypeView.{trees_of}
use Rattle.chw_types.specs.declared.declarations.ConDecl.{ConDecl}
use Rattle.chw_types.specs.declared.declarations.Data.{Data}
use Rattle.type_ports.specs.declared.ports.Leaf.{Leaf}
use Rattle.chw_terms.specs.Constructors.{Constructor, cons_of, constructors_from}
use Rattle.chw_terms.specs.TermMoves.{shift}
use Rattle.chw_terms.specs.TermTree.{Alts, TermTree, alt, case_of, con, no_alts, size_of, var}
use Rattle.chw_terms.specs.Unrolled.{named}
use Rattle.chw_terms.specs.declared.rule.Rule.{Rule}
use Rattle.chw_terms.specs.declared.term.Arg.TheVariants.{OfTerm}
use Rattle.chw_terms.specs.declared.term.Pattern.{Pattern}
use Rattle.chw_terms.specs.declared.term.Pattern.TheVariants.{Default, OfCon, OfLit}
use Rattle.chw_typing.proofs.Heads.{is_constructor}
use Rattle.chw_typing.specs.Alternatives.{IsCovered}
use Rattle.chw_typing.specs.HeadTypes.{PatternOf, fields_at, of_any, of_con, of_lit}
use Rattle.chw_typing.specs.Programs.{AltsAreComplete, GroupIsComplete, IsComplete}
use Rattle.chw_typing.proofs.GroupParts.{covered_by, patterns_renamed}
use Rattle.chw_typing.specs.Paths.{Branch}
use Rattle.chw_typing.specs.Given.{types_then}
use Rattle.rewriting.specs.Origins.{Origins}
use Rattle.rewriting.specs.Spots.{Spot}
use Rattle.rewriting.specs.Cases.{OfCases, case_any, case_case, case_con, case_let, case_lit, proj}
use Rattle.rewriting.specs.Shapes.{IsTakenBy, by_first, by_later, projections, shift_alts, with_fields}
use Rattle.rule_types.proofs.Complete.{ArgsComplete, each_complete, or_body_complete, renamed_alts_complete, renamed_complete, spine_complete}

-- a constructor of the first data type, or of the others
placed : (d : ℕ) (x : Data) (ks : List ConDecl) (others : List Constructor) (c : ℕ) (it : Constructor) → slice_get (cons_of d x ks others) c ≡ Some it → ((c < length ks) × (it.of ≡ d) × (it.it ≡ x)) ⊎ ((i : ℕ) × (c ≡ length ks + i) × (slice_get others i ≡ Some it))
placed d x [] others c it e = inr (c, omega arith, e)
placed d x (k ∷ ks) others zero it e =
    let is : record { of = d; it = x; decl = k } ≡ it = cc in
    inl (omega arith, ap (λ (i : Constructor). i.of) (sym is), ap (λ (i : Constructor). i.it) (sym is))
placed d x (k ∷ ks) others (suc c) it e = next (placed d x ks others c it e)
  where
    next : ((c < length ks) × (it.of ≡ d) × (it.it ≡ x)) ⊎ ((i : ℕ) × (c ≡ length ks + i) × (slice_get others i ≡ Some it)) → ((suc c < suc (length ks)) × (it.of ≡ d) × (it.it ≡ x)) ⊎ ((i : ℕ) × (suc c ≡ suc (length ks) + i) × (slice_get others i ≡ Some it))
    next (inl h) = inl (omega (arith, h.0), h.1, h.2)
    next (inr h) = inr (h.0, omega (arith, h.1), h.2)

-- data types are numbered from the first on
pub from_first : (d : ℕ) (datas : List Data) (c : ℕ) (it : Constructor) → slice_get (constructors_from d datas) c ≡ Some it → d ≤ it.of
from_first d [] c it e = absurd (cc)
from_first d (x ∷ more) c it e = by (from_first (suc d) more) (placed d x x.cons (constructors_from (suc d) more) c it e)
  where
    by : ((i : ℕ) (it : Constructor) → slice_get (constructors_from (suc d) more) i ≡ Some it → suc d ≤ it.of) → ((c < length x.cons) × (it.of ≡ d) × (it.it ≡ x)) ⊎ ((i : ℕ) × (c ≡ length x.cons + i) × (slice_get (constructors_from (suc d) more) i ≡ Some it)) → d ≤ it.of
    by later (inl h) = omega (arith, h.1)
    by later (inr h) = let l = later h.0 it h.2 in omega (arith, l)

-- the constructor of a data type that has one
single : (d : ℕ) (datas : List Data) (c b : ℕ) (it other : Constructor) → slice_get (constructors_from d datas) c ≡ Some it → slice_get (constructors_from d datas) b ≡ Some other → other.of ≡ it.of → length it.it.cons ≡ 1 → b ≡ c
single d [] c b it other e f same one = absurd (cc)
single d (x ∷ more) c b it other e f same one =
    by (λ i j g h. single (suc d) more i j it other g h same one) (placed d x x.cons rest c it e) (placed d x x.cons rest b other f)
  where
    rest : List Constructor
    rest = constructors_from (suc d) more

    by : ((i j : ℕ) → slice_get rest i ≡ Some it → slice_get rest j ≡ Some other → j ≡ i) → ((c < length x.cons) × (it.of ≡ d) × (it.it ≡ x)) ⊎ ((i : ℕ) × (c ≡ length x.cons + i) × (slice_get rest i ≡ Some it)) → ((b < length x.cons) × (other.of ≡ d) × (other.it ≡ x)) ⊎ ((i : ℕ) × (b ≡ length x.cons + i) × (slice_get rest i ≡ Some other)) → b ≡ c
    by behind (inl h) (inl g) =
        let count : length x.cons ≡ 1 = ap (λ (y : Data). length y.cons) (sym h.2) ∙ one in
        omega (arith, h.0, g.0, count)
    by behind (inl h) (inr g) = let later = from_first (suc d) more g.0 other g.2 in absurd (omega (arith, later, h.1, same))
    by behind (inr h) (inl g) = let later = from_first (suc d) more h.0 it h.2 in absurd (omega (arith, later, g.1, same))
    by behind (inr h) (inr g) = let rest_same = behind h.0 g.0 h.2 g.2 in omega (arith, h.1, g.1, rest_same)

one_constructor_of : {datas : List Data} {t : TypeTree} {ls : List Leaf} → Leaves datas t ls → (d : ℕ) (ts : TypeTrees) (it : Data) → t ≡ data_of d ts → slice_get datas d ≡ Some it → length it.cons ≡ 1
one_constructor_of {datas} (leaves_of_fields {d = b} {it = other} known many one fields all) d ts it x e =
    let same : b ≡ d = cc in
    let found : Some other ≡ Some it = sym known ∙ ap (slice_get datas) same ∙ e in
    let is : other ≡ it = cc in
    ap (λ (y : Data). length y.cons) (sym is) ∙ ap length one
one_constructor_of (one_leaf r) d ts it x e = absurd (cc)

-- one alternative for a port is complete
port_covered : {datas : List Data} {t : TypeTree} {q : Pattern} {fields : List TypeTree} → PatternOf datas t q fields → (c : ConId) (n : ℕ) → q ≡ OfCon c n → IsPort datas t → (e : TermTree) → IsCovered datas (alt q e no_alts)
port_covered {datas} (of_con {d = d} {c = b} {ts = ts} it at of count) c n is port e =
    let place = is_constructor datas b.number it at in
    let known = subst (λ m. slice_get datas m ≡ Some it.it) of place.data_type in
    let one = one_constructor_of port.1 d ts it.it refl known in
    inr (record { con = b.number; has = inl refl; it = it; is = at; each = λ a other f same. inl (single 0 datas b.number a it other at f same one) })
port_covered (of_lit l x) c n is port e = absurd (cc)
port_covered of_any c n is port e = absurd (cc)

abbrev pub EachTermComplete : List Data → List TermTree → Type 0
EachTermComplete datas es = AllByRecursion (IsComplete datas) es

pub named_complete : (datas : List Data) (ts : List TypeTree) (es : List TermTree) → EachTermComplete datas es → GroupIsComplete datas (named ts es)
named_complete datas [] [] h = tt
named_complete datas [] (e ∷ es) h = tt
named_complete datas (t ∷ ts) [] h = tt
named_complete datas (t ∷ ts) (e ∷ es) h = (h.0, named_complete datas ts es h.1)

pub shifted_complete : (datas : List Data) (n : ℕ) (es : List TermTree) → EachTermComplete datas es → EachTermComplete datas (map (λ e. shift e 0 n) es)
shifted_complete datas n [] h = tt
shifted_complete datas n (e ∷ es) h = (renamed_complete datas e (raised 0 n) h.0, shifted_complete datas n es h.1)

pub counted_complete : (datas : List Data) (f : ℕ → TermTree) → ((i : ℕ) → IsComplete datas (f i)) → (xs : List ℕ) → EachTermComplete datas (map f xs)
counted_complete datas f h [] = tt
counted_complete datas f h (x ∷ xs) = (h x, counted_complete datas f h xs)

given_terms_complete : (datas : List Data) (es : List TermTree) → ArgsComplete datas (map (λ e. OfTerm e) es) → EachTermComplete datas es
given_terms_complete datas [] h = tt
given_terms_complete datas (e ∷ es) h = (h.0, given_terms_complete datas es h.1)

pub given_complete : (datas : List Data) (types : List TypeTree) (es : List TermTree) → ArgsComplete datas (types_then types es) → EachTermComplete datas es
given_complete datas [] es h = given_terms_complete datas es h
given_complete datas (t ∷ types) es h = given_complete datas types es h.1

with_fields_complete : (datas : List Data) (q : Pattern) (ts : List TypeTree) (es : List TermTree) (e : TermTree) → EachTermComplete datas es → IsComplete datas e → IsComplete datas (with_fields q ts es e)
with_fields_complete datas Default ts es e h d = d
with_fields_complete datas (OfLit r b) ts es e h d = d
with_fields_complete datas (OfCon c n) ts es e h d =
    let moved = map (λ a. shift a 0 (length es)) es in
    or_body_complete datas (named ts moved) e (named_complete datas ts moved (shifted_complete datas (length es) es h)) d

taken_complete : {p : Pattern} {alts : Alts} {b : Branch} (datas : List Data) → IsTakenBy p alts b → AltsAreComplete datas alts → IsComplete datas b.body
taken_complete datas (by_first h) f = f.0
taken_complete datas (by_later n h) f = taken_complete datas h f.1

pub cases_keep_complete : (o : Origins) (at : Spot) {r : Rule} {e e' : TermTree} → OfCases o at r e e' → IsComplete o.program.datas e → IsComplete o.program.datas e'
cases_keep_complete o at (case_con c {it = it} types es {b = b} e l m taken) h =
    let args = (spine_complete o.program.datas (con c) (types_then types es) h.1).1 in
    with_fields_complete o.program.datas b.pattern (fields_at it (trees_of types)) es b.body (given_complete o.program.datas types es args) (taken_complete o.program.datas taken h.2)
cases_keep_complete o at (case_lit taken) h = taken_complete o.program.datas taken h.2
cases_keep_complete o at case_any h = h.2.0
cases_keep_complete o at (case_let {g = g} {alts = alts}) h =
    let datas = o.program.datas in
    (h.1.0, (covered_by datas alts (shift_alts alts 0 (size_of g)) (sym (patterns_renamed alts (raised 0 (size_of g)))) h.0, h.1.1, renamed_alts_complete datas alts (raised 0 (size_of g)) h.2))
cases_keep_complete o at (case_case {e = e} {inner = inner} {alts = alts} has unnamed) h =
    let datas = o.program.datas in
    each_complete datas (λ n f. case_of f (shift_alts alts 0 n)) e inner
    (λ n f k. (covered_by datas alts (shift_alts alts 0 n) (sym (patterns_renamed alts (raised 0 n))) h.0, k, renamed_alts_complete datas alts (raised 0 n) h.2)) h.1
cases_keep_complete o at (proj {x = x} {n = n} {c = c} {e = e} {fields = fields} mode found port pattern none other) h =
    let datas = o.program.datas in
    or_body_complete datas (named fields (projections c n x)) e
    (named_complete datas fields (projections c n x)
    (counted_complete datas (λ i. case_of (var (x + n)) (alt (OfCon c n) (var (n - 1 - i)) no_alts)) (λ i. (port_covered pattern c n refl port (var (n - 1 - i)), tt, (tt, tt))) (range_with_len 0 n)))
    h.2.0
