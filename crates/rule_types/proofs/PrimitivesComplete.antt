-- What rules make of a primitive on vectors, and of one on words, is complete.
use Rattle.std.proofs.Common.{◌++◌, ◌+◌, ◌^◌, ◌∷◌, ◌≡◌, Bool, List, None, Option, Some, [], arith, false, if◌then◌else◌, inl, inr, length, map, min, nat_lt, refl, reverse, subst, suc, sym, true, zero, ℕ}
use Rattle.std.specs.List.{flat_map, fold, range_with_len}
use Rattle.std.specs.Option.{option_map}
use Rattle.chw_bits.specs.Bits.{bits_of, number_of}
use Rattle.chw_types.specs.BuiltIn.{built_in}
use Rattle.chw_types.specs.TypeTree.{TypeTree, for_all, fun, nat_lit, scalar}
use Rattle.chw_types.specs.declared.declarations.Data.{Data}
use Rattle.chw_types.specs.declared.kind.Kind.{Kind}
use Rattle.chw_types.specs.declared.kind.Kind.TheVariants.{Val}
use Rattle.chw_types.specs.declared.kind.Scalar.TheVariants.{U}
use Rattle.chw_prims.specs.Schemas.{row_of, schema_type}
use Rattle.chw_prims.specs.declared.prim.Primitive.{Primitive as Prim}
use Rattle.chw_prims.specs.declared.prim.Primitive.TheVariants.{VAt}
use Rattle.chw_prims.specs.declared.row.Row.{Row}
use Rattle.chw_prims.specs.declared.row.Row.TheVariants.{Appended, Concatenated, Dropped, ElementAt, FoldedLeft, FoldedRight, Generated, Mapped, Replaced, Replicated, Reversed, Rotated, Taken, Zipped}
use Rattle.chw_terms.specs.Constructors.{Constructor, con_at}
use Rattle.chw_terms.specs.Evaluated.{evaluated}
use Rattle.chw_terms.specs.TermMoves.{shift}
use Rattle.chw_terms.specs.TermTree.{Alts, Group, TermTree, Terms, alt, letrec, lit, no_terms, prim, term_and, var, vec_lit}
use Rattle.chw_terms.specs.TermView.{alts_of, terms_of}
use Rattle.chw_terms.specs.Unrolled.{alternative, at_types, body_of, by_index, each, element, named, parameters, sized_1, sized_2, sized_3, twice_sized, unrolled, vec_of, where_equal}
use Rattle.chw_terms.specs.declared.rule.Rule.{Rule}
use Rattle.chw_terms.specs.declared.term.Alt.{Alt}
use Rattle.chw_terms.specs.declared.term.Pattern.{Pattern}
use Rattle.chw_terms.specs.declared.term.Pattern.TheVariants.{Default, OfCon, OfLit}
use Rattle.chw_typing.specs.Alternatives.{HasDefault, IsCovered, IsFor}
use Rattle.chw_typing.specs.Programs.{AllAreComplete, AltsAreComplete, GroupIsComplete, IsComplete}
use Rattle.chw_typing.specs.Paths.{element_at}
use Rattle.chw_typing.specs.Given.{types_then}
use Rattle.rewriting.specs.Origins.{Origins}
use Rattle.rewriting.specs.Spots.{Spot}
use Rattle.rewriting.specs.Primitives.{OfPrimitives, delta, elem, elem_at, unroll, word_given}
use Rattle.rule_types.proofs.CasesComplete.{EachTermComplete, from_first, given_complete, named_complete, shifted_complete}
use Rattle.rule_types.proofs.Complete.{spine_complete}
use Rattle.rule_types.specs.Laws.{IsTypedPlace}

pub element_complete : (datas : List Data) (es : Terms) (i : ℕ) (a : TermTree) → AllAreComplete datas es → element_at es i ≡ Some a → IsComplete datas a
element_complete datas no_terms i a h e = absurd cc
element_complete datas (term_and x es) zero a h e = let is : x ≡ a = cc in subst (IsComplete datas) is h.0
element_complete datas (term_and x es) (suc i) a h e = element_complete datas es i a h.1 e

word_complete : (datas : List Data) (t : TypeTree) (b : List Bool) → IsComplete datas (word_given t b)
word_complete datas (for_all k t) b = word_complete datas t b
word_complete datas (fun a t) b = word_complete datas t b
word_complete datas (scalar r w) b = tt
word_complete datas _ [] = tt
word_complete datas _ (true ∷ []) = tt
word_complete datas _ (true ∷ x ∷ b) = tt
word_complete datas _ (false ∷ b) = tt

-- the elements of a vector that is written out
all_complete : (datas : List Data) (es : List TermTree) → EachTermComplete datas es → AllAreComplete datas (terms_of es)
all_complete datas [] h = tt
all_complete datas (e ∷ es) h = (h.0, all_complete datas es h.1)

mapped_complete : {X : Type 0} (datas : List Data) (f : X → TermTree) (xs : List X) → ((x : X) → IsComplete datas (f x)) → EachTermComplete datas (map f xs)
mapped_complete datas f [] h = tt
mapped_complete datas f (x ∷ xs) h = (h x, mapped_complete datas f xs h)

both_complete : (datas : List Data) (es fs : List TermTree) → EachTermComplete datas es → EachTermComplete datas fs → EachTermComplete datas (es ++ fs)
both_complete datas [] fs h g = g
both_complete datas (e ∷ es) fs h g = (h.0, both_complete datas es fs h.1 g)

flat_complete : (datas : List Data) (f : ℕ → List TermTree) (xs : List ℕ) → ((x : ℕ) → EachTermComplete datas (f x)) → EachTermComplete datas (flat_map f xs)
flat_complete datas f [] h = tt
flat_complete datas f (x ∷ xs) h = both_complete datas (f x) (flat_map f xs) (h x) (flat_complete datas f xs h)

folded_complete : (datas : List Data) (f : TermTree → ℕ → TermTree) (e : TermTree) (xs : List ℕ) → ((e : TermTree) (x : ℕ) → IsComplete datas e → IsComplete datas (f e x)) → IsComplete datas e → IsComplete datas (fold f e xs)
folded_complete datas f e [] h d = d
folded_complete datas f e (x ∷ xs) h d = folded_complete datas f (f e x) xs h (h e x d)

each_written : (datas : List Data) (t : TypeTree) (n : ℕ) (f : ℕ → TermTree) → ((j : ℕ) → IsComplete datas (f j)) → IsComplete datas (vec_of t (each n f))
each_written datas t n f h = all_complete datas (each n f) (mapped_complete datas f (range_with_len 0 n) h)

get_complete : (datas : List Data) (k : Kind) (n : ℕ) (a : TypeTree) (v : TermTree) (j : ℕ) → IsComplete datas v → IsComplete datas (element k n a v j)
get_complete datas k n a v j h = (tt, h)

-- the data types behind that of truth values
abbrev behind_first : List Data → List Data
behind_first [] = []
behind_first (d ∷ datas) = datas

abbrev more_built_in : List Data → List Data
more_built_in others = behind_first (built_in ++ others)

-- the alternatives for True and for False are all that a truth value needs
truth_covered : (others : List Data) (x e : TermTree) → IsCovered (built_in ++ others) (alts_of (alternative (OfCon (record { number = 1 }) 0) x ∷ alternative (OfCon (record { number = 0 }) 0) e ∷ []))
truth_covered others x e = inr (record { con = 1; has = inl refl; it = _; is = refl; each = each_one })
  where
    each_one : (c : ℕ) (other : Constructor) → con_at (built_in ++ others) c ≡ Some other → other.of ≡ 0 → IsFor c (alts_of (alternative (OfCon (record { number = 1 }) 0) x ∷ alternative (OfCon (record { number = 0 }) 0) e ∷ []))
    each_one zero other is same = inr (inl refl)
    each_one (suc zero) other is same = inl refl
    each_one (suc (suc c)) other is same =
        let later = from_first 1 (more_built_in others) c other is in
        absurd (omega (arith, later, same))

-- a case by a number that is compared, and one by its literals
equal_complete : (datas others : List Data) → datas ≡ built_in ++ others → (k j : ℕ) (i x e : TermTree) → IsComplete datas i → IsComplete datas x → IsComplete datas e → IsComplete datas (where_equal k i j x e)
equal_complete datas others is k j i x e h f g =
    (subst (λ ds. IsCovered ds (alts_of (alternative (OfCon (record { number = 1 }) 0) x ∷ alternative (OfCon (record { number = 0 }) 0) e ∷ []))) (sym is) (truth_covered others x e), ((tt, h), tt), (f, (g, tt)))

default_later : (q : Pattern) (f : TermTree) (more : Alts) → HasDefault more → HasDefault (alt q f more)
default_later Default f more h = tt
default_later (OfCon c n) f more h = h
default_later (OfLit r b) f more h = h

default_last : (alts : List Alt) (e : TermTree) → HasDefault (alts_of (alts ++ alternative Default e ∷ []))
default_last [] e = tt
default_last (a ∷ alts) e = default_later a.pattern a.body (alts_of (alts ++ alternative Default e ∷ [])) (default_last alts e)

literals_complete : (datas : List Data) (q : ℕ → Pattern) (f : ℕ → TermTree) (xs : List ℕ) (e : TermTree) → ((j : ℕ) → IsComplete datas (f j)) → IsComplete datas e → AltsAreComplete datas (alts_of (map (λ j. alternative (q j) (f j)) xs ++ alternative Default e ∷ []))
literals_complete datas q f [] e h g = (g, tt)
literals_complete datas q f (x ∷ xs) e h g = (h x, literals_complete datas q f xs e h g)

index_complete : (datas : List Data) (n k : ℕ) (i : TermTree) (f : ℕ → TermTree) → IsComplete datas i → ((j : ℕ) → IsComplete datas (f j)) → IsComplete datas (by_index n k i f)
index_complete datas n k i f h g = (
  inl (default_last (each (min n (2 ^ k)) (λ j. alternative (OfLit U (bits_of k j)) (f j))) (f n)),
  h,
  literals_complete datas (λ j. OfLit U (bits_of k j)) f (range_with_len 0 (min n (2 ^ k))) (f n) g (g n),
)

-- what is so whatever the numbers and types are
by_1 : (P : TermTree → Type 0) (f : ℕ → TypeTree → TermTree) (ts : List TypeTree) (e : TermTree) → sized_1 ts f ≡ Some e → ((n : ℕ) (a : TypeTree) → P (f n a)) → P e
by_1 P f (nat_lit n ∷ a ∷ []) e is h = let same : f n a ≡ e = cc in subst P same (h n a)
by_1 P f _ e is h = absurd cc

by_2 : (P : TermTree → Type 0) (f : ℕ → TypeTree → TypeTree → TermTree) (ts : List TypeTree) (e : TermTree) → sized_2 ts f ≡ Some e → ((n : ℕ) (a b : TypeTree) → P (f n a b)) → P e
by_2 P f (nat_lit n ∷ a ∷ b ∷ []) e is h = let same : f n a b ≡ e = cc in subst P same (h n a b)
by_2 P f _ e is h = absurd cc

by_3 : (P : TermTree → Type 0) (f : ℕ → TypeTree → TypeTree → TypeTree → TermTree) (ts : List TypeTree) (e : TermTree) → sized_3 ts f ≡ Some e → ((n : ℕ) (a b c : TypeTree) → P (f n a b c)) → P e
by_3 P f (nat_lit n ∷ a ∷ b ∷ c ∷ []) e is h = let same : f n a b c ≡ e = cc in subst P same (h n a b c)
by_3 P f _ e is h = absurd cc

by_twice : (P : TermTree → Type 0) (f : ℕ → ℕ → TypeTree → TermTree) (ts : List TypeTree) (e : TermTree) → twice_sized ts f ≡ Some e → ((n m : ℕ) (a : TypeTree) → P (f n m a)) → P e
by_twice P f (nat_lit n ∷ nat_lit m ∷ a ∷ []) e is h = let same : f n m a ≡ e = cc in subst P same (h n m a)
by_twice P f _ e is h = absurd cc

replaced_complete : (datas others : List Data) → datas ≡ built_in ++ others → (n k : ℕ) (a : TypeTree) → IsComplete datas (vec_of a (each n (λ j. if nat_lt j (2 ^ k) then where_equal k (var 1) j (var 0) (element Val n a (var 2) j) else element Val n a (var 2) j)))
replaced_complete datas others is n k a = each_written datas a n (λ j. if nat_lt j (2 ^ k) then where_equal k (var 1) j (var 0) (element Val n a (var 2) j) else element Val n a (var 2) j) (λ j. either (nat_lt j (2 ^ k)) j)
  where
    either : (b : Bool) (j : ℕ) → IsComplete datas (if b then where_equal k (var 1) j (var 0) (element Val n a (var 2) j) else element Val n a (var 2) j)
    either true j = equal_complete datas others is k j (var 1) (var 0) (element Val n a (var 2) j) tt tt (tt, tt)
    either false j = (tt, tt)

body_complete : (datas others : List Data) → datas ≡ built_in ++ others → (row : Row) (ts : List TypeTree) (e : TermTree) → body_of row ts ≡ Some e → IsComplete datas e
body_complete datas others is (Mapped k) ts e h =
    by_2 (IsComplete datas) _ ts e h (λ n a b. each_written datas b n _ (λ j. (tt, get_complete datas k n a (var 0) j tt)))
body_complete datas others is (Zipped k) ts e h =
    by_3 (IsComplete datas) _ ts e h (λ n a b c. each_written datas c n _ (λ j. ((tt, get_complete datas k n a (var 1) j tt), get_complete datas k n b (var 0) j tt)))
body_complete datas others is (FoldedLeft k) ts e h =
    by_2 (IsComplete datas) _ ts e h (λ n a b. folded_complete datas _ (var 1) (range_with_len 0 n) (λ f j d. ((tt, d), get_complete datas k n a (var 0) j tt)) tt)
body_complete datas others is (FoldedRight k) ts e h =
    by_2 (IsComplete datas) _ ts e h (λ n a b. folded_complete datas _ (var 1) (reverse (range_with_len 0 n)) (λ f j d. ((tt, get_complete datas k n a (var 0) j tt), d)) tt)
body_complete datas others is (Generated k) ts e h = by_twice (IsComplete datas) _ ts e h (λ n m a. each_written datas a n _ (λ j. (tt, tt)))
body_complete datas others is (Replicated k) ts e h = by_1 (IsComplete datas) _ ts e h (λ n a. each_written datas a n _ (λ j. tt))
body_complete datas others is (Appended k) ts e h =
    by_twice (IsComplete datas) _ ts e h
    (λ n m a. all_complete datas (each n (element k n a (var 1)) ++ each m (element k m a (var 0)))
    (both_complete datas (each n (element k n a (var 1))) (each m (element k m a (var 0)))
    (mapped_complete datas (element k n a (var 1)) (range_with_len 0 n) (λ j. get_complete datas k n a (var 1) j tt))
    (mapped_complete datas (element k m a (var 0)) (range_with_len 0 m) (λ j. get_complete datas k m a (var 0) j tt))))
body_complete datas others is (Concatenated k) ts e h =
    by_twice (IsComplete datas) _ ts e h
    (λ n m a. all_complete datas _ (flat_complete datas _ (range_with_len 0 n) (λ q. mapped_complete datas _ (range_with_len 0 m) (λ j. (tt, (tt, tt))))))
body_complete datas others is (Taken k) ts e h = by_twice (IsComplete datas) _ ts e h (λ n m a. each_written datas a n _ (λ j. (tt, tt)))
body_complete datas others is (Dropped k) ts e h = by_twice (IsComplete datas) _ ts e h (λ n m a. each_written datas a m _ (λ j. (tt, tt)))
body_complete datas others is (Reversed k) ts e h = by_1 (IsComplete datas) _ ts e h (λ n a. each_written datas a n _ (λ j. (tt, tt)))
body_complete datas others is (Rotated k) ts e h = by_twice (IsComplete datas) _ ts e h (λ n m a. each_written datas a n _ (λ j. (tt, tt)))
body_complete datas others is Replaced ts e h = by_twice (IsComplete datas) _ ts e h (λ n k a. replaced_complete datas others is n k a)
body_complete datas others is ElementAt ts e h = by_twice (IsComplete datas) _ ts e h (λ n k a. index_complete datas n k (var 0) (element Val (n + 1) a (var 1)) tt (λ j. (tt, tt)))
body_complete datas others is _ ts e h = absurd cc

unrolled_complete : (datas others : List Data) → datas ≡ built_in ++ others → (p : Prim) (types : List TypeTree) (es : List TermTree) (e : TermTree) → EachTermComplete datas es → unrolled p types es ≡ Some e → IsComplete datas e
unrolled_complete datas others is p types es e h u = by (body_of (row_of p) (map evaluated types)) refl u
  where
    group : Group
    group = named (map (at_types types) (parameters (schema_type p))) (map (λ e. shift e 0 (length es)) es)

    group_complete : GroupIsComplete datas group
    group_complete = named_complete datas (map (at_types types) (parameters (schema_type p))) (map (λ e. shift e 0 (length es)) es) (shifted_complete datas (length es) es h)

    by : (body : Option TermTree) → body_of (row_of p) (map evaluated types) ≡ body → option_map (letrec group) body ≡ Some e → IsComplete datas e
    by None at same = absurd cc
    by (Some body) at same =
        let it : letrec group body ≡ e = cc in
        subst (IsComplete datas) it (group_complete, body_complete datas others is (row_of p) (map evaluated types) body at)

pub primitives_keep_complete : (o : Origins) (at : Spot) → IsTypedPlace o at → {r : Rule} {e e' : TermTree} → OfPrimitives o at r e e' → IsComplete o.program.datas e → IsComplete o.program.datas e'
primitives_keep_complete o at place (unroll {p = p} {types = types} {es = es} {e = e} can unnamed is) h =
    let datas = o.program.datas in
    unrolled_complete datas place.sound.begins.0 place.sound.begins.1 p types es e (given_complete datas types es (spine_complete datas (prim p) (types_then types es) h).1) is
primitives_keep_complete o at place (elem {p = p} {i = i} {n = n} {a = a} {t = t} {es = es} {j = j} {e = e} is number least element) h =
    let datas = o.program.datas in
    element_complete datas es j e (given_complete datas (i ∷ n ∷ a ∷ []) (vec_lit t es ∷ []) (spine_complete datas (prim p) (types_then (i ∷ n ∷ a ∷ []) (vec_lit t es ∷ [])) h).1).0 element
primitives_keep_complete o at place (elem_at {n = n} {k = k} {a = a} {t = t} {es = es} {bits = bits} {m = m} {e = e} constant number least element) h =
    let datas = o.program.datas in
    element_complete datas es (min (number_of bits) m) e (given_complete datas (n ∷ k ∷ a ∷ []) (vec_lit t es ∷ lit U bits ∷ []) (spine_complete datas (prim VAt) (types_then (n ∷ k ∷ a ∷ []) (vec_lit t es ∷ lit U bits ∷ [])) h).1).0 element
primitives_keep_complete o at place (delta {p = p} {b = b} constant value) h = word_complete o.program.datas (schema_type p) b
