-- The term that takes the place of a primitive on vectors with all its arguments: they get names, and the result is written out with
-- the elements of the vectors.
use Rattle.std.specs.Prelude.{◌≡◌, ℕ, ◌+◌, ◌-◌, ◌%◌, ◌^◌, ◌≤◌, min, nat_lt, if◌then◌else◌, List, [], ◌∷◌, ◌++◌, map, reverse, length, Option, Some, None, IsSome}
use Rattle.std.specs.List.{fold, flat_map, zip, range_with_len, AllByRecursion}
use Rattle.std.specs.Option.{option_map}
use Rattle.chw_base.specs.declared.limits.TheConstants.{SCALAR_BITS, VECTOR_LENGTH}
use Rattle.chw_bits.specs.Bits.{bits_of}
use Rattle.chw_types.specs.declared.kind.Kind.{Kind}
use Rattle.chw_types.specs.declared.kind.Kind.TheVariants.{Val, Cir}
use Rattle.chw_types.specs.declared.kind.Scalar.TheVariants.{U}
use Rattle.chw_types.specs.Polynomials.{ended}
use Rattle.chw_types.specs.TypeTree.{TypeTree, nat_lit, scalar, vector, fun, for_all}
use Rattle.chw_types.specs.TypeView.{trees_of}
use Rattle.chw_types.specs.TypeMoves.{sub}
use Rattle.chw_types.specs.Arguments.{arguments}
use Rattle.chw_prims.specs.Schemas.{row_of, schema_type}
use Rattle.chw_prims.specs.declared.prim.Primitive.{Primitive as Prim}
use Rattle.chw_prims.specs.declared.prim.Primitive.TheVariants.{EqU, VGet, VGetC}
use Rattle.chw_prims.specs.declared.row.Row.{Row}
use Rattle.chw_prims.specs.declared.row.Row.TheVariants.{ElementAt, Replaced, Mapped, Zipped, FoldedLeft, FoldedRight, Generated, Replicated, Appended, Concatenated, Taken, Dropped, Reversed, Rotated}
use Rattle.chw_terms.specs.TermTree.{TermTree, var, app, ty_app, letrec, prim, lit, vec_lit, case_of, Group}
use Rattle.chw_terms.specs.TermView.{terms_of, group_of, alts_of}
use Rattle.chw_terms.specs.TermMoves.{shift}
use Rattle.chw_terms.specs.Evaluated.{evaluated}
use Rattle.chw_terms.specs.declared.term.Alt.{Alt}
use Rattle.chw_terms.specs.declared.term.Binding.{Binding}
use Rattle.chw_terms.specs.declared.term.Pattern.{Pattern}
use Rattle.chw_terms.specs.declared.term.Pattern.TheVariants.{OfCon, OfLit, Default}

-- a value for each place of a vector of n elements, from place 0 on
abbrev pub each : {X : Type 0} → ℕ → (ℕ → X) → List X
each n f = map f (range_with_len 0 n)

-- the vector of these elements, which are of the type t
abbrev pub vec_of : TypeTree → List TermTree → TermTree
vec_of t es = vec_lit t (terms_of es)

-- the primitive that gives an element of this kind
abbrev pub get : Kind → Prim
get Cir = VGetC
get _ = VGet

-- element j of v, a vector of n elements of the type a
abbrev pub element : Kind → ℕ → TypeTree → TermTree → ℕ → TermTree
element kind n a v j = app (ty_app (ty_app (ty_app (prim (get kind)) (nat_lit j)) (nat_lit (n - 1 - j))) a) v

-- j modulo 2 to the k, in k bits
abbrev pub index : ℕ → ℕ → TermTree
index k j = lit U (bits_of k j)

abbrev pub alternative : Pattern → TermTree → Alt
alternative q e = record { pattern = q; body = e }

-- `case eqU @k i j of { True -> x; False -> e; }`: the constructors 1 and 0 are True and False
abbrev pub where_equal : ℕ → TermTree → ℕ → TermTree → TermTree → TermTree
where_equal k i j x e =
    case_of
    (app (app (ty_app (prim EqU) (nat_lit k)) i) (index k j))
    (alts_of (alternative (OfCon (record { number = 1 }) 0) x ∷ alternative (OfCon (record { number = 0 }) 0) e ∷ []))

-- `case i of { 0 -> e 0; 1 -> e 1; ..; _ -> e n; }`, for the numbers below n that k bits hold
abbrev pub by_index : ℕ → ℕ → TermTree → (ℕ → TermTree) → TermTree
by_index n k i e =
    case_of i (alts_of (each (min n (2 ^ k)) (λ j. alternative (OfLit U (bits_of k j)) (e j)) ++ alternative Default (e n) ∷ []))

-- type arguments: a number and one, two or three types; two numbers and a type
abbrev pub sized_1 : List TypeTree → (ℕ → TypeTree → TermTree) → Option TermTree
sized_1 (nat_lit n ∷ a ∷ []) f = Some (f n a)
sized_1 _ f = None

abbrev pub sized_2 : List TypeTree → (ℕ → TypeTree → TypeTree → TermTree) → Option TermTree
sized_2 (nat_lit n ∷ a ∷ b ∷ []) f = Some (f n a b)
sized_2 _ f = None

abbrev pub sized_3 : List TypeTree → (ℕ → TypeTree → TypeTree → TypeTree → TermTree) → Option TermTree
sized_3 (nat_lit n ∷ a ∷ b ∷ c ∷ []) f = Some (f n a b c)
sized_3 _ f = None

abbrev pub twice_sized : List TypeTree → (ℕ → ℕ → TypeTree → TermTree) → Option TermTree
twice_sized (nat_lit n ∷ nat_lit m ∷ a ∷ []) f = Some (f n m a)
twice_sized _ f = None

-- what each primitive gives, its last argument being the variable 0; a line holds for both forms of its primitive
abbrev pub body_of : Row → List TypeTree → Option TermTree
body_of (Mapped kind) ts = sized_2 ts (λ n a b. vec_of b (each n (λ j. app (var 1) (element kind n a (var 0) j))))
body_of (Zipped kind) ts = sized_3 ts (λ n a b c. vec_of c (each n (λ j. app (app (var 2) (element kind n a (var 1) j)) (element kind n b (var 0) j))))
body_of (FoldedLeft kind) ts = sized_2 ts (λ n a b. fold (λ e j. app (app (var 2) e) (element kind n a (var 0) j)) (var 1) (range_with_len 0 n))
body_of (FoldedRight kind) ts = sized_2 ts (λ n a b. fold (λ e j. app (app (var 2) (element kind n a (var 0) j)) e) (var 1) (reverse (range_with_len 0 n)))
body_of (Generated kind) ts = twice_sized ts (λ n k a. vec_of a (each n (λ j. app (var 0) (index k j))))
body_of (Replicated kind) ts = sized_1 ts (λ n a. vec_of a (each n (λ j. var 0)))
body_of (Appended kind) ts = twice_sized ts (λ n m a. vec_of a (each n (element kind n a (var 1)) ++ each m (element kind m a (var 0))))
body_of (Concatenated kind) ts = twice_sized ts (λ n m a. vec_of a (flat_map (λ q. each m (element kind m a (element kind n (vector (nat_lit m) a) (var 0) q))) (range_with_len 0 n)))
body_of (Taken kind) ts = twice_sized ts (λ n m a. vec_of a (each n (element kind (n + m) a (var 0))))
body_of (Dropped kind) ts = twice_sized ts (λ n m a. vec_of a (each m (λ j. element kind (n + m) a (var 0) (n + j))))
body_of (Reversed kind) ts = sized_1 ts (λ n a. vec_of a (each n (λ j. element kind n a (var 0) (n - 1 - j))))
body_of (Rotated kind) ts = twice_sized ts (λ n k a. vec_of a (each n (λ j. element kind n a (var 0) ((j + ended k) % n))))
body_of Replaced ts = twice_sized ts (λ n k a. vec_of a (each n (λ j. if nat_lt j (2 ^ k) then where_equal k (var 1) j (var 0) (element Val n a (var 2) j) else element Val n a (var 2) j)))
body_of ElementAt ts = twice_sized ts (λ n k a. by_index n k (var 0) (element Val (n + 1) a (var 1)))
body_of _ ts = None

-- the types of a primitive's arguments, as its own type has them
abbrev pub parameters : TypeTree → List TypeTree
parameters (for_all k t) = parameters t
parameters (fun a b) = a ∷ parameters b
parameters _ = []

-- a part of a primitive's type, with these type arguments
abbrev pub at_types : List TypeTree → TypeTree → TypeTree
at_types types t = evaluated (sub t (arguments (trees_of types)))

abbrev pub binding : TypeTree × TermTree → Binding
binding b = record { ty = b.0; body = b.1 }

-- each argument bound to a name of its parameter's type
abbrev pub named : List TypeTree → List TermTree → Group
named ts es = group_of (map binding (zip ts es))

-- a primitive at these types and on these arguments, unrolled: the new names are not in scope in the arguments, and closed naturals are
-- numerals. None where it isn't unrolled, or isn't given these many types with closed naturals
abbrev pub unrolled : Prim → List TypeTree → List TermTree → Option TermTree
unrolled p types args =
    option_map
    (letrec (named (map (at_types types) (parameters (schema_type p))) (map (λ e. shift e 0 (length args)) args)))
    (body_of (row_of p) (map evaluated types))

-- the lengths of the vectors, and the widths of the words, that a primitive's own type names
abbrev pub lengths_in : TypeTree → List TypeTree
lengths_in (for_all k t) = lengths_in t
lengths_in (fun a b) = lengths_in a ++ lengths_in b
lengths_in (vector n t) = n ∷ lengths_in t
lengths_in _ = []

abbrev pub widths_in : TypeTree → List TypeTree
widths_in (for_all k t) = widths_in t
widths_in (fun a b) = widths_in a ++ widths_in b
widths_in (scalar s w) = w ∷ []
widths_in _ = []

-- a numeral that is at most this
abbrev pub IsUpTo : ℕ → TypeTree → Type 0
IsUpTo most t = (n : ℕ) × (t ≡ nat_lit n) × (n ≤ most)

-- a primitive that is unrolled, with all its arguments, within the limits
pub record CanUnroll (p : Prim) (types : List TypeTree) (args : List TermTree) : Type 0 where
  -- it is among those above, and has a type for each type parameter, a closed one for each natural
  pub on_types : IsSome (body_of (row_of p) (map evaluated types))
  pub on_terms : length args ≡ length (parameters (schema_type p))
  pub short : AllByRecursion (λ n. IsUpTo VECTOR_LENGTH (at_types types n)) (lengths_in (schema_type p))
  pub narrow : AllByRecursion (λ k. IsUpTo SCALAR_BITS (at_types types k)) (widths_in (schema_type p))
