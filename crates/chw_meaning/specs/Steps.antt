-- What constructors and primitives do with their arguments.
use Rattle.std.specs.Prelude.{ℕ, suc, zero, ◌+◌, ◌-◌, ◌^◌, ◌%◌, Bool, ◌||◌, nat_lt, if◌then◌else◌, List, reverse, map, length, Option, Some, None}
use Rattle.chw_bits.specs.Bits.{bits_of}
use Rattle.chw_types.specs.declared.kind.Scalar.TheVariants.{U}
use Rattle.chw_types.specs.declared.declarations.Data.{Data}
use Rattle.chw_types.specs.TypeTree.{TypeTree, nat_lit, nat_sum, domain, fun, for_all, TypeTrees, no_types, type_and}
use Rattle.chw_types.specs.Arguments.{list_of}
use Rattle.chw_prims.specs.Schemas.{row_of, schema_type}
use Rattle.chw_prims.specs.declared.prim.Primitive.{Primitive as Prim}
use Rattle.chw_prims.specs.declared.prim.Primitive.TheVariants.{EqU}
use Rattle.chw_prims.specs.declared.row.Row.{Row}
use Rattle.chw_prims.specs.declared.row.Row.TheVariants.{Mapping, Applying, Constant, Delay, Memory, Crossing, Element, ElementAt, Replaced, Mapped, Zipped, FoldedLeft, FoldedRight, Generated, Replicated, Appended, Concatenated, Taken, Dropped, Reversed, Rotated}
use Rattle.prim_bits.specs.Widths.{argument_widths}
use Rattle.chw_terms.specs.TermTree.{TermTree, var, app, ty_app, prim, lit, case_of, no_alts, alt}
use Rattle.chw_terms.specs.declared.term.Pattern.TheVariants.{OfCon}
use Rattle.chw_layout.specs.Datum.{word}
use Rattle.chw_terms.specs.Constructors.{Constructor, con_at}
use Rattle.chw_layout.specs.Measured.{closed_value}
use Rattle.chw_meaning.specs.Values.{Head, con_head, prim_head, Value, con_of, vec_of, partial, Thunk, closed, applied, element, known, Thunks, none, thunk_and, count_of, joined}

-- a block RAM: its domain, the count of its words, the width of its addresses, the type of its
-- words, and its three arguments
pub record Ram : Type 0 where
  pub dom : ℕ
  pub size : ℕ
  pub address : ℕ
  pub payload : TypeTree
  pub content : Thunk
  pub read : Thunk
  pub write : Thunk

pub data Step : Type 0 where
  -- this value is given, and nothing is evaluated
  gives : Value → Step
  -- the value of this thunk
  goes_to : Thunk → Step
  -- a primitive on words: its natural arguments, and the widths and thunks of its words, the last
  -- one first
  computes : Prim → List ℕ → List ℕ → Thunks → Step
  -- a thunk's value on the sample of another
  samples : Thunk → Thunk → Step
  -- a first value, and a signal at the last tick of a domain
  delays : ℕ → Thunk → Thunk → Step
  remembers : Ram → Step
  -- an element of a vector: the number of its last one, and the width and the thunk of the index
  looks_up : ℕ → ℕ → Thunk → Thunk → Step
  -- no value
  stuck : Step

-- how many types and how many thunks a type asks for
abbrev pub types_asked : TypeTree → ℕ
types_asked (for_all k t) = suc (types_asked t)
types_asked _ = zero

abbrev pub thunks_asked : TypeTree → ℕ
thunks_asked (for_all k t) = thunks_asked t
thunks_asked (fun a b) = suc (thunks_asked b)
thunks_asked _ = zero

abbrev pub params_of : Option Constructor → ℕ
params_of None = zero
params_of (Some c) = length c.it.params

abbrev pub fields_of : Option Constructor → ℕ
fields_of None = zero
fields_of (Some c) = length c.decl.fields

-- how many types and how many thunks a constructor or primitive takes
abbrev pub takes_types : List Data → Head → ℕ
takes_types datas (con_head c) = params_of (con_at datas c)
takes_types datas (prim_head q) = types_asked (schema_type q)

abbrev pub takes_thunks : List Data → Head → ℕ
takes_thunks datas (con_head c) = fields_of (con_at datas c)
takes_thunks datas (prim_head q) = thunks_asked (schema_type q)

-- arguments are missing
abbrev pub lacks : List Data → Head → TypeTrees → Thunks → Bool
lacks datas hd ts ths =
    nat_lt (length (list_of ts)) (takes_types datas hd) || nat_lt (count_of ths) (takes_thunks datas hd)

-- so many thunks, from this number on
abbrev pub each_from : ℕ → ℕ → (ℕ → Thunk) → Thunks
each_from j zero f = none
each_from j (suc n) f = thunk_and (f j) (each_from (suc j) n f)

-- a vector of so many elements, each by its number
abbrev pub each : ℕ → (ℕ → Thunk) → Value
each n f = vec_of (each_from zero n f)

-- f (.. (f z (element 0)) ..) (element n - 1), from this element on
abbrev pub folded_left : ℕ → ℕ → Thunk → Thunk → Thunk → Thunk
folded_left j zero f z v = z
folded_left j (suc n) f z v = folded_left (suc j) n f (applied (applied f z) (element j v)) v

-- f (element 0) (.. (f (element n - 1) z)), from this element on
abbrev pub folded_right : ℕ → ℕ → Thunk → Thunk → Thunk → Thunk
folded_right j zero f z v = z
folded_right j (suc n) f z v = applied (applied f (element j v)) (folded_right (suc j) n f z v)

-- all elements of the so many vectors in a vector, from this one on
abbrev pub concatenated : ℕ → ℕ → ℕ → Thunk → Thunks
concatenated q zero m v = none
concatenated q (suc n) m v =
    joined (each_from zero m (λ r. element r (element q v))) (concatenated (suc q) n m v)

-- `case eqU @k i j of { True -> x; False -> old; }` with i, x and old the variables 0, 1 and 2
abbrev pub replacing : ℕ → ℕ → TermTree
replacing k j =
    case_of (app (app (ty_app (prim EqU) (nat_lit k)) (var 0)) (lit U (bits_of k j))) (alt (OfCon (record { number = 1 }) 0) (var 1) (alt (OfCon (record { number = 0 }) 0) (var 2) no_alts))

-- an element of a vector in which the element at an index is replaced; an index of k bits is
-- below 2 to the k
abbrev pub replaced : ℕ → Thunk → Thunk → Thunk → ℕ → Thunk
replaced k v i x j =
    if nat_lt j (2 ^ k)
    then closed (replacing k j) (thunk_and i (thunk_and x (thunk_and (element j v) none))) no_types
    else element j v

-- the index of the only element isn't looked at
abbrev pub at_index : ℕ → ℕ → Thunk → Thunk → Step
at_index zero k v i = goes_to (element zero v)
at_index (suc n) k v i = looks_up (suc n) k v i

-- the natural arguments of a primitive on words
abbrev pub naturals : TypeTrees → List ℕ
naturals ts = map closed_value (reverse (list_of ts))

abbrev pub on_words : Prim → List ℕ → Option (List ℕ) → Thunks → Step
on_words q nats None ths = stuck
on_words q nats (Some widths) ths = computes q nats (reverse widths) ths

-- so many type arguments, and so many thunks, in the order in which they were given; no value
-- where there are more or fewer
abbrev pub types_2 : TypeTrees → (TypeTree → TypeTree → Step) → Step
types_2 (type_and b (type_and a no_types)) f = f a b
types_2 _ f = stuck

abbrev pub types_3 : TypeTrees → (TypeTree → TypeTree → TypeTree → Step) → Step
types_3 (type_and c (type_and b (type_and a no_types))) f = f a b c
types_3 _ f = stuck

abbrev pub types_4 : TypeTrees → (TypeTree → TypeTree → TypeTree → TypeTree → Step) → Step
types_4 (type_and d (type_and c (type_and b (type_and a no_types)))) f = f a b c d
types_4 _ f = stuck

abbrev pub thunks_1 : Thunks → (Thunk → Step) → Step
thunks_1 (thunk_and x none) f = f x
thunks_1 _ f = stuck

abbrev pub thunks_2 : Thunks → (Thunk → Thunk → Step) → Step
thunks_2 (thunk_and y (thunk_and x none)) f = f x y
thunks_2 _ f = stuck

abbrev pub thunks_3 : Thunks → (Thunk → Thunk → Thunk → Step) → Step
thunks_3 (thunk_and z (thunk_and y (thunk_and x none))) f = f x y z
thunks_3 _ f = stuck

-- in the domain of this type
abbrev pub in_domain : TypeTree → (ℕ → Step) → Step
in_domain (domain d) f = f d
in_domain _ f = stuck

-- a primitive on all its arguments: a line for each line of the table of the primitives' types; a
-- line for vectors holds for both forms of its primitive
abbrev pub by_row : Row → Prim → TypeTrees → Thunks → Step
by_row Mapping q ts ths = types_3 ts (λ d a b. thunks_2 ths (λ f s. samples f s))
by_row Applying q ts ths = types_3 ts (λ d a b. thunks_2 ths (λ u s. samples u s))
by_row Constant q ts ths = types_2 ts (λ d a. thunks_1 ths (λ v. goes_to v))
by_row Delay q ts ths = types_2 ts (λ t a. in_domain t (λ d. thunks_2 ths (λ i s. delays d i s)))
by_row Memory q ts ths = types_4 ts (λ t n k a. in_domain t (λ d. thunks_3 ths (λ c r w. remembers (record { dom = d; size = closed_value (nat_sum n (nat_lit 1)); address = closed_value k; payload = a; content = c; read = r; write = w }))))
by_row Crossing q ts ths = types_3 ts (λ d e a. thunks_1 ths (λ s. goes_to s))
by_row (Element kind) q ts ths =
    types_3 ts (λ i n a. thunks_1 ths (λ v. goes_to (element (closed_value i) v)))
by_row ElementAt q ts ths =
    types_3 ts (λ n k a. thunks_2 ths (λ v i. at_index (closed_value n) (closed_value k) v i))
by_row Replaced q ts ths = types_3 ts (λ n k a. thunks_3 ths (λ v i x. gives (each (closed_value n) (replaced (closed_value k) v i x))))
by_row (Mapped kind) q ts ths = types_3 ts (λ n a b. thunks_2 ths (λ f v. gives (each (closed_value n) (λ j. applied f (element j v)))))
by_row (Zipped kind) q ts ths = types_4 ts (λ n a b c. thunks_3 ths (λ f v w. gives (each (closed_value n) (λ j. applied (applied f (element j v)) (element j w)))))
by_row (FoldedLeft kind) q ts ths =
    types_3 ts (λ n a b. thunks_3 ths (λ f z v. goes_to (folded_left zero (closed_value n) f z v)))
by_row (FoldedRight kind) q ts ths =
    types_3 ts (λ n a b. thunks_3 ths (λ f z v. goes_to (folded_right zero (closed_value n) f z v)))
by_row (Generated kind) q ts ths = types_3 ts (λ n k a. thunks_1 ths (λ f. gives (each (closed_value n) (λ j. applied f (known (word (bits_of (closed_value k) j)))))))
by_row (Replicated kind) q ts ths =
    types_2 ts (λ n a. thunks_1 ths (λ x. gives (each (closed_value n) (λ j. x))))
by_row (Appended kind) q ts ths = types_3 ts (λ n m a. thunks_2 ths (λ v w. gives (vec_of (joined (each_from zero (closed_value n) (λ j. element j v)) (each_from zero (closed_value m) (λ j. element j w))))))
by_row (Concatenated kind) q ts ths = types_3 ts (λ n m a. thunks_1 ths (λ v. gives (vec_of (concatenated zero (closed_value n) (closed_value m) v))))
by_row (Taken kind) q ts ths =
    types_3 ts (λ n m a. thunks_1 ths (λ v. gives (each (closed_value n) (λ j. element j v))))
by_row (Dropped kind) q ts ths = types_3 ts (λ n m a. thunks_1 ths (λ v. gives (each (closed_value m) (λ j. element (closed_value n + j) v))))
by_row (Reversed kind) q ts ths = types_2 ts (λ n a. thunks_1 ths (λ v. gives (each (closed_value n) (λ j. element (closed_value n - 1 - j) v))))
by_row (Rotated kind) q ts ths = types_3 ts (λ n k a. thunks_1 ths (λ v. gives (each (closed_value n) (λ j. element ((j + closed_value k) % closed_value n) v))))
by_row row q ts ths = on_words q (naturals ts) (argument_widths row (naturals ts)) ths

-- a constructor or primitive on all its arguments
abbrev pub saturated : Head → TypeTrees → Thunks → Step
saturated (con_head c) ts ths = gives (con_of c ths)
saturated (prim_head q) ts ths = by_row (row_of q) q ts ths

-- a constructor or primitive on these arguments, the last one first
abbrev pub step : List Data → Head → TypeTrees → Thunks → Step
step datas hd ts ths =
    if lacks datas hd ts ths then gives (partial hd ts ths) else saturated hd ts ths
